use Rattle.std.proofs.Common.{Ok, inr, refl, ap}
use Rattle.rw_http.specs.declared.intake.Taken.TheVariants.{Cut}
use Rattle.rw_http.proofs.RequestLemmas.{takes_now, inside_from, request_from}
use Rattle.rw_http.proofs.intake.Intake.take_body.Goals as goal

pub returns-then-not-enough-clause-takes : goal.returns-then-not-enough-clause-takes
returns-then-not-enough-clause-takes g c =
    let takes = c.fill_to.ensures.takes in
    let ended = c.in_ok-enough.ensures.ended (ap Ok c.if-not-enough.true) in
    takes_now _ _ _ _ _ _ Cut takes (inside_from _ takes.0 _ _ c.requires takes.2 ended.0, refl) ended.1

pub returns-clause-takes : goal.returns-clause-takes
returns-clause-takes g c =
    let takes = c.fill_to.ensures.takes in
    let enough = c.in_ok-enough.ensures.enough (ap Ok c.if-not-enough.false) in
    let cut = c.in_ok-cut_off.ensures in record {
      more = takes.0;
      moves = takes.1;
      gives = request_from _ takes.0 _ _ _ _ c.requires takes.2 enough cut.method cut.target cut.body cut.rest;
      ends = tt;
    }

pub returns-in_err-enough-clause-starved : goal.returns-in_err-enough-clause-starved
returns-in_err-enough-clause-starved g c = λ is.
    let takes = c.fill_to.ensures.takes in inr (inside_from _ takes.0 _ _ c.requires takes.2 c.in_err-enough.ensures.short)
