use Rattle.std.proofs.Common.{ap, sym, ◌∙◌, slice_get, Some}
use Rattle.std.proofs.lemmas.Option.{slice_get_within}
use Rattle.rw_numbering.specs.Tallies.{tally_of}
use Rattle.rw_numbering.proofs.Places.{body_found, body_none, entry_read, tallied_read}
use Rattle.rw_numbering.proofs.numbered.find_callee.Goals as goal

pub bounds-tallies-at : goal.bounds-tallies-at
bounds-tallies-at c =
    let r = body_found c.args.name.now c.args.procs.now c.in-Some.at (sym c.in-Some.ensures.value) in
    slice_get_within c.args.tallies.now c.in-Some.at _ (ap (λ ts. slice_get ts c.in-Some.at) c.requires.1 ∙ r.tallied c.requires.0)

pub new-requires : goal.new-requires
new-requires c =
    let r = body_found c.args.name.now c.args.procs.now c.in-Some.at (sym c.in-Some.ensures.value) in
    let e = entry_read r c.index-procs-at.result c.index-procs-at.is in
    let t = tallied_read r c.requires.0 c.args.tallies.now c.requires.1 c.index-tallies-at.result c.index-tallies-at.is in
    ap (λ b. b.tally) t ∙ ap (λ e. tally_of e.body) (sym e)

pub returns-in-Some-clause-entry : goal.returns-in-Some-clause-entry
returns-in-Some-clause-entry c =
    let r = body_found c.args.name.now c.args.procs.now c.in-Some.at (sym c.in-Some.ensures.value) in
    ap (λ e. Some e) (entry_read r c.index-procs-at.result c.index-procs-at.is) ∙ sym r.is

pub returns-in-Some-clause-first : goal.returns-in-Some-clause-first
returns-in-Some-clause-first c n h =
    let r = body_found c.args.name.now c.args.procs.now c.in-Some.at (sym c.in-Some.ensures.value) in
    ap (λ b. b.first) (tallied_read r n c.args.tallies.now h c.index-tallies-at.result c.index-tallies-at.is)

pub returns-in-None-clause-entry : goal.returns-in-None-clause-entry
returns-in-None-clause-entry c = sym (body_none c.args.name.now c.args.procs.now (sym c.in-None.ensures.value))
