use Rattle.std.proofs.Common.{arith, cond, ◌∙◌, sym, ap, drop, Some, None}
use Rattle.rw_forms.specs.Forms.{exactly, takes}
use Rattle.rw_tokens.specs.Seen.{seen}
use Rattle.rw_tokens.proofs.Shorter.{moves_on}
use Rattle.rw_forms.proofs.Parts.{none_stops, misfit_stops, fits_goes, stops_here, moved}
use Rattle.rw_forms.proofs.taking.expect.Goals as goal

pub returns-in-None-clause-took : goal.returns-in-None-clause-took
returns-in-None-clause-took c = stops_here (takes (exactly c.args.text.now)) c.args.line.now c.args.at.now _ c.fault-in-None.ensures c.requires.within (none_stops (exactly c.args.text.now) (drop c.args.at.now c.args.line.now) c.in-None.ensures)

pub returns-then-not-is_text-clause-took : goal.returns-then-not-is_text-clause-took
returns-then-not-is_text-clause-took c = stops_here (takes (exactly c.args.text.now)) c.args.line.now c.args.at.now _ c.fault.ensures c.requires.within (misfit_stops (exactly c.args.text.now) (drop c.args.at.now c.args.line.now) (seen c.in-Some.token) _ c.in-Some.ensures.1 (ap (λ b. cond b (Some tt) None) (sym c.is_text.ensures ∙ c.if-not-is_text.true)))

pub returns-else-not-is_text-clause-took : goal.returns-else-not-is_text-clause-took
returns-else-not-is_text-clause-took c = (moved c.args.line.now c.args.at.now c.in-Some.next c.requires c.in-Some.ensures.0, fits_goes (exactly c.args.text.now) (drop c.args.at.now c.args.line.now) (seen c.in-Some.token) _ tt c.in-Some.ensures.1 (ap (λ b. cond b (Some tt) None) (sym c.is_text.ensures ∙ c.if-not-is_text.false)))

pub returns-else-not-is_text-clause-on : goal.returns-else-not-is_text-clause-on
returns-else-not-is_text-clause-on c = let h = moves_on c.args.line.now c.args.at.now c.in-Some.next (seen c.in-Some.token) c.in-Some.ensures.1 in omega arith
