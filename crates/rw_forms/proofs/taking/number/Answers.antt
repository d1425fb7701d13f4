use Rattle.std.proofs.Common.{arith, sym, drop}
use Rattle.rw_forms.specs.Forms.{a_number, takes}
use Rattle.rw_tokens.specs.Seen.{seen}
use Rattle.rw_tokens.proofs.Shorter.{moves_on}
use Rattle.rw_forms.proofs.Parts.{none_stops, misfit_stops, fits_goes, stops_here, moved}
use Rattle.rw_forms.proofs.taking.number.Goals as goal

pub returns-in-None-clause-took : goal.returns-in-None-clause-took
returns-in-None-clause-took c = stops_here (takes (a_number c.args.least c.args.most)) c.args.line.now c.args.at.now _ c.fault-in-None.ensures c.requires.within (none_stops (a_number c.args.least c.args.most) (drop c.args.at.now c.args.line.now) c.in-None.ensures)

pub returns-in-None-number_within-clause-took : goal.returns-in-None-number_within-clause-took
returns-in-None-number_within-clause-took c = stops_here (takes (a_number c.args.least c.args.most)) c.args.line.now c.args.at.now _ c.fault.ensures c.requires.within (misfit_stops (a_number c.args.least c.args.most) (drop c.args.at.now c.args.line.now) (seen c.in-Some.token) _ c.in-Some.ensures.1 (sym c.in-None-number_within.ensures.number))

pub returns-in-Some-number_within-clause-took : goal.returns-in-Some-number_within-clause-took
returns-in-Some-number_within-clause-took c = (moved c.args.line.now c.args.at.now c.in-Some.next c.requires c.in-Some.ensures.0, fits_goes (a_number c.args.least c.args.most) (drop c.args.at.now c.args.line.now) (seen c.in-Some.token) _ _ c.in-Some.ensures.1 (sym c.in-Some-number_within.ensures.number))

pub returns-in-Some-number_within-clause-on : goal.returns-in-Some-number_within-clause-on
returns-in-Some-number_within-clause-on c = let h = moves_on c.args.line.now c.args.at.now c.in-Some.next (seen c.in-Some.token) c.in-Some.ensures.1 in omega arith
