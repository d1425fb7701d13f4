use Rattle.std.proofs.Common.{subst, sym}
use Rattle.std.specs.Prelude.{IfOk}
use Rattle.rw_machine.specs.CodeFits.{CodeFits}
use Rattle.rw_machine.specs.Outcome.{outcome, start_of, Tells}
use Rattle.rw_machine.proofs.run.run.Goals as goal

pub run_numbered-requires-clause-code : goal.run_numbered-requires-clause-code
run_numbered-requires-clause-code c = subst (λ code. CodeFits code c.args.globals.now) (sym c.new-numbered.ensures) c.requires.code

pub returns : goal.returns
returns c =
    subst (λ code. IfOk c.run_numbered.result (λ r. Tells code c.args.globals.now c.args.limit (outcome code (start_of c.args.globals.now c.args.start.now.values) c.args.limit) r))
    c.new-numbered.ensures c.run_numbered.ensures
