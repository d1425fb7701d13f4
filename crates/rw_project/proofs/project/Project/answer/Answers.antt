use Rattle.std.proofs.Common.{subst}
use Rattle.rw_tree.specs.Accepting.{IsGood}
use Rattle.rw_project.proofs.Shown.{status_anew}
use Rattle.rw_project.proofs.project.Project.answer.Goals as goal

pub returns-in-Ok-Edit-clause-headline : goal.returns-in-Ok-Edit-clause-headline
returns-in-Ok-Edit-clause-headline g c = status_anew c.args.self.now c.args.line.now (subst (λ h. IsGood 2000000 h.0) c.self.view_is c.self.invariant.1)

pub returns-in-Ok-Status-clause-headline : goal.returns-in-Ok-Status-clause-headline
returns-in-Ok-Status-clause-headline g c = status_anew c.args.self.now c.args.line.now (subst (λ h. IsGood 2000000 h.0) c.self.view_is c.self.invariant.1)

pub returns-in-Err-Syntax-clause-headline : goal.returns-in-Err-Syntax-clause-headline
returns-in-Err-Syntax-clause-headline g c = status_anew c.args.self.now c.args.line.now (subst (λ h. IsGood 2000000 h.0) c.self.view_is c.self.invariant.1)

pub returns-in-Err-Memory-clause-headline : goal.returns-in-Err-Memory-clause-headline
returns-in-Err-Memory-clause-headline g c = status_anew c.args.self.now c.args.line.now (subst (λ h. IsGood 2000000 h.0) c.self.view_is c.self.invariant.1)

pub returns-in-Ok-StatusAt-clause-headline : goal.returns-in-Ok-StatusAt-clause-headline
returns-in-Ok-StatusAt-clause-headline g c = status_anew c.args.self.now c.args.line.now (subst (λ h. IsGood 2000000 h.0) c.self.view_is c.self.invariant.1)

pub returns-in-Ok-StatusAll-clause-headline : goal.returns-in-Ok-StatusAll-clause-headline
returns-in-Ok-StatusAll-clause-headline g c = status_anew c.args.self.now c.args.line.now (subst (λ h. IsGood 2000000 h.0) c.self.view_is c.self.invariant.1)

pub returns-in-Ok-Goal-clause-headline : goal.returns-in-Ok-Goal-clause-headline
returns-in-Ok-Goal-clause-headline g c = status_anew c.args.self.now c.args.line.now (subst (λ h. IsGood 2000000 h.0) c.self.view_is c.self.invariant.1)

pub returns-in-Ok-Find-clause-headline : goal.returns-in-Ok-Find-clause-headline
returns-in-Ok-Find-clause-headline g c = status_anew c.args.self.now c.args.line.now (subst (λ h. IsGood 2000000 h.0) c.self.view_is c.self.invariant.1)
