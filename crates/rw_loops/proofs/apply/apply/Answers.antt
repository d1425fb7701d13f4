use Rattle.std.proofs.Common.{◌≡◌, sym, subst}
use Rattle.rw_laws.specs.Laws.{applied, FitsWith}
use Rattle.rw_loops.specs.Laws.{law_of}
use Rattle.rw_loops.proofs.Judging.{joined}
use Rattle.rw_loops.proofs.apply.apply.Goals as goal

pub returns-clause-ok : goal.returns-clause-ok
returns-clause-ok c =
    let q = c.in_ok-premises.premises in
    subst (λ s. FitsWith (law_of c.args.context.now c.args.heads.now c.args.spec.now c.args.step.now) (λ b. applied s q ≡ b)) (sym c.in_ok-skeleton.ensures)
    (joined c.args.context.now c.args.heads.now c.args.spec.now c.args.step.now q c.in_ok-premises.ensures.ok)
