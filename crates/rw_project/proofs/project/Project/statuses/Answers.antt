use Rattle.std.proofs.Common.{◌∙◌, ap, reverse}
use Rattle.rw_anew.specs.Anew.{anew}
use Rattle.rw_project.proofs.project.Project.statuses.Goals as goal

pub check_anew-requires : goal.check_anew-requires
check_anew-requires g c = (2000000, reverse c.self.inside.edits, c.self.invariant.1, c.self.invariant.0)

pub returns : goal.returns
returns g c = c.in_ok-statuses.ensures.anew 2000000 (reverse c.self.inside.edits) c.self.invariant.1 c.self.invariant.0 ∙ ap (λ h. anew h.0) c.self.view_is
