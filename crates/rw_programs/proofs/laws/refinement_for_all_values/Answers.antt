use Rattle.std.proofs.Common.{refl}
use Rattle.rw_programs.proofs.laws.refinement_for_all_values.Goals as goal

pub returns-clause-given : goal.returns-clause-given
returns-clause-given c = λ fixed scope E F p k q j b d refines s fits has. refines s fits

pub returns-clause-all : goal.returns-clause-all
returns-clause-all c = λ scope E F p k q j b d refines s fits. refines s.own s fits (λ x v. refl)
