use Rattle.rw_programs.proofs.laws.refinement_gives_formulas.Goals as goal

pub returns-clause-anywhere : goal.returns-clause-anywhere
returns-clause-anywhere c = λ scope E F p k q j b d refines f s fits wp.
    let better = refines s fits wp.0 in (better.0, λ t end. wp.1 t (better.1 t end))

pub returns-clause-given : goal.returns-clause-given
returns-clause-given c = λ fixed scope E F p k q j b d refines f s fits has wp.
    let better = refines s fits has wp.0 in (better.0, λ t end. wp.1 t (better.1 t end))

pub returns-clause-past_all : goal.returns-clause-past_all
returns-clause-past_all c = λ scope E F b d refines f s fits wp.
    let better = refines s fits wp.0 in (better.0, λ t end. wp.1 t (better.1 t end))
