use Rattle.rw_programs.proofs.laws.refinement_is_an_order.Goals as goal

pub returns-clause-through : goal.returns-clause-through
returns-clause-through c = λ scope E F G b d e first second s fits sure.
    let one = first s fits sure in let two = second s fits one.0 in (two.0, λ t end. one.1 t (two.1 t end))

pub returns-clause-through_at : goal.returns-clause-through_at
returns-clause-through_at c = λ scope E F G p k q j r i b d e first second s fits sure.
    let one = first s fits sure in let two = second s fits one.0 in (two.0, λ t end. one.1 t (two.1 t end))
