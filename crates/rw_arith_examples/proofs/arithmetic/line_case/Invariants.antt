use Rattle.rw_arith_examples.proofs.arithmetic.line_case.Given as goal

abbrev pub ghosts-checked : goal.ghosts-checked
ghosts-checked g a = record { name = a.blank.name; parts = a.blank.parts }
