use Rattle.rw_examples.proofs.lemmas.lemmas_have_statuses.Given as goal

abbrev pub ghosts-played : goal.ghosts-played
ghosts-played g a = record { name = a.blank.name; parts = a.blank.parts }
