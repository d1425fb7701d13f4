-- Marks of entries as the code compares them.
use Rattle.std.specs.Prelude.{ℕ, Bool, true, false, ◌&&◌, List, [], ◌∷◌, Option, Some, None}
use Rattle.rw_sequents.specs.declared.line.Cert.{Cert}
use Rattle.rw_anew.specs.Uses.{proof_cites}

-- whether two lists of marks are the same
abbrev pub same_marks : List Bool → List Bool → Bool
same_marks [] [] = true
same_marks [] (c ∷ cs) = false
same_marks (b ∷ bs) [] = false
same_marks (true ∷ bs) (true ∷ cs) = same_marks bs cs
same_marks (false ∷ bs) (false ∷ cs) = same_marks bs cs
same_marks (true ∷ bs) (false ∷ cs) = false
same_marks (false ∷ bs) (true ∷ cs) = false

-- whether an entry is marked and its certificate cites the lemma of this name
abbrev pub marks_and_cites : List ℕ → Option Bool → Option (Option Cert) → Bool
marks_and_cites x None p = false
marks_and_cites x (Some b) None = false
marks_and_cites x (Some b) (Some p) = b && proof_cites x p
