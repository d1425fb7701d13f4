-- What calls come to, in words of the meanings of the bodies that are called.
use Rattle.std.specs.Prelude.{◌≡◌, ℕ, suc, ◌<◌, ◌⊎◌}
use Rattle.rw_programs.specs.declared.prog.Prog.{Prog}
use Rattle.rw_programs.specs.State.{State}
use Rattle.rw_programs.specs.Tables.{Table}
use Rattle.rw_programs.specs.Meaning.{MayEnd, Sure}

-- the body c at place q, before p, may end in t from s: at its own place, with some number of levels
abbrev pub EarlierEnds : Table → (p q : ℕ) → Prog → State → State → Type 0
EarlierEnds E p q c s t = (q < p) × ((j : ℕ) × MayEnd E q j c s t)

-- the body c at place q, before p, is sure from s: at its own place, with some number of levels
abbrev pub EarlierSure : Table → (p q : ℕ) → Prog → State → Type 0
EarlierSure E p q c s = (q < p) × ((j : ℕ) × Sure E q j c s)

-- Called by a program at place p with k levels, the body c at place q may end in t from s: at p itself with one level less, or
-- before p.
abbrev pub CallEnds : Table → (p k q : ℕ) → Prog → State → State → Type 0
CallEnds E p k q c s t = ((q ≡ p) × ((j : ℕ) × (k ≡ suc j) × MayEnd E p j c s t)) ⊎ EarlierEnds E p q c s t

-- so, the body is sure from s
abbrev pub CallSure : Table → (p k q : ℕ) → Prog → State → Type 0
CallSure E p k q c s = ((q ≡ p) × ((j : ℕ) × (k ≡ suc j) × Sure E p j c s)) ⊎ EarlierSure E p q c s
