-- The loops of a program by their numbers, in order of text, and what each brings into scope.
use Rattle.std.specs.Prelude.{ℕ, suc, ◌+◌, List, [], ◌∷◌, ◌++◌, decimal}
use Rattle.rw_terms.specs.declared.term.Formula.{Formula}
use Rattle.rw_terms.specs.declared.term.Sort.{Sort}
use Rattle.rw_terms.specs.declared.term.Sort.TheVariants.{Int}
use Rattle.rw_terms.specs.declared.scope.Entry.{Entry}
use Rattle.rw_terms.specs.declared.scope.Kind.TheVariants as kind
use Rattle.rw_noted.specs.declared.noted.Noted.{Noted, Skip, Assign, If', Do', Row_of-NotedArm, end_of-NotedArm, more_of-NotedArm}
use Rattle.rw_noted.specs.Made.{Seq, Block}

abbrev mutual
  -- how many loops there are
  pub loops : Noted → ℕ
  loops Skip = 0
  loops (Assign names terms) = 0
  loops (Seq c d) = loops c + loops d
  loops (If' shape arms) = row_loops arms
  loops (Do' v i shape arms) = suc (row_loops arms)
  loops (Block x sort c) = loops c

  pub row_loops : {m : _} → Row_of-NotedArm m → ℕ
  row_loops end_of-NotedArm = 0
  row_loops (more_of-NotedArm g c rest) = loops c + row_loops rest

-- the guards of a row
abbrev pub guards_of : {m : _} → Row_of-NotedArm m → List Formula
guards_of end_of-NotedArm = []
guards_of (more_of-NotedArm g c rest) = g ∷ guards_of rest

-- the constant with the value of the variant before a turn of the loop of this number: `V`, the number and `_`
abbrev pub turn_constant : ℕ → List ℕ
turn_constant n = 86 ∷ (decimal n ++ 95 ∷ [])

-- the scope inside the loop of this number
abbrev pub with_turn : List Entry → ℕ → List Entry
with_turn scope n = scope ++ record { name = turn_constant n; sort = Int; kind = kind.Constant } ∷ []

-- the scope inside a block
abbrev pub with_local : List Entry → List ℕ → Sort → List Entry
with_local scope x sort = scope ++ record { name = x; sort = sort; kind = kind.Local } ∷ []
