-- What is to hold before a program so that a formula holds after it.
use Rattle.std.specs.Prelude.{ℕ, List, [], ◌∷◌}
use Rattle.rw_terms.specs.declared.term.Formula.{Formula}
use Rattle.rw_terms.specs.declared.term.Formula.TheVariants.{And, Imp, All}
use Rattle.rw_terms.specs.declared.term.Sort.{Sort}
use Rattle.rw_terms.specs.declared.term.Term.{Term}
use Rattle.rw_terms.specs.declared.scope.Entry.{Entry}
use Rattle.rw_subst.specs.declared.slot.Slot.TheVariants as slot
use Rattle.rw_subst.specs.Replaced.{replaced_formula, closed}
use Rattle.rw_subst.specs.Conj.{conj, disj}
use Rattle.rw_subst.specs.Definedness.{definedness_of}
use Rattle.rw_derived.specs.Derived.{set_to}
use Rattle.rw_loops.specs.Guards.{guards_definedness}
use Rattle.rw_noted.specs.declared.noted.Noted.{Noted, Skip, Assign, If', Do', Row_of-NotedArm, end_of-NotedArm, more_of-NotedArm}
use Rattle.rw_noted.specs.Made.{Seq, Block}
use Rattle.rw_wpview.specs.Loops.{guards_of, with_local}

-- the terms are defined, and the formula holds of them
abbrev pub before_set : List Entry → List (List ℕ) → List Term → Formula → Formula
before_set scope names terms f = And (definedness_of scope terms) (replaced_formula (set_to names terms) f)

-- the guards are defined, one of them holds, and each has its choice
abbrev pub before_choice : List Entry → List Formula → List Formula → Formula
before_choice scope guards choices = conj (guards_definedness scope guards ∷ disj guards ∷ choices)

-- the formula whatever the value of the variable
abbrev pub for_all : List ℕ → Sort → Formula → Formula
for_all x sort f = All sort (closed (slot.Var x) f)

abbrev mutual
  -- before a sequence what is to hold before its second part so that the formula holds after that, is the first part's formula
  pub before : List Entry → Noted → Formula → Formula
  before scope Skip f = f
  before scope (Assign names terms) f = before_set scope names terms f
  before scope (Seq c d) f = before scope c (before scope d f)
  before scope (If' shape arms) f = before_choice scope (guards_of arms) (choices scope arms f)
  before scope (Do' v i shape arms) f = i
  before scope (Block x sort c) f = for_all x sort (before (with_local scope x sort) c f)

  -- where a guard holds, what is to hold before the program behind it does
  pub choices : {m : _} → List Entry → Row_of-NotedArm m → Formula → List Formula
  choices scope end_of-NotedArm f = []
  choices scope (more_of-NotedArm g c rest) f = Imp g (before scope c f) ∷ choices scope rest f
