-- The conditions under which a program refines a specification.
use Rattle.std.specs.Prelude.{ℕ, suc, ◌+◌, List, [], ◌∷◌, ◌++◌, map}
use Rattle.rw_terms.specs.declared.term.Formula.{Formula}
use Rattle.rw_terms.specs.declared.term.Formula.TheVariants.{And, Not, Eq, Less}
use Rattle.rw_terms.specs.declared.term.Term.{Term}
use Rattle.rw_terms.specs.declared.term.Term.TheVariants.{Const}
use Rattle.rw_terms.specs.declared.scope.Entry.{Entry}
use Rattle.rw_terms.specs.declared.sequent.Sequent.{Sequent}
use Rattle.rw_subst.specs.Replaced.{replaced_formula, from_initial}
use Rattle.rw_subst.specs.Conj.{conj, disj}
use Rattle.rw_programs.specs.declared.prog.Spec.{Spec}
use Rattle.rw_derived.specs.Making.{sequent_over}
use Rattle.rw_loops.specs.Guards.{guards_definedness}
use Rattle.rw_loops.specs.Laws.{not_below_0}
use Rattle.rw_noted.specs.declared.noted.Noted.{Noted, Skip, Assign, If', Do', Row_of-NotedArm, end_of-NotedArm, more_of-NotedArm}
use Rattle.rw_noted.specs.Made.{Seq, Block}
use Rattle.rw_wpview.specs.Loops.{loops, guards_of, turn_constant, with_turn, with_local}
use Rattle.rw_wpview.specs.Before.{before}

-- the first formula gives the second
abbrev pub condition : List Entry → Formula → Formula → Sequent
condition scope f g = sequent_over scope (f ∷ []) (g ∷ [])

-- after a turn the invariant holds, and the variant is not below 0 and less than it was
abbrev pub turned : ℕ → Term → Formula → Formula
turned n v i = conj (i ∷ not_below_0 v ∷ Less v (Const (turn_constant n)) ∷ [])

-- before a turn the invariant and a guard hold, and the constant has the value of the variant
abbrev pub turning : ℕ → Term → Formula → Formula → Formula
turning n v i g = conj (i ∷ g ∷ Eq v (Const (turn_constant n)) ∷ [])

-- where the invariant holds the guards are defined; where no guard does, the loop's end has what stands behind it
abbrev pub loop_rests : List Entry → Formula → List Formula → Formula → List Sequent
loop_rests scope i guards f = condition scope i (guards_definedness scope guards) ∷ condition scope (And i (Not (disj guards))) f ∷ []

-- each turn keeps the invariant and makes the variant less; inside the loop its constant is in scope
abbrev pub loop_turns : {m : _} → List Entry → ℕ → Term → Formula → Row_of-NotedArm m → List Sequent
loop_turns inner n v i end_of-NotedArm = []
loop_turns inner n v i (more_of-NotedArm g c rest) = condition inner (turning n v i g) (before inner c (turned n v i)) ∷ loop_turns inner n v i rest

abbrev mutual
  -- those of the loops, which are numbered from n on, where the formula is to hold after the program
  pub of_loops : List Entry → ℕ → Noted → Formula → List Sequent
  of_loops scope n Skip f = []
  of_loops scope n (Assign names terms) f = []
  of_loops scope n (Seq c d) f = of_loops scope n c (before scope d f) ++ of_loops scope (n + loops c) d f
  of_loops scope n (If' shape arms) f = of_row scope n arms f
  of_loops scope n (Do' v i shape arms) f =
      loop_rests scope i (guards_of arms) f ++ (loop_turns (with_turn scope n) n v i arms ++ of_row (with_turn scope n) (suc n) arms (turned n v i))
  of_loops scope n (Block x sort c) f = of_loops (with_local scope x sort) n c f

  pub of_row : {m : _} → List Entry → ℕ → Row_of-NotedArm m → Formula → List Sequent
  of_row scope n end_of-NotedArm f = []
  of_row scope n (more_of-NotedArm g c rest) f = of_loops scope n c f ++ of_row scope (n + loops c) rest f

-- at the start the initial variables are the variables
abbrev pub at_start : List Entry → Spec → Noted → Formula
at_start scope w c = replaced_formula (map from_initial w.frame) (before scope c w.post)

-- the precondition gives what is to hold before the program so that the postcondition holds after it; then come those of the loops
abbrev pub conditions : List Entry → Spec → Noted → List Sequent
conditions scope w c = condition scope w.pre (at_start scope w c) ∷ of_loops scope 1 c w.post
