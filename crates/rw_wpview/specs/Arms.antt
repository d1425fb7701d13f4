-- The same of lists of guards with the programs behind them.
use Rattle.std.specs.Prelude.{ℕ, ◌+◌, Bool, false, ◌||◌, List, [], ◌∷◌, ◌++◌, map}
use Rattle.rw_terms.specs.declared.term.Formula.{Formula}
use Rattle.rw_terms.specs.declared.term.Formula.TheVariants.{Imp}
use Rattle.rw_terms.specs.declared.term.Term.{Term}
use Rattle.rw_terms.specs.declared.scope.Entry.{Entry}
use Rattle.rw_terms.specs.declared.sequent.Sequent.{Sequent}
use Rattle.rw_noted.specs.declared.noted.NotedArm.{NotedArm}
use Rattle.rw_wpview.specs.Loops.{loops}
use Rattle.rw_wpview.specs.Before.{before}
use Rattle.rw_wpview.specs.Conditions.{condition, turned, turning, of_loops}
use Rattle.rw_wpview.specs.Misfits.{Part, Guard, of_some}

abbrev pub arm_loops : List NotedArm → ℕ
arm_loops [] = 0
arm_loops (a ∷ arms) = loops a.body + arm_loops arms

abbrev pub guards : List NotedArm → List Formula
guards arms = map (λ a. a.guard) arms

abbrev pub choice : List Entry → Formula → NotedArm → Formula
choice scope f a = Imp a.guard (before scope a.body f)

abbrev pub turn_of : List Entry → ℕ → Term → Formula → NotedArm → Sequent
turn_of inner n v i a = condition inner (turning n v i a.guard) (before inner a.body (turned n v i))

abbrev pub of_arms : List Entry → ℕ → List NotedArm → Formula → List Sequent
of_arms scope n [] f = []
of_arms scope n (a ∷ arms) f = of_loops scope n a.body f ++ of_arms scope (n + loops a.body) arms f

abbrev pub of_some_arm : (List Entry → Part → Bool) → List Entry → ℕ → List NotedArm → Bool
of_some_arm is scope n [] = false
of_some_arm is scope n (a ∷ arms) = is scope (Guard a.guard) || (of_some is scope n a.body || of_some_arm is scope (n + loops a.body) arms)
