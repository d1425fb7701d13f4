-- The program of a closed derivation refines its root.
use Rattle.std.proofs.Common.{◌≡◌, ℕ, true, List, [], Option, Some, None, refl, ap, ◌∙◌, subst}
use Rattle.rw_terms.specs.declared.term.Formula.{Formula}
use Rattle.rw_terms.specs.Validity.{Each}
use Rattle.rw_programs.specs.declared.prog.Spec.{Spec}
use Rattle.rw_programs.specs.declared.prog.Prog.{Prog}
use Rattle.rw_programs.specs.declared.prog.Prog.TheVariants as prog
use Rattle.rw_programs.specs.declared.applied.Child.{Child}
use Rattle.rw_programs.specs.State.{State, Fits, Holds}
use Rattle.rw_programs.specs.Tables.{Table, past}
use Rattle.rw_programs.specs.Refine.{Wp, Refines}
use Rattle.rw_meaning.proofs.Contexts.{outermost}
use Rattle.rw_goals.specs.Library.{definitions_of}
use Rattle.rw_nodes.specs.declared.edit.Edit.{Edit}
use Rattle.rw_nodes.specs.Edits.{globals_of, root_of}
use Rattle.rw_nodes.specs.Parts.{tree_of}
use Rattle.rw_anew.specs.declared.status.NodeMark.{NodeMark}
use Rattle.rw_anew.specs.declared.status.Status.TheVariants as status
use Rattle.rw_sites.specs.Derived.{main_context, root_given, derived, sites}
use Rattle.rw_tree.specs.Accepting.{IsGood}
use Rattle.rw_anew.specs.Anew.{heads_in, mark_of, library_of, anew}
use Rattle.rw_anew.specs.Uses.{IsClosed}
use Rattle.rw_tree.proofs.Same.{made_good}
use Rattle.rw_sites.proofs.Sites.{sites-out}
use Rattle.rw_collect.specs.Code.{code}
use Rattle.rw_collect.specs.Closed.{heads_by, table, scope_of, CodeRefinesRoot, ClosedRefines}
use Rattle.rw_collect.proofs.Lists.{each_made}
use Rattle.rw_collect.proofs.Roots.{root_ready}
use Rattle.rw_collect.proofs.Made.{library_made}
use Rattle.rw_collect.proofs.Lemmas.{named_valid}
use Rattle.rw_collect.proofs.Guarded.{IsGuarded, bare, by_any_library}
use Rattle.rw_collect.proofs.Filled.{IsGoodSite, IsReadyChild, Refined, IsCoded, node_coded}

abbrev IsGoodMark : NodeMark → Type 0
IsGoodMark mark = mark.status ≡ status.Good

abbrev AllGood : List Edit → Option Spec → Type 0
AllGood l o = Each (IsGoodSite (library_of l)) (sites (heads_in (library_of l)) (tree_of l) (root_given (globals_of l) o) [])

-- each node of a closed derivation is good
all_good : (l : List Edit) → IsClosed l → AllGood l (root_of l)
unfolding anew
all_good l closed = each_made (mark_of (library_of l)) IsGoodMark (sites (heads_in (library_of l)) (tree_of l) (root_given (globals_of l) (root_of l)) []) closed.nodes

-- the root of a closed derivation has a specification
no_root : (l : List Edit) → AllGood l None → ⊥
unfolding derived
no_root l good =
    let all = subst (Each (IsGoodSite (library_of l))) (sites-out (heads_in (library_of l)) (tree_of l) None []) good in
    let clash : status.NoSpec ≡ status.Good = all.0 in cc

implied : (l : List Edit) (w : Spec) (d : Prog) → Refines (scope_of l) (prog.Spec w) (heads_by l) d table → (f : Formula) (s : State) → Fits (scope_of l) s →
    Wp (heads_by l) (prog.Spec w) (λ t. Holds (heads_by l).library f t t) s → Wp table d (λ t. Holds (heads_by l).library f t t) s
implied l w d refines f s meets wp = let better = refines s meets wp.0 in (better.0, λ t e. wp.1 t (better.1 t e))

abbrev main_child : List Edit → Spec → Child
main_child l w = record { context = main_context (globals_of l); spec = w }

-- a program that refines the root by the definitions, and is guarded, refines it by no definitions
closed_by : (l : List Edit) (w : Spec) (d : Prog) → Refined (library_of l) (main_child l w) d → IsGuarded d → Refines (scope_of l) (prog.Spec w) (heads_by l) d table
unfolding main_context
closed_by l w d refined guarded s meets =
    by_any_library (definitions_of (library_of l)) [] true (heads_by l) (past (heads_by l)) 0 (prog.Spec w) d s guarded
    (refined s.own own (past own) 0 refl s ((outermost own (scope_of l) s).1 meets) (λ x value. refl))
  where
    own : Table
    own = bare (definitions_of (library_of l)) true

main_ready : (most : ℕ) (l : List Edit) → IsGood most l → (w : Spec) → root_of l ≡ Some w → IsReadyChild (library_of l) (main_child l w)
unfolding main_context
main_ready most l good w is = root_ready most l good w is

pub closed_refined : ClosedRefines
closed_refined most l good closed = go (root_of l) refl (all_good l closed)
  where
    go : (o : Option Spec) → root_of l ≡ o → AllGood l o → CodeRefinesRoot l
    go None is all = absurd (no_root l all)
    go (Some w) is all =
        let made = library_made most l good in
        let coded : IsCoded (library_of l) (main_child l w) (code (heads_in (library_of l)) (tree_of l) (root_given (globals_of l) (Some w))) =
        node_coded (library_of l) made (tree_of l) (main_child l w) [] (made_good most l good).main.shaped (named_valid l closed made) (main_ready most l good w is) all in
        let refines : Refines (scope_of l) (prog.Spec w) (heads_by l) coded.0 table = closed_by l w coded.0 coded.2 coded.3 in record {
          root = w;
          is_root = is;
          program = coded.0;
          is_code = ap (λ o. code (heads_in (library_of l)) (tree_of l) (root_given (globals_of l) o)) is ∙ coded.1;
          refines = refines;
          preconditions = implied l w coded.0 refines;
        }
