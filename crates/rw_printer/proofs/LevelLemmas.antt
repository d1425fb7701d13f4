-- The level of what is printed does not depend on the binders around it.
use Rattle.std.proofs.Common.{◌≡◌, ℕ, Bool, false, cond, List, [], ◌∷◌, refl, sym, ap, ◌∙◌}
use Rattle.rw_terms.specs.declared.term.Term.{Term}
use Rattle.rw_terms.specs.declared.term.Formula.TheOpen.{Formula-F}
use Rattle.rw_terms.specs.declared.term.Formula.TheVariants as formulas
use Rattle.rw_terms.specs.declared.term.Formula.TheFolds.{fold-roll-Formula}
use Rattle.rw_syntax.specs.declared.frame.Head.TheVariants as heads
use Rattle.rw_syntax.specs.Grammar.{Tree, Trees, none, more, level, head_level, is_upper}
use Rattle.rw_printer.specs.Trees.{wrap, call_onto, application, term_tree, argument_trees, is_quantified, formula_tree_step, formula_tree}

call_level : (w : List ℕ) (us : Trees) (t : Tree) (ts : List Tree) → level (call_onto w us t ts) ≡ head_level (heads.Named w)
call_level w us t [] = refl
call_level w us t (u ∷ ts) = call_level w (more us t) u ts

abbrev pub level_of_terms : Bool → List Term → ℕ
level_of_terms upper [] = 9
level_of_terms upper (t ∷ ts) = cond upper 5 9

pub application_level : (w : List ℕ) (ts : List Term) (d : ℕ) → level (application w (argument_trees ts d)) ≡ level_of_terms (is_upper w) ts
application_level w [] d = refl
application_level w (t ∷ ts) d = call_level w none (wrap 6 (term_tree t d)) (argument_trees ts d)

call_open : (w : List ℕ) (us : Trees) (t : Tree) (ts : List Tree) → is_quantified (call_onto w us t ts) ≡ false
call_open w us t [] = refl
call_open w us t (u ∷ ts) = call_open w (more us t) u ts

pub application_open : (w : List ℕ) (ts : List Term) (d : ℕ) → is_quantified (application w (argument_trees ts d)) ≡ false
application_open w [] d = refl
application_open w (t ∷ ts) d = call_open w none (wrap 6 (term_tree t d)) (argument_trees ts d)

pub application_formula_open : (p : List ℕ) (args : List Term) (d : ℕ) → is_quantified (formula_tree (formulas.App p args) d) ≡ false
application_formula_open p args d = ap (λ f. is_quantified (formula_tree f d)) (sym (formulas.rolls-App p args)) ∙ ap (λ f. is_quantified (f d)) (fold-roll-Formula (ℕ → Tree) formula_tree_step (Formula-F.App p args)) ∙ application_open p args d
