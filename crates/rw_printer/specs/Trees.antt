-- The parse tree that a term or a formula is printed as: parentheses stand where the grammar would else read another
-- structure, and round each quantified operand of a connective. Behind d binders these are named `_1` to `_d`, the
-- innermost last.
use Rattle.std.specs.Prelude.{ℕ, suc, ◌-◌, Bool, true, false, cond, List, [], ◌∷◌, map, ℤ, pos, negsuc}
use Rattle.rw_terms.specs.declared.term.Term.{Term}
use Rattle.rw_terms.specs.declared.term.Term.TheOpen.{Term-F}
use Rattle.rw_terms.specs.declared.term.Term.TheFolds.{fold-Term}
use Rattle.rw_terms.specs.declared.term.Formula.{Formula}
use Rattle.rw_terms.specs.declared.term.Formula.TheOpen.{Formula-F}
use Rattle.rw_terms.specs.declared.term.Formula.TheFolds.{fold-Formula}
use Rattle.rw_terms.specs.declared.term.Sort.{Sort}
use Rattle.rw_syntax.specs.declared.token.Infix.{Infix}
use Rattle.rw_syntax.specs.declared.token.Infix.TheVariants as infixes
use Rattle.rw_syntax.specs.declared.token.Quantifier.{Quantifier}
use Rattle.rw_syntax.specs.declared.token.Quantifier.TheVariants as quantifiers
use Rattle.rw_syntax.specs.declared.frame.Binder.TheVariants as binders
use Rattle.rw_syntax.specs.declared.frame.Prefix.{Prefix}
use Rattle.rw_syntax.specs.declared.frame.Prefix.TheVariants as prefixes
use Rattle.rw_syntax.specs.declared.frame.Head.TheVariants as heads
use Rattle.rw_syntax.specs.Grammar.{number, word, initial, place, truth, Tree, leaf, prefix, binary, group, index, call, Trees, none, more, level, fits, left_of, right_of, prefix_level}

-- in parentheses where its level does not fit
abbrev pub wrap : ℕ → Tree → Tree
wrap wanted t = cond (fits wanted (level t)) t (group t)

-- an operator between two operands
abbrev pub infix_tree : Infix → Tree → Tree → Tree
infix_tree op l r = binary op (wrap (left_of op) l) (wrap (right_of op) r)

-- `-` or `not` before an operand
abbrev pub prefix_tree : Prefix → Tree → Tree
prefix_tree p t = prefix p (wrap (prefix_level p) t)

-- whether a prefix is a quantifier
abbrev pub is_quantifier : Prefix → Bool
is_quantifier prefixes.Minus = false
is_quantifier prefixes.Not = false
is_quantifier (prefixes.Bind q b s) = true

-- whether a tree is quantified
abbrev pub is_quantified : Tree → Bool
is_quantified (leaf l) = false
is_quantified (prefix p t) = is_quantifier p
is_quantified (binary op l r) = false
is_quantified (group t) = false
is_quantified (index t u) = false
is_quantified (call h ts t) = false

-- The right side of `=>` could be quantified without parentheses, but is printed in them.
abbrev pub conclusion_level : Tree → ℕ
conclusion_level t = cond (is_quantified t) 2 1

-- an implication
abbrev pub implication_tree : Tree → Tree → Tree
implication_tree l r = binary infixes.Implies (wrap 2 l) (wrap (conclusion_level r) r)

-- a quantifier behind d binders
abbrev pub quantified_tree : Quantifier → Sort → ℕ → Tree → Tree
quantified_tree q s d t = prefix_tree (prefixes.Bind q (binders.Numbered (suc d)) s) t

-- a call with the terms so far, one more, and those that follow
abbrev pub call_onto : List ℕ → Trees → Tree → List Tree → Tree
call_onto w us t [] = call (heads.Named w) us t
call_onto w us t (u ∷ ts) = call_onto w (more us t) u ts

-- a function or a predicate of a list of terms; its name alone where there are none, which the grammar does not have
abbrev pub application : List ℕ → List Tree → Tree
application w [] = leaf (word w)
application w (t ∷ ts) = call_onto w none t ts

-- a literal, `-` and its size where it is negative
abbrev pub literal_tree : ℤ → Tree
literal_tree (pos n) = leaf (number n)
literal_tree (negsuc n) = prefix prefixes.Minus (leaf (number (suc n)))

-- the trees of a list of terms, each wanted as a term
abbrev pub arguments : List (ℕ → Tree) → ℕ → List Tree
arguments ts d = map (λ t. wrap 6 (t d)) ts

-- a term's tree, from those of its parts, each behind a number of binders
abbrev pub term_tree_step : Term-F (ℕ → Tree) → ℕ → Tree
term_tree_step (Term-F.Lit z) d = literal_tree z
term_tree_step (Term-F.Var x) d = leaf (word x)
term_tree_step (Term-F.Init x) d = leaf (initial x)
term_tree_step (Term-F.Const x) d = leaf (word x)
term_tree_step (Term-F.Bound k) d = leaf (place (d - k))
term_tree_step (Term-F.Neg a) d = prefix_tree prefixes.Minus (a d)
term_tree_step (Term-F.Add a b) d = infix_tree infixes.Plus (a d) (b d)
term_tree_step (Term-F.Sub a b) d = infix_tree infixes.Minus (a d) (b d)
term_tree_step (Term-F.Mul a b) d = infix_tree infixes.Times (a d) (b d)
term_tree_step (Term-F.Div a b) d = infix_tree infixes.Div (a d) (b d)
term_tree_step (Term-F.Mod a b) d = infix_tree infixes.Mod (a d) (b d)
term_tree_step (Term-F.Read a i) d = index (wrap 9 (a d)) (wrap 6 (i d))
term_tree_step (Term-F.Put a i e) d = call heads.Put (more (more none (wrap 6 (a d))) (wrap 6 (i d))) (wrap 6 (e d))
term_tree_step (Term-F.Fun f args) d = application f (arguments args d)

-- the tree of a term behind a number of binders
abbrev pub term_tree : Term → ℕ → Tree
term_tree = fold-Term (ℕ → Tree) term_tree_step

-- the trees of a list of terms behind a number of binders
abbrev pub argument_trees : List Term → ℕ → List Tree
argument_trees ts d = arguments (map term_tree ts) d

-- a formula's tree, from those of its parts
abbrev pub formula_tree_step : Formula-F (ℕ → Tree) → ℕ → Tree
formula_tree_step Formula-F.True d = leaf (truth true)
formula_tree_step Formula-F.False d = leaf (truth false)
formula_tree_step (Formula-F.Eq s t) d = infix_tree infixes.Equal (term_tree s d) (term_tree t d)
formula_tree_step (Formula-F.Less s t) d = infix_tree infixes.Less (term_tree s d) (term_tree t d)
formula_tree_step (Formula-F.AtMost s t) d = infix_tree infixes.AtMost (term_tree s d) (term_tree t d)
formula_tree_step (Formula-F.Not f) d = prefix_tree prefixes.Not (f d)
formula_tree_step (Formula-F.And f g) d = infix_tree infixes.And (f d) (g d)
formula_tree_step (Formula-F.Or f g) d = infix_tree infixes.Or (f d) (g d)
formula_tree_step (Formula-F.Imp f g) d = implication_tree (f d) (g d)
formula_tree_step (Formula-F.All s f) d = quantified_tree quantifiers.All s d (f (suc d))
formula_tree_step (Formula-F.Any s f) d = quantified_tree quantifiers.Any s d (f (suc d))
formula_tree_step (Formula-F.App p args) d = application p (argument_trees args d)

-- the tree of a formula behind a number of binders
abbrev pub formula_tree : Formula → ℕ → Tree
formula_tree = fold-Formula (ℕ → Tree) formula_tree_step
