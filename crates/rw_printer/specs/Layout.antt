-- How a parse tree is laid out: one space on each side of operators and relations, after `not` and after `,` between
-- terms, none behind `-`, and `forall _1:int . ` before the body of a quantifier.
use Rattle.std.specs.Prelude.{ℕ, true, false, List, [], ◌∷◌, ◌++◌, map, codes, decimal}
use Rattle.rw_terms.specs.declared.term.Term.{Term}
use Rattle.rw_terms.specs.declared.term.Formula.{Formula}
use Rattle.rw_terms.specs.declared.term.Sort.{Sort}
use Rattle.rw_terms.specs.declared.term.Sort.TheVariants as sorts
use Rattle.rw_terms.specs.declared.sequent.Sequent.{Sequent}
use Rattle.rw_programs.specs.declared.prog.Spec.{Spec}
use Rattle.rw_syntax.specs.declared.token.Infix.{Infix}
use Rattle.rw_syntax.specs.declared.token.Infix.TheVariants as infixes
use Rattle.rw_syntax.specs.declared.token.Quantifier.{Quantifier}
use Rattle.rw_syntax.specs.declared.token.Quantifier.TheVariants as quantifiers
use Rattle.rw_syntax.specs.declared.frame.Binder.{Binder}
use Rattle.rw_syntax.specs.declared.frame.Binder.TheVariants as binders
use Rattle.rw_syntax.specs.declared.frame.Prefix.{Prefix}
use Rattle.rw_syntax.specs.declared.frame.Prefix.TheVariants as prefixes
use Rattle.rw_syntax.specs.declared.frame.Head.{Head}
use Rattle.rw_syntax.specs.declared.frame.Head.TheVariants as heads
use Rattle.rw_syntax.specs.Grammar.{Leaf, number, word, initial, place, truth, Tree, leaf, prefix, binary, group, index, call, Trees, none, more}
use Rattle.rw_printer.specs.Trees.{term_tree, formula_tree}

-- how an operator is written
abbrev pub infix_text : Infix → List ℕ
infix_text infixes.Implies = codes "=>"
infix_text infixes.Or = codes "or"
infix_text infixes.And = codes "and"
infix_text infixes.Equal = codes "="
infix_text infixes.Unequal = codes "<>"
infix_text infixes.Less = codes "<"
infix_text infixes.AtMost = codes "<="
infix_text infixes.Greater = codes ">"
infix_text infixes.AtLeast = codes ">="
infix_text infixes.Plus = codes "+"
infix_text infixes.Minus = codes "-"
infix_text infixes.Times = codes "*"
infix_text infixes.Div = codes "div"
infix_text infixes.Mod = codes "mod"

-- how a leaf is written
abbrev pub leaf_text : Leaf → List ℕ
leaf_text (number n) = decimal n
leaf_text (word w) = w
leaf_text (initial w) = w ++ codes "0"
leaf_text (place n) = codes "_" ++ decimal n
leaf_text (truth true) = codes "true"
leaf_text (truth false) = codes "false"

-- how a binder is named
abbrev pub binder_text : Binder → List ℕ
binder_text (binders.Named w) = w
binder_text (binders.Numbered n) = codes "_" ++ decimal n

-- `int`, or `array` and the length
abbrev pub sort_text : Sort → List ℕ
sort_text sorts.Int = codes "int"
sort_text (sorts.Array n) = codes "array " ++ decimal n

-- how a quantifier is written
abbrev pub quantifier_text : Quantifier → List ℕ
quantifier_text quantifiers.All = codes "forall"
quantifier_text quantifiers.Any = codes "exists"

-- how a prefix is written, up to its operand
abbrev pub prefix_text : Prefix → List ℕ
prefix_text prefixes.Minus = codes "-"
prefix_text prefixes.Not = codes "not "
prefix_text (prefixes.Bind q b s) = quantifier_text q ++ codes " " ++ binder_text b ++ codes ":" ++ sort_text s ++ codes " . "

-- how a head is written
abbrev pub head_text : Head → List ℕ
head_text heads.Put = codes "put"
head_text (heads.Named w) = w

abbrev mutual
  -- how a tree is written
  pub laid : Tree → List ℕ
  laid (leaf l) = leaf_text l
  laid (prefix p t) = prefix_text p ++ laid t
  laid (binary op l r) = laid l ++ codes " " ++ infix_text op ++ codes " " ++ laid r
  laid (group t) = codes "(" ++ laid t ++ codes ")"
  laid (index t u) = laid t ++ codes "[" ++ laid u ++ codes "]"
  laid (call h ts t) = head_text h ++ codes "(" ++ laid_each ts ++ laid t ++ codes ")"

  -- with a comma and a space behind each
  pub laid_each : Trees → List ℕ
  laid_each none = []
  laid_each (more ts t) = laid_each ts ++ laid t ++ codes ", "

-- the text of a term that stands for itself
abbrev pub printed_term : Term → List ℕ
printed_term t = laid (term_tree t 0)

-- the text of a formula that stands for itself
abbrev pub printed_formula : Formula → List ℕ
printed_formula f = laid (formula_tree f 0)

-- texts, the first with one text before it and each other with a separator
abbrev pub listed : List ℕ → List ℕ → List (List ℕ) → List ℕ
listed separator before [] = []
listed separator before (x ∷ xs) = before ++ x ++ listed separator separator xs

-- names joined by `,` alone
abbrev pub names_text : List (List ℕ) → List ℕ
names_text xs = listed (codes ",") [] xs

-- formulas joined by `,` and a space
abbrev pub formulas_text : List Formula → List ℕ
formulas_text fs = listed (codes ", ") [] (map printed_formula fs)

-- `x,y:[F, G]`
abbrev pub spec_text : Spec → List ℕ
spec_text w = names_text w.frame ++ codes ":[" ++ printed_formula w.pre ++ codes ", " ++ printed_formula w.post ++ codes "]"

-- the left side of a sequent with a space behind it, and nothing where it is empty
abbrev pub left_text : List Formula → List ℕ
left_text [] = []
left_text (f ∷ fs) = formulas_text (f ∷ fs) ++ codes " "

-- the right side with a space before it, and nothing where it is empty
abbrev pub right_text : List Formula → List ℕ
right_text [] = []
right_text (f ∷ fs) = codes " " ++ formulas_text (f ∷ fs)

-- `F, G |- H`
abbrev pub sequent_text : Sequent → List ℕ
sequent_text q = left_text q.left ++ codes "|-" ++ right_text q.right
