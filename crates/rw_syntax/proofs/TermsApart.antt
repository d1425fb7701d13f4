-- A tree of level 6 or more stands for a term, and each other one for a formula.
use Rattle.std.proofs.Common.{◌≡◌, ℕ, Bool, true, false, cond, List, [], ◌∷◌, Option, Some, None, refl, sym, ap, ◌∙◌, arith, true≢false}
use Rattle.std.specs.Prelude.{leb}
use Rattle.std.proofs.lemmas.Bool.{leb-true, le-leb, lt-leb, leb-false}
use Rattle.rw_terms.specs.declared.term.Term.{Term}
use Rattle.rw_terms.specs.declared.term.Formula.{Formula}
use Rattle.rw_syntax.specs.declared.token.Infix.{Infix}
use Rattle.rw_syntax.specs.declared.token.Infix.TheVariants as infixes
use Rattle.rw_syntax.specs.declared.token.Quantifier.TheVariants as quantifiers
use Rattle.rw_syntax.specs.declared.token.Token.{Token}
use Rattle.rw_syntax.specs.declared.frame.Part.{Part}
use Rattle.rw_syntax.specs.declared.frame.Part.TheVariants as parts
use Rattle.rw_syntax.specs.declared.frame.Binder.{Binder}
use Rattle.rw_syntax.specs.declared.frame.Prefix.{Prefix}
use Rattle.rw_syntax.specs.declared.frame.Prefix.TheVariants as prefixes
use Rattle.rw_syntax.specs.declared.frame.Head.{Head}
use Rattle.rw_syntax.specs.declared.frame.Head.TheVariants as heads
use Rattle.rw_syntax.specs.Grammar.{Leaf, number, word, initial, place, truth, Tree, leaf, prefix, binary, group, index, call, level, level_of, prefix_level, head_level, leaf_level, shut, is_upper, inner, bound_or, leaf_part, put_of, part, prefixed, joined, applied, values}
use Rattle.rw_syntax.specs.Spelling.{Spells}
use Rattle.rw_syntax.proofs.Choices.{fits_of, shut_term, shut_formula}

abbrev is_term : Part → Bool
is_term (parts.Term t) = true
is_term (parts.Formula f) = false

bound_term : (t : Term) (o : Option ℕ) → is_term (bound_or t o) ≡ true
bound_term t None = refl
bound_term t (Some k) = refl

leaf_kind : (env : List Binder) (l : Leaf) → is_term (leaf_part env l) ≡ leb 6 (leaf_level l)
leaf_kind env (number n) = refl
leaf_kind env (word w) = bound_term _ _
leaf_kind env (initial w) = refl
leaf_kind env (place n) = bound_term _ _
leaf_kind env (truth true) = refl
leaf_kind env (truth false) = refl

prefix_kind : (p : Prefix) (v : Part) → is_term (prefixed p v) ≡ leb 6 (prefix_level p)
prefix_kind prefixes.Minus v = refl
prefix_kind prefixes.Not v = refl
prefix_kind (prefixes.Bind quantifiers.All b s) v = refl
prefix_kind (prefixes.Bind quantifiers.Any b s) v = refl

joined_kind : (op : Infix) (a b : Part) → is_term (joined op a b) ≡ leb 6 (level_of op)
joined_kind infixes.Implies a b = refl
joined_kind infixes.Or a b = refl
joined_kind infixes.And a b = refl
joined_kind infixes.Equal a b = refl
joined_kind infixes.Unequal a b = refl
joined_kind infixes.Less a b = refl
joined_kind infixes.AtMost a b = refl
joined_kind infixes.Greater a b = refl
joined_kind infixes.AtLeast a b = refl
joined_kind infixes.Plus a b = refl
joined_kind infixes.Minus a b = refl
joined_kind infixes.Times a b = refl
joined_kind infixes.Div a b = refl
joined_kind infixes.Mod a b = refl

put_term : (ts : List Term) (e : Term) → is_term (put_of ts e) ≡ true
put_term [] e = refl
put_term (a ∷ []) e = refl
put_term (a ∷ i ∷ []) e = refl
put_term (a ∷ i ∷ j ∷ ts) e = refl

named_kind : (b : Bool) (f : Formula) (t : Term) → is_term (cond b (parts.Formula f) (parts.Term t)) ≡ leb 6 (cond b 5 9)
named_kind true f t = refl
named_kind false f t = refl

head_kind : (h : Head) (ts : List Term) (v : Part) → is_term (applied h ts v) ≡ leb 6 (head_level h)
head_kind heads.Put ts v = put_term ts _
head_kind (heads.Named w) ts v = named_kind (is_upper w) _ _

shut_kind : (n : ℕ) → leb 6 n ≡ leb 6 (shut n)
shut_kind n = go (leb 6 n) refl
  where
    go : (b : Bool) → leb 6 n ≡ b → leb 6 n ≡ leb 6 (shut n)
    go true e = e ∙ ap (leb 6) (sym (shut_term n (leb-true 6 n e)))
    go false e = e ∙ ap (leb 6) (sym (shut_formula n (leb-false 6 n e)))

kinds : (env : List Binder) (t : Tree) → is_term (part env t) ≡ leb 6 (level t)
kinds env (leaf l) = leaf_kind env l
kinds env (prefix p t) = prefix_kind p (part (inner p env) t)
kinds env (binary op l r) = joined_kind op (part env l) (part env r)
kinds env (group t) = kinds env t ∙ shut_kind (level t)
kinds env (index t u) = refl
kinds env (call h ts t) = head_kind h (values env ts) (part env t)

-- what is read as a term is no formula
pub terms_only : (most : ℕ) (ts : List Token) (f : Formula) → Spells most 6 ts (parts.Formula f) → ⊥
terms_only most ts f s =
    let e : leb 6 (level s.tree) ≡ true = le-leb 6 (level s.tree) (fits_of 6 (level s.tree) s.fit).0 in
    true≢false (sym e ∙ sym (kinds [] s.tree) ∙ ap is_term s.value)

-- what is read as a formula is no term
pub formulas_only : (most : ℕ) (ts : List Token) (t : Term) → Spells most 1 ts (parts.Term t) → ⊥
formulas_only most ts t s =
    let e : leb 6 (level s.tree) ≡ false = lt-leb 6 (level s.tree) ((fits_of 1 (level s.tree) s.fit).1 (omega arith)) in
    true≢false (sym (sym (kinds [] s.tree) ∙ ap is_term s.value) ∙ e)
