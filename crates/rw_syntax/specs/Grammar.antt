-- The grammar of terms and formulas. A tree is a way to read a text: each constructor is one alternative of
-- the grammar. Nine levels, from the loosest to the tightest: formula, disjunction, conjunction, negation,
-- atom; term, product, signed, primary. Formulas have levels 1 to 5 and terms 6 to 9.
use Rattle.std.specs.Prelude.{◌≡◌, ℕ, suc, ◌+◌, Bool, true, false, not, ◌&&◌, cond, leb, ltb, eqb, List, [], ◌∷◌, ◌++◌, Option, Some, None, option_map, IsTrue, pos, slice_index, bytes_eq}
use Rattle.rw_terms.specs.declared.term.Sort.{Sort}
use Rattle.rw_terms.specs.declared.term.Sort.TheVariants as sorts
use Rattle.rw_terms.specs.declared.term.Term.{Term}
use Rattle.rw_terms.specs.declared.term.Term.TheOpen.{Term-F}
use Rattle.rw_terms.specs.declared.term.Term.TheViews.{roll-Term}
use Rattle.rw_terms.specs.declared.term.Formula.{Formula}
use Rattle.rw_terms.specs.declared.term.Formula.TheOpen.{Formula-F}
use Rattle.rw_terms.specs.declared.term.Formula.TheViews.{roll-Formula}
use Rattle.rw_syntax.specs.declared.token.Infix.{Infix}
use Rattle.rw_syntax.specs.declared.token.Infix.TheVariants as infixes
use Rattle.rw_syntax.specs.declared.token.Quantifier.TheVariants as quantifiers
use Rattle.rw_syntax.specs.declared.token.Token.{Token}
use Rattle.rw_syntax.specs.declared.token.Token.TheVariants as tokens
use Rattle.rw_syntax.specs.declared.frame.Part.{Part}
use Rattle.rw_syntax.specs.declared.frame.Part.TheVariants as parts
use Rattle.rw_syntax.specs.declared.frame.Binder.{Binder}
use Rattle.rw_syntax.specs.declared.frame.Binder.TheVariants as binders
use Rattle.rw_syntax.specs.declared.frame.Prefix.{Prefix}
use Rattle.rw_syntax.specs.declared.frame.Prefix.TheVariants as prefixes
use Rattle.rw_syntax.specs.declared.frame.Head.{Head}
use Rattle.rw_syntax.specs.declared.frame.Head.TheVariants as heads

-- an operand of one token
pub data Leaf : Type 0 where
  number : ℕ → Leaf
  word : List ℕ → Leaf
  initial : List ℕ → Leaf
  place : ℕ → Leaf
  truth : Bool → Leaf

mutual
  -- a way to read a text
  pub data Tree : Type 0 where
    leaf : Leaf → Tree
    prefix : Prefix → Tree → Tree
    binary : Infix → Tree → Tree → Tree
    group : Tree → Tree
    index : Tree → Tree → Tree
    -- a head, the terms before the last one, and the last one
    call : Head → Trees → Tree → Tree

  pub data Trees : Type 0 where
    none : Trees
    more : Trees → Tree → Trees

-- the level of what an operator makes
abbrev pub level_of : Infix → ℕ
level_of infixes.Implies = 1
level_of infixes.Or = 2
level_of infixes.And = 3
level_of infixes.Equal = 5
level_of infixes.Unequal = 5
level_of infixes.Less = 5
level_of infixes.AtMost = 5
level_of infixes.Greater = 5
level_of infixes.AtLeast = 5
level_of infixes.Plus = 6
level_of infixes.Minus = 6
level_of infixes.Times = 7
level_of infixes.Div = 7
level_of infixes.Mod = 7

-- the level that its left operand has at least
abbrev pub left_of : Infix → ℕ
left_of infixes.Implies = 2
left_of infixes.Or = 2
left_of infixes.And = 3
left_of infixes.Equal = 6
left_of infixes.Unequal = 6
left_of infixes.Less = 6
left_of infixes.AtMost = 6
left_of infixes.Greater = 6
left_of infixes.AtLeast = 6
left_of infixes.Plus = 6
left_of infixes.Minus = 6
left_of infixes.Times = 7
left_of infixes.Div = 7
left_of infixes.Mod = 7

-- the level that its right operand has at least
abbrev pub right_of : Infix → ℕ
right_of infixes.Implies = 1
right_of infixes.Or = 3
right_of infixes.And = 4
right_of infixes.Equal = 6
right_of infixes.Unequal = 6
right_of infixes.Less = 6
right_of infixes.AtMost = 6
right_of infixes.Greater = 6
right_of infixes.AtLeast = 6
right_of infixes.Plus = 7
right_of infixes.Minus = 7
right_of infixes.Times = 8
right_of infixes.Div = 8
right_of infixes.Mod = 8

-- the level of a prefix, which is also the least of its operand
abbrev pub prefix_level : Prefix → ℕ
prefix_level prefixes.Minus = 8
prefix_level prefixes.Not = 4
prefix_level (prefixes.Bind q b s) = 1

-- whether a word begins with an upper-case letter
abbrev pub is_upper : List ℕ → Bool
is_upper w = leb (slice_index w 0) 90

-- a predicate makes an atom, a function and `put` a primary
abbrev pub head_level : Head → ℕ
head_level heads.Put = 9
head_level (heads.Named w) = cond (is_upper w) 5 9

-- What is in parentheses is a primary where it is a term, and an atom where it is a formula.
abbrev pub shut : ℕ → ℕ
shut n = cond (leb 6 n) 9 5

-- `true` and `false` are atoms, every other leaf is a primary
abbrev pub leaf_level : Leaf → ℕ
leaf_level (number n) = 9
leaf_level (word w) = 9
leaf_level (initial w) = 9
leaf_level (place n) = 9
leaf_level (truth b) = 5

-- the level of a tree is that of its outermost part
abbrev pub level : Tree → ℕ
level (leaf l) = leaf_level l
level (prefix p t) = prefix_level p
level (binary op l r) = level_of op
level (group t) = shut (level t)
level (index t u) = 9
level (call h ts t) = head_level h

-- where a tree of level `wanted` may stand, one of level n may: as tight, and of the same kind
abbrev pub fits : ℕ → ℕ → Bool
fits wanted n = cond (leb wanted n) (cond (leb 6 wanted) true (ltb n 6)) false

-- names in scope, the innermost first

-- whether two binders have one name
abbrev pub same_binder : Binder → Binder → Bool
same_binder (binders.Named a) (binders.Named b) = bytes_eq a b
same_binder (binders.Named a) (binders.Numbered b) = false
same_binder (binders.Numbered a) (binders.Named b) = false
same_binder (binders.Numbered a) (binders.Numbered b) = eqb a b

-- how many binders stand between, the innermost of the name being meant
abbrev pub find : Binder → List Binder → Option ℕ
find b [] = None
find b (c ∷ cs) = cond (same_binder b c) (Some 0) (option_map suc (find b cs))

-- whether there is one
abbrev pub is_some : {A : Type 0} → Option A → Bool
is_some None = false
is_some (Some x) = true

-- the names in scope behind a prefix
abbrev pub inner : Prefix → List Binder → List Binder
inner prefixes.Minus env = env
inner prefixes.Not env = env
inner (prefixes.Bind q b s) env = b ∷ env

-- A number is at most 2 ^ 127 - 1, an initial variable begins with a lower-case letter, and a binder of the form `_1` is named only
-- in its scope.
abbrev pub is_known : List Binder → Leaf → Bool
is_known env (number n) = leb n 170141183460469231731687303715884105727
is_known env (word w) = true
is_known env (initial w) = not (is_upper w)
is_known env (place n) = is_some (find (binders.Numbered n) env)
is_known env (truth b) = true

-- the lengths of arrays, 1 to 1024
abbrev pub is_length : ℕ → Bool
is_length n = leb 1 n && leb n 1024

-- whether a sort may be written
abbrev pub is_sort : Sort → Bool
is_sort sorts.Int = true
is_sort (sorts.Array n) = is_length n

-- a word that binds begins with a lower-case letter
abbrev pub is_binder : Binder → Bool
is_binder (binders.Named w) = not (is_upper w)
is_binder (binders.Numbered n) = true

-- whether a prefix may be written
abbrev pub is_prefix : Prefix → Bool
is_prefix prefixes.Minus = true
is_prefix prefixes.Not = true
is_prefix (prefixes.Bind q b s) = cond (is_binder b) (is_sort s) false

-- how many terms there are
abbrev pub count : Trees → ℕ
count none = 0
count (more ts t) = suc (count ts)

-- the terms before the last one of a list are so many
abbrev pub takes : Head → ℕ → Bool
takes heads.Put n = eqb n 2
takes (heads.Named w) n = true

abbrev mutual
  pub IsFormed : List Binder → Tree → Type 0
  IsFormed env (leaf l) = IsTrue (is_known env l)
  IsFormed env (prefix p t) = IsTrue (is_prefix p) × IsTrue (fits (prefix_level p) (level t)) × IsFormed (inner p env) t
  IsFormed env (binary op l r) = IsTrue (fits (left_of op) (level l)) × IsTrue (fits (right_of op) (level r)) × IsFormed env l × IsFormed env r
  IsFormed env (group t) = IsFormed env t
  IsFormed env (index t u) = IsTrue (fits 9 (level t)) × IsTrue (fits 6 (level u)) × IsFormed env t × IsFormed env u
  IsFormed env (call h ts t) = IsTrue (takes h (count ts)) × AreFormed env ts × IsTrue (fits 6 (level t)) × IsFormed env t

  pub AreFormed : List Binder → Trees → Type 0
  AreFormed env none = Unit {0}
  AreFormed env (more ts t) = AreFormed env ts × IsTrue (fits 6 (level t)) × IsFormed env t

-- what a tree is written as

-- the token of a leaf
abbrev pub leaf_token : Leaf → Token
leaf_token (number n) = tokens.Number n
leaf_token (word w) = tokens.Word w
leaf_token (initial w) = tokens.Initial w
leaf_token (place n) = tokens.Place n
leaf_token (truth b) = tokens.Truth b

-- the token of a binder
abbrev pub binder_token : Binder → Token
binder_token (binders.Named w) = tokens.Word w
binder_token (binders.Numbered n) = tokens.Place n

-- `int`, or `array` and the length
abbrev pub sort_text : Sort → List Token
sort_text sorts.Int = tokens.Int ∷ []
sort_text (sorts.Array n) = tokens.Array ∷ tokens.Number n ∷ []

-- `-`, `not`, or a quantifier with its binder, its sort and a dot
abbrev pub prefix_text : Prefix → List Token
prefix_text prefixes.Minus = tokens.Infix infixes.Minus ∷ []
prefix_text prefixes.Not = tokens.Not ∷ []
prefix_text (prefixes.Bind q b s) = tokens.Quantifier q ∷ binder_token b ∷ tokens.Colon ∷ sort_text s ++ tokens.Dot ∷ []

-- the token of a head
abbrev pub head_token : Head → Token
head_token heads.Put = tokens.Put
head_token (heads.Named w) = tokens.Word w

abbrev mutual
  -- the tokens of a tree
  pub text : Tree → List Token
  text (leaf l) = leaf_token l ∷ []
  text (prefix p t) = prefix_text p ++ text t
  text (binary op l r) = text l ++ tokens.Infix op ∷ text r
  text (group t) = tokens.Open ∷ text t ++ tokens.Close ∷ []
  text (index t u) = text t ++ tokens.OpenSquare ∷ (text u ++ tokens.CloseSquare ∷ [])
  text (call h ts t) = head_token h ∷ tokens.Open ∷ (texts ts ++ (text t ++ tokens.Close ∷ []))

  -- with a comma behind each
  pub texts : Trees → List Token
  texts none = []
  texts (more ts t) = texts ts ++ (text t ++ tokens.Comma ∷ [])

-- what a tree stands for

-- an upper-case word is a constant, a lower-case one a variable
abbrev pub named : List ℕ → Term
named w = cond (is_upper w) (roll-Term (Term-F.Const w)) (roll-Term (Term-F.Var w))

-- the binder that was found, or else this term
abbrev pub bound_or : Term → Option ℕ → Part
bound_or t None = parts.Term t
bound_or t (Some k) = parts.Term (roll-Term (Term-F.Bound k))

-- a word is a binder where it is bound
abbrev pub leaf_part : List Binder → Leaf → Part
leaf_part env (number n) = parts.Term (roll-Term (Term-F.Lit (pos n)))
leaf_part env (word w) = bound_or (named w) (find (binders.Named w) env)
leaf_part env (initial w) = parts.Term (roll-Term (Term-F.Init w))
leaf_part env (place n) = bound_or (roll-Term (Term-F.Lit (pos 0))) (find (binders.Numbered n) env)
leaf_part env (truth true) = parts.Formula (roll-Formula Formula-F.True)
leaf_part env (truth false) = parts.Formula (roll-Formula Formula-F.False)

-- the term that a part is; the grammar asks it of no formula
abbrev pub as_term : Part → Term
as_term (parts.Term t) = t
as_term (parts.Formula f) = roll-Term (Term-F.Lit (pos 0))

-- the formula that a part is; the grammar asks it of no term
abbrev pub as_formula : Part → Formula
as_formula (parts.Term t) = roll-Formula Formula-F.True
as_formula (parts.Formula f) = f

-- what a prefix makes of its operand
abbrev pub prefixed : Prefix → Part → Part
prefixed prefixes.Minus v = parts.Term (roll-Term (Term-F.Neg (as_term v)))
prefixed prefixes.Not v = parts.Formula (roll-Formula (Formula-F.Not (as_formula v)))
prefixed (prefixes.Bind quantifiers.All b s) v = parts.Formula (roll-Formula (Formula-F.All s (as_formula v)))
prefixed (prefixes.Bind quantifiers.Any b s) v = parts.Formula (roll-Formula (Formula-F.Any s (as_formula v)))

-- what an operator makes of its operands
abbrev pub joined : Infix → Part → Part → Part
joined infixes.Equal a b = parts.Formula (roll-Formula (Formula-F.Eq (as_term a) (as_term b)))
joined infixes.Unequal a b = parts.Formula (roll-Formula (Formula-F.Not (roll-Formula (Formula-F.Eq (as_term a) (as_term b)))))
joined infixes.Less a b = parts.Formula (roll-Formula (Formula-F.Less (as_term a) (as_term b)))
joined infixes.AtMost a b = parts.Formula (roll-Formula (Formula-F.AtMost (as_term a) (as_term b)))
joined infixes.Greater a b = parts.Formula (roll-Formula (Formula-F.Less (as_term b) (as_term a)))
joined infixes.AtLeast a b = parts.Formula (roll-Formula (Formula-F.AtMost (as_term b) (as_term a)))
joined infixes.Plus a b = parts.Term (roll-Term (Term-F.Add (as_term a) (as_term b)))
joined infixes.Minus a b = parts.Term (roll-Term (Term-F.Sub (as_term a) (as_term b)))
joined infixes.Times a b = parts.Term (roll-Term (Term-F.Mul (as_term a) (as_term b)))
joined infixes.Div a b = parts.Term (roll-Term (Term-F.Div (as_term a) (as_term b)))
joined infixes.Mod a b = parts.Term (roll-Term (Term-F.Mod (as_term a) (as_term b)))
joined infixes.Implies a b = parts.Formula (roll-Formula (Formula-F.Imp (as_formula a) (as_formula b)))
joined infixes.Or a b = parts.Formula (roll-Formula (Formula-F.Or (as_formula a) (as_formula b)))
joined infixes.And a b = parts.Formula (roll-Formula (Formula-F.And (as_formula a) (as_formula b)))

-- the element of an array at an index
abbrev pub read_at : Part → Part → Part
read_at a i = parts.Term (roll-Term (Term-F.Read (as_term a) (as_term i)))

-- an array with an element put at an index
abbrev pub put_of : List Term → Term → Part
put_of (a ∷ i ∷ []) e = parts.Term (roll-Term (Term-F.Put a i e))
put_of ts e = parts.Term e

-- a head with the terms before the last one and the last one
abbrev pub applied : Head → List Term → Part → Part
applied heads.Put ts v = put_of ts (as_term v)
applied (heads.Named w) ts v = cond (is_upper w) (parts.Formula (roll-Formula (Formula-F.App w (ts ++ as_term v ∷ [])))) (parts.Term (roll-Term (Term-F.Fun w (ts ++ as_term v ∷ []))))

abbrev mutual
  -- the term or the formula of a tree, under the names in scope
  pub part : List Binder → Tree → Part
  part env (leaf l) = leaf_part env l
  part env (prefix p t) = prefixed p (part (inner p env) t)
  part env (binary op l r) = joined op (part env l) (part env r)
  part env (group t) = part env t
  part env (index t u) = read_at (part env t) (part env u)
  part env (call h ts t) = applied h (values env ts) (part env t)

  -- the terms of a list
  pub values : List Binder → Trees → List Term
  values env none = []
  values env (more ts t) = values env ts ++ as_term (part env t) ∷ []

-- The nest at each token, itself included: the brackets, prefixes, quantifiers and implications that are open there,
-- and of a chain of operands that is not ended its left-associating operators so far, of a read its indices so far.
-- An index counts from its bracket on, which counts too until it is closed.

-- what an operator adds behind a left operand of a level that has a number of operators in its chain
abbrev pub adds : Infix → ℕ → ℕ → ℕ
adds infixes.Implies n c = 1
adds infixes.Equal n c = 0
adds infixes.Unequal n c = 0
adds infixes.Less n c = 0
adds infixes.AtMost n c = 0
adds infixes.Greater n c = 0
adds infixes.AtLeast n c = 0
adds infixes.Or n c = cond (eqb n 2) (suc c) 1
adds infixes.And n c = cond (eqb n 3) (suc c) 1
adds infixes.Plus n c = cond (eqb n 6) (suc c) 1
adds infixes.Minus n c = cond (eqb n 6) (suc c) 1
adds infixes.Times n c = cond (eqb n 7) (suc c) 1
adds infixes.Div n c = cond (eqb n 7) (suc c) 1
adds infixes.Mod n c = cond (eqb n 7) (suc c) 1

-- the left-associating operators or the indices of a tree's outermost chain
abbrev pub chain : Tree → ℕ
chain (leaf l) = 0
chain (prefix p t) = 0
chain (binary op l r) = adds op (level l) (chain l)
chain (group t) = 0
chain (index t u) = suc (chain t)
chain (call h ts t) = 0

-- one nest at each token
abbrev pub each : ℕ → List Token → List ℕ
each d [] = []
each d (t ∷ ts) = d ∷ each d ts

abbrev mutual
  -- of a tree, with so much open round it
  pub nests : ℕ → Tree → List ℕ
  nests d (leaf l) = d ∷ []
  nests d (prefix p t) = each (suc d) (prefix_text p) ++ nests (suc d) t
  nests d (binary op l r) = nests d l ++ (d + adds op (level l) (chain l)) ∷ nests (d + adds op (level l) (chain l)) r
  nests d (group t) = suc d ∷ nests (suc d) t ++ d ∷ []
  nests d (index t u) = nests d t ++ (d + suc (suc (chain t))) ∷ (nests (d + suc (suc (chain t))) u ++ (d + suc (chain t)) ∷ [])
  nests d (call h ts t) = d ∷ suc d ∷ (each_nests (suc d) ts ++ (nests (suc d) t ++ d ∷ []))

  -- of a list of terms
  pub each_nests : ℕ → Trees → List ℕ
  each_nests d none = []
  each_nests d (more ts t) = each_nests d ts ++ (nests d t ++ d ∷ [])

-- a way to read tokens as a value of a level, 1 for formulas and 6 for terms
pub record Reads (goal : ℕ) (ts : List Token) (v : Part) : Type 0 where
  pub tree : Tree
  pub formed : IsFormed [] tree
  pub fit : IsTrue (fits goal (level tree))
  pub written : text tree ≡ ts
  pub value : part [] tree ≡ v
