-- Trees whose leaves are tokens and whose binders are numbered by those around them.
use Rattle.std.proofs.Common.{◌≡◌, ℕ, suc, ◌≤◌, [], IsTrue}
use Rattle.rw_terms.specs.Names.{is_name}
use Rattle.rw_syntax.specs.declared.frame.Binder.TheVariants as binders
use Rattle.rw_syntax.specs.declared.frame.Prefix.{Prefix}
use Rattle.rw_syntax.specs.declared.frame.Prefix.TheVariants as prefixes
use Rattle.rw_syntax.specs.declared.frame.Head.{Head}
use Rattle.rw_syntax.specs.declared.frame.Head.TheVariants as heads
use Rattle.rw_syntax.specs.Grammar.{Leaf, number, word, initial, place, truth, Tree, leaf, prefix, binary, group, index, call, Trees, none, more, is_known, is_sort}

abbrev pub PlainLeaf : ℕ → Leaf → Type 0
PlainLeaf d (number n) = IsTrue (is_known [] (number n))
PlainLeaf d (word w) = IsTrue (is_name w)
PlainLeaf d (initial w) = IsTrue (is_name w)
PlainLeaf d (place n) = (1 ≤ n) × (n ≤ d)
PlainLeaf d (truth b) = Unit {0}

abbrev pub PlainPrefix : ℕ → Prefix → Type 0
PlainPrefix d prefixes.Minus = Unit {0}
PlainPrefix d prefixes.Not = Unit {0}
PlainPrefix d (prefixes.Bind q b s) = (b ≡ binders.Numbered (suc d)) × IsTrue (is_sort s)

-- the binders behind a prefix
abbrev pub behind : Prefix → ℕ → ℕ
behind prefixes.Minus d = d
behind prefixes.Not d = d
behind (prefixes.Bind q b s) d = suc d

abbrev pub PlainHead : Head → Type 0
PlainHead heads.Put = Unit {0}
PlainHead (heads.Named w) = IsTrue (is_name w)

abbrev mutual
  pub IsPlain : ℕ → Tree → Type 0
  IsPlain d (leaf l) = PlainLeaf d l
  IsPlain d (prefix p t) = PlainPrefix d p × IsPlain (behind p d) t
  IsPlain d (binary op l r) = IsPlain d l × IsPlain d r
  IsPlain d (group t) = IsPlain d t
  IsPlain d (index t u) = IsPlain d t × IsPlain d u
  IsPlain d (call h ts t) = PlainHead h × ArePlain d ts × IsPlain d t

  pub ArePlain : ℕ → Trees → Type 0
  ArePlain d none = Unit {0}
  ArePlain d (more ts t) = ArePlain d ts × IsPlain d t
