-- Definitions that are in order do not reach themselves.
use Rattle.std.proofs.Common.{◌≡◌, ℕ, zero, suc, Bool, true, ◌&&◌, List, [], ◌∷◌, ◌++◌, map, take, drop, Option, Some, None, refl, sym, ap, ◌∙◌, subst, true≢false}
use Rattle.std.specs.Prelude.{is_some, slice_get}
use Rattle.std.proofs.lemmas.Bool.{and_parts}
use Rattle.std.proofs.lemmas.List.{take-append-drop, append_assoc, append-nil}
use Rattle.rw_terms.specs.declared.term.Sort.{Sort}
use Rattle.rw_terms.specs.declared.term.Formula.{Formula}
use Rattle.rw_terms.specs.declared.term.Formula.TheOpen.{Formula-F}
use Rattle.rw_terms.specs.declared.term.Formula.TheViews.{roll-Formula}
use Rattle.rw_terms.specs.declared.term.Formula.TheFolds.{map-Formula, ind-Formula, fold-roll-Formula}
use Rattle.rw_terms.specs.Formed.{is_sort}
use Rattle.rw_terms.specs.Named.{Named}
use Rattle.rw_terms.specs.Validity.{Each}
use Rattle.rw_goals.specs.declared.library.Item.{Item}
use Rattle.rw_goals.specs.declared.library.Item.TheVariants as item
use Rattle.rw_goals.specs.Library.{parameters_in, parameters_of, or_else}
use Rattle.rw_goals.specs.Sorting.{takes, sort_of, keeps_step, keeps_rules}
use Rattle.rw_goals.proofs.Sound.{joined}
use Rattle.rw_citations.specs.WellMade.{AreMade}
use Rattle.rw_lemmas.specs.Citing.{predicates_step, predicates}
use Rattle.rw_lemmas.specs.Affected.{IsClosed, Reaches}
use Rattle.rw_lemmas.specs.Sound.{NoneReachesItself}
use Rattle.rw_lemmas.proofs.Changed.{each_map}

-- whether a predicate is defined
abbrev is_defined : List Item → List ℕ → Bool
is_defined es p = is_some (parameters_of es p)

-- a formula that keeps the rules has predicates alone that are defined
module _ (names : List Named) (es : List Item) where
  abbrev Defined : List ℕ → Type 0
  Defined p = is_defined es p ≡ true

  abbrev Known : Formula → Type 0
  Known f = (sorts : List Sort) → keeps_rules names es f sorts ≡ true → Each Defined (predicates f)

  abbrev Layer : Type 0
  Layer = Formula-F ((f : Formula) × Known f)

  abbrev inside : Layer → Formula-F Formula
  inside = map-Formula ((f : Formula) × Known f) Formula (λ e. e.0)

  taken : (o : Option (List Named)) (sorts : List (Option Sort)) → takes o sorts ≡ true → is_some o ≡ true
  taken None sorts e = absurd (true≢false (sym e))
  taken (Some params) sorts e = refl

  two_known : (f g : Formula) → Known f → Known g → (sorts : List Sort) → (keeps_rules names es f sorts && keeps_rules names es g sorts) ≡ true → Each Defined (predicates f ++ predicates g)
  two_known f g h k sorts e = let r = and_parts _ _ e in joined Defined (predicates f) (predicates g) (h sorts r.0) (k sorts r.1)

  known_layer : (y : Layer) (sorts : List Sort) → keeps_step names es (map-Formula Formula (List Sort → Bool) (keeps_rules names es) (inside y)) sorts ≡ true →
      Each Defined (predicates_step (map-Formula Formula (List (List ℕ)) predicates (inside y)))
  known_layer Formula-F.True sorts e = tt
  known_layer Formula-F.False sorts e = tt
  known_layer (Formula-F.Eq t u) sorts e = tt
  known_layer (Formula-F.Less t u) sorts e = tt
  known_layer (Formula-F.AtMost t u) sorts e = tt
  known_layer (Formula-F.Not f) sorts e = f.1 sorts e
  known_layer (Formula-F.And f g) sorts e = two_known f.0 g.0 f.1 g.1 sorts e
  known_layer (Formula-F.Or f g) sorts e = two_known f.0 g.0 f.1 g.1 sorts e
  known_layer (Formula-F.Imp f g) sorts e = two_known f.0 g.0 f.1 g.1 sorts e
  known_layer (Formula-F.All s f) sorts e = f.1 (s ∷ sorts) (and_parts (is_sort s) _ e).1
  known_layer (Formula-F.Any s f) sorts e = f.1 (s ∷ sorts) (and_parts (is_sort s) _ e).1
  known_layer (Formula-F.App p args) sorts e = (taken (parameters_of es p) (map (sort_of names sorts) args) e, tt)

  known_at : (y : Layer) → Known (roll-Formula (inside y))
  known_at y sorts e =
      subst (Each Defined) (sym (fold-roll-Formula (List (List ℕ)) predicates_step (inside y)))
      (known_layer y sorts (sym (ap (λ g. g sorts) (fold-roll-Formula (List Sort → Bool) (keeps_step names es) (inside y))) ∙ e))

  known : (f : Formula) → Known f
  known = ind-Formula Known (λ x y is. subst (λ z. Known (roll-Formula z)) is (known_at y))

-- more entries define no less
still_defined : (es more : List Item) (p : List ℕ) → is_defined es p ≡ true → is_defined (es ++ more) p ≡ true
still_defined [] more p e = absurd (true≢false (sym e))
still_defined (d ∷ es) more p e = go (parameters_in d p) e (still_defined es more p)
  where
    go : (o : Option (List Named)) → is_some (or_else o (parameters_of es p)) ≡ true → (is_defined es p ≡ true → is_defined (es ++ more) p ≡ true) → is_some (or_else o (parameters_of (es ++ more) p)) ≡ true
    go None e ih = ih e
    go (Some ps) e ih = refl

-- what a list defines is closed under its own definitions, and says nothing of those behind it
module _ (all front : List Item) where
  abbrev has : List ℕ → Bool
  has = is_defined front

  behind : (seen back : List Item) → AreMade all (front ++ seen) back → IsClosed back has
  behind seen [] m = tt
  behind seen (item.Lemma l ∷ back) m = behind (seen ++ item.Lemma l ∷ []) back (subst (λ b. AreMade all b back) (append_assoc front seen (item.Lemma l ∷ [])) m.1)
  behind seen (item.Definition d ∷ back) m =
      (λ e. absurd (true≢false (sym (still_defined front seen d.name e) ∙ ap is_some m.0.0)), behind (seen ++ item.Definition d ∷ []) back (subst (λ b. AreMade all b back) (append_assoc front seen (item.Definition d ∷ [])) m.1))

  among : (before rest : List Item) → before ++ rest ≡ front → AreMade all before rest → IsClosed rest has
  among before [] is m = tt
  among before (item.Lemma l ∷ rest) is m = among (before ++ item.Lemma l ∷ []) rest (append_assoc before (item.Lemma l ∷ []) rest ∙ is) m.1
  among before (item.Definition d ∷ rest) is m = (
    λ e.
        each_map (λ p. is_defined before p ≡ true) (λ p. has p ≡ true) (predicates d.body) (λ p k. subst (λ es. is_defined es p ≡ true) is (still_defined before (item.Definition d ∷ rest) p k))
        (known d.params before d.body [] m.0.1),
    among (before ++ item.Definition d ∷ []) rest (append_assoc before (item.Definition d ∷ []) rest ∙ is) m.1,
  )

  closed_both : (es back : List Item) → IsClosed es has → IsClosed back has → IsClosed (es ++ back) has
  closed_both [] back h k = k
  closed_both (item.Lemma l ∷ es) back h k = closed_both es back h k
  closed_both (item.Definition d ∷ es) back h k = (h.0, closed_both es back h.1 k)

-- the entries before a place and those from there on
made_parts : (all before es more : List Item) → AreMade all before (es ++ more) → AreMade all before es × AreMade all (before ++ es) more
made_parts all before [] more m = (tt, subst (λ b. AreMade all b more) (sym (append-nil before)) m)
made_parts all before (e ∷ es) more m =
    let r = made_parts all (before ++ e ∷ []) es more m.1 in ((m.0, r.0), subst (λ b. AreMade all b more) (append_assoc before (e ∷ []) es) r.1)

from_place : (es : List Item) (k : ℕ) (e : Item) → slice_get es k ≡ Some e → (back : List Item) × (drop k es ≡ e ∷ back)
from_place [] k e h = absurd (cc)
from_place (d ∷ es) zero e h = let same : d ≡ e = cc in (es, ap (λ x. x ∷ es) same)
from_place (d ∷ es) (suc k) e h = from_place es k e h

pub none_reaches_itself : NoneReachesItself
none_reaches_itself library k d made there =
    let front = take k library.entries in
    let p = from_place library.entries k (item.Definition d) there in
    let split : front ++ (item.Definition d ∷ p.0) ≡ library.entries = ap (λ l. front ++ l) (sym p.1) ∙ take-append-drop k library.entries in
    let m = made_parts library.entries [] front (item.Definition d ∷ p.0) (subst (AreMade library.entries []) (sym split) made) in
    let c : IsClosed library.entries (has library.entries front) =
    subst (λ es. IsClosed es (has library.entries front)) split
    (closed_both library.entries front front (item.Definition d ∷ p.0) (among library.entries front [] front refl m.0)
    (behind library.entries front [] (item.Definition d ∷ p.0) (subst (λ b. AreMade library.entries b (item.Definition d ∷ p.0)) (sym (append-nil front)) m.1)))
    in
    each_map (λ q. is_defined front q ≡ true) (λ q. Reaches library.entries q d.name → ⊥) (predicates d.body) (λ q e r. true≢false (sym (r (has library.entries front) c e) ∙ ap is_some m.1.0.0))
    (known d.params front d.body [] m.1.0.1)
