-- Whether a formula keeps the rules depends on the sorts of its own predicates alone.
use Rattle.std.proofs.Common.{◌≡◌, ℕ, Bool, ◌&&◌, List, ◌∷◌, map, Option, Some, None, refl, sym, ap, ◌∙◌, subst}
use Rattle.std.specs.Option.{option_map}
use Rattle.rw_terms.specs.declared.term.Sort.{Sort}
use Rattle.rw_terms.specs.declared.term.Formula.{Formula}
use Rattle.rw_terms.specs.declared.term.Formula.TheOpen.{Formula-F}
use Rattle.rw_terms.specs.declared.term.Formula.TheViews.{roll-Formula}
use Rattle.rw_terms.specs.declared.term.Formula.TheFolds.{map-Formula, ind-Formula, fold-roll-Formula}
use Rattle.rw_terms.specs.Formed.{is_sort}
use Rattle.rw_terms.specs.Named.{Named}
use Rattle.rw_terms.specs.Rules.{are_of}
use Rattle.rw_terms.specs.Validity.{Each}
use Rattle.rw_goals.specs.declared.library.Item.{Item}
use Rattle.rw_goals.specs.Library.{parameters_of}
use Rattle.rw_goals.specs.Sorting.{takes, sort_of, keeps_step, keeps_rules}
use Rattle.rw_library.specs.Entries.{sorts_of}
use Rattle.rw_lemmas.specs.Citing.{predicates_step, predicates}
use Rattle.rw_lemmas.proofs.Within.{split}

takes_alike : (o p : Option (List Named)) (sorts : List (Option Sort)) → option_map sorts_of o ≡ option_map sorts_of p → takes o sorts ≡ takes p sorts
takes_alike None None sorts e = refl
takes_alike None (Some qs) sorts e = absurd (cc)
takes_alike (Some ps) None sorts e = absurd (cc)
takes_alike (Some ps) (Some qs) sorts e = let same : sorts_of ps ≡ sorts_of qs = cc in ap (λ ss. are_of ss sorts) same

module _ (names : List Named) (es es' : List Item) where
  abbrev pub Alike : List ℕ → Type 0
  Alike p = option_map sorts_of (parameters_of es p) ≡ option_map sorts_of (parameters_of es' p)

  abbrev Same : Formula → Type 0
  Same f = Each Alike (predicates f) → (sorts : List Sort) → keeps_rules names es f sorts ≡ keeps_rules names es' f sorts

  abbrev Layer : Type 0
  Layer = Formula-F ((f : Formula) × Same f)

  abbrev inside : Layer → Formula-F Formula
  inside = map-Formula ((f : Formula) × Same f) Formula (λ e. e.0)

  same_layer : (y : Layer) → Each Alike (predicates_step (map-Formula Formula (List (List ℕ)) predicates (inside y))) → (sorts : List Sort) →
      keeps_step names es (map-Formula Formula (List Sort → Bool) (keeps_rules names es) (inside y)) sorts
      ≡ keeps_step names es' (map-Formula Formula (List Sort → Bool) (keeps_rules names es') (inside y)) sorts
  same_layer Formula-F.True h sorts = refl
  same_layer Formula-F.False h sorts = refl
  same_layer (Formula-F.Eq t u) h sorts = refl
  same_layer (Formula-F.Less t u) h sorts = refl
  same_layer (Formula-F.AtMost t u) h sorts = refl
  same_layer (Formula-F.Not f) h sorts = f.1 h sorts
  same_layer (Formula-F.And f g) h sorts = let r = split Alike (predicates f.0) (predicates g.0) h in λ i. f.1 r.0 sorts i && g.1 r.1 sorts i
  same_layer (Formula-F.Or f g) h sorts = let r = split Alike (predicates f.0) (predicates g.0) h in λ i. f.1 r.0 sorts i && g.1 r.1 sorts i
  same_layer (Formula-F.Imp f g) h sorts = let r = split Alike (predicates f.0) (predicates g.0) h in λ i. f.1 r.0 sorts i && g.1 r.1 sorts i
  same_layer (Formula-F.All s f) h sorts = ap (λ b. is_sort s && b) (f.1 h (s ∷ sorts))
  same_layer (Formula-F.Any s f) h sorts = ap (λ b. is_sort s && b) (f.1 h (s ∷ sorts))
  same_layer (Formula-F.App p args) h sorts = takes_alike (parameters_of es p) (parameters_of es' p) (map (sort_of names sorts) args) h.0

  same_at : (y : Layer) → Same (roll-Formula (inside y))
  same_at y h sorts =
      ap (λ g. g sorts) (fold-roll-Formula (List Sort → Bool) (keeps_step names es) (inside y))
      ∙ same_layer y (subst (Each Alike) (fold-roll-Formula (List (List ℕ)) predicates_step (inside y)) h) sorts
      ∙ sym (ap (λ g. g sorts) (fold-roll-Formula (List Sort → Bool) (keeps_step names es') (inside y)))

  pub rules_alike : (f : Formula) → Same f
  rules_alike = ind-Formula Same (λ x y is. subst (λ z. Same (roll-Formula z)) is (same_at y))
