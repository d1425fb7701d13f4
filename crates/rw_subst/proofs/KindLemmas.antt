-- Names stand in a formula that keeps the rules as their kinds allow, and so not both as variable and as constant.
use Rattle.std.proofs.Common.{◌≡◌, ℕ, Bool, true, false, ◌&&◌, ◌||◌, is_some, List, [], ◌∷◌, map, find, Option, Some, None, refl, sym, ap, ◌∙◌, subst, true≢false}
use Rattle.std.proofs.lemmas.Bool.{and_parts}
use Rattle.std.specs.Prelude.{option_and_then}
use Rattle.std.proofs.lemmas.Slice.Eq.{bytes_eq-Decides}
use Rattle.rw_terms.specs.declared.scope.Entry.{Entry}
use Rattle.rw_terms.specs.declared.scope.Head.{Head}
use Rattle.rw_terms.specs.declared.scope.Kind.{Kind}
use Rattle.rw_terms.specs.declared.scope.Kind.TheVariants as kind
use Rattle.rw_terms.specs.declared.term.Sort.{Sort}
use Rattle.rw_terms.specs.declared.term.Sort.TheVariants.{Int, Array}
use Rattle.rw_terms.specs.declared.term.Term.{Term}
use Rattle.rw_terms.specs.declared.term.Term.TheOpen.{Term-F}
use Rattle.rw_terms.specs.declared.term.Term.TheViews.{roll-Term}
use Rattle.rw_terms.specs.declared.term.Term.TheFolds.{map-Term, ind-Term, fold-roll-Term}
use Rattle.rw_terms.specs.declared.term.Formula.{Formula}
use Rattle.rw_terms.specs.declared.term.Formula.TheOpen.{Formula-F}
use Rattle.rw_terms.specs.declared.term.Formula.TheViews.{roll-Formula}
use Rattle.rw_terms.specs.declared.term.Formula.TheFolds.{map-Formula, ind-Formula, fold-roll-Formula}
use Rattle.rw_terms.specs.Scopes.{has_name}
use Rattle.rw_terms.specs.Sorts.{as_variable, as_constant, variable_sort, constant_sort}
use Rattle.rw_terms.specs.Formed.{is_sort, is_head}
use Rattle.rw_terms.specs.Rules.{of_ints, is_of, are_of, applies, sort_step, sort_in, keeps_step, keeps_rules}
use Rattle.rw_subst.specs.declared.slot.Form.{Form}
use Rattle.rw_subst.specs.declared.slot.Form.TheVariants as form
use Rattle.rw_subst.specs.declared.slot.Slot.{Slot}
use Rattle.rw_subst.specs.declared.slot.Slot.TheVariants as slot
use Rattle.rw_subst.specs.Slots.{is_slot}
use Rattle.rw_subst.specs.Stands.{stands_step, stands_in_term, stands_in_terms, formula_stands_step, stands_in, has_slot}
use Rattle.rw_subst.specs.Kinds.{is_allowed_as, is_allowed, are_allowed, NamesHaveOneKind, NamesOfTermsHaveOneKind}
use Rattle.rw_subst.proofs.WellSorted.{int_part, int_parts, read_parts, put_parts, compared_parts, equal_parts}

-- a choice that holds, by its two sides
either : (C : Type 0) (a b : Bool) → (a ≡ true → C) → (b ≡ true → C) → (a || b) ≡ true → C
either C true b f g e = f refl
either C false b f g e = g e

some_is : (o : Option Sort) (s : Sort) → o ≡ Some s → is_some o ≡ true
some_is o s e = ap is_some e

both_kinds : (o : Option Entry) → is_some (option_and_then (λ e. as_variable e.kind e.sort) o) ≡ true → is_some (option_and_then (λ e. as_constant e.kind e.sort) o) ≡ true → ⊥
both_kinds None p q = true≢false (sym p)
both_kinds (Some e) p q = by_kind e.kind e.sort p q
  where
    by_kind : (k : Kind) (s : Sort) → is_some (as_variable k s) ≡ true → is_some (as_constant k s) ≡ true → ⊥
    by_kind kind.Constant s p q = true≢false (sym p)
    by_kind kind.Global s p q = true≢false (sym q)
    by_kind kind.Local s p q = true≢false (sym q)
    by_kind kind.Value s p q = true≢false (sym q)
    by_kind kind.Outcome s p q = true≢false (sym q)
    by_kind kind.Module s p q = true≢false (sym q)

module _ (scope : List Entry) where
  -- a name in a slot that is allowed is allowed there
  slot_allowed : (g : Form) (x : List ℕ) (s : Slot) → is_slot g x s ≡ true → is_allowed scope s ≡ true → is_allowed_as scope g x ≡ true
  slot_allowed form.Variable x (slot.Var y) e h = subst (λ z. is_some (variable_sort scope z) ≡ true) (sym ((bytes_eq-Decides x y).0 e)) h
  slot_allowed form.Variable x (slot.Init y) e h = absurd (true≢false (sym e))
  slot_allowed form.Variable x (slot.Const y) e h = absurd (true≢false (sym e))
  slot_allowed form.Initial x (slot.Init y) e h = subst (λ z. is_some (variable_sort scope z) ≡ true) (sym ((bytes_eq-Decides x y).0 e)) h
  slot_allowed form.Initial x (slot.Var y) e h = absurd (true≢false (sym e))
  slot_allowed form.Initial x (slot.Const y) e h = absurd (true≢false (sym e))
  slot_allowed form.Constant x (slot.Const y) e h = subst (λ z. is_some (constant_sort scope z) ≡ true) (sym ((bytes_eq-Decides x y).0 e)) h
  slot_allowed form.Constant x (slot.Var y) e h = absurd (true≢false (sym e))
  slot_allowed form.Constant x (slot.Init y) e h = absurd (true≢false (sym e))

  slots_allowed : (g : Form) (x : List ℕ) (ss : List Slot) → are_allowed scope ss ≡ true → has_slot g x ss ≡ true → is_allowed_as scope g x ≡ true
  slots_allowed g x [] h e = absurd (true≢false (sym e))
  slots_allowed g x (s ∷ ss) h e =
      either (is_allowed_as scope g x ≡ true) (is_slot g x s) (has_slot g x ss) (λ p. slot_allowed g x s p (and_parts (is_allowed scope s) (are_allowed scope ss) h).0)
      (slots_allowed g x ss (and_parts (is_allowed scope s) (are_allowed scope ss) h).1) e

  module _ (g : Form) (x : List ℕ) where
    abbrev Allowed : Type 0
    Allowed = is_allowed_as scope g x ≡ true

    module _ (binders : List Sort) where
      abbrev sort_of : Term → Option Sort
      sort_of = sort_in scope binders

      abbrev stands : Term → Bool
      stands = stands_in_term g x

      abbrev TermClaim : Term → Type 0
      TermClaim t = (s : Sort) → sort_of t ≡ Some s → stands t ≡ true → Allowed

      abbrev TermLayer : Type 0
      TermLayer = Term-F ((t : Term) × TermClaim t)

      abbrev under : TermLayer → Term-F Term
      under = map-Term ((t : Term) × TermClaim t) Term (λ e. e.0)

      two : (a b : (t : Term) × TermClaim t) (s : Sort) → of_ints (sort_of a.0) (sort_of b.0) ≡ Some s → (stands a.0 || stands b.0) ≡ true → Allowed
      two a b s e h = let parts = int_parts _ _ s e in either Allowed (stands a.0) (stands b.0) (a.1 Int parts.0) (b.1 Int parts.1) h

      term_layer : (y : TermLayer) (s : Sort) → sort_step scope binders (map-Term Term (Option Sort) sort_of (under y)) ≡ Some s → stands_step g x (map-Term Term Bool stands (under y)) ≡ true → Allowed
      term_layer (Term-F.Lit n) s e h = absurd (true≢false (sym h))
      term_layer (Term-F.Var n) s e h = slot_allowed g x (slot.Var n) h (some_is (variable_sort scope n) s e)
      term_layer (Term-F.Init n) s e h = slot_allowed g x (slot.Init n) h (some_is (variable_sort scope n) s e)
      term_layer (Term-F.Const n) s e h = slot_allowed g x (slot.Const n) h (some_is (constant_sort scope n) s e)
      term_layer (Term-F.Bound k) s e h = absurd (true≢false (sym h))
      term_layer (Term-F.Neg a) s e h = a.1 Int (int_part _ s e) h
      term_layer (Term-F.Add a b) s e h = two a b s e h
      term_layer (Term-F.Sub a b) s e h = two a b s e h
      term_layer (Term-F.Mul a b) s e h = two a b s e h
      term_layer (Term-F.Div a b) s e h = two a b s e h
      term_layer (Term-F.Mod a b) s e h = two a b s e h
      term_layer (Term-F.Read a i) s e h =
          let parts = read_parts _ _ s e in either Allowed (stands a.0) (stands i.0) (a.1 (Array parts.length) parts.array) (i.1 Int parts.index) h
      term_layer (Term-F.Put a i z) s e h =
          let parts = put_parts _ _ _ s e in
          either Allowed (stands a.0) (stands i.0 || stands z.0) (a.1 (Array parts.length) parts.array) (either Allowed (stands i.0) (stands z.0) (i.1 Int parts.index) (z.1 Int parts.item)) h
      term_layer (Term-F.Fun f args) s e h = absurd (cc)

      term_at : (y : TermLayer) → TermClaim (roll-Term (under y))
      term_at y s e h =
          term_layer y s (sym (fold-roll-Term (Option Sort) (sort_step scope binders) (under y)) ∙ e) (sym (fold-roll-Term Bool (stands_step g x) (under y)) ∙ h)

      pub term_allowed : (t : Term) → TermClaim t
      term_allowed = ind-Term TermClaim (λ u y is. subst (λ z. TermClaim (roll-Term z)) is (term_at y))

      has_sort : (s : Sort) (o : Option Sort) → is_of s o ≡ true → (t : Sort) × (o ≡ Some t)
      has_sort s None e = absurd (true≢false (sym e))
      has_sort s (Some t) e = (t, refl)

      terms_allowed : (ss : List Sort) (ts : List Term) → are_of ss (map sort_of ts) ≡ true → stands_in_terms g x ts ≡ true → Allowed
      terms_allowed ss [] e h = absurd (true≢false (sym h))
      terms_allowed [] (t ∷ ts) e h = absurd (true≢false (sym e))
      terms_allowed (s ∷ ss) (t ∷ ts) e h =
          let given = has_sort s (sort_of t) (and_parts (is_of s (sort_of t)) (are_of ss (map sort_of ts)) e).0 in
          either Allowed (stands t) (stands_in_terms g x ts) (term_allowed t given.0 given.1) (terms_allowed ss ts (and_parts (is_of s (sort_of t)) (are_of ss (map sort_of ts)) e).1) h

      args_allowed : (o : Option Head) (ts : List Term) → applies o (map sort_of ts) ≡ true → stands_in_terms g x ts ≡ true → Allowed
      args_allowed None ts e h = absurd (true≢false (sym e))
      args_allowed (Some head) ts e h = terms_allowed head.sorts ts e h

      compared : (t u : Term) → is_some (of_ints (sort_of t) (sort_of u)) ≡ true → (stands t || stands u) ≡ true → Allowed
      compared t u e h = let parts = compared_parts _ _ e in either Allowed (stands t) (stands u) (term_allowed t Int parts.0) (term_allowed u Int parts.1) h

    module _ (heads : List Head) where
      abbrev keeps : Formula → List Sort → Bool
      keeps = keeps_rules scope heads

      abbrev has : Formula → Bool
      has = stands_in g x

      abbrev Claim : Formula → Type 0
      Claim f = (binders : List Sort) → keeps f binders ≡ true → has f ≡ true → Allowed

      abbrev Layer : Type 0
      Layer = Formula-F ((f : Formula) × Claim f)

      abbrev inside : Layer → Formula-F Formula
      inside = map-Formula ((f : Formula) × Claim f) Formula (λ e. e.0)

      both : (f k : (f : Formula) × Claim f) (binders : List Sort) → (keeps f.0 binders && keeps k.0 binders) ≡ true → (has f.0 || has k.0) ≡ true → Allowed
      both f k binders e h =
          either Allowed (has f.0) (has k.0) (f.1 binders (and_parts (keeps f.0 binders) (keeps k.0 binders) e).0) (k.1 binders (and_parts (keeps f.0 binders) (keeps k.0 binders) e).1) h

      layer : (y : Layer) (binders : List Sort) → keeps_step scope heads (map-Formula Formula (List Sort → Bool) keeps (inside y)) binders ≡ true → formula_stands_step g x (map-Formula Formula Bool has (inside y)) ≡ true → Allowed
      layer Formula-F.True binders e h = absurd (true≢false (sym h))
      layer Formula-F.False binders e h = absurd (true≢false (sym h))
      layer (Formula-F.Eq t u) binders e h =
          let parts = equal_parts _ _ e in
          either Allowed (stands_in_term g x t) (stands_in_term g x u) (term_allowed binders t parts.0.0 parts.0.1) (term_allowed binders u parts.1.0 parts.1.1) h
      layer (Formula-F.Less t u) binders e h = compared binders t u e h
      layer (Formula-F.AtMost t u) binders e h = compared binders t u e h
      layer (Formula-F.Not f) binders e h = f.1 binders e h
      layer (Formula-F.And f k) binders e h = both f k binders e h
      layer (Formula-F.Or f k) binders e h = both f k binders e h
      layer (Formula-F.Imp f k) binders e h = both f k binders e h
      layer (Formula-F.All s f) binders e h = f.1 (s ∷ binders) (and_parts (is_sort s) (keeps f.0 (s ∷ binders)) e).1 h
      layer (Formula-F.Any s f) binders e h = f.1 (s ∷ binders) (and_parts (is_sort s) (keeps f.0 (s ∷ binders)) e).1 h
      layer (Formula-F.App p args) binders e h = args_allowed binders (find (is_head p) heads) args e h

      formula_at : (y : Layer) → Claim (roll-Formula (inside y))
      formula_at y binders e h =
          layer y binders (sym (λ i. fold-roll-Formula (List Sort → Bool) (keeps_step scope heads) (inside y) i binders) ∙ e) (sym (fold-roll-Formula Bool (formula_stands_step g x) (inside y)) ∙ h)

      pub formula_allowed : (f : Formula) → Claim f
      formula_allowed = ind-Formula Claim (λ u y is. subst (λ z. Claim (roll-Formula z)) is (formula_at y))

  -- in a formula and slots that keep to the kinds, each name stands as its kind allows
  all_allowed : (heads : List Head) (f : Formula) (binders : List Sort) (slots : List Slot) → keeps_rules scope heads f binders ≡ true → are_allowed scope slots ≡ true → (g : Form) (x : List ℕ) →
      (stands_in g x f || has_slot g x slots) ≡ true → is_allowed_as scope g x ≡ true
  all_allowed heads f binders slots kept allowed g x =
      either (is_allowed_as scope g x ≡ true) (stands_in g x f) (has_slot g x slots) (formula_allowed g x heads f binders kept) (slots_allowed g x slots allowed)

pub names_of_terms_have_one_kind : NamesOfTermsHaveOneKind
names_of_terms_have_one_kind scope t binders sort slots given allowed x p q =
    both_kinds (find (has_name x) scope)
    (either (is_allowed_as scope form.Variable x ≡ true) (stands_in_term form.Variable x t) (has_slot form.Variable x slots) (term_allowed scope form.Variable x binders t sort given) (slots_allowed scope form.Variable x slots allowed) p)
    (either (is_allowed_as scope form.Constant x ≡ true) (stands_in_term form.Constant x t) (has_slot form.Constant x slots) (term_allowed scope form.Constant x binders t sort given) (slots_allowed scope form.Constant x slots allowed) q)

pub names_have_one_kind : NamesHaveOneKind
names_have_one_kind scope heads f binders slots kept allowed x p q =
    both_kinds (find (has_name x) scope) (all_allowed scope heads f binders slots kept allowed form.Variable x p) (all_allowed scope heads f binders slots kept allowed form.Constant x q)
