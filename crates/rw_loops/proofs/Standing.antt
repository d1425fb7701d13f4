-- Where a formula holds depends on the names that stand in it, each in its form, and on nothing else.
use Rattle.std.proofs.Common.{◌≡◌, ℕ, suc, Bool, true, false, not, ◌||◌, List, [], ◌∷◌, map, slice_get, refl, sym, ap, ◌∙◌, subst, true≢false, reverse}
use Rattle.std.proofs.lemmas.Bool.{or_parts}
use Rattle.std.proofs.lemmas.Slice.Eq.{bytes_eq-Decides}
use Rattle.rw_terms.specs.declared.term.Term.{Term}
use Rattle.rw_terms.specs.declared.term.Term.TheVariants.{Bound}
use Rattle.rw_terms.specs.declared.term.Term.TheOpen.{Term-F}
use Rattle.rw_terms.specs.declared.term.Term.TheViews.{roll-Term}
use Rattle.rw_terms.specs.declared.term.Term.TheFolds.{map-Term, ind-Term, fold-roll-Term}
use Rattle.rw_terms.specs.declared.term.Formula.{Formula}
use Rattle.rw_terms.specs.declared.term.Formula.TheOpen.{Formula-F}
use Rattle.rw_terms.specs.declared.term.Formula.TheViews.{roll-Formula}
use Rattle.rw_terms.specs.declared.term.Formula.TheFolds.{map-Formula, ind-Formula, fold-roll-Formula}
use Rattle.rw_terms.specs.State.{Value, given}
use Rattle.rw_terms.specs.Truth.{Definition}
use Rattle.rw_subst.specs.declared.slot.Form.{Form}
use Rattle.rw_subst.specs.declared.slot.Form.TheVariants as form
use Rattle.rw_subst.specs.Replaced.{changed_leaves}
use Rattle.rw_subst.specs.Looks.{Looks, value_of, holds_of, in_states}
use Rattle.rw_subst.specs.Stands.{stands_step, stands_in_term, stands_in_terms, formula_stands_step, stands_in}
use Rattle.rw_subst.proofs.ClosedTerms.{plain_value, binder_value}
use Rattle.rw_subst.proofs.Rebuilding.{kept_formula}
use Rattle.rw_faults.specs.Initial.{is_listed, outside_step, term_outside, terms_outside, formula_outside_step, initial_outside}
use Rattle.rw_programs.specs.State.{State, Holds}

abbrev pub SameBinders : ℕ → List Value → List Value → Type 0
SameBinders k b b' = b ≡ b'

inside : (k : ℕ) (b b' : List Value) (w : Value) → SameBinders k b b' → SameBinders (suc k) (w ∷ b) (w ∷ b')
inside k b b' w r = ap (λ l. w ∷ l) r

pub binders_fit : (looks : Looks) (k : ℕ) (b b' : List Value) → SameBinders k b b' → (j : ℕ) → value_of looks b (Bound j) ≡ given (slice_get b' j)
binders_fit looks k b b' r j = binder_value looks b j ∙ ap (λ l. given (slice_get l j)) r

-- look-ups that agree on what stands in a formula give it one truth
looks_agree : (definitions : List Definition) (f : Formula) (looks looks' : Looks) → ((g : Form) (x : List ℕ) → stands_in g x f ≡ true → looks g x ≡ looks' g x) → holds_of definitions looks f [] → holds_of definitions looks' f []
looks_agree definitions f looks looks' agree h =
    let test = λ (g : Form) (x : List ℕ). stands_in g x f in
    let old = kept_formula (changed_leaves []) looks looks test SameBinders (λ k b b' r g x s. plain_value looks b g x) (binders_fit looks) inside definitions f (λ g x s. s) 0 [] [] refl in
    let new = kept_formula (changed_leaves []) looks looks' test SameBinders (λ k b b' r g x s. plain_value looks b g x ∙ agree g x s) (binders_fit looks) inside definitions f (λ g x s. s) 0 [] [] refl in
    new.0 (old.1 h)

-- states that agree on what stands in a formula give it one truth
pub states_agree : (library : List Definition) (f : Formula) (s0 s t0 t : State) → ((g : Form) (x : List ℕ) → stands_in g x f ≡ true → in_states s0.own s.own g x ≡ in_states t0.own t.own g x) →
    Holds library f s0 s → Holds library f t0 t
states_agree library f s0 s t0 t agree h = looks_agree (reverse library) f (in_states s0.own s.own) (in_states t0.own t.own) agree h

either : (C : Type 0) (a b : Bool) → (a ≡ true → C) → (b ≡ true → C) → (a || b) ≡ true → C
either C true b f g e = f refl
either C false b f g e = g e

not_false : (a : Bool) → not a ≡ false → a ≡ true
not_false true e = refl
not_false false e = absurd (true≢false e)

-- the initial variables that stand where none stands of a name outside a list are of the list
module _ (names : List (List ℕ)) (x : List ℕ) where
  abbrev Listed : Type 0
  Listed = is_listed names x ≡ true

  abbrev has : Term → Bool
  has = stands_in_term form.Initial x

  abbrev out : Term → Bool
  out = term_outside names

  abbrev TermClaim : Term → Type 0
  TermClaim t = has t ≡ true → out t ≡ false → Listed

  abbrev TermLayer : Type 0
  TermLayer = Term-F ((t : Term) × TermClaim t)

  abbrev under : TermLayer → Term-F Term
  under = map-Term ((t : Term) × TermClaim t) Term (λ e. e.0)

  two : (a b : (t : Term) × TermClaim t) → (has a.0 || has b.0) ≡ true → (out a.0 || out b.0) ≡ false → Listed
  two a b h o = either Listed (has a.0) (has b.0) (λ k. a.1 k (or_parts (out a.0) (out b.0) o).0) (λ k. b.1 k (or_parts (out a.0) (out b.0) o).1) h

  many : (ts : List ((t : Term) × TermClaim t)) → stands_in_terms form.Initial x (map (λ e. e.0) ts) ≡ true → terms_outside names (map (λ e. e.0) ts) ≡ false → Listed
  many [] h o = absurd (true≢false (sym h))
  many (t ∷ ts) h o =
      let rest = map (λ (e : (t : Term) × TermClaim t). e.0) ts in
      either Listed (has t.0) (stands_in_terms form.Initial x rest) (λ k. t.1 k (or_parts (out t.0) (terms_outside names rest) o).0) (λ k. many ts k (or_parts (out t.0) (terms_outside names rest) o).1) h

  term_layer : (y : TermLayer) → stands_step form.Initial x (map-Term Term Bool has (under y)) ≡ true → outside_step names (map-Term Term Bool out (under y)) ≡ false → Listed
  term_layer (Term-F.Lit n) h o = absurd (true≢false (sym h))
  term_layer (Term-F.Var z) h o = absurd (true≢false (sym h))
  term_layer (Term-F.Init z) h o = subst (λ w. is_listed names w ≡ true) (sym ((bytes_eq-Decides x z).0 h)) (not_false _ o)
  term_layer (Term-F.Const z) h o = absurd (true≢false (sym h))
  term_layer (Term-F.Bound k) h o = absurd (true≢false (sym h))
  term_layer (Term-F.Neg a) h o = a.1 h o
  term_layer (Term-F.Add a b) h o = two a b h o
  term_layer (Term-F.Sub a b) h o = two a b h o
  term_layer (Term-F.Mul a b) h o = two a b h o
  term_layer (Term-F.Div a b) h o = two a b h o
  term_layer (Term-F.Mod a b) h o = two a b h o
  term_layer (Term-F.Read a b) h o = two a b h o
  term_layer (Term-F.Put a b c) h o =
      let front = (or_parts (out a.0 || out b.0) (out c.0) o).0 in
      either Listed (has a.0) (has b.0 || has c.0) (λ k. a.1 k (or_parts (out a.0) (out b.0) front).0)
      (either Listed (has b.0) (has c.0) (λ k. b.1 k (or_parts (out a.0) (out b.0) front).1) (λ k. c.1 k (or_parts (out a.0 || out b.0) (out c.0) o).1)) h
  term_layer (Term-F.Fun f args) h o = many args h o

  term_at : (y : TermLayer) → TermClaim (roll-Term (under y))
  term_at y h o = term_layer y (sym (fold-roll-Term Bool (stands_step form.Initial x) (under y)) ∙ h) (sym (fold-roll-Term Bool (outside_step names) (under y)) ∙ o)

  pub term_listed : (t : Term) → TermClaim t
  term_listed = ind-Term TermClaim (λ u y is. subst (λ z. TermClaim (roll-Term z)) is (term_at y))

  terms : (t u : Term) → (has t || has u) ≡ true → (out t || out u) ≡ false → Listed
  terms t u = two (t, term_listed t) (u, term_listed u)

  all_terms : (ts : List Term) → stands_in_terms form.Initial x ts ≡ true → terms_outside names ts ≡ false → Listed
  all_terms [] h o = absurd (true≢false (sym h))
  all_terms (t ∷ ts) h o =
      either Listed (has t) (stands_in_terms form.Initial x ts) (λ k. term_listed t k (or_parts (out t) (terms_outside names ts) o).0) (λ k. all_terms ts k (or_parts (out t) (terms_outside names ts) o).1) h

  abbrev stands : Formula → Bool
  stands = stands_in form.Initial x

  abbrev outside : Formula → Bool
  outside = initial_outside names

  abbrev Claim : Formula → Type 0
  Claim f = stands f ≡ true → outside f ≡ false → Listed

  abbrev Layer : Type 0
  Layer = Formula-F ((f : Formula) × Claim f)

  abbrev parts : Layer → Formula-F Formula
  parts = map-Formula ((f : Formula) × Claim f) Formula (λ e. e.0)

  both : (f g : (f : Formula) × Claim f) → (stands f.0 || stands g.0) ≡ true → (outside f.0 || outside g.0) ≡ false → Listed
  both f g h o =
      either Listed (stands f.0) (stands g.0) (λ k. f.1 k (or_parts (outside f.0) (outside g.0) o).0) (λ k. g.1 k (or_parts (outside f.0) (outside g.0) o).1) h

  layer : (y : Layer) → formula_stands_step form.Initial x (map-Formula Formula Bool stands (parts y)) ≡ true → formula_outside_step names (map-Formula Formula Bool outside (parts y)) ≡ false → Listed
  layer Formula-F.True h o = absurd (true≢false (sym h))
  layer Formula-F.False h o = absurd (true≢false (sym h))
  layer (Formula-F.Eq t u) h o = terms t u h o
  layer (Formula-F.Less t u) h o = terms t u h o
  layer (Formula-F.AtMost t u) h o = terms t u h o
  layer (Formula-F.Not f) h o = f.1 h o
  layer (Formula-F.And f g) h o = both f g h o
  layer (Formula-F.Or f g) h o = both f g h o
  layer (Formula-F.Imp f g) h o = both f g h o
  layer (Formula-F.All s f) h o = f.1 h o
  layer (Formula-F.Any s f) h o = f.1 h o
  layer (Formula-F.App p args) h o = all_terms args h o

  formula_at : (y : Layer) → Claim (roll-Formula (parts y))
  formula_at y h o = layer y (sym (fold-roll-Formula Bool (formula_stands_step form.Initial x) (parts y)) ∙ h) (sym (fold-roll-Formula Bool (formula_outside_step names) (parts y)) ∙ o)

  pub initial_listed : (f : Formula) → Claim f
  initial_listed = ind-Formula Claim (λ u y is. subst (λ z. Claim (roll-Formula z)) is (formula_at y))

-- a formula without initial variables does not look at the initial state
pub initial_free : (library : List Definition) (f : Formula) → initial_outside [] f ≡ false → (s0 t0 s : State) → Holds library f s0 s → Holds library f t0 s
initial_free library f free s0 t0 s = states_agree library f s0 s t0 s agree
  where
    agree : (g : Form) (x : List ℕ) → stands_in g x f ≡ true → in_states s0.own s.own g x ≡ in_states t0.own s.own g x
    agree form.Variable x h = refl
    agree form.Initial x h = absurd (true≢false (sym (initial_listed [] x f h free)))
    agree form.Constant x h = refl
