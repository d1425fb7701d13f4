-- States with a value for a name that a goal does not have.
use Rattle.std.proofs.Common.{◌≡◌, ◌↔◌, ℕ, ◌||◌, Bool, true, false, cond, if◌then◌else◌, List, [], ◌∷◌, ◌++◌, find, Option, Some, None, refl, sym, ◌∙◌, ap, subst, bytes_eq, true≢false, IsTrue}
use Rattle.std.proofs.lemmas.Bool.{or_parts}
use Rattle.std.specs.List.{list_any}
use Rattle.std.proofs.lemmas.Slice.Eq.{bytes_eq-Decides}
use Rattle.rw_terms.specs.declared.term.Sort.{Sort}
use Rattle.rw_terms.specs.declared.term.Term.TheVariants as v
use Rattle.rw_terms.specs.declared.term.Term.TheOpen.{Term-F}
use Rattle.rw_terms.specs.declared.term.Term.TheFolds.{fold-roll-Term}
use Rattle.rw_terms.specs.declared.term.Formula.{Formula}
use Rattle.rw_terms.specs.Mentions.{formula_mentions, formulas_mention}
use Rattle.rw_terms.specs.Named.{Named, is_named}
use Rattle.rw_terms.specs.State.{Value, State, given, value_in, HasSort, with_value}
use Rattle.rw_terms.specs.Value.{value, value_step}
use Rattle.rw_terms.specs.Truth.{Definition, holds}
use Rattle.rw_terms.specs.Validity.{Each, FitsNamed, FitsNames}
use Rattle.rw_terms.proofs.Agree.{truth_ignores}

abbrev pub Unmentioned : List ℕ → Formula → Type 0
Unmentioned y f = ¬ (IsTrue (formula_mentions y f))

pub unmentioned : (y : List ℕ) (fs : List Formula) → formulas_mention y fs ≡ false → Each (Unmentioned y) fs
unmentioned y [] e = tt
unmentioned y (f ∷ fs) e = (λ t. true≢false (sym t ∙ (or_parts _ _ e).0), unmentioned y fs (or_parts (formula_mentions y f) _ e).1)

not_first : (b : Bool) (m : Named) (o : Option Named) (c : Bool) → (b || c) ≡ false → (c ≡ false → o ≡ None) → cond b (Some m) o ≡ None
not_first true m o c e k = absurd (true≢false e)
not_first false m o c e k = k e

pub unnamed : (y : List ℕ) (names : List Named) → list_any (is_named y) names ≡ false → find (is_named y) names ≡ None
unnamed y [] e = refl
unnamed y (n ∷ ns) e = not_first (is_named y n) n _ _ e (unnamed y ns)

-- what is found with one name more
first_false : (b : Bool) (m : Named) (o p : Option Named) (r : Option Named) → cond b (Some m) o ≡ None → (o ≡ None → p ≡ r) → cond b (Some m) p ≡ r
first_false true m o p r e k = absurd (cc)
first_false false m o p r e k = k e

found_new : (x : List ℕ) (names : List Named) (n : Named) → find (is_named x) names ≡ None → find (is_named x) (names ++ n ∷ []) ≡ cond (bytes_eq n.0 x) (Some n) None
found_new x [] n e = refl
found_new x (m ∷ ms) n e = first_false (is_named x m) m _ _ _ e (found_new x ms n)

found_old : (x : List ℕ) (names : List Named) (n : Named) → bytes_eq n.0 x ≡ false → find (is_named x) (names ++ n ∷ []) ≡ find (is_named x) names
found_old x [] n e = ap (λ b. cond b (Some n) None) e
found_old x (m ∷ ms) n e = ap (cond (is_named x m) (Some m)) (found_old x ms n e)

module _ (y : List ℕ) (sort : Sort) (w : Value) (k : HasSort w sort) (names : List Named) (fresh : find (is_named y) names ≡ None) where
  abbrev new_name : Named
  new_name = (y, sort)

  fits_at : (s : State) → FitsNames names s → (x : List ℕ) (b : Bool) → bytes_eq y x ≡ b → FitsNamed (find (is_named x) (names ++ new_name ∷ [])) (if b then Some w else s x)
  fits_at s f x true e =
      let same : y ≡ x = (bytes_eq-Decides y x).0 e in
      let there : find (is_named x) (names ++ new_name ∷ []) ≡ Some new_name =
      found_new x names new_name (subst (λ z. find (is_named z) names ≡ None) same fresh) ∙ ap (λ b. cond b (Some new_name) None) e in
      subst (λ o. FitsNamed o (Some w)) (sym there) k
  fits_at s f x false e = subst (λ o. FitsNamed o (s x)) (sym (found_old x names new_name e)) (f x)

  -- a state that fits the names fits one name more, with a value of its sort
  pub fits_more : (s : State) → FitsNames names s → FitsNames (names ++ new_name ∷ []) (with_value y w s)
  fits_more s f x = fits_at s f x (bytes_eq y x) refl

has_it : (y : List ℕ) (w : Value) (s : State) → value_in (with_value y w s) y ≡ w
has_it y w s = ap (λ b. given (if b then Some w else s y)) ((bytes_eq-Decides y y).1 refl)

pub new_value : (y : List ℕ) (w : Value) (s0 s : State) → value s0 (with_value y w s) [] (v.Var y) ≡ w
new_value y w s0 s =
    ap (value s0 (with_value y w s) []) (sym (v.rolls-Var y))
    ∙ fold-roll-Term Value (value_step (value_in (with_value y w s)) (value_in s0) (value_in (with_value y w s)) []) (Term-F.Var y)
    ∙ has_it y w s

-- a formula that does not mention the name holds in both or in or_parts
pub kept : (library : List Definition) (y : List ℕ) (w : Value) (s0 s : State) (f : Formula) → Unmentioned y f → (b : List Value) →
    holds library f s0 s b ↔ holds library f (with_value y w s0) (with_value y w s) b
kept library y w s0 s f n b = truth_ignores library f y n w w s0 s b

pub each_kept : {X : Type 0} (F P Q : X → Type 0) → ((x : X) → F x → P x → Q x) → (l : List X) → Each F l → Each P l → Each Q l
each_kept F P Q k [] f h = tt
each_kept F P Q k (x ∷ xs) f h = (k x f.0 h.0, each_kept F P Q k xs f.1 h.1)
