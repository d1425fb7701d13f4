-- Rules that look at the whole goal, and what holds of the formula of a number.
use Rattle.std.proofs.Common.{◌≡◌, ℕ, zero, suc, ◌-◌, List, [], ◌∷◌, remove, slice_get, slice_set, Option, Some, None, refl, subst}
use Rattle.rw_terms.specs.declared.term.Formula.{Formula}
use Rattle.rw_terms.specs.declared.sequent.Sequent.{Sequent}
use Rattle.rw_terms.specs.State.{State}
use Rattle.rw_terms.specs.Truth.{Definition}
use Rattle.rw_terms.specs.Validity.{Each, FitsNames, Valid}
use Rattle.rw_goals.specs.declared.added.Parts.{Parts}
use Rattle.rw_goals.specs.Premises.{effect, numbered, principal, at_left, at_right}
use Rattle.rw_goals.proofs.Sound.{Holds, Denies, AllValid, taken}

at_place : (P : Formula → Type 0) (l : List Formula) (i : ℕ) (f : Formula) → slice_get l i ≡ Some f → Each P l → P f
at_place P [] i f e h = absurd (cc)
at_place P (x ∷ xs) zero f e h = let q : x ≡ f = cc in subst P q h.0
at_place P (x ∷ xs) (suc i) f e h = at_place P xs i f e h.1

-- what holds of all formulas holds of the one of a number
pub at_number : (P : Formula → Type 0) (l : List Formula) (n : ℕ) (f : Formula) → numbered l n ≡ Some f → Each P l → P f
at_number P l zero f e h = absurd (cc)
at_number P l (suc i) f e h = at_place P l i f e h

-- and of all where one is put in its place
pub with_place : (P : Formula → Type 0) (l : List Formula) (i : ℕ) (g : Formula) → P g → Each P l → Each P (slice_set l i g)
with_place P [] i g p h = h
with_place P (x ∷ xs) zero g p h = (p, h.1)
with_place P (x ∷ xs) (suc i) g p h = (h.0, with_place P xs i g p h.1)

module _ (library : List Definition) (q : Sequent) where
  -- no states that fit the names refute a goal and make a formula true, and none refute it and make the formula false
  abbrev pub NoneTrue : Sequent → Formula → Type 0
  NoneTrue rest f =
      (s0 s : State) → FitsNames q.names s0 → FitsNames q.names s →
      Holds library s0 s f → Each (Holds library s0 s) rest.left → ¬ (Each (Denies library s0 s) rest.right)

  abbrev pub NoneFalse : Sequent → Formula → Type 0
  NoneFalse rest f =
      (s0 s : State) → FitsNames q.names s0 → FitsNames q.names s →
      Denies library s0 s f → Each (Holds library s0 s) rest.left → ¬ (Each (Denies library s0 s) rest.right)

  abbrev pub without_left : ℕ → Sequent
  without_left n = record { names = q.names; left = remove q.left (n - 1); right = q.right }

  abbrev pub without_right : ℕ → Sequent
  without_right n = record { names = q.names; left = q.left; right = remove q.right (n - 1) }

  left_out : (rule : Formula → Parts) (n : ℕ) (o : Option Formula) → numbered q.left n ≡ o →
      ((f : Formula) → numbered q.left n ≡ Some f → AllValid library (effect (rule f) (without_left n)) → NoneTrue (without_left n) f) → AllValid library (principal o (without_left n) rule) → Valid library q
  left_out rule n None e sound v = absurd v
  left_out rule n (Some f) e sound v = λ s0 s i j left right.
      let t = taken (Holds library s0 s) q.left n f e left in sound f e v s0 s i j t.0 t.1 right

  pub left_sound : (rule : Formula → Parts) (n : ℕ) → ((f : Formula) → numbered q.left n ≡ Some f → AllValid library (effect (rule f) (without_left n)) → NoneTrue (without_left n) f) →
      AllValid library (at_left q n rule) → Valid library q
  left_sound rule n sound v = left_out rule n (numbered q.left n) refl sound v

  right_out : (rule : Formula → Parts) (n : ℕ) (o : Option Formula) → numbered q.right n ≡ o →
      ((f : Formula) → numbered q.right n ≡ Some f → AllValid library (effect (rule f) (without_right n)) → NoneFalse (without_right n) f) → AllValid library (principal o (without_right n) rule) → Valid library q
  right_out rule n None e sound v = absurd v
  right_out rule n (Some f) e sound v = λ s0 s i j left right.
      let t = taken (Denies library s0 s) q.right n f e right in sound f e v s0 s i j t.0 left t.1

  pub right_sound : (rule : Formula → Parts) (n : ℕ) → ((f : Formula) → numbered q.right n ≡ Some f → AllValid library (effect (rule f) (without_right n)) → NoneFalse (without_right n) f) →
      AllValid library (at_right q n rule) → Valid library q
  right_sound rule n sound v = right_out rule n (numbered q.right n) refl sound v

  -- the principal formula stays
  left_stays : (rule : Formula → Parts) (n : ℕ) (o : Option Formula) → numbered q.left n ≡ o →
      ((f : Formula) → AllValid library (effect (rule f) q) → NoneTrue q f) → AllValid library (principal o q rule) → Valid library q
  left_stays rule n None e sound v = absurd v
  left_stays rule n (Some f) e sound v = λ s0 s i j left right. sound f v s0 s i j (at_number (Holds library s0 s) q.left n f e left) left right

  pub beside_left_sound : (rule : Formula → Parts) (n : ℕ) → ((f : Formula) → AllValid library (effect (rule f) q) → NoneTrue q f) →
      AllValid library (principal (numbered q.left n) q rule) → Valid library q
  beside_left_sound rule n sound v = left_stays rule n (numbered q.left n) refl sound v

  right_stays : (rule : Formula → Parts) (n : ℕ) (o : Option Formula) → numbered q.right n ≡ o →
      ((f : Formula) → AllValid library (effect (rule f) q) → NoneFalse q f) → AllValid library (principal o q rule) → Valid library q
  right_stays rule n None e sound v = absurd v
  right_stays rule n (Some f) e sound v = λ s0 s i j left right. sound f v s0 s i j (at_number (Denies library s0 s) q.right n f e right) left right

  pub beside_right_sound : (rule : Formula → Parts) (n : ℕ) → ((f : Formula) → AllValid library (effect (rule f) q) → NoneFalse q f) →
      AllValid library (principal (numbered q.right n) q rule) → Valid library q
  beside_right_sound rule n sound v = right_stays rule n (numbered q.right n) refl sound v
