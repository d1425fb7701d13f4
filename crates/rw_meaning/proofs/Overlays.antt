-- States with other values of some names.
use mathlib.Core.Path.{fun_ext}
use Rattle.std.proofs.Common.{◌≡◌, refl, sym, ap, ◌∙◌, Bool, true, false, List, [], ◌∷◌, Option, true≢false}
use Rattle.std.specs.Prelude.{bytes_eq, if◌then◌else◌}
use Rattle.rw_terms.specs.State.{Value, State as Map}
use Rattle.rw_programs.specs.declared.prog.ModCode.{ModCode}
use Rattle.rw_programs.specs.State.{Name, State, is_in, put_all, with_own, names_of, only}
use Rattle.rw_programs.proofs.Frames.{put_all_off}
use Rattle.rw_meaning.specs.Mention.{AgreeOff}

pub same_states : (s t : State) → s.own ≡ t.own → s.part ≡ t.part → s ≡ t
same_states s t e f = λ i. record { own = e i; part = f i }

pub own_is : (s t : State) → s ≡ t → (x : Name) → s.own x ≡ t.own x
own_is s t e x = λ i. (e i).own x

-- a test is true or false
pub in_or_off : {C : Type 0} (b : Bool) → (b ≡ true → C) → (b ≡ false → C) → C
in_or_off true f g = f refl
in_or_off false f g = g refl

module _ (names : List Name) where
  -- the map with the values of another on the names
  abbrev pub laid : Map → Map → Map
  laid m own x = if is_in x names then m x else own x

  -- so the state
  abbrev pub over : Map → State → State
  over m s = with_own s (laid m s.own)

  pub laid_on : (m own : Map) (x : Name) → is_in x names ≡ true → laid m own x ≡ m x
  laid_on m own x h = rw h

  pub laid_off : (m own : Map) (x : Name) → is_in x names ≡ false → laid m own x ≡ own x
  laid_off m own x h = rw h

  -- it is known by what it has on the names and off them
  pub laid_is : (m own new : Map) → ((x : Name) → is_in x names ≡ true → new x ≡ m x) → ((x : Name) → is_in x names ≡ false → new x ≡ own x) → laid m own ≡ new
  laid_is m own new on off =
      fun_ext (λ x. in_or_off (is_in x names) (λ h. laid_on m own x h ∙ sym (on x h)) (λ h. laid_off m own x h ∙ sym (off x h)))

  pub over_is : (m : Map) (s t : State) → ((x : Name) → is_in x names ≡ true → t.own x ≡ m x) → AgreeOff names s t → over m s ≡ t
  over_is m s t on a = same_states (over m s) t (laid_is m s.own t.own on a.off) (sym a.parts)

  -- laid over twice
  pub over_again : (m n : Map) (s : State) → over m (over n s) ≡ over m s
  over_again m n s = ap (with_own s) (laid_is m (laid n s.own) (laid m s.own) (λ x h. laid_on m s.own x h) (λ x h. laid_off m s.own x h ∙ sym (laid_off n s.own x h)))

  -- over a state its own values
  pub over_own : (s : State) → over s.own s ≡ s
  over_own s = same_states (over s.own s) s (laid_is s.own s.own s.own (λ x h. refl) (λ x h. refl)) refl

  pub over_agrees : (m : Map) (s : State) → AgreeOff names s (over m s)
  over_agrees m s = record { off = λ x h. laid_off m s.own x h; parts = refl }

  -- what is put for other names
  abbrev pub Apart : List Name → Type 0
  Apart xs = (x : Name) → is_in x names ≡ true → is_in x xs ≡ false

  pub put_all_laid : (xs : List Name) → Apart xs → (vs : List (Option Value)) (m own : Map) → put_all xs vs (laid m own) ≡ laid m (put_all xs vs own)
  put_all_laid xs apart vs m own =
      sym (laid_is m (put_all xs vs own) (put_all xs vs (laid m own)) (λ x h. put_all_off xs vs (laid m own) x (apart x h) ∙ laid_on m own x h) (λ x h. put_all_same xs vs (laid m own) own x (laid_off m own x h)))
    where
      put_all_same : (xs : List Name) (vs : List (Option Value)) (m n : Map) (x : Name) → m x ≡ n x → put_all xs vs m x ≡ put_all xs vs n x
      put_all_same [] vs m n x e = e
      put_all_same (y ∷ ys) vs m n x e = go (bytes_eq x y) refl vs (λ vs. put_all_same ys vs m n x e)
        where
          go : (b : Bool) → bytes_eq x y ≡ b → (vs : List (Option Value)) → ((vs : List (Option Value)) → put_all ys vs m x ≡ put_all ys vs n x) → put_all (y ∷ ys) vs m x ≡ put_all (y ∷ ys) vs n x
          go true i [] ih = rw i
          go true i (v ∷ vs) ih = rw i
          go false i [] ih = rw i (ih [])
          go false i (v ∷ vs) ih = rw i (ih vs)

  -- a module's state whose names are others
  pub held_laid : (d : ModCode) → Apart (names_of d.state) → (m own : Map) → only (names_of d.state) (laid m own) ≡ only (names_of d.state) own
  held_laid d apart m own = fun_ext (λ x. in_or_off (is_in x (names_of d.state)) (λ h. on x h (in_or_off (is_in x names) (λ k. absurd (true≢false (sym h ∙ apart x k))) (λ k. laid_off m own x k))) (λ h. off x h))
    where
      on : (x : Name) → is_in x (names_of d.state) ≡ true → laid m own x ≡ own x → only (names_of d.state) (laid m own) x ≡ only (names_of d.state) own x
      on x h e = rw h e

      off : (x : Name) → is_in x (names_of d.state) ≡ false → only (names_of d.state) (laid m own) x ≡ only (names_of d.state) own x
      off x h = rw h

  pub hold_laid : (d : ModCode) → Apart (names_of d.state) → (a m own : Map) → (λ x. if is_in x (names_of d.state) then a x else laid m own x) ≡ laid m (λ x. if is_in x (names_of d.state) then a x else own x)
  hold_laid d apart a m own = sym (laid_is m (λ x. if is_in x (names_of d.state) then a x else own x) (λ x. if is_in x (names_of d.state) then a x else laid m own x) on off)
    where
      on : (x : Name) → is_in x names ≡ true → (if is_in x (names_of d.state) then a x else laid m own x) ≡ m x
      on x h = rw (apart x h, h)

      off : (x : Name) → is_in x names ≡ false → (if is_in x (names_of d.state) then a x else laid m own x) ≡ (if is_in x (names_of d.state) then a x else own x)
      off x h = rw h
