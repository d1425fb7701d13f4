-- Reading token by token, and what its ending says of the tokens.
use Rattle.std.proofs.Common.{◌≡◌, ℕ, zero, suc, ◌≤◌, ◌<◌, Bool, List, [], ◌∷◌, ◌++◌, length, Option, Some, None, refl, sym, ap, ◌∙◌, subst, arith}
use Rattle.rw_syntax.proofs.Choices.{some_is}
use Rattle.rw_tokens.specs.Tokens.{Token, token_at, LeadsTo}
use Rattle.rw_forms.specs.Forms.{Given, Form, IsOf}
use Rattle.rw_forms.specs.Reading.{after, given, Ending, whole, stops, given_or, ended, form_read, token_read, read_within, read_form}
use Rattle.rw_forms.proofs.Grammar.{Keeps, keeps_after, sound, next, ends_is, is_given, met, given_fine}
use Rattle.rw_tokens.proofs.Aligned.{none_at_end}
use Rattle.rw_tokens.proofs.Shorter.{shortens}

nothing_left : (here : List ℕ) → length here ≤ 0 → here ≡ []
nothing_left [] h = refl
nothing_left (b ∷ bs) h = absurd (omega arith)

-- with no byte there is no token
no_token : (f : Form) (here : List ℕ) (go : Form → List ℕ → Ending) → here ≡ [] → token_read f here go (token_at here) ≡ ended f here
no_token f here go e = by_token (token_at here) refl
  where
    by_token : (o : Option (Token × List ℕ)) → token_at here ≡ o → token_read f here go o ≡ ended f here
    by_token None z = refl
    by_token (Some p) z = absurd (none_at_end here p.0 p.1 e z)

step_alike : (f : Form) (here : List ℕ) (a b : Form → List ℕ → Ending) → ((g : Form) (t : Token) (there : List ℕ) → token_at here ≡ Some (t, there) → a g there ≡ b g there) → token_read f here a (token_at here) ≡ token_read f here b (token_at here)
step_alike f here a b h = by_token (token_at here) refl
  where
    by_form : (p : Token × List ℕ) (o : Option Form) → token_at here ≡ Some p → form_read here (λ g. a g p.1) o ≡ form_read here (λ g. b g p.1) o
    by_form p None z = refl
    by_form p (Some g) z = h g p.0 p.1 z

    by_token : (o : Option (Token × List ℕ)) → token_at here ≡ o → token_read f here a o ≡ token_read f here b o
    by_token None z = refl
    by_token (Some p) z = by_form p (after f p.0) z

-- more tokens than bytes need not be allowed
pub reads_alike : (n m : ℕ) (f : Form) (here : List ℕ) → length here ≤ n → length here ≤ m → read_within n f here ≡ read_within m f here
unfolding read_within
reads_alike zero zero f here a b = refl
reads_alike zero (suc m) f here a b = sym (no_token f here (read_within m) (nothing_left here a))
reads_alike (suc n) zero f here a b = no_token f here (read_within n) (nothing_left here b)
reads_alike (suc n) (suc m) f here a b = step_alike f here (read_within n) (read_within m) (λ g t there z. let s = shortens here t there z in reads_alike n m g there (omega arith) (omega arith))

opened : (f : Form) (here : List ℕ) → read_within (suc (length here)) f here ≡ token_read f here (read_within (length here)) (token_at here)
unfolding read_within
opened f here = refl

pub open_form : (f : Form) (here : List ℕ) → read_form f here ≡ token_read f here (read_within (length here)) (token_at here)
unfolding read_form
open_form f here = reads_alike (length here) (suc (length here)) f here (omega arith) (omega arith) ∙ opened f here

-- a token that goes on
pub one_token : (f g : Form) (here there : List ℕ) (t : Token) → token_at here ≡ Some (t, there) → after f t ≡ Some g → read_form f here ≡ read_form g there
unfolding read_form
one_token f g here there t e a =
    let s = shortens here t there e in
    open_form f here ∙ ap (token_read f here (read_within (length here))) e ∙ ap (form_read here (λ h. read_within (length here) h there)) a ∙ reads_alike (length here) (length there) g there (omega arith) (omega arith)

end_stuck : (f : Form) (here : List ℕ) → (here ≡ [] → given f ≡ None) → ended f here ≡ stops here
end_stuck f [] e = ap (given_or []) (e refl)
end_stuck f (b ∷ bs) e = refl

-- where a form neither ends nor goes on
pub stuck_form : (f : Form) (here : List ℕ) → (here ≡ [] → given f ≡ None) → ((t : Token) (there : List ℕ) → token_at here ≡ Some (t, there) → after f t ≡ None) → read_form f here ≡ stops here
stuck_form f here e h = open_form f here ∙ by_token (token_at here) refl
  where
    by_token : (o : Option (Token × List ℕ)) → token_at here ≡ o → token_read f here (read_within (length here)) o ≡ stops here
    by_token None z = end_stuck f here e
    by_token (Some p) z = ap (form_read here (λ g. read_within (length here) g p.1)) (h p.0 p.1 z)

end_alike : (f g : Form) (here : List ℕ) → given f ≡ given g → ended f here ≡ ended g here
end_alike f g [] e = ap (given_or []) e
end_alike f g (b ∷ bs) e = refl

-- forms that end and go on alike
pub alike : (f g : Form) (here : List ℕ) → given f ≡ given g → ((t : Token) (there : List ℕ) → token_at here ≡ Some (t, there) → after f t ≡ after g t) → read_form f here ≡ read_form g here
alike f g here e h = open_form f here ∙ by_token (token_at here) refl ∙ sym (open_form g here)
  where
    by_token : (o : Option (Token × List ℕ)) → token_at here ≡ o → token_read f here (read_within (length here)) o ≡ token_read g here (read_within (length here)) o
    by_token None z = end_alike f g here e
    by_token (Some p) z = ap (form_read here (λ h. read_within (length here) h p.1)) (h p.0 p.1 z)

-- a whole form
pub record Whole (P : Given → Type 0) (f : Form) (here : List ℕ) (v : Given) : Type 0 where
  pub tokens : List Token
  pub leads : LeadsTo here tokens []
  pub is : IsOf f (length tokens) tokens v
  pub fine : P v

whole_is : {v w : Given} → whole v ≡ whole w → v ≡ w
whole_is e = cc

stops_is : {l m : List ℕ} → stops l ≡ stops m → l ≡ m
stops_is e = cc

end_whole : (P : Given → Type 0) (F : Token → Bool) (f : Form) (here : List ℕ) (v : Given) → Keeps P F f → ended f here ≡ whole v → Whole P f here v
end_whole P F f (b ∷ bs) v k e = absurd (cc)
end_whole P F f [] v k e = by_given (given f) refl e
  where
    by_given : (o : Option Given) → given f ≡ o → given_or [] o ≡ whole v → Whole P f [] v
    by_given None z q = absurd (cc)
    by_given (Some w) z q =
        let y : given f ≡ Some v = z ∙ ap Some (whole_is q) in
        record { tokens = []; leads = refl; is = ends_is P F f 0 v k y; fine = given_fine P F f v k y }

form_whole : (P : Given → Type 0) (F : Token → Bool) (n : ℕ) (f : Form) (here : List ℕ) (v : Given) (p : Token × List ℕ) → Keeps P F f → token_at here ≡ Some p → ((g : Form) → Keeps P F g → read_within n g p.1 ≡ whole v → Whole P g p.1 v) → (o : Option Form) → after f p.0 ≡ o → form_read here (λ g. read_within n g p.1) o ≡ whole v → Whole P f here v
form_whole P F n f here v p k z h None y e = absurd (cc)
form_whole P F n f here v p k z h (Some g) y e =
    let x = h g (keeps_after P F f g p.0 k y) e in
    record { tokens = p.0 ∷ x.tokens; leads = (p.1, z, x.leads); is = sound P F f g p.0 (length x.tokens) x.tokens v k y x.is; fine = x.fine }

token_whole : (P : Given → Type 0) (F : Token → Bool) (n : ℕ) (f : Form) (here : List ℕ) (v : Given) → Keeps P F f → ((g : Form) (there : List ℕ) → Keeps P F g → read_within n g there ≡ whole v → Whole P g there v) → (o : Option (Token × List ℕ)) → token_at here ≡ o → token_read f here (read_within n) o ≡ whole v → Whole P f here v
token_whole P F n f here v k h None z e = end_whole P F f here v k e
token_whole P F n f here v k h (Some p) z e = form_whole P F n f here v p k z (λ g. h g p.1) (after f p.0) refl e

pub whole_as : (P : Given → Type 0) (F : Token → Bool) (n : ℕ) (f : Form) (here : List ℕ) (v : Given) → Keeps P F f → read_within n f here ≡ whole v → Whole P f here v
unfolding read_within
whole_as P F zero f here v k e = end_whole P F f here v k e
whole_as P F (suc n) f here v k e = token_whole P F n f here v k (λ g there. whole_as P F n g there v) (token_at here) refl e

-- a form that is read up to a place, where it cannot go on
pub record Stopped (P : Given → Type 0) (f : Form) (here there : List ℕ) : Type 0 where
  pub before : List Token
  pub leads : LeadsTo here before there
  pub rest : List Token
  pub value : Given
  pub fine : P value
  pub goes : IsOf f (length before) (before ++ rest) value
  pub stuck : (t : Token) (behind : List ℕ) → token_at there ≡ Some (t, behind) → (n : ℕ) (more : List Token) (v : Given) → length before < n → ¬ (IsOf f n (before ++ t ∷ more) v)
  pub early : there ≡ [] → (n : ℕ) (v : Given) → length before ≤ n → ¬ (IsOf f n before v)

at_once : (P : Given → Type 0) (F : Token → Bool) (f : Form) (here there : List ℕ) → Keeps P F f → stops here ≡ stops there → ((t : Token) (behind : List ℕ) → token_at here ≡ Some (t, behind) → after f t ≡ None) → (here ≡ [] → given f ≡ None) → Stopped P f here there
at_once P F f here there k e a g =
    let m = met P F f k in
    let same = stops_is e in
    record {
      before = [];
      leads = same;
      rest = m.tokens;
      value = m.value;
      fine = m.fine;
      goes = m.is;
      stuck = λ t behind z n more v. no_next t behind (ap token_at same ∙ z) n more v;
      early = λ z n v l i. let x : Some v ≡ None = sym (is_given P F f n v k i) ∙ g (same ∙ z) in absurd (cc);
    }
  where
    no_next : (t : Token) (behind : List ℕ) → token_at here ≡ Some (t, behind) → (n : ℕ) (more : List Token) (v : Given) → 0 < n → ¬ (IsOf f n (t ∷ more) v)
    no_next t behind z zero more v l i = absurd (omega arith)
    no_next t behind z (suc n) more v l i = let x = next P F f t n more v k i in let y : None ≡ Some x.form = sym (a t behind z) ∙ x.is_after in absurd (cc)

end_stops : (P : Given → Type 0) (F : Token → Bool) (f : Form) (here there : List ℕ) → Keeps P F f → token_at here ≡ None → ended f here ≡ stops there → Stopped P f here there
end_stops P F f (b ∷ bs) there k z e = at_once P F f (b ∷ bs) there k e (λ t behind y. absurd (cc (z, y))) (λ y. absurd (cc (y)))
end_stops P F f [] there k z e = by_given (given f) refl e
  where
    by_given : (o : Option Given) → given f ≡ o → given_or [] o ≡ stops there → Stopped P f [] there
    by_given None y q = at_once P F f [] there k q (λ t behind x. absurd (cc (z, x))) (λ x. y)
    by_given (Some v) y q = absurd (cc)

-- what a form with one token more is
further : (P : Given → Type 0) (F : Token → Bool) (f g : Form) (t : Token) (ts : List Token) (v : Given) (least m : ℕ) → Keeps P F f → after f t ≡ Some g → ((r : ℕ) → least ≤ r → IsOf g r ts v → ⊥) → suc least ≤ m → IsOf f m (t ∷ ts) v → ⊥
further P F f g t ts v least zero k y h l i = absurd (omega arith)
further P F f g t ts v least (suc m) k y h l i =
    let x = next P F f t m ts v k i in
    let same : x.form ≡ g = some_is (sym x.is_after ∙ y) in
    h m (omega arith) (subst (λ a. IsOf a m ts v) same x.is)

form_stops : (P : Given → Type 0) (F : Token → Bool) (n : ℕ) (f : Form) (here there : List ℕ) (p : Token × List ℕ) → Keeps P F f → token_at here ≡ Some p → ((g : Form) → Keeps P F g → read_within n g p.1 ≡ stops there → Stopped P g p.1 there) → (o : Option Form) → after f p.0 ≡ o → form_read here (λ g. read_within n g p.1) o ≡ stops there → Stopped P f here there
form_stops P F n f here there p k z h None y e = at_once P F f here there k e (λ t behind q. let same : p.0 ≡ t = ap (λ x. x.0) (some_is (sym z ∙ q)) in subst (λ x. after f x ≡ None) same y) (λ q. absurd (none_at_end here p.0 p.1 q z))
form_stops P F n f here there p k z h (Some g) y e =
    let x = h g (keeps_after P F f g p.0 k y) e in
    record {
      before = p.0 ∷ x.before;
      leads = (p.1, z, x.leads);
      rest = x.rest;
      value = x.value;
      fine = x.fine;
      goes = sound P F f g p.0 (length x.before) (x.before ++ x.rest) x.value k y x.goes;
      stuck = λ t behind q m more v l i. further P F f g p.0 (x.before ++ t ∷ more) v (suc (length x.before)) m k y (λ r w j. x.stuck t behind q r more v w j) l i;
      early = λ q m v l i. further P F f g p.0 x.before v (length x.before) m k y (λ r w j. x.early q r v w j) l i;
    }

token_stops : (P : Given → Type 0) (F : Token → Bool) (n : ℕ) (f : Form) (here there : List ℕ) → Keeps P F f → ((g : Form) (t : Token) (next_one : List ℕ) → token_at here ≡ Some (t, next_one) → Keeps P F g → read_within n g next_one ≡ stops there → Stopped P g next_one there) → (o : Option (Token × List ℕ)) → token_at here ≡ o → token_read f here (read_within n) o ≡ stops there → Stopped P f here there
token_stops P F n f here there k h None z e = end_stops P F f here there k z e
token_stops P F n f here there k h (Some p) z e = form_stops P F n f here there p k z (λ g. h g p.0 p.1 z) (after f p.0) refl e

pub stops_as : (P : Given → Type 0) (F : Token → Bool) (n : ℕ) (f : Form) (here there : List ℕ) → Keeps P F f → length here ≤ n → read_within n f here ≡ stops there → Stopped P f here there
unfolding read_within
stops_as P F zero f here there k l e = end_stops P F f here there k (none_here here (nothing_left here l)) e
  where
    none_here : (bytes : List ℕ) → bytes ≡ [] → token_at bytes ≡ None
    none_here bytes e = by_token (token_at bytes) refl
      where
        by_token : (o : Option (Token × List ℕ)) → token_at bytes ≡ o → o ≡ None
        by_token None z = refl
        by_token (Some p) z = absurd (none_at_end bytes p.0 p.1 e z)
stops_as P F (suc n) f here there k l e = token_stops P F n f here there k (λ g t next_one z m x. let s = shortens here t next_one z in stops_as P F n g next_one there m (omega arith) x) (token_at here) refl e

-- no tokens are of a form with two values
pub one : (P : Given → Type 0) (F : Token → Bool) (ts : List Token) (f : Form) (v w : Given) → Keeps P F f → IsOf f (length ts) ts v → IsOf f (length ts) ts w → v ≡ w
one P F [] f v w k a b = some_is (sym (is_given P F f 0 v k a) ∙ is_given P F f 0 w k b)
one P F (t ∷ ts) f v w k a b =
    let x = next P F f t (length ts) ts v k a in
    let y = next P F f t (length ts) ts w k b in
    let same : y.form ≡ x.form = some_is (sym y.is_after ∙ x.is_after) in
    one P F ts x.form v w (keeps_after P F f x.form t k x.is_after) x.is (subst (λ g. IsOf g (length ts) ts w) same y.is)
