-- One token of a form, read from a place on.
use Rattle.std.proofs.Common.{◌≡◌, ℕ, ◌<◌, ◌≤◌, arith, length-drop, Bool, true, false, cond, List, [], ◌∷◌, length, drop, Option, Some, None, IsTrue, refl, sym, ap, ◌∙◌, subst}
use Rattle.std.specs.Prelude.{◌&&◌, not, option_map, Result, Ok, Err}
use Rattle.std.specs.Option.{option_or}
use Rattle.rw_terms.specs.Names.{is_name}
use Rattle.rw_terms.specs.declared.term.Formula.{Formula}
use Rattle.rw_programs.specs.declared.prog.Spec.{Spec}
use Rattle.std.proofs.lemmas.List.{drop_all}
use Rattle.rw_forms.specs.declared.request.ReadError.{ReadError}
use Rattle.rw_forms.specs.declared.request.ReadError.TheVariants.{Syntax}
use Rattle.rw_syntax.proofs.Choices.{some_is}
use Rattle.rw_tokens.specs.Tokens.{Token, token_at}
use Rattle.rw_forms.specs.Forms.{Slot, Filled, filled, is_text, is_lower, is_variable, is_constant, Given, Form, gives, takes, either, one_of}
use Rattle.rw_forms.specs.Reading.{after, Ending, whole, stops, ended, form_read, token_read, read_within, read_form}
use Rattle.rw_tokens.proofs.Aligned.{none_at_end}
use Rattle.rw_forms.proofs.Endings.{open_form, one_token, stuck_form, alike}
use Rattle.rw_forms.specs.Progress.{IsPlace, StopsAt, Took, TookLast}

pub none_stops : (s : Slot) (here : List ℕ) → token_at here ≡ None → (k : Filled s → Form) → read_form (takes s k) here ≡ stops here
none_stops s here e k = stuck_form (takes s k) here (λ z. refl) (λ t there z. absurd (cc (e, z)))

pub misfit_stops : (s : Slot) (here : List ℕ) (t : Token) (there : List ℕ) → token_at here ≡ Some (t, there) → filled s t ≡ None → (k : Filled s → Form) → read_form (takes s k) here ≡ stops here
misfit_stops s here t there e f k = stuck_form (takes s k) here (λ z. refl) (λ u other z. let same : t ≡ u = ap (λ x. x.0) (some_is (sym e ∙ z)) in ap (option_map k) (ap (filled s) (sym same) ∙ f))

pub fits_goes : (s : Slot) (here : List ℕ) (t : Token) (there : List ℕ) (x : Filled s) → token_at here ≡ Some (t, there) → filled s t ≡ Some x → (k : Filled s → Form) → read_form (takes s k) here ≡ read_form (k x) there
fits_goes s here t there x e f k = one_token (takes s k) (k x) here there t e (ap (option_map k) f)

pub none_other : (w here : List ℕ) → token_at here ≡ None → (f g : Form) → read_form (either w f g) here ≡ read_form (cond false f g) here
none_other w here e f g = alike (either w f g) g here refl (λ t there z. absurd (cc (e, z)))

pub other_goes : (w here : List ℕ) (t : Token) (there : List ℕ) → token_at here ≡ Some (t, there) → is_text w t ≡ false → (f g : Form) → read_form (either w f g) here ≡ read_form (cond false f g) here
other_goes w here t there e n f g = alike (either w f g) g here refl (λ u other z. let same : t ≡ u = ap (λ x. x.0) (some_is (sym e ∙ z)) in ap (λ b. cond b (Some f) (after g u)) (ap (is_text w) (sym same) ∙ n))

pub word_goes : (w here : List ℕ) (t : Token) (there : List ℕ) → token_at here ≡ Some (t, there) → is_text w t ≡ true → (f g : Form) → read_form (either w f g) here ≡ read_form (cond true f g) there
word_goes w here t there e n f g = one_token (either w f g) f here there t e (ap (λ b. cond b (Some f) (after g t)) n)

-- the fault is where the token stands
pub stops_here : {A : Type 0} (part : (A → Form) → Form) (line : List ℕ) (at : ℕ) (e : ReadError) → e ≡ Syntax at → at ≤ length line → ((k : A → Form) → read_form (part k) (drop at line) ≡ stops (drop at line)) → (k : A → Form) → StopsAt line e (read_form (part k) (drop at line))
stops_here part line at e is within h k = subst (λ x. StopsAt line x (read_form (part k) (drop at line))) (sym is) (within, h k)

pub moved : (line : List ℕ) (at next : ℕ) → IsPlace line at → next ≤ length line → IsPlace line next
moved line at next p h = record { short = p.short; within = h }

-- whether a word is a variable's name
pub variable_is : (w : List ℕ) → IsTrue (is_name w) → (b : Bool) → is_lower w ≡ b → cond (is_variable w) (Some w) None ≡ cond b (Some w) None
unfolding is_variable
variable_is w n b e = ap (λ x. cond (x && is_lower w) (Some w) None) n ∙ ap (λ x. cond x (Some w) None) e

pub no_variable : (w : List ℕ) → ¬ (IsTrue (is_name w)) → cond (is_variable w) (Some w) None ≡ None
unfolding is_variable
no_variable w n = go (is_name w) n
  where
    go : (b : Bool) → ¬ (IsTrue b) → cond (b && is_lower w) (Some w) None ≡ None
    go true h = absurd (h refl)
    go false h = refl

-- whether a word is a constant's name
pub constant_is : (w : List ℕ) → IsTrue (is_name w) → (b : Bool) → is_lower w ≡ b → cond (is_constant w) (Some w) None ≡ cond b None (Some w)
unfolding is_constant
constant_is w n b e = ap (λ x. cond (x && not (is_lower w)) (Some w) None) n ∙ turned (is_lower w) b e
  where
    turned : (a b : Bool) → a ≡ b → cond (true && not a) (Some w) None ≡ cond b None (Some w)
    turned true true e = refl
    turned false false e = refl
    turned true false e = absurd (cc)
    turned false true e = absurd (cc)

pub no_constant : (w : List ℕ) → ¬ (IsTrue (is_name w)) → cond (is_constant w) (Some w) None ≡ None
unfolding is_constant
no_constant w n = go (is_name w) n
  where
    go : (b : Bool) → ¬ (IsTrue b) → cond (b && not (is_lower w)) (Some w) None ≡ None
    go true h = absurd (h refl)
    go false h = refl

-- the end

rest_of_line : (line : List ℕ) (at : ℕ) → at < length line → 0 < length (drop at line)
rest_of_line line at h = omega (arith, length-drop at line)

pub end_stops : (v : Given) (line : List ℕ) (at : ℕ) → at < length line → read_form (gives v) (drop at line) ≡ stops (drop at line)
end_stops v line at h = open_form (gives v) (drop at line) ∙ by_token (token_at (drop at line))
  where
    not_empty : (l : List ℕ) → 0 < length l → ended (gives v) l ≡ stops l
    not_empty [] n = absurd (omega arith)
    not_empty (b ∷ bs) n = refl

    by_token : (o : Option (Token × List ℕ)) → token_read (gives v) (drop at line) (read_within (length (drop at line))) o ≡ stops (drop at line)
    by_token None = not_empty (drop at line) (rest_of_line line at h)
    by_token (Some p) = refl

at_end : (v : Given) → read_form (gives v) [] ≡ whole v
unfolding read_form read_within
at_end v = refl

pub end_is : (v : Given) (line : List ℕ) (at : ℕ) → length line ≤ at → read_form (gives v) (drop at line) ≡ whole v
end_is v line at h = ap (read_form (gives v)) (drop_all at line h) ∙ at_end v

pub stops_end : (line : List ℕ) (at : ℕ) (e : ReadError) → e ≡ Syntax at → at ≤ length line → at < length line → (v : Given) → StopsAt line e (read_form (gives v) (drop at line))
stops_end line at e is within h v = subst (λ x. StopsAt line x (read_form (gives v) (drop at line))) (sym is) (within, end_stops v line at h)

-- an ending that another is
pub carried : (line : List ℕ) (e : ReadError) {a b : Ending} → a ≡ b → StopsAt line e b → StopsAt line e a
carried line e same s = subst (StopsAt line e) (sym same) s

-- what a part reads, where it goes on as another does from a later place
pub passed_on : {A : Type 0} (part other : (A → Form) → Form) (line : List ℕ) (at mid next : ℕ) (r : Result A ReadError) → ((k : A → Form) → read_form (part k) (drop at line) ≡ read_form (other k) (drop mid line)) → Took other line mid next r → Took part line at next r
passed_on part other line at mid next (Ok x) e t = (t.0, λ k. e k ∙ t.1 k)
passed_on part other line at mid next (Err x) e t = λ k. carried line x (e k) (t k)

-- what is given is told by another name
pub told_as : {A : Type 0} (here there : List ℕ) (f : Form) (k : A → Form) (x y : A) → x ≡ y → read_form f here ≡ read_form (k x) there → read_form f here ≡ read_form (k y) there
told_as here there f k x y e p = p ∙ ap (λ z. read_form (k z) there) e

-- where a text ends only the second of two forms can be
pub last_end : (f : Form) (v : Given) (line : List ℕ) (at : ℕ) → length line ≤ at → read_form (one_of f (gives v)) (drop at line) ≡ read_form (gives v) (drop at line)
last_end f v line at h = alike (one_of f (gives v)) (gives v) (drop at line) refl (λ t there z. absurd (none_at_end (drop at line) t there (drop_all at line h) z))

first_alone : (o : Option Form) → option_or o None ≡ o
first_alone None = refl
first_alone (Some f) = refl

-- and before that end only the first, where the second is of no tokens
pub last_part : (f : Form) (v : Given) (line : List ℕ) (at : ℕ) → at < length line → read_form (one_of f (gives v)) (drop at line) ≡ read_form f (drop at line)
last_part f v line at h = open_form (one_of f (gives v)) (drop at line) ∙ by_token (token_at (drop at line)) ∙ sym (open_form f (drop at line))
  where
    not_empty : (l : List ℕ) → 0 < length l → ended (one_of f (gives v)) l ≡ ended f l
    not_empty [] n = absurd (omega arith)
    not_empty (b ∷ bs) n = refl

    by_token : (o : Option (Token × List ℕ)) → token_read (one_of f (gives v)) (drop at line) (read_within (length (drop at line))) o ≡ token_read f (drop at line) (read_within (length (drop at line))) o
    by_token None = not_empty (drop at line) (rest_of_line line at h)
    by_token (Some p) = ap (form_read (drop at line) (λ g. read_within (length (drop at line)) g p.1)) (first_alone (after f p.0))

-- the last part is read as another one is
pub last_on : {A : Type 0} (part other : (A → Form) → Form) (line : List ℕ) (at mid next : ℕ) (r : Result A ReadError) → ((k : A → Given) → read_form (part (λ y. gives (k y))) (drop at line) ≡ read_form (other (λ y. gives (k y))) (drop mid line)) → Took other line mid next r → TookLast part line at next r
last_on part other line at mid next (Ok x) e t = (t.0, λ k. e k ∙ t.1 (λ y. gives (k y)))
last_on part other line at mid next (Err x) e t = λ k. carried line x (e k) (t (λ y. gives (k y)))

-- a specification that is made of equal parts
pub made_spec : (xs : List (List ℕ)) (f g pre post : Formula) (s : Spec) → pre ≡ f → post ≡ g → s ≡ record { frame = xs; pre = pre; post = post } → record { frame = xs; pre = f; post = g } ≡ s
made_spec xs f g pre post s a b e = ap (λ x. record { frame = xs; pre = x; post = g }) (sym a) ∙ ap (λ x. record { frame = xs; pre = pre; post = x }) (sym b) ∙ sym e
