-- Forms token by token: what is left of a form behind a token is met exactly by what stands behind that token in the
-- form, and every form that keeps its choices apart is met.
use Rattle.std.proofs.Common.{◌≡◌, ℕ, zero, suc, ◌+◌, ◌≤◌, Bool, true, false, cond, List, [], ◌∷◌, ◌++◌, length, take, Option, Some, None, IsTrue, refl, sym, ap, ◌∙◌, subst, arith, true≢false, append_assoc, append-nil, inl, inr}
use Rattle.std.specs.Prelude.{◌||◌, ◌&&◌, is_some, codes, leb, option_map, option_and_then}
use Rattle.std.specs.Option.{option_or}
use Rattle.std.proofs.lemmas.Slice.Eq.{bytes_eq-Decides}
use Rattle.std.proofs.lemmas.List.{take_all}
use Rattle.std.proofs.lemmas.Bool.{or_right, false_from_ne_true, le-leb}
use Rattle.rw_terms.specs.Names.{is_name, is_reserved, reserved}
use Rattle.rw_syntax.specs.declared.token.Token.{Token as Class}
use Rattle.rw_syntax.specs.declared.frame.Part.{Part}
use Rattle.rw_syntax.specs.declared.state.State.{State}
use Rattle.rw_syntax.specs.Grammar.{Tree, level, fits, IsFormed, part, nests, text as tree_text, Reads}
use Rattle.rw_syntax.specs.Machine.{step, run_within, finish}
use Rattle.rw_syntax.specs.declared.state.State.TheVariants.{Wants as wants}
use Rattle.rw_syntax.specs.Spelling.{AreWithin, Spells as Written, CanGoOn as Begun}
use Rattle.rw_syntax.proofs.Choices.{guarded, chained, some_is}
use Rattle.rw_syntax.proofs.Exact.{can_runs, runs_plain, ends_spells, spells_ends, run_last, first_step, some_tokens, nests_length}
use Rattle.rw_syntax.proofs.Outside.{advance_stops}
use Rattle.rw_arith.specs.declared.line.Ref.TheVariants as refs
use Rattle.rw_tokens.specs.Tokens.{Token, text, number, binder}
use Rattle.rw_tokens.specs.Classes.{class_of, AreClasses}
use Rattle.rw_forms.specs.Forms.{Slot, exactly, a_variable, a_constant, any_name, a_number, a_reference, Filled, filled, is_text, is_variable, is_constant, Given, Form, gives, takes, either, rest_of, more_of, one_of, too_deep, followed, fewer, behind, AreItems, IsOf}
use Rattle.rw_forms.specs.Reading.{value_of, one_more, ends_class, ends_value, gone_on, after, given}
use Rattle.rw_tokens.proofs.Plain.{plain_tokens}

pub text_is : (w : List ℕ) (t : Token) → is_text w t ≡ true → t ≡ text w
text_is w (text v) e = ap text (grind (arith, bytes_eq-Decides v w))
text_is w (number n) e = absurd (true≢false (sym e))
text_is w (binder n) e = absurd (true≢false (sym e))

pub is_text_own : (w : List ℕ) → is_text w (text w) ≡ true
is_text_own w = grind (arith, bytes_eq-Decides w w)

-- whether a value can begin with a token
abbrev pub opens : ℕ → List Class → Token → Bool
opens goal [] t = is_some (option_and_then (step goal (wants [])) (class_of t))
opens goal (c ∷ cs) t = true

-- whether what is of a form, with what follows it, can begin with a token
abbrev pub starts : Form → (Token → Bool) → Token → Bool
starts (gives g) F t = F t
starts (takes s k) F t = is_some (filled s t)
starts (either w f g) F t = is_text w t || starts g F t
starts (rest_of most goal done k) F t = opens goal done t
starts (more_of item sep done k) F t = is_text sep t || starts (k done) F t
starts (one_of f g) F t = starts f F t || starts g F t
starts (too_deep f) F t = starts f F t

abbrev pub is_met : Slot → Bool
is_met (exactly w) = true
is_met a_variable = true
is_met a_constant = true
is_met any_name = true
is_met (a_number least most) = leb least most
is_met a_reference = true

-- At each choice only one side begins with the word or with a token, what follows a value ends it, and what follows a
-- list goes on with no separator. What is given is of a kind.
abbrev pub Keeps : (Given → Type 0) → (Token → Bool) → Form → Type 0
Keeps P F (gives g) = P g
Keeps P F (takes s k) = (is_met s ≡ true) × ((x : Filled s) → Keeps P F (k x))
Keeps P F (either w f g) = (starts g F (text w) ≡ false) × Keeps P F f × Keeps P F g
Keeps P F (rest_of most goal done k) = (goal ≤ 9) × ((s : State) × (run_within most goal (wants []) done ≡ Some s)) × ((v : Part) (t : Token) → starts (k v) F t ≡ true → ends_value t ≡ true) × ((v : Part) → Keeps P F (k v))
Keeps P F (more_of item sep done k) = (G : Token → Bool) × (G (text sep) ≡ true) × ((gs : List Given) (t : Token) → starts (k gs) F t ≡ true → G t ≡ true) × ((gs : List Given) → starts (k gs) F (text sep) ≡ false) × Keeps (λ g. Unit {0}) G item × ((gs : List Given) → Keeps P F (k gs))
Keeps P F (one_of f g) = ((t : Token) → starts f F t ≡ true → starts g F t ≡ false) × (given f ≡ None) × Keeps P F f × Keeps P F g
Keeps P F (too_deep f) = (given f ≡ None) × Keeps P F f

-- what follows a form that is followed

either_true : (a b c : Bool) → (b ≡ true → c ≡ true) → (a || b) ≡ true → (a || c) ≡ true
either_true true b c h e = refl
either_true false b c h e = h e

either_both : (a b c d : Bool) → (a ≡ true → c ≡ true) → (b ≡ true → d ≡ true) → (a || b) ≡ true → (c || d) ≡ true
either_both true b c d h i e = ap (λ x. x || d) (h refl)
either_both false b c d h i e = or_right c d (i e)

pub starts_followed : (f : Form) (j : Given → Form) (F F2 : Token → Bool) (t : Token) → ((g : Given) → starts (j g) F2 t ≡ true → F t ≡ true) → starts (followed f j) F2 t ≡ true → starts f F t ≡ true
starts_followed (gives g) j F F2 t h e = h g e
starts_followed (takes s k) j F F2 t h e = e
starts_followed (either w f g) j F F2 t h e = either_true (is_text w t) (starts (followed g j) F2 t) (starts g F t) (λ x. starts_followed g j F F2 t h x) e
starts_followed (rest_of most goal done k) j F F2 t h e = e
starts_followed (more_of item sep done k) j F F2 t h e = either_true (is_text sep t) (starts (followed (k done) j) F2 t) (starts (k done) F t) (λ x. starts_followed (k done) j F F2 t h x) e
starts_followed (one_of f g) j F F2 t h e = either_both (starts (followed f j) F2 t) (starts (followed g j) F2 t) (starts f F t) (starts g F t) (λ x. starts_followed f j F F2 t h x) (λ x. starts_followed g j F F2 t h x) e
starts_followed (too_deep f) j F F2 t h e = starts_followed f j F F2 t h e

starts_no : (f : Form) (j : Given → Form) (F F2 : Token → Bool) (t : Token) → ((g : Given) → starts (j g) F2 t ≡ true → F t ≡ true) → starts f F t ≡ false → starts (followed f j) F2 t ≡ false
starts_no f j F F2 t h e = false_from_ne_true (starts (followed f j) F2 t) (λ x. true≢false (sym (starts_followed f j F F2 t h x) ∙ e))

-- what gives nothing where the tokens end gives nothing when it is followed
none_followed : (f : Form) (j : Given → Form) → given f ≡ None → given (followed f j) ≡ None
none_followed (gives g) j e = absurd (cc)
none_followed (takes s k) j e = refl
none_followed (either w f g) j e = none_followed g j e
none_followed (rest_of most goal done k) j e = none_value (value_of most goal done) (λ v. given (k v)) (λ v. given (followed (k v) j)) e (λ v x. none_followed (k v) j x)
  where
    none_value : (o : Option Part) (a b : Part → Option Given) → option_and_then a o ≡ None → ((v : Part) → a v ≡ None → b v ≡ None) → option_and_then b o ≡ None
    none_value None a b e h = refl
    none_value (Some v) a b e h = h v e
none_followed (more_of item sep done k) j e = none_followed (k done) j e
none_followed (one_of f g) j e = none_followed g j e
none_followed (too_deep f) j e = refl

pub keeps_followed : (f : Form) (j : Given → Form) (P Q : Given → Type 0) (F F2 : Token → Bool) → ((g : Given) (t : Token) → starts (j g) F2 t ≡ true → F t ≡ true) → ((g : Given) → Keeps Q F2 (j g)) → Keeps P F f → Keeps Q F2 (followed f j)
keeps_followed (gives g) j P Q F F2 h k p = k g
keeps_followed (takes s m) j P Q F F2 h k p = (p.0, λ x. keeps_followed (m x) j P Q F F2 h k (p.1 x))
keeps_followed (either w f g) j P Q F F2 h k p = (starts_no g j F F2 (text w) (λ x. h x (text w)) p.0, keeps_followed f j P Q F F2 h k p.1, keeps_followed g j P Q F F2 h k p.2)
keeps_followed (rest_of most goal done m) j P Q F F2 h k p = (p.0, p.1, (λ v t e. p.2 v t (starts_followed (m v) j F F2 t (λ x. h x t) e)), (λ v. keeps_followed (m v) j P Q F F2 h k (p.3 v)))
keeps_followed (more_of item sep done m) j P Q F F2 h k p = (p.0, p.1, (λ gs t e. p.2 gs t (starts_followed (m gs) j F F2 t (λ x. h x t) e)), (λ gs. starts_no (m gs) j F F2 (text sep) (λ x. h x (text sep)) (p.3 gs)), p.4, (λ gs. keeps_followed (m gs) j P Q F F2 h k (p.5 gs)))
keeps_followed (one_of f g) j P Q F F2 h k p = ((λ t e. starts_no g j F F2 t (λ x. h x t) (p.0 t (starts_followed f j F F2 t (λ x. h x t) e))), none_followed f j p.1, keeps_followed f j P Q F F2 h k p.2, keeps_followed g j P Q F F2 h k p.3)
keeps_followed (too_deep f) j P Q F F2 h k p = (none_followed f j p.0, keeps_followed f j P Q F F2 h k p.1)

-- how a value goes on with a token
data Going (most goal : ℕ) (done : List Class) (t : Token) (o : Option (List Class)) : Type 0 where
  on : (c : Class) (s : State) → class_of t ≡ Some c → run_within most goal (wants []) (done ++ c ∷ []) ≡ Some s → o ≡ Some (done ++ c ∷ []) → Going most goal done t o
  off : o ≡ None → ((c : Class) → class_of t ≡ Some c → run_within most goal (wants []) (done ++ c ∷ []) ≡ None) → Going most goal done t o

going_run : (most goal : ℕ) (done : List Class) (t : Token) (c : Class) → class_of t ≡ Some c → (r : Option State) → run_within most goal (wants []) (done ++ c ∷ []) ≡ r → Going most goal done t (option_map (λ _. done ++ c ∷ []) r)
going_run most goal done t c e None k = off refl (λ d h. let same : c ≡ d = some_is (sym e ∙ h) in subst (λ x. run_within most goal (wants []) (done ++ x ∷ []) ≡ None) same k)
going_run most goal done t c e (Some s) k = on c s e k refl

going_class : (most goal : ℕ) (done : List Class) (t : Token) (o : Option Class) → class_of t ≡ o → Going most goal done t (option_and_then (one_more most goal done) o)
going_class most goal done t None e = off refl (λ c h. absurd (cc (e, h)))
going_class most goal done t (Some c) e = going_run most goal done t c e (run_within most goal (wants []) (done ++ c ∷ [])) refl

going : (most goal : ℕ) (done : List Class) (t : Token) → Going most goal done t (option_and_then (one_more most goal done) (class_of t))
going most goal done t = going_class most goal done t (class_of t) refl

-- what is kept behind a token

slot_keeps : (P : Given → Type 0) (F : Token → Bool) (s : Slot) (k : Filled s → Form) (f2 : Form) → ((x : Filled s) → Keeps P F (k x)) → (o : Option (Filled s)) → option_map k o ≡ Some f2 → Keeps P F f2
slot_keeps P F s k f2 h None e = absurd (cc)
slot_keeps P F s k f2 h (Some x) e = subst (Keeps P F) (some_is e) (h x)

pick_keeps : (P : Given → Type 0) (F : Token → Bool) (f f2 : Form) (other : Option Form) → Keeps P F f → (other ≡ Some f2 → Keeps P F f2) → (b : Bool) → cond b (Some f) other ≡ Some f2 → Keeps P F f2
pick_keeps P F f f2 other k h true e = subst (Keeps P F) (some_is e) k
pick_keeps P F f f2 other k h false e = h e

value_keeps : (P : Given → Type 0) (F : Token → Bool) (most goal : ℕ) (done : List Class) (k : Part → Form) (f2 : Form) (t : Token) → Keeps P F (rest_of most goal done k) → ((v : Part) → after (k v) t ≡ Some f2 → Keeps P F f2) → (o : Option (List Class)) → Going most goal done t o → gone_on (λ more. rest_of most goal more k) (cond (ends_value t) (option_and_then (λ v. after (k v) t) (value_of most goal done)) None) o ≡ Some f2 → Keeps P F f2
value_keeps P F most goal done k f2 t p h o (on c s e r z) q =
    let same : rest_of most goal (done ++ c ∷ []) k ≡ f2 = some_is (sym (ap (gone_on (λ more. rest_of most goal more k) (cond (ends_value t) (option_and_then (λ v. after (k v) t) (value_of most goal done)) None)) z) ∙ q) in
    subst (Keeps P F) same (p.0, (s, r), p.2, p.3)
value_keeps P F most goal done k f2 t p h o (off z n) q =
    let c = chained (λ v. after (k v) t) (value_of most goal done) f2 ((guarded (ends_value t) (option_and_then (λ v. after (k v) t) (value_of most goal done)) f2 (sym (ap (gone_on (λ more. rest_of most goal more k) (cond (ends_value t) (option_and_then (λ v. after (k v) t) (value_of most goal done)) None)) z) ∙ q)).1) in
    h c.0 c.2

-- what may stand behind an item of a list
items_keep : (P : Given → Type 0) (F : Token → Bool) (item : Form) (sep : List ℕ) (done : List Given) (k : List Given → Form) → Keeps P F (more_of item sep done k) → Keeps P F (followed item (λ g. more_of item sep (done ++ g ∷ []) k))
items_keep P F item sep done k p = keeps_followed item (λ g. more_of item sep (done ++ g ∷ []) k) (λ g. Unit {0}) P p.0 F
    (λ g t e. begun_item P F item sep (done ++ g ∷ []) k p t (is_text sep t) refl e) (λ g. (p.0, p.1, p.2, p.3, p.4, p.5)) p.4
  where
    begun_item : (P : Given → Type 0) (F : Token → Bool) (item : Form) (sep : List ℕ) (gs : List Given) (k : List Given → Form) (p : Keeps P F (more_of item sep gs k)) (t : Token) → (b : Bool) → is_text sep t ≡ b → (b || starts (k gs) F t) ≡ true → p.0 t ≡ true
    begun_item P F item sep gs k p t true z e = subst (λ x. p.0 x ≡ true) (sym (text_is sep t z)) p.1
    begun_item P F item sep gs k p t false z e = p.2 gs t e

first_keeps : (P : Given → Type 0) (F : Token → Bool) (f2 : Form) (a b : Option Form) → (a ≡ Some f2 → Keeps P F f2) → (b ≡ Some f2 → Keeps P F f2) → option_or a b ≡ Some f2 → Keeps P F f2
first_keeps P F f2 None b h i e = i e
first_keeps P F f2 (Some x) b h i e = h e

pub keeps_after : (P : Given → Type 0) (F : Token → Bool) (f f2 : Form) (t : Token) → Keeps P F f → after f t ≡ Some f2 → Keeps P F f2
keeps_after P F (gives g) f2 t k e = absurd (cc)
keeps_after P F (takes s m) f2 t k e = slot_keeps P F s m f2 k.1 (filled s t) e
keeps_after P F (either w f g) f2 t k e = pick_keeps P F f f2 (after g t) k.1 (λ x. keeps_after P F g f2 t k.2 x) (is_text w t) e
keeps_after P F (rest_of most goal done m) f2 t k e = value_keeps P F most goal done m f2 t k (λ v x. keeps_after P F (m v) f2 t (k.3 v) x) (option_and_then (one_more most goal done) (class_of t)) (going most goal done t) e
keeps_after P F (more_of item sep done m) f2 t k e = pick_keeps P F (followed item (λ g. more_of item sep (done ++ g ∷ []) m)) f2 (after (m done) t) (items_keep P F item sep done m k) (λ x. keeps_after P F (m done) f2 t (k.5 done) x) (is_text sep t) e
keeps_after P F (one_of f g) f2 t k e = first_keeps P F f2 (after f t) (after g t) (λ x. keeps_after P F f f2 t k.2 x) (λ x. keeps_after P F g f2 t k.3 x) e
keeps_after P F (too_deep f) f2 t k e = absurd (cc)

-- numbers of tokens

pub behind_both : (n : ℕ) (a b : List Token) → behind n (a ++ b) ≡ behind (behind n a) b
behind_both n [] b = refl
behind_both n (t ∷ a) b = behind_both (fewer n) a b

behind_zero : (ts : List Token) → behind 0 ts ≡ 0
behind_zero [] = refl
behind_zero (t ∷ ts) = behind_zero ts

one_longer : (done : List Class) (c : Class) → length (done ++ c ∷ []) ≡ suc (length done)
one_longer [] c = refl
one_longer (d ∷ done) c = ap suc (one_longer done c)

counted : (done : List Class) (c : Class) (n : ℕ) → length (done ++ c ∷ []) + n ≡ length done + suc n
counted done c n = let e = one_longer done c in omega arith

pub take_less : (most n m : ℕ) (ns : List ℕ) → n ≤ m → AreWithin most (take m ns) → AreWithin most (take n ns)
take_less most zero m ns h w = tt
take_less most (suc n) zero ns h w = absurd (omega arith)
take_less most (suc n) (suc m) [] h w = tt
take_less most (suc n) (suc m) (k ∷ ns) h w = (w.0, take_less most n m ns (omega arith) w.1)

pub take_within : (most n : ℕ) (ns : List ℕ) → AreWithin most ns → AreWithin most (take n ns)
take_within most zero ns w = tt
take_within most (suc n) [] w = tt
take_within most (suc n) (k ∷ ns) w = (w.0, take_within most n ns w.1)

-- what is of a form that is followed

pub record Splits (f : Form) (j : Given → Form) (n : ℕ) (ts : List Token) (v : Given) : Type 0 where
  pub own : List Token
  pub rest : List Token
  pub item : Given
  pub tokens_are : ts ≡ own ++ rest
  pub is : IsOf f n own item
  pub more : IsOf (j item) (behind n own) rest v

pub split : (f : Form) (j : Given → Form) (n : ℕ) (ts : List Token) (v : Given) → IsOf (followed f j) n ts v → Splits f j n ts v
split (gives g) j n ts v i = record { own = []; rest = ts; item = g; tokens_are = refl; is = (refl, refl); more = i }
split (takes s k) j n ts v i =
    let r = split (k i.filling) j (fewer n) i.rest v i.more in
    record {
      own = i.first ∷ r.own;
      rest = r.rest;
      item = r.item;
      tokens_are = i.tokens_are ∙ ap (λ l. i.first ∷ l) r.tokens_are;
      is = record { first = i.first; rest = r.own; filling = i.filling; tokens_are = refl; fills = i.fills; more = r.is };
      more = r.more;
    }
split (either w f g) j n ts v (inl c) =
    let r = split f j (fewer n) c.0 v c.2 in
    record { own = text w ∷ r.own; rest = r.rest; item = r.item; tokens_are = c.1 ∙ ap (λ l. text w ∷ l) r.tokens_are; is = inl (r.own, refl, r.is); more = r.more }
split (either w f g) j n ts v (inr i) = let r = split g j n ts v i in record { own = r.own; rest = r.rest; item = r.item; tokens_are = r.tokens_are; is = inr r.is; more = r.more }
split (rest_of most goal done k) j n ts v i =
    let r = split (k (part [] i.tree)) j (behind n i.own) i.rest v i.more in
    record {
      own = i.own ++ r.own;
      rest = r.rest;
      item = r.item;
      tokens_are = i.tokens_are ∙ ap (λ l. i.own ++ l) r.tokens_are ∙ sym (append_assoc i.own r.own r.rest);
      is = record { own = i.own; rest = r.own; classes = i.classes; tree = i.tree; tokens_are = refl; are = i.are; formed = i.formed; fit = i.fit; written = i.written; within = i.within; more = r.is };
      more = subst (λ m. IsOf (j r.item) m r.rest v) (sym (behind_both n i.own r.own)) r.more;
    }
split (more_of item sep done k) j n ts v i =
    let r = split (k (done ++ i.items)) j (behind n i.own) i.rest v i.more in
    record {
      own = i.own ++ r.own;
      rest = r.rest;
      item = r.item;
      tokens_are = i.tokens_are ∙ ap (λ l. i.own ++ l) r.tokens_are ∙ sym (append_assoc i.own r.own r.rest);
      is = record { items = i.items; own = i.own; rest = r.own; tokens_are = refl; are = i.are; more = r.is };
      more = subst (λ m. IsOf (j r.item) m r.rest v) (sym (behind_both n i.own r.own)) r.more;
    }
split (one_of f g) j n ts v (inl i) = let r = split f j n ts v i in record { own = r.own; rest = r.rest; item = r.item; tokens_are = r.tokens_are; is = inl r.is; more = r.more }
split (one_of f g) j n ts v (inr i) = let r = split g j n ts v i in record { own = r.own; rest = r.rest; item = r.item; tokens_are = r.tokens_are; is = inr r.is; more = r.more }
split (too_deep f) j n ts v i =
    let r = split f j 0 ts v i.1 in
    record { own = r.own; rest = r.rest; item = r.item; tokens_are = r.tokens_are; is = (i.0, r.is); more = subst (λ m. IsOf (j r.item) (behind m r.own) r.rest v) (sym i.0) r.more }

pub join : (f : Form) (j : Given → Form) (n : ℕ) (own rest : List Token) (g v : Given) → IsOf f n own g → IsOf (j g) (behind n own) rest v → IsOf (followed f j) n (own ++ rest) v
join (gives h) j n own rest g v i m = subst (λ l. IsOf (j h) n (l ++ rest) v) (sym i.0) (subst (λ x. IsOf (j x) n rest v) i.1 (subst (λ l. IsOf (j g) (behind n l) rest v) i.0 m))
join (takes s k) j n own rest g v i m = record {
  first = i.first;
  rest = i.rest ++ rest;
  filling = i.filling;
  tokens_are = ap (λ l. l ++ rest) i.tokens_are;
  fills = i.fills;
  more = join (k i.filling) j (fewer n) i.rest rest g v i.more (subst (λ l. IsOf (j g) (behind n l) rest v) i.tokens_are m);
}
join (either w f h) j n own rest g v (inl c) m = inl (c.0 ++ rest, ap (λ l. l ++ rest) c.1, join f j (fewer n) c.0 rest g v c.2 (subst (λ l. IsOf (j g) (behind n l) rest v) c.1 m))
join (either w f h) j n own rest g v (inr i) m = inr (join h j n own rest g v i m)
join (rest_of most goal done k) j n own rest g v i m = record {
  own = i.own;
  rest = i.rest ++ rest;
  classes = i.classes;
  tree = i.tree;
  tokens_are = ap (λ l. l ++ rest) i.tokens_are ∙ append_assoc i.own i.rest rest;
  are = i.are;
  formed = i.formed;
  fit = i.fit;
  written = i.written;
  within = i.within;
  more = join (k (part [] i.tree)) j (behind n i.own) i.rest rest g v i.more (subst (λ l. IsOf (j g) l rest v) (ap (behind n) i.tokens_are ∙ behind_both n i.own i.rest) m);
}
join (more_of item sep done k) j n own rest g v i m = record {
  items = i.items;
  own = i.own;
  rest = i.rest ++ rest;
  tokens_are = ap (λ l. l ++ rest) i.tokens_are ∙ append_assoc i.own i.rest rest;
  are = i.are;
  more = join (k (done ++ i.items)) j (behind n i.own) i.rest rest g v i.more (subst (λ l. IsOf (j g) l rest v) (ap (behind n) i.tokens_are ∙ behind_both n i.own i.rest) m);
}
join (one_of f h) j n own rest g v (inl i) m = inl (join f j n own rest g v i m)
join (one_of f h) j n own rest g v (inr i) m = inr (join h j n own rest g v i m)
join (too_deep f) j n own rest g v i m = (i.0, join f j 0 own rest g v i.1 (subst (λ x. IsOf (j g) (behind x own) rest v) i.0 m))

-- a value that ends here
ends_here : (most goal : ℕ) (done : List Class) (k : Part → Form) (n : ℕ) (ts : List Token) (v : Given) (w : Part) → Written most goal done w → IsOf (k w) n ts v → IsOf (rest_of most goal done k) n ts v
ends_here most goal done k n ts v w sp i = record {
  own = [];
  rest = ts;
  classes = [];
  tree = sp.tree;
  tokens_are = refl;
  are = refl;
  formed = sp.formed;
  fit = sp.fit;
  written = sp.written ∙ sym (append-nil done);
  within = take_within most (length done + n) (nests 0 sp.tree) sp.within;
  more = subst (λ x. IsOf (k x) n ts v) (sym sp.value) i;
}

value_written : (most goal : ℕ) (done : List Class) (w : Part) → goal ≤ 9 → value_of most goal done ≡ Some w → Written most goal done w
value_written most goal done w g e = let c = chained (finish goal) (run_within most goal (wants []) done) w e in ends_spells most goal done c.0 w g c.1 c.2

written_value : (most goal : ℕ) (done : List Class) (w : Part) → goal ≤ 9 → Written most goal done w → value_of most goal done ≡ Some w
written_value most goal done w g sp = let c = spells_ends most goal done w g sp in ap (option_and_then (finish goal)) c.runs ∙ c.ends

-- the value of tokens behind which no more of them stand
pub whole_value : (most goal : ℕ) (done : List Class) (tree : Tree) (classes : List Class) (n : ℕ) → goal ≤ 9 → IsFormed [] tree → IsTrue (fits goal (level tree)) → tree_text tree ≡ done ++ classes → classes ≡ [] → AreWithin most (take (length done + n) (nests 0 tree)) → Written most goal done (part [] tree)
whole_value most goal done tree classes n g f k w e a =
    let t : tree_text tree ≡ done = w ∙ ap (λ l. done ++ l) e ∙ append-nil done in
    let l : length (nests 0 tree) ≡ length done = nests_length goal tree g f k ∙ ap length t in
    record { tree = tree; formed = f; fit = k; written = t; value = refl; within = subst (AreWithin most) (take_all (length done + n) (nests 0 tree) (omega arith)) a }

-- a value that goes on
goes_here : (most goal : ℕ) (done : List Class) (k : Part → Form) (t : Token) (c : Class) (n : ℕ) (ts : List Token) (v : Given) → class_of t ≡ Some c → IsOf (rest_of most goal (done ++ c ∷ []) k) n ts v → IsOf (rest_of most goal done k) (suc n) (t ∷ ts) v
goes_here most goal done k t c n ts v e i = record {
  own = t ∷ i.own;
  rest = i.rest;
  classes = c ∷ i.classes;
  tree = i.tree;
  tokens_are = ap (λ l. t ∷ l) i.tokens_are;
  are = (c, i.classes, refl, e, i.are);
  formed = i.formed;
  fit = i.fit;
  written = i.written ∙ append_assoc done (c ∷ []) i.classes;
  within = subst (λ m. AreWithin most (take m (nests 0 i.tree))) (counted done c n) i.within;
  more = i.more;
}

-- a list that ends here, or goes on

no_more : (item : Form) (sep : List ℕ) (done : List Given) (k : List Given → Form) (n : ℕ) (ts : List Token) (v : Given) → IsOf (k done) n ts v → IsOf (more_of item sep done k) n ts v
no_more item sep done k n ts v i = record { items = []; own = []; rest = ts; tokens_are = refl; are = refl; more = subst (λ l. IsOf (k l) n ts v) (sym (append-nil done)) i }

lists_on : (item : Form) (sep : List ℕ) (done : List Given) (k : List Given → Form) (n : ℕ) (ts : List Token) (v : Given) → IsOf (followed item (λ g. more_of item sep (done ++ g ∷ []) k)) n ts v → IsOf (more_of item sep done k) (suc n) (text sep ∷ ts) v
lists_on item sep done k n ts v i =
    let r = split item (λ g. more_of item sep (done ++ g ∷ []) k) n ts v i in
    let m = r.more in
    record {
      items = r.item ∷ m.items;
      own = text sep ∷ (r.own ++ m.own);
      rest = m.rest;
      tokens_are = ap (λ l. text sep ∷ l) (r.tokens_are ∙ ap (λ l. r.own ++ l) m.tokens_are ∙ sym (append_assoc r.own m.own m.rest));
      are = (r.own, m.own, refl, r.is, m.are);
      more = subst (λ l. IsOf (k l) (behind n (r.own ++ m.own)) m.rest v) (append_assoc done (r.item ∷ []) m.items) (subst (λ b. IsOf (k ((done ++ r.item ∷ []) ++ m.items)) b m.rest v) (sym (behind_both n r.own m.own)) m.more);
    }

-- what is met behind a token is met with it

slot_sound : (s : Slot) (k : Filled s → Form) (f2 : Form) (t : Token) (n : ℕ) (ts : List Token) (v : Given) → IsOf f2 n ts v → (o : Option (Filled s)) → filled s t ≡ o → option_map k o ≡ Some f2 → IsOf (takes s k) (suc n) (t ∷ ts) v
slot_sound s k f2 t n ts v i None z e = absurd (cc)
slot_sound s k f2 t n ts v i (Some x) z e = record { first = t; rest = ts; filling = x; tokens_are = refl; fills = z; more = subst (λ f. IsOf f n ts v) (sym (some_is e)) i }

pick_sound : (w : List ℕ) (f g f2 : Form) (t : Token) (n : ℕ) (ts : List Token) (v : Given) → IsOf f2 n ts v → (after g t ≡ Some f2 → IsOf g (suc n) (t ∷ ts) v) → (b : Bool) → is_text w t ≡ b → cond b (Some f) (after g t) ≡ Some f2 → IsOf (either w f g) (suc n) (t ∷ ts) v
pick_sound w f g f2 t n ts v i h true z e = inl (ts, ap (λ u. u ∷ ts) (text_is w t z), subst (λ x. IsOf x n ts v) (sym (some_is e)) i)
pick_sound w f g f2 t n ts v i h false z e = inr (h e)

value_sound : (most goal : ℕ) (done : List Class) (k : Part → Form) (f2 : Form) (t : Token) (n : ℕ) (ts : List Token) (v : Given) → goal ≤ 9 → IsOf f2 n ts v → ((w : Part) → after (k w) t ≡ Some f2 → IsOf (k w) (suc n) (t ∷ ts) v) → (o : Option (List Class)) → Going most goal done t o → gone_on (λ more. rest_of most goal more k) (cond (ends_value t) (option_and_then (λ w. after (k w) t) (value_of most goal done)) None) o ≡ Some f2 → IsOf (rest_of most goal done k) (suc n) (t ∷ ts) v
value_sound most goal done k f2 t n ts v g i h o (on c s e r z) q =
    let same : rest_of most goal (done ++ c ∷ []) k ≡ f2 = some_is (sym (ap (gone_on (λ more. rest_of most goal more k) (cond (ends_value t) (option_and_then (λ w. after (k w) t) (value_of most goal done)) None)) z) ∙ q) in
    goes_here most goal done k t c n ts v e (subst (λ x. IsOf x n ts v) (sym same) i)
value_sound most goal done k f2 t n ts v g i h o (off z never) q =
    let c = chained (λ w. after (k w) t) (value_of most goal done) f2 ((guarded (ends_value t) (option_and_then (λ w. after (k w) t) (value_of most goal done)) f2 (sym (ap (gone_on (λ more. rest_of most goal more k) (cond (ends_value t) (option_and_then (λ w. after (k w) t) (value_of most goal done)) None)) z) ∙ q)).1) in
    ends_here most goal done k (suc n) (t ∷ ts) v c.0 (value_written most goal done c.0 g c.1) (h c.0 c.2)

list_sound : (item : Form) (sep : List ℕ) (done : List Given) (k : List Given → Form) (f2 : Form) (t : Token) (n : ℕ) (ts : List Token) (v : Given) → IsOf f2 n ts v → (after (k done) t ≡ Some f2 → IsOf (k done) (suc n) (t ∷ ts) v) → (b : Bool) → is_text sep t ≡ b → cond b (Some (followed item (λ g. more_of item sep (done ++ g ∷ []) k))) (after (k done) t) ≡ Some f2 → IsOf (more_of item sep done k) (suc n) (t ∷ ts) v
list_sound item sep done k f2 t n ts v i h true z e = subst (λ u. IsOf (more_of item sep done k) (suc n) (u ∷ ts) v) (sym (text_is sep t z)) (lists_on item sep done k n ts v (subst (λ x. IsOf x n ts v) (sym (some_is e)) i))
list_sound item sep done k f2 t n ts v i h false z e = no_more item sep done k (suc n) (t ∷ ts) v (h e)

first_sound : (f g f2 : Form) (t : Token) (n : ℕ) (ts : List Token) (v : Given) → (after f t ≡ Some f2 → IsOf f (suc n) (t ∷ ts) v) → (after g t ≡ Some f2 → IsOf g (suc n) (t ∷ ts) v) → (o : Option Form) → after f t ≡ o → option_or o (after g t) ≡ Some f2 → IsOf (one_of f g) (suc n) (t ∷ ts) v
first_sound f g f2 t n ts v h i None z e = inr (i e)
first_sound f g f2 t n ts v h i (Some x) z e = inl (h (z ∙ e))

pub sound : (P : Given → Type 0) (F : Token → Bool) (f f2 : Form) (t : Token) (n : ℕ) (ts : List Token) (v : Given) → Keeps P F f → after f t ≡ Some f2 → IsOf f2 n ts v → IsOf f (suc n) (t ∷ ts) v
sound P F (gives g) f2 t n ts v p e i = absurd (cc)
sound P F (takes s k) f2 t n ts v p e i = slot_sound s k f2 t n ts v i (filled s t) refl e
sound P F (either w f g) f2 t n ts v p e i = pick_sound w f g f2 t n ts v i (λ x. sound P F g f2 t n ts v p.2 x i) (is_text w t) refl e
sound P F (rest_of most goal done k) f2 t n ts v p e i = value_sound most goal done k f2 t n ts v p.0 i (λ w x. sound P F (k w) f2 t n ts v (p.3 w) x i) (option_and_then (one_more most goal done) (class_of t)) (going most goal done t) e
sound P F (more_of item sep done k) f2 t n ts v p e i = list_sound item sep done k f2 t n ts v i (λ x. sound P F (k done) f2 t n ts v (p.5 done) x i) (is_text sep t) refl e
sound P F (one_of f g) f2 t n ts v p e i = first_sound f g f2 t n ts v (λ x. sound P F f f2 t n ts v p.2 x i) (λ x. sound P F g f2 t n ts v p.3 x i) (after f t) refl e
sound P F (too_deep f) f2 t n ts v p e i = absurd (cc (e))

-- what is met begins as its form does

nothing_first : (t : Token) (ts own rest : List Token) → own ≡ [] → t ∷ ts ≡ own ++ rest → rest ≡ t ∷ ts
nothing_first t ts own rest z e = sym (e ∙ ap (λ l. l ++ rest) z)

value_begins : (goal : ℕ) (t u : Token) (ts own rest : List Token) (cs : List Class) (v : Part) → goal ≤ 9 → t ≡ u → AreClasses (u ∷ own) cs → Reads goal cs v → opens goal [] t ≡ true
value_begins goal t u ts own rest cs v g e a r =
    let s = first_step goal a.0 a.1 v g (subst (λ l. Reads goal l v) a.2 r) in
    ap (λ o. is_some (option_and_then (step goal (wants [])) o)) (ap class_of e ∙ a.3) ∙ ap is_some s.1

value_starts : (goal : ℕ) (done cs : List Class) (t : Token) (ts own rest : List Token) (tree : Tree) → goal ≤ 9 → t ∷ ts ≡ own ++ rest → AreClasses own cs → IsFormed [] tree → IsTrue (fits goal (level tree)) → tree_text tree ≡ done ++ cs → opens goal done t ≡ true
value_starts goal (d ∷ ds) cs t ts own rest tree g e a f k w = refl
value_starts goal [] cs t ts [] rest tree g e a f k w = absurd (some_tokens goal (part [] tree) g (record { tree = tree; formed = f; fit = k; written = w ∙ a; value = refl }))
value_starts goal [] cs t ts (u ∷ own) rest tree g e a f k w = value_begins goal t u ts own rest cs (part [] tree) g (cc (e)) a (record { tree = tree; formed = f; fit = k; written = w; value = refl })

list_starts : (P : Given → Type 0) (F : Token → Bool) (item : Form) (sep : List ℕ) (done : List Given) (k : List Given → Form) (n : ℕ) (t : Token) (ts : List Token) (v : Given) (items : List Given) (own rest : List Token) → t ∷ ts ≡ own ++ rest → AreItems (IsOf item) sep n items own → IsOf (k (done ++ items)) (behind n own) rest v → ((m : ℕ) → IsOf (k done) m (t ∷ ts) v → starts (k done) F t ≡ true) → starts (more_of item sep done k) F t ≡ true
list_starts P F item sep done k n t ts v [] own rest e a i h = or_right (is_text sep t) (starts (k done) F t) (h (behind n own) (subst (λ l. IsOf (k l) (behind n own) (t ∷ ts) v) (append-nil done) (subst (λ l. IsOf (k (done ++ [])) (behind n own) l v) (nothing_first t ts own rest a e) i)))
list_starts P F item sep done k n t ts v (g ∷ gs) own rest e a i h =
    let same : t ≡ text sep = cc (e, a.2) in
    ap (λ u. is_text sep u || starts (k done) F u) same ∙ ap (λ b. b || starts (k done) F (text sep)) (is_text_own sep)

pub begins : (P : Given → Type 0) (F : Token → Bool) (f : Form) (n : ℕ) (t : Token) (ts : List Token) (v : Given) → Keeps P F f → IsOf f n (t ∷ ts) v → starts f F t ≡ true
begins P F (gives g) n t ts v p i = let z : t ∷ ts ≡ [] = i.0 in absurd (cc)
begins P F (takes s k) n t ts v p i = let e : t ≡ i.first = cc (i.tokens_are) in ap is_some (ap (filled s) e ∙ i.fills)
begins P F (either w f g) n t ts v p (inl c) = let e : t ≡ text w = cc (c.1) in ap (λ x. is_text w x || starts g F x) e ∙ ap (λ b. b || starts g F (text w)) (is_text_own w)
begins P F (either w f g) n t ts v p (inr i) = or_right (is_text w t) (starts g F t) (begins P F g n t ts v p.2 i)
begins P F (rest_of most goal done k) n t ts v p i = value_starts goal done i.classes t ts i.own i.rest i.tree p.0 i.tokens_are i.are i.formed i.fit i.written
begins P F (more_of item sep done k) n t ts v p i = list_starts P F item sep done k n t ts v i.items i.own i.rest i.tokens_are i.are i.more (λ m x. begins P F (k done) m t ts v (p.5 done) x)
begins P F (one_of f g) n t ts v p (inl i) = ap (λ b. b || starts g F t) (begins P F f n t ts v p.2 i)
begins P F (one_of f g) n t ts v p (inr i) = or_right (starts f F t) (starts g F t) (begins P F g n t ts v p.3 i)
begins P F (too_deep f) n t ts v p i = begins P F f 0 t ts v p.1 i.1

-- every form that keeps its choices apart is met

pub record Met (P : Given → Type 0) (f : Form) : Type 0 where
  pub tokens : List Token
  pub value : Given
  pub is : IsOf f 0 tokens value
  pub fine : P value

slot_filled : (s : Slot) → is_met s ≡ true → (t : Token) × (x : Filled s) × (filled s t ≡ Some x)
unfolding is_variable is_constant is_name is_reserved reserved
slot_filled (exactly w) e = (text w, tt, ap (λ b. cond b (Some tt) None) (is_text_own w))
slot_filled a_variable e = (text (codes "a"), codes "a", refl)
slot_filled a_constant e = (text (codes "A"), codes "A", refl)
slot_filled any_name e = (text (codes "a"), codes "a", refl)
slot_filled a_reference e = (number 0, refs.Line 0, refl)
slot_filled (a_number least most) e = (number least, least, ap (λ b. cond (b && leb least most) (Some least) None) (le-leb least least (omega arith)) ∙ ap (λ b. cond b (Some least) None) e)

pub met : (P : Given → Type 0) (F : Token → Bool) (f : Form) → Keeps P F f → Met P f
met P F (gives g) p = record { tokens = []; value = g; is = (refl, refl); fine = p }
met P F (takes s k) p =
    let x = slot_filled s p.0 in
    let r = met P F (k x.1) (p.1 x.1) in
    record { tokens = x.0 ∷ r.tokens; value = r.value; is = record { first = x.0; rest = r.tokens; filling = x.1; tokens_are = refl; fills = x.2; more = r.is }; fine = r.fine }
met P F (either w f g) p = let r = met P F g p.2 in record { tokens = r.tokens; value = r.value; is = inr r.is; fine = r.fine }
met P F (rest_of most goal done k) p =
    let c = runs_plain most goal done p.1.0 p.0 p.1.1 in
    let own = plain_tokens c.0.rest c.1 in
    let w = part [] c.0.tree in
    let r = met P F (k w) (p.3 w) in
    record {
      tokens = own.0 ++ r.tokens;
      value = r.value;
      is = record {
        own = own.0;
        rest = r.tokens;
        classes = c.0.rest;
        tree = c.0.tree;
        tokens_are = refl;
        are = own.1;
        formed = c.0.formed;
        fit = c.0.fit;
        written = c.0.written;
        within = subst (λ m. AreWithin most (take m (nests 0 c.0.tree))) (plus_none (length done)) c.0.within;
        more = subst (λ m. IsOf (k w) m r.tokens r.value) (sym (behind_zero own.0)) r.is;
      };
      fine = r.fine;
    }
  where
    plus_none : (m : ℕ) → m ≡ m + 0
    plus_none m = omega arith
met P F (more_of item sep done k) p = let r = met P F (k done) (p.5 done) in record { tokens = r.tokens; value = r.value; is = no_more item sep done k 0 r.tokens r.value r.is; fine = r.fine }
met P F (one_of f g) p = let r = met P F g p.3 in record { tokens = r.tokens; value = r.value; is = inr r.is; fine = r.fine }
met P F (too_deep f) p = let r = met P F f p.1 in record { tokens = r.tokens; value = r.value; is = (refl, r.is); fine = r.fine }

-- what is met with a token is met behind it

pub record Next (f : Form) (t : Token) (n : ℕ) (ts : List Token) (v : Given) : Type 0 where
  pub form : Form
  pub is_after : after f t ≡ Some form
  pub is : IsOf form n ts v

pick_other : (P : Given → Type 0) (F : Token → Bool) (w : List ℕ) (f g : Form) (t : Token) (n : ℕ) (ts : List Token) (v : Given) → starts g F (text w) ≡ false → starts g F t ≡ true → Next g t n ts v → (b : Bool) → is_text w t ≡ b → Next (either w f g) t n ts v
pick_other P F w f g t n ts v never yes_so r true z = absurd (true≢false (sym yes_so ∙ ap (starts g F) (text_is w t z) ∙ never))
pick_other P F w f g t n ts v never yes_so r false z = record { form = r.form; is_after = ap (λ b. cond b (Some f) (after g t)) z ∙ r.is_after; is = r.is }

-- behind a whole value
ended_none : (most goal : ℕ) (done : List Class) (t : Token) (w : Part) → goal ≤ 9 → Written most goal done w → ends_value t ≡ true → option_and_then (one_more most goal done) (class_of t) ≡ None
ended_none most goal done t w g sp e = go (class_of t) e
  where
    go : (o : Option Class) → ends_class o ≡ true → option_and_then (one_more most goal done) o ≡ None
    go None e = refl
    go (Some c) e =
        let x = spells_ends most goal done w g sp in
        ap (option_map (λ _. done ++ c ∷ [])) (run_last most goal (wants []) done c x.state x.runs ∙ advance_stops most goal x.state w c e x.ends)

value_ends : (P : Given → Type 0) (F : Token → Bool) (most goal : ℕ) (done : List Class) (k : Part → Form) (t : Token) (n : ℕ) (ts : List Token) (v : Given) (w : Part) → goal ≤ 9 → Written most goal done w → ends_value t ≡ true → Next (k w) t n ts v → Next (rest_of most goal done k) t n ts v
value_ends P F most goal done k t n ts v w g sp e r = record {
  form = r.form;
  is_after = ap (gone_on (λ more. rest_of most goal more k) (cond (ends_value t) (option_and_then (λ x. after (k x) t) (value_of most goal done)) None)) (ended_none most goal done t w g sp e) ∙ ap (λ b. cond b (option_and_then (λ x. after (k x) t) (value_of most goal done)) None) e ∙ ap (option_and_then (λ x. after (k x) t)) (written_value most goal done w g sp) ∙ r.is_after;
  is = r.is;
}

value_goes : (most goal : ℕ) (done : List Class) (k : Part → Form) (t : Token) (n : ℕ) (ts own rest : List Token) (v : Given) (c : Class) (cs : List Class) (tree : Tree) → goal ≤ 9 → ts ≡ own ++ rest → class_of t ≡ Some c → AreClasses own cs → IsFormed [] tree → IsTrue (fits goal (level tree)) → tree_text tree ≡ done ++ (c ∷ cs) → AreWithin most (take (length done + suc n) (nests 0 tree)) → IsOf (k (part [] tree)) (behind n own) rest v → Next (rest_of most goal done k) t n ts v
value_goes most goal done k t n ts own rest v c cs tree g e z a f q w b i =
    let w2 : tree_text tree ≡ (done ++ c ∷ []) ++ cs = w ∙ sym (append_assoc done (c ∷ []) cs) in
    let b2 : AreWithin most (take (length (done ++ c ∷ []) + n) (nests 0 tree)) = subst (λ m. AreWithin most (take m (nests 0 tree))) (sym (counted done c n)) b in
    let can : Begun most goal (done ++ c ∷ []) = record { tree = tree; rest = cs; formed = f; fit = q; written = w2; within = take_less most (length (done ++ c ∷ [])) (length (done ++ c ∷ []) + n) (nests 0 tree) (omega arith) b2 } in
    let r = can_runs most goal (done ++ c ∷ []) g can in
    record {
      form = rest_of most goal (done ++ c ∷ []) k;
      is_after = ap (gone_on (λ more. rest_of most goal more k) (cond (ends_value t) (option_and_then (λ x. after (k x) t) (value_of most goal done)) None)) (ap (option_and_then (one_more most goal done)) z ∙ ap (option_map (λ _. done ++ c ∷ [])) r.1);
      is = record { own = own; rest = rest; classes = cs; tree = tree; tokens_are = e; are = a; formed = f; fit = q; written = w2; within = b2; more = i };
    }

value_next : (P : Given → Type 0) (F : Token → Bool) (most goal : ℕ) (done : List Class) (k : Part → Form) (t : Token) (n : ℕ) (ts : List Token) (v : Given) → Keeps P F (rest_of most goal done k) → (own rest : List Token) (cs : List Class) (tree : Tree) → t ∷ ts ≡ own ++ rest → AreClasses own cs → IsFormed [] tree → IsTrue (fits goal (level tree)) → tree_text tree ≡ done ++ cs → AreWithin most (take (length done + suc n) (nests 0 tree)) → IsOf (k (part [] tree)) (behind (suc n) own) rest v → ((w : Part) → IsOf (k w) (suc n) (t ∷ ts) v → Next (k w) t n ts v) → Next (rest_of most goal done k) t n ts v
value_next P F most goal done k t n ts v p [] rest cs tree e a f q w b i h =
    let x = part [] tree in
    let here : IsOf (k x) (suc n) (t ∷ ts) v = subst (λ l. IsOf (k x) (suc n) l v) (sym e) i in
    value_ends P F most goal done k t n ts v x p.0 (whole_value most goal done tree cs (suc n) p.0 f q w a b) (p.2 x t (begins P F (k x) (suc n) t ts v (p.3 x) here)) (h x here)
value_next P F most goal done k t n ts v p (u ∷ own) rest cs tree e a f q w b i h =
    let same : t ≡ u = cc (e) in
    let more : ts ≡ own ++ rest = cc (e) in
    value_goes most goal done k t n ts own rest v a.0 a.1 tree p.0 more (ap class_of same ∙ a.3) a.4 f q (w ∙ ap (λ l. done ++ l) a.2) b i

list_ends : (P : Given → Type 0) (F : Token → Bool) (item : Form) (sep : List ℕ) (done : List Given) (k : List Given → Form) (t : Token) (n : ℕ) (ts : List Token) (v : Given) → Keeps P F (more_of item sep done k) → starts (k done) F t ≡ true → Next (k done) t n ts v → (b : Bool) → is_text sep t ≡ b → Next (more_of item sep done k) t n ts v
list_ends P F item sep done k t n ts v p yes_so r true z = absurd (true≢false (sym yes_so ∙ ap (starts (k done) F) (text_is sep t z) ∙ p.3 done))
list_ends P F item sep done k t n ts v p yes_so r false z = record { form = r.form; is_after = ap (λ b. cond b (Some (followed item (λ g. more_of item sep (done ++ g ∷ []) k))) (after (k done) t)) z ∙ r.is_after; is = r.is }

list_next : (P : Given → Type 0) (F : Token → Bool) (item : Form) (sep : List ℕ) (done : List Given) (k : List Given → Form) (t : Token) (n : ℕ) (ts : List Token) (v : Given) → Keeps P F (more_of item sep done k) → (items : List Given) (own rest : List Token) → t ∷ ts ≡ own ++ rest → AreItems (IsOf item) sep (suc n) items own → IsOf (k (done ++ items)) (behind (suc n) own) rest v → (IsOf (k done) (suc n) (t ∷ ts) v → Next (k done) t n ts v) → Next (more_of item sep done k) t n ts v
list_next P F item sep done k t n ts v p [] own rest e a i h =
    let here : IsOf (k done) (suc n) (t ∷ ts) v = subst (λ l. IsOf (k l) (suc n) (t ∷ ts) v) (append-nil done) (subst (λ l. IsOf (k (done ++ [])) (suc n) l v) (nothing_first t ts own rest a e) (subst (λ l. IsOf (k (done ++ [])) (behind (suc n) l) rest v) a i)) in
    list_ends P F item sep done k t n ts v p (begins P F (k done) (suc n) t ts v (p.5 done) here) (h here) (is_text sep t) refl
list_next P F item sep done k t n ts v p (g ∷ gs) own rest e a i h =
    let first : t ≡ text sep = cc (e, a.2) in
    let tokens : ts ≡ (a.0 ++ a.1) ++ rest = cc (e, a.2) in
    let last : IsOf (k (done ++ g ∷ gs)) (behind n (a.0 ++ a.1)) rest v = subst (λ l. IsOf (k (done ++ g ∷ gs)) (behind (suc n) l) rest v) a.2 i in
    let more : IsOf (more_of item sep (done ++ g ∷ []) k) (behind n a.0) (a.1 ++ rest) v = record {
      items = gs;
      own = a.1;
      rest = rest;
      tokens_are = refl;
      are = a.4;
      more = subst (λ b. IsOf (k ((done ++ g ∷ []) ++ gs)) b rest v) (behind_both n a.0 a.1) (subst (λ l. IsOf (k l) (behind n (a.0 ++ a.1)) rest v) (sym (append_assoc done (g ∷ []) gs)) last);
    } in
    record {
      form = followed item (λ x. more_of item sep (done ++ x ∷ []) k);
      is_after = ap (λ u. cond (is_text sep u) (Some (followed item (λ x. more_of item sep (done ++ x ∷ []) k))) (after (k done) u)) first ∙ ap (λ b. cond b (Some (followed item (λ x. more_of item sep (done ++ x ∷ []) k))) (after (k done) (text sep))) (is_text_own sep);
      is = subst (λ l. IsOf (followed item (λ x. more_of item sep (done ++ x ∷ []) k)) n l v) (sym (tokens ∙ append_assoc a.0 a.1 rest)) (join item (λ x. more_of item sep (done ++ x ∷ []) k) n a.0 (a.1 ++ rest) g v a.3 more);
    }

-- a form that goes on with a token begins with it
goes_begins : (P : Given → Type 0) (F : Token → Bool) (f f2 : Form) (t : Token) → Keeps P F f → after f t ≡ Some f2 → starts f F t ≡ true
goes_begins P F f f2 t p e =
    let r = met P F f2 (keeps_after P F f f2 t p e) in
    begins P F f 1 t r.tokens r.value p (sound P F f f2 t 0 r.tokens r.value p e r.is)

none_after : (P : Given → Type 0) (F : Token → Bool) (f : Form) (t : Token) → Keeps P F f → starts f F t ≡ false → after f t ≡ None
none_after P F f t p n = go (after f t) refl
  where
    go : (o : Option Form) → after f t ≡ o → o ≡ None
    go None e = refl
    go (Some f2) e = absurd (true≢false (sym (goes_begins P F f f2 t p e) ∙ n))

-- where the first of two forms does not begin with a token
apart : (a b : Bool) → (a ≡ true → b ≡ false) → b ≡ true → a ≡ false
apart true b h e = absurd (true≢false (sym e ∙ h refl))
apart false b h e = refl

pub next : (P : Given → Type 0) (F : Token → Bool) (f : Form) (t : Token) (n : ℕ) (ts : List Token) (v : Given) → Keeps P F f → IsOf f (suc n) (t ∷ ts) v → Next f t n ts v
next P F (gives g) t n ts v p i = let z : t ∷ ts ≡ [] = i.0 in absurd (cc)
next P F (takes s k) t n ts v p i =
    let first : t ≡ i.first = cc (i.tokens_are) in
    let rest : i.rest ≡ ts = cc (i.tokens_are) in
    record { form = k i.filling; is_after = ap (option_map k) (ap (filled s) first ∙ i.fills); is = subst (λ l. IsOf (k i.filling) n l v) rest i.more }
next P F (either w f g) t n ts v p (inl c) =
    let first : t ≡ text w = cc (c.1) in
    let rest : c.0 ≡ ts = cc (c.1) in
    record { form = f; is_after = ap (λ b. cond b (Some f) (after g t)) (ap (is_text w) first ∙ is_text_own w); is = subst (λ l. IsOf f n l v) rest c.2 }
next P F (either w f g) t n ts v p (inr i) = pick_other P F w f g t n ts v p.0 (begins P F g (suc n) t ts v p.2 i) (next P F g t n ts v p.2 i) (is_text w t) refl
next P F (rest_of most goal done k) t n ts v p i = value_next P F most goal done k t n ts v p i.own i.rest i.classes i.tree i.tokens_are i.are i.formed i.fit i.written i.within i.more (λ w x. next P F (k w) t n ts v (p.3 w) x)
next P F (more_of item sep done k) t n ts v p i = list_next P F item sep done k t n ts v p i.items i.own i.rest i.tokens_are i.are i.more (λ x. next P F (k done) t n ts v (p.5 done) x)
next P F (one_of f g) t n ts v p (inl i) = let r = next P F f t n ts v p.2 i in record { form = r.form; is_after = ap (λ o. option_or o (after g t)) r.is_after; is = r.is }
next P F (one_of f g) t n ts v p (inr i) =
    let r = next P F g t n ts v p.3 i in
    let never : starts f F t ≡ false = apart (starts f F t) (starts g F t) (p.0 t) (begins P F g (suc n) t ts v p.3 i) in
    record { form = r.form; is_after = ap (λ o. option_or o (after g t)) (none_after P F f t p.2 never) ∙ r.is_after; is = r.is }
next P F (too_deep f) t n ts v p i = let z : suc n ≡ 0 = i.0 in absurd (omega arith)

-- the end of the tokens

pub ends_is : (P : Given → Type 0) (F : Token → Bool) (f : Form) (n : ℕ) (v : Given) → Keeps P F f → given f ≡ Some v → IsOf f n [] v
ends_is P F (gives g) n v p e = (refl, cc (e))
ends_is P F (takes s k) n v p e = absurd (cc)
ends_is P F (either w f g) n v p e = inr (ends_is P F g n v p.2 e)
ends_is P F (rest_of most goal done k) n v p e = let c = chained (λ w. given (k w)) (value_of most goal done) v e in ends_here most goal done k n [] v c.0 (value_written most goal done c.0 p.0 c.1) (ends_is P F (k c.0) n v (p.3 c.0) c.2)
ends_is P F (more_of item sep done k) n v p e = no_more item sep done k n [] v (ends_is P F (k done) n v (p.5 done) e)
ends_is P F (one_of f g) n v p e = inr (ends_is P F g n v p.3 e)
ends_is P F (too_deep f) n v p e = absurd (cc (e))

both_empty : (a b : List Token) → [] ≡ a ++ b → (a ≡ []) × (b ≡ [])
both_empty [] b e = (refl, sym e)
both_empty (t ∷ a) b e = absurd (cc)

list_given : (item : Form) (sep : List ℕ) (done : List Given) (k : List Given → Form) (n : ℕ) (v : Given) (items : List Given) (own rest : List Token) → [] ≡ own ++ rest → AreItems (IsOf item) sep n items own → IsOf (k (done ++ items)) (behind n own) rest v → ((m : ℕ) → IsOf (k done) m [] v → given (k done) ≡ Some v) → given (k done) ≡ Some v
list_given item sep done k n v [] own rest e a i h = h (behind n own) (subst (λ l. IsOf (k l) (behind n own) [] v) (append-nil done) (subst (λ l. IsOf (k (done ++ [])) (behind n own) l v) (both_empty own rest e).1 i))
list_given item sep done k n v (g ∷ gs) own rest e a i h = let z : [] ≡ text sep ∷ (a.0 ++ a.1) = sym (both_empty own rest e).0 ∙ a.2 in absurd (cc)

pub is_given : (P : Given → Type 0) (F : Token → Bool) (f : Form) (n : ℕ) (v : Given) → Keeps P F f → IsOf f n [] v → given f ≡ Some v
is_given P F (gives g) n v p i = ap Some (sym i.1)
is_given P F (takes s k) n v p i = let z : [] ≡ i.first ∷ i.rest = i.tokens_are in absurd (cc)
is_given P F (either w f g) n v p (inl c) = let z : [] ≡ text w ∷ c.0 = c.1 in absurd (cc)
is_given P F (either w f g) n v p (inr i) = is_given P F g n v p.2 i
is_given P F (rest_of most goal done k) n v p i =
    let z = both_empty i.own i.rest i.tokens_are in
    let none : i.classes ≡ [] = subst (λ l. AreClasses l i.classes) z.0 i.are in
    let sp = whole_value most goal done i.tree i.classes n p.0 i.formed i.fit i.written none i.within in
    ap (option_and_then (λ w. given (k w))) (written_value most goal done (part [] i.tree) p.0 sp) ∙ is_given P F (k (part [] i.tree)) (behind n i.own) v (p.3 (part [] i.tree)) (subst (λ l. IsOf (k (part [] i.tree)) (behind n i.own) l v) z.1 i.more)
is_given P F (more_of item sep done k) n v p i = list_given item sep done k n v i.items i.own i.rest i.tokens_are i.are i.more (λ m x. is_given P F (k done) m v (p.5 done) x)
is_given P F (one_of f g) n v p (inl i) = let z : Some v ≡ None = sym (is_given P F f n v p.2 i) ∙ p.1 in absurd (cc)
is_given P F (one_of f g) n v p (inr i) = is_given P F g n v p.3 i
is_given P F (too_deep f) n v p i = let z : Some v ≡ None = sym (is_given P F f 0 v p.1 i.1) ∙ p.0 in absurd (cc)

-- what is given is of the kind
pub given_fine : (P : Given → Type 0) (F : Token → Bool) (f : Form) (v : Given) → Keeps P F f → given f ≡ Some v → P v
given_fine P F (gives g) v p e = subst P (cc (e)) p
given_fine P F (takes s k) v p e = absurd (cc)
given_fine P F (either w f g) v p e = given_fine P F g v p.2 e
given_fine P F (rest_of most goal done k) v p e = let c = chained (λ w. given (k w)) (value_of most goal done) v e in given_fine P F (k c.0) v (p.3 c.0) c.2
given_fine P F (more_of item sep done k) v p e = given_fine P F (k done) v (p.5 done) e
given_fine P F (one_of f g) v p e = given_fine P F g v p.3 e
given_fine P F (too_deep f) v p e = absurd (cc (e))
