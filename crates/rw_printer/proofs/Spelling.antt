-- Parts of a form that bytes spell, whatever is to follow them.
use Rattle.std.proofs.Common.{◌≡◌, ℕ, true, List, [], ◌∷◌, ◌++◌, Some, None, IsTrue, refl, sym, ap, ◌∙◌, subst, append_assoc, append-nil, map, cond}
use Rattle.rw_syntax.specs.declared.frame.Part.{Part}
use Rattle.rw_syntax.specs.Grammar.{Tree, level, fits, nests, text as tree_text}
use Rattle.rw_syntax.specs.Spelling.{AreWithin}
use Rattle.rw_tokens.specs.Tokens.{Token, text, skip, token_at, LeadsTo}
use Rattle.rw_forms.specs.Forms.{Slot, Filled, filled, Given, Form, gives, takes, rest_of, more_of, many, fewer, behind, AreItems, IsOf}
use Rattle.rw_forms.specs.Phrases.{mark}
use Rattle.rw_forms.proofs.Grammar.{join, behind_both, is_text_own, take_within}
use Rattle.rw_printer.specs.Layout.{listed}
use Rattle.rw_printer.proofs.Fits.{Shown}
use Rattle.rw_printer.proofs.Leading.{Leads, leads_join, skip_space}
use Rattle.rw_printer.proofs.Lexed.{Starts, starts_with, skip_start}
use Rattle.rw_printer.proofs.Fronts.{ends}

-- these bytes spell a part of a form with this value
pub record Spelt {A : Type 0} (part : (A → Form) → Form) (x : A) (here there : List ℕ) : Type 0 where
  pub tokens : List Token
  pub leads : LeadsTo here tokens there
  pub is : (k : A → Form) (n : ℕ) (rest : List Token) (v : Given) → IsOf (k x) (behind n tokens) rest v → IsOf (part k) n (tokens ++ rest) v

pub spelt_from : {A : Type 0} {part : (A → Form) → Form} {x : A} {a b c : List ℕ} → a ≡ b → Spelt part x b c → Spelt part x a c
spelt_from {A} {part} {x} {a} {b} {c} e s = subst (λ z. Spelt part x z c) (sym e) s

pub spelt_to : {A : Type 0} {part : (A → Form) → Form} {x : A} {a b c : List ℕ} → b ≡ c → Spelt part x a b → Spelt part x a c
spelt_to {A} {part} {x} {a} {b} {c} e s = subst (λ z. Spelt part x a z) e s

pub spelt_as : {A : Type 0} {part : (A → Form) → Form} {x y : A} {a b : List ℕ} → x ≡ y → Spelt part x a b → Spelt part y a b
spelt_as {A} {part} {x} {y} {a} {b} e s = subst (λ z. Spelt part z a b) e s

pub slot_spelt : (s : Slot) (x : Filled s) (here there : List ℕ) (t : Token) → token_at here ≡ Some (t, there) → filled s t ≡ Some x → Spelt (takes s) x here there
slot_spelt s x here there t e f = record { tokens = t ∷ []; leads = (there, e, refl); is = λ k n rest v i. record { first = t; rest = rest; filling = x; tokens_are = refl; fills = f; more = i } }

-- one part, and what follows it
pub chain : {A B : Type 0} (part : (A → Form) → Form) (next : A → (B → Form) → Form) (x : A) (y : B) {a b c : List ℕ} → Spelt part x a b → Spelt (next x) y b c → Spelt (λ k. part (λ z. next z k)) y a c
chain part next x y {a} {b} {c} s r = record {
  tokens = s.tokens ++ r.tokens;
  leads = leads_join a s.tokens b r.tokens c s.leads r.leads;
  is = λ k n rest v i.
      subst (λ l. IsOf (part (λ z. next z k)) n l v) (sym (append_assoc s.tokens r.tokens rest))
      (s.is (λ z. next z k) n (r.tokens ++ rest) v (r.is k (behind n s.tokens) rest v (subst (λ m. IsOf (k y) m rest v) (behind_both n s.tokens r.tokens) i)));
}

-- a part with its value told in another way
pub mapped : {A B : Type 0} (part : (A → Form) → Form) (f : A → B) (x : A) {a b : List ℕ} → Spelt part x a b → Spelt (λ k. part (λ z. k (f z))) (f x) a b
mapped part f x s = record { tokens = s.tokens; leads = s.leads; is = λ k n rest v i. s.is (λ z. k (f z)) n rest v i }

-- a word or a symbol before a part
pub marked : {A : Type 0} (w : List ℕ) (part : (A → Form) → Form) (x : A) {a b c : List ℕ} → token_at a ≡ Some (text w, b) → Spelt part x b c → Spelt (λ k. mark w (part k)) x a c
marked w part x {a} {b} {c} e s = record {
  tokens = text w ∷ s.tokens;
  leads = (b, e, s.leads);
  is = λ k n rest v i. record { first = text w; rest = s.tokens ++ rest; filling = tt; tokens_are = refl; fills = ap (λ z. cond z (Some tt) None) (is_text_own w); more = s.is k (fewer n) rest v i };
}

-- a word or a symbol behind everything
pub closed : {A : Type 0} (w : List ℕ) (x : A) {a b : List ℕ} → token_at a ≡ Some (text w, b) → Spelt (λ k. mark w (k x)) x a b
closed w x {a} {b} e = record {
  tokens = text w ∷ [];
  leads = (b, e, refl);
  is = λ k n rest v i. record { first = text w; rest = rest; filling = tt; tokens_are = refl; fills = ap (λ z. cond z (Some tt) None) (is_text_own w); more = i };
}

-- a word that chooses a side, before a part
pub worded : {A B : Type 0} (part : (A → Form) → Form) (whole : (B → Form) → Form) (f : A → B) (w : List ℕ) (x : A) {a b c : List ℕ} → token_at a ≡ Some (text w, b) → ((k : B → Form) (n : ℕ) (rest : List Token) (v : Given) → IsOf (part (λ z. k (f z))) (fewer n) rest v → IsOf (whole k) n (text w ∷ rest) v) → Spelt part x b c → Spelt whole (f x) a c
worded part whole f w x {a} {b} {c} e h s = record { tokens = text w ∷ s.tokens; leads = (b, e, s.leads); is = λ k n rest v i. h k n (s.tokens ++ rest) v (s.is (λ z. k (f z)) (fewer n) rest v i) }

-- a word alone
pub word_alone : {B : Type 0} (whole : (B → Form) → Form) (x : B) (w : List ℕ) {a b : List ℕ} → token_at a ≡ Some (text w, b) → ((k : B → Form) (n : ℕ) (rest : List Token) (v : Given) → IsOf (k x) (fewer n) rest v → IsOf (whole k) n (text w ∷ rest) v) → Spelt whole x a b
word_alone whole x w {a} {b} e h = record { tokens = text w ∷ []; leads = (b, e, refl); is = h }

-- what is of one form is of another
pub within : {A : Type 0} (part whole : (A → Form) → Form) (x : A) {a b : List ℕ} → ((k : A → Form) (n : ℕ) (ts : List Token) (v : Given) → IsOf (part k) n ts v → IsOf (whole k) n ts v) → Spelt part x a b → Spelt whole x a b
within part whole x h s = record { tokens = s.tokens; leads = s.leads; is = λ k n rest v i. h k n (s.tokens ++ rest) v (s.is k n rest v i) }

-- a value of terms and formulas
pub value_spelt : (most goal : ℕ) (t : Tree) (v : Part) {here there : List ℕ} → Leads here (tree_text t) there → IsTrue (fits goal (level t)) → Shown 0 t v → AreWithin most (nests 0 t) → Spelt (rest_of most goal []) v here there
value_spelt most goal t v l f s w = record {
  tokens = l.tokens;
  leads = l.leads;
  is = λ k n rest g i. record {
    own = l.tokens;
    rest = rest;
    classes = tree_text t;
    tree = t;
    tokens_are = refl;
    are = l.classes;
    formed = s.formed;
    fit = f;
    written = refl;
    within = take_within most _ (nests 0 t) w;
    more = subst (λ z. IsOf (k z) (behind n l.tokens) rest g) (sym s.value) i;
  };
}

-- lists

pub record Item (f : Form) (g : Given) (here there : List ℕ) : Type 0 where
  pub tokens : List Token
  pub leads : LeadsTo here tokens there
  pub is : (n : ℕ) → IsOf f n tokens g

pub item : {A : Type 0} (part : (A → Form) → Form) (wrap : A → Given) (x : A) {a b : List ℕ} → Spelt part x a b → Item (part (λ z. gives (wrap z))) (wrap x) a b
item part wrap x s = record { tokens = s.tokens; leads = s.leads; is = λ n. subst (λ l. IsOf (part (λ z. gives (wrap z))) n l (wrap x)) (append-nil s.tokens) (s.is (λ z. gives (wrap z)) n [] (wrap x) (refl, refl)) }

-- items behind separators
pub record More (f : Form) (sep : List ℕ) (gs : List Given) (here there : List ℕ) : Type 0 where
  pub tokens : List Token
  pub leads : LeadsTo here tokens there
  pub are : (n : ℕ) → AreItems (IsOf f) sep n gs tokens

one_more : (f : Form) (sep : List ℕ) (g : Given) (gs : List Given) {a b c d : List ℕ} → token_at a ≡ Some (text sep, b) → Item f g b c → More f sep gs c d → More f sep (g ∷ gs) a d
one_more f sep g gs {a} {b} {c} {d} e i m = record { tokens = text sep ∷ (i.tokens ++ m.tokens); leads = (b, e, leads_join b i.tokens c m.tokens d i.leads m.leads); are = λ n. (i.tokens, m.tokens, refl, i.is (fewer n), m.are (behind (fewer n) i.tokens)) }

pub more_spelt : (f : Form) (sep : List ℕ) (done gs : List Given) {a b : List ℕ} → More f sep gs a b → Spelt (more_of f sep done) (done ++ gs) a b
more_spelt f sep done gs m = record { tokens = m.tokens; leads = m.leads; is = λ k n rest v i. record { items = gs; own = m.tokens; rest = rest; tokens_are = refl; are = m.are n; more = i } }

pub many_spelt : (f : Form) (sep : List ℕ) (g : Given) (gs : List Given) {a b c : List ℕ} → Item f g a b → More f sep gs b c → Spelt (many f sep) (g ∷ gs) a c
unfolding more_spelt
many_spelt f sep g gs {a} {b} {c} i m = record {
  tokens = i.tokens ++ m.tokens;
  leads = leads_join a i.tokens b m.tokens c i.leads m.leads;
  is = λ k n rest v z.
      subst (λ l. IsOf (many f sep k) n l v) (sym (append_assoc i.tokens m.tokens rest))
      (join f (λ h. more_of f sep (h ∷ []) k) n i.tokens (m.tokens ++ rest) g v (i.is n)
      ((more_spelt f sep (g ∷ []) gs m).is k (behind n i.tokens) rest v (subst (λ q. IsOf (k (g ∷ gs)) q rest v) (behind_both n i.tokens m.tokens) z)));
}

abbrev pub AllGood : {A : Type 0} → (A → Type 0) → List A → Type 0
AllGood Good [] = Unit {0}
AllGood Good (x ∷ xs) = Good x × AllGood Good xs

-- the layout of the items of a list
pub record Laid {A : Type 0} (f : Form) (sep between : List ℕ) (wrap : A → Given) (written : A → List ℕ) (Good : A → Type 0) : Type 0 where
  pub front : (y : List ℕ) → Starts y → token_at (skip (between ++ y)) ≡ Some (text sep, y)
  pub apart : (y : List ℕ) → ends (between ++ y) ≡ true
  pub start : (x : A) → Good x → Starts (written x)
  pub one : (x : A) → Good x → (r : List ℕ) → ends r ≡ true → Item f (wrap x) (written x ++ r) (skip r)

regrouped : (a b c r : List ℕ) → (a ++ b ++ c) ++ r ≡ a ++ (b ++ (c ++ r))
regrouped a b c r = simp append_assoc

rest_ends : {A : Type 0} (f : Form) (sep between : List ℕ) (wrap : A → Given) (written : A → List ℕ) (Good : A → Type 0) → Laid f sep between wrap written Good → (xs : List A) (r : List ℕ) → ends r ≡ true → ends (listed between between (map written xs) ++ r) ≡ true
rest_ends f sep between wrap written Good l [] r e = e
rest_ends f sep between wrap written Good l (x ∷ xs) r e = subst (λ z. ends z ≡ true) (sym (regrouped between (written x) (listed between between (map written xs)) r)) (l.apart (written x ++ (listed between between (map written xs) ++ r)))

pub rest_spelt : {A : Type 0} (f : Form) (sep between : List ℕ) (wrap : A → Given) (written : A → List ℕ) (Good : A → Type 0) → Laid f sep between wrap written Good → (xs : List A) → AllGood Good xs → (r : List ℕ) → ends r ≡ true → More f sep (map wrap xs) (skip (listed between between (map written xs) ++ r)) (skip r)
rest_spelt f sep between wrap written Good l [] g r e = record { tokens = []; leads = refl; are = λ n. refl }
rest_spelt f sep between wrap written Good l (x ∷ xs) g r e =
    let z = listed between between (map written xs) ++ r in
    let y = written x ++ z in
    subst (λ b. More f sep (map wrap (x ∷ xs)) (skip b) (skip r)) (sym (regrouped between (written x) (listed between between (map written xs)) r))
    (one_more f sep (wrap x) (map wrap xs) (l.front y (starts_with (written x) z (l.start x g.0))) (l.one x g.0 z (rest_ends f sep between wrap written Good l xs r e)) (rest_spelt f sep between wrap written Good l xs g.1 r e))

-- a list with one item or more
pub list_spelt : {A : Type 0} (f : Form) (sep between : List ℕ) (wrap : A → Given) (written : A → List ℕ) (Good : A → Type 0) → Laid f sep between wrap written Good → (x : A) (xs : List A) → Good x → AllGood Good xs → (r : List ℕ) → ends r ≡ true → Spelt (many f sep) (map wrap (x ∷ xs)) (written x ++ (listed between between (map written xs) ++ r)) (skip r)
list_spelt f sep between wrap written Good l x xs g h r e =
    many_spelt f sep (wrap x) (map wrap xs) (l.one x g (listed between between (map written xs) ++ r) (rest_ends f sep between wrap written Good l xs r e)) (rest_spelt f sep between wrap written Good l xs h r e)

-- items are what they were before
pub unwrapped : {A : Type 0} (wrap : A → Given) (unwrap : Given → A) (xs : List A) → ((x : A) → unwrap (wrap x) ≡ x) → map unwrap (map wrap xs) ≡ xs
unwrapped wrap unwrap [] h = refl
unwrapped wrap unwrap (x ∷ xs) h = ap (λ y. y ∷ map unwrap (map wrap xs)) (h x) ∙ ap (λ l. x ∷ l) (unwrapped wrap unwrap xs h)

-- words

-- a symbol or a word behind which there is a space
pub behind_space : (w : List ℕ) (here y : List ℕ) → Starts y → token_at here ≡ Some (text w, skip (32 ∷ y)) → token_at here ≡ Some (text w, y)
behind_space w here y s e = e ∙ ap (λ z. Some (text w, z)) (skip_space y ∙ skip_start y s)
