-- What tokens of a form give passes a test, where what the form gives of any tokens does.
use Rattle.std.proofs.Common.{◌≡◌, ℕ, Bool, true, false, cond, List, [], ◌∷◌, ◌++◌, map, Some, None, refl, sym, ap, ◌∙◌, subst, arith, inl, inr}
use Rattle.std.specs.Prelude.{leb, not, ◌&&◌}
use Rattle.std.proofs.lemmas.Bool.Decides.{nat_tests}
use Rattle.std.proofs.lemmas.Bool.{and_parts, and_from}
use Rattle.rw_terms.specs.Names.{is_letter, is_name}
use Rattle.rw_terms.specs.AllOf.{all_of}
use Rattle.rw_syntax.proofs.Choices.{some_is}
use Rattle.rw_syntax.specs.declared.frame.Part.{Part}
use Rattle.rw_syntax.specs.Grammar.{part, is_upper}
use Rattle.rw_tokens.specs.Tokens.{Token, text, number, binder}
use Rattle.rw_forms.specs.Forms.{Slot, exactly, a_variable, a_constant, any_name, a_number, a_reference, Filled, filled, is_lower, is_variable, is_constant, Given, Form, gives, takes, either, rest_of, more_of, one_of, too_deep, followed, many, fewer, behind, AreItems, IsOf}
use Rattle.rw_printer.proofs.Fronts.{name_parts}
use Rattle.rw_printer.proofs.SpelledValues.{IsGood, good}

-- what the token of a slot says is as a text can have it
abbrev pub FilledWell : (s : Slot) → Filled s → Type 0
FilledWell (exactly w) x = Unit {0}
FilledWell a_variable x = not (is_upper x) ≡ true
FilledWell a_constant x = is_upper x ≡ true
FilledWell any_name x = Unit {0}
FilledWell (a_number least most) n = (leb least n && leb n most) ≡ true
FilledWell a_reference f = Unit {0}

low : (b : ℕ) → leb 97 b ≡ true → not (leb b 90) ≡ true
low b e = grind (arith, nat_tests, e)

high : (b : ℕ) → is_letter b ≡ true → not (leb 97 b) ≡ true → leb b 90 ≡ true
high b l e = grind (arith, nat_tests, l, e)

lower : (w : List ℕ) → is_name w ≡ true → is_lower w ≡ true → not (is_upper w) ≡ true
lower w n u =
    let p = name_parts w n in
    subst (λ x. not (is_upper x) ≡ true) (sym p.is) (low p.first (subst (λ x. is_lower x ≡ true) p.is u))

upper : (w : List ℕ) → is_name w ≡ true → not (is_lower w) ≡ true → is_upper w ≡ true
upper w n u =
    let p = name_parts w n in
    subst (λ x. is_upper x ≡ true) (sym p.is) (high p.first p.letter (subst (λ x. not (is_lower x) ≡ true) p.is u))

variable_well : (w x : List ℕ) (b : Bool) → is_variable w ≡ b → cond b (Some w) None ≡ Some x → not (is_upper x) ≡ true
unfolding is_variable
variable_well w x true z e = let q = and_parts (is_name w) (is_lower w) z in subst (λ y. not (is_upper y) ≡ true) (some_is e) (lower w q.0 q.1)
variable_well w x false z e = absurd (cc (e))

constant_well : (w x : List ℕ) (b : Bool) → is_constant w ≡ b → cond b (Some w) None ≡ Some x → is_upper x ≡ true
unfolding is_constant
constant_well w x true z e = let q = and_parts (is_name w) (not (is_lower w)) z in subst (λ y. is_upper y ≡ true) (some_is e) (upper w q.0 q.1)
constant_well w x false z e = absurd (cc (e))

number_well : (least most n x : ℕ) (b : Bool) → (leb least n && leb n most) ≡ b → cond b (Some n) None ≡ Some x → (leb least x && leb x most) ≡ true
number_well least most n x true z e = subst (λ y. (leb least y && leb y most) ≡ true) (some_is e) z
number_well least most n x false z e = absurd (cc (e))

filled_well : (s : Slot) (t : Token) (x : Filled s) → filled s t ≡ Some x → FilledWell s x
filled_well (exactly w) t x e = tt
filled_well a_variable (text w) x e = variable_well w x (is_variable w) refl e
filled_well a_variable (number n) x e = absurd (cc (e))
filled_well a_variable (binder n) x e = absurd (cc (e))
filled_well a_constant (text w) x e = constant_well w x (is_constant w) refl e
filled_well a_constant (number n) x e = absurd (cc (e))
filled_well a_constant (binder n) x e = absurd (cc (e))
filled_well any_name t x e = tt
filled_well (a_number least most) (text w) x e = absurd (cc (e))
filled_well (a_number least most) (number n) x e = number_well least most n x (leb least n && leb n most) refl e
filled_well (a_number least most) (binder n) x e = absurd (cc (e))
filled_well a_reference t x e = tt

abbrev pub AllAre : (Given → Bool) → List Given → Type 0
AllAre P [] = Unit {0}
AllAre P (g ∷ gs) = (P g ≡ true) × AllAre P gs

-- what is given of what a text can have passes a test
abbrev pub Yields : (Given → Bool) → Form → Type 0
Yields P (gives g) = P g ≡ true
Yields P (takes s k) = (x : Filled s) → FilledWell s x → Yields P (k x)
Yields P (either w f g) = Yields P f × Yields P g
Yields P (rest_of most goal done k) = (v : Part) → IsGood 0 v → Yields P (k v)
Yields P (more_of item sep done k) = (Q : Given → Bool) × Yields Q item × ((gs : List Given) → AllAre Q gs → Yields P (k (done ++ gs)))
Yields P (one_of f g) = Yields P f × Yields P g
Yields P (too_deep f) = Yields P f

items_are : (Q : Given → Bool) (Is : ℕ → List Token → Given → Type 0) (sep : List ℕ) (n : ℕ) (gs : List Given) (ts : List Token) → ((m : ℕ) (us : List Token) (g : Given) → Is m us g → Q g ≡ true) → AreItems Is sep n gs ts → AllAre Q gs
items_are Q Is sep n [] ts h a = tt
items_are Q Is sep n (g ∷ gs) ts h a = (h (fewer n) a.0 g a.3, items_are Q Is sep (behind (fewer n) a.0) gs a.1 h a.4)

pub yields : (P : Given → Bool) (f : Form) (n : ℕ) (ts : List Token) (v : Given) → Yields P f → IsOf f n ts v → P v ≡ true
yields P (gives g) n ts v y i = ap P i.1 ∙ y
yields P (takes s k) n ts v y i = yields P (k i.filling) (fewer n) i.rest v (y i.filling (filled_well s i.first i.filling i.fills)) i.more
yields P (either w f g) n ts v y (inl c) = yields P f (fewer n) c.0 v y.0 c.2
yields P (either w f g) n ts v y (inr i) = yields P g n ts v y.1 i
yields P (rest_of most goal done k) n ts v y i = yields P (k (part [] i.tree)) (behind n i.own) i.rest v (y (part [] i.tree) (good i.tree [] i.formed)) i.more
yields P (more_of item sep done k) n ts v y i = yields P (k (done ++ i.items)) (behind n i.own) i.rest v (y.2 i.items (items_are y.0 (IsOf item) sep n i.items i.own (λ m us g x. yields y.0 item m us g y.1 x) i.are)) i.more
yields P (one_of f g) n ts v y (inl i) = yields P f n ts v y.0 i
yields P (one_of f g) n ts v y (inr i) = yields P g n ts v y.1 i
yields P (too_deep f) n ts v y i = yields P f 0 ts v y i.1

followed_yields : (P Q : Given → Bool) (f : Form) (j : Given → Form) → ((g : Given) → Q g ≡ true → Yields P (j g)) → Yields Q f → Yields P (followed f j)
followed_yields P Q (gives g) j h y = h g y
followed_yields P Q (takes s k) j h y = λ x w. followed_yields P Q (k x) j h (y x w)
followed_yields P Q (either w f g) j h y = (followed_yields P Q f j h y.0, followed_yields P Q g j h y.1)
followed_yields P Q (rest_of most goal done k) j h y = λ v g. followed_yields P Q (k v) j h (y v g)
followed_yields P Q (more_of item sep done k) j h y = (y.0, y.1, λ gs a. followed_yields P Q (k (done ++ gs)) j h (y.2 gs a))
followed_yields P Q (one_of f g) j h y = (followed_yields P Q f j h y.0, followed_yields P Q g j h y.1)
followed_yields P Q (too_deep f) j h y = followed_yields P Q f j h y

all_mapped : {A : Type 0} (un : Given → A) (test : A → Bool) (gs : List Given) → AllAre (λ g. test (un g)) gs → all_of (map test (map un gs)) ≡ true
all_mapped un test [] a = refl
all_mapped un test (g ∷ gs) a = and_from (test (un g)) (all_of (map test (map un gs))) a.0 (all_mapped un test gs a.1)

-- a list of items that pass a test, one at least
pub many_yields : {A : Type 0} (P : Given → Bool) (un : Given → A) (test : A → Bool) (item : Form) (sep : List ℕ) (k : List A → Form) → Yields (λ g. test (un g)) item → ((x : A) (xs : List A) → all_of (map test (x ∷ xs)) ≡ true → Yields P (k (x ∷ xs))) → Yields P (many item sep (λ gs. k (map un gs)))
many_yields P un test item sep k y h =
    followed_yields P (λ g. test (un g)) item (λ g. more_of item sep (g ∷ []) (λ gs. k (map un gs)))
    (λ g q. ((λ x. test (un x)), y, λ gs a. h (un g) (map un gs) (and_from (test (un g)) (all_of (map test (map un gs))) q (all_mapped un test gs a)))) y
