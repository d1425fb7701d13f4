-- What tokens spell as a certificate is readable.
use Rattle.std.proofs.Common.{◌≡◌, ℕ, zero, suc, Bool, true, false, cond, List, [], ◌∷◌, ◌++◌, length, map, Option, Some, None, pos, refl, sym, ap, ◌∙◌, subst, arith, true≢false, inl, inr}
use Rattle.std.specs.Prelude.{leb, eqb, not, ◌&&◌, codes, option_map, option_and_then}
use Rattle.std.specs.List.{list_all}
use Rattle.std.proofs.lemmas.Bool.Decides.{nat_tests}
use Rattle.std.proofs.lemmas.Bool.{and_parts, and_from}
use Rattle.rw_terms.specs.Names.{is_name, is_digit}
use Rattle.rw_terms.specs.declared.term.Term.{Term}
use Rattle.rw_terms.specs.declared.term.Formula.{Formula}
use Rattle.rw_terms.specs.AllOf.{all_of}
use Rattle.rw_arith.specs.declared.line.Ref.{Ref}
use Rattle.rw_arith.specs.declared.line.Ref.TheVariants as refs
use Rattle.rw_arith.specs.declared.line.Part.{Part as SumPart}
use Rattle.rw_arith.specs.declared.line.LinLine.{LinLine}
use Rattle.rw_arith.specs.declared.line.LinLine.TheVariants as sums
use Rattle.rw_sequents.specs.declared.line.CertLine.{CertLine}
use Rattle.rw_sequents.specs.declared.line.CertLine.TheVariants as lines
use Rattle.rw_sequents.specs.declared.line.Cert.{Cert}
use Rattle.rw_syntax.proofs.Choices.{some_is}
use Rattle.rw_syntax.specs.declared.frame.Part.{Part}
use Rattle.rw_syntax.specs.Grammar.{part, is_upper, as_term, as_formula}
use Rattle.rw_tokens.specs.Tokens.{Token, text, number, binder, number_of}
use Rattle.rw_forms.specs.Forms.{Slot, exactly, a_variable, a_constant, any_name, a_number, a_reference, Filled, filled, is_lower, is_variable, counted, digits_number, formula_named, Given, a_request, a_cert, a_name, a_parameter, a_kid, a_term, a_formula, a_line, a_part, a_sum, a_program, an_arm, a_pin, Form, gives, takes, either, rest_of, more_of, one_of, too_deep, followed, many, fewer, behind, AreItems, IsOf}
use Rattle.rw_forms.specs.Phrases.{mark, formula, term, term_form, term_in, terms, closed_terms}
use Rattle.rw_forms.specs.Certificates.{later_rules, numbered_rules, numbered, number_and_term, number_and_name, two_numbers, two_terms, put_same, put_other, axioms, instances, any_number, signed, times, sum_part, part_form, part_in, sum_of, sum_or_quotient, lin_line, closed_line, lin_form, lin_in, closed_lines, lin, lemma, rule, line_form, line_in, cert, cert_form}
use Rattle.rw_forms.specs.Reading.{SpellsAs}
use Rattle.rw_printer.specs.Readable.{some_and_all, is_counted, is_literal, is_multiplier, readable_reference, readable_part, readable_sum, readable_term, readable_terms, readable_formula, readable_line, readable_cert}
use Rattle.rw_printer.proofs.SpelledValues.{IsGood, as_term_good, as_formula_good, good}

-- what the token of a slot says is as a text can have it
abbrev FilledWell : (s : Slot) → Filled s → Type 0
FilledWell (exactly w) x = Unit {0}
FilledWell a_variable x = not (is_upper x) ≡ true
FilledWell a_constant x = Unit {0}
FilledWell any_name x = Unit {0}
FilledWell (a_number least most) n = leb n most ≡ true
FilledWell a_reference f = readable_reference f ≡ true

not_upper : (w : List ℕ) → is_lower w ≡ true → not (is_upper w) ≡ true
not_upper [] e = absurd (true≢false (sym e))
not_upper (b ∷ bs) e = above b e
  where
    above : (b : ℕ) → leb 97 b ≡ true → not (leb b 90) ≡ true
    above b e = grind (arith, nat_tests, e)

variable_well : (w x : List ℕ) → (b : Bool) → is_variable w ≡ b → cond b (Some w) None ≡ Some x → not (is_upper x) ≡ true
unfolding is_variable
variable_well w x true z e = subst (λ y. not (is_upper y) ≡ true) (some_is e) (not_upper w (and_parts (is_name w) (is_lower w) z).1)
variable_well w x false z e = absurd (cc (e))

number_well : (least most n x : ℕ) → (b : Bool) → (leb least n && leb n most) ≡ b → cond b (Some n) None ≡ Some x → leb x most ≡ true
number_well least most n x true z e = subst (λ y. leb y most ≡ true) (some_is e) (and_parts (leb least n) (leb n most) z).1
number_well least most n x false z e = absurd (cc (e))

counted_well : (n x : ℕ) → (b : Bool) → leb n 4294967295 ≡ b → cond b (Some n) None ≡ Some x → is_counted x ≡ true
counted_well n x true z e = subst (λ y. is_counted y ≡ true) (some_is e) z
counted_well n x false z e = absurd (cc (e))

counted_number : (o : Option ℕ) (x : ℕ) → option_and_then counted o ≡ Some x → is_counted x ≡ true
counted_number None x e = absurd (cc (e))
counted_number (Some n) x e = counted_well n x (leb n 4294967295) refl e

digits_well : (ds : List ℕ) (x : ℕ) → digits_number ds ≡ Some x → is_counted x ≡ true
digits_well [] x e = absurd (cc (e))
digits_well (d ∷ ds) x e = go (list_all is_digit (d ∷ ds)) e
  where
    go : (b : Bool) → cond b (option_and_then counted (number_of (d ∷ ds))) None ≡ Some x → is_counted x ≡ true
    go true e = counted_number (number_of (d ∷ ds)) x e
    go false e = absurd (cc (e))

made_well : (make : ℕ → Ref) (o : Option ℕ) (f : Ref) → ((n : ℕ) → readable_reference (make n) ≡ is_counted n) → ((x : ℕ) → o ≡ Some x → is_counted x ≡ true) → option_map make o ≡ Some f → readable_reference f ≡ true
made_well make None f s h e = absurd (cc (e))
made_well make (Some n) f s h e = subst (λ y. readable_reference y ≡ true) (some_is e) (s n ∙ h n refl)

named_well : (w : List ℕ) (f : Ref) → formula_named w ≡ Some f → readable_reference f ≡ true
named_well [] f e = absurd (cc (e))
named_well (b ∷ bs) f e = go (eqb b 76) (eqb b 82) e
  where
    go : (l r : Bool) → cond l (option_map refs.Left (digits_number bs)) (cond r (option_map refs.Right (digits_number bs)) None) ≡ Some f → readable_reference f ≡ true
    go true r e = made_well refs.Left (digits_number bs) f (λ n. refl) (λ x. digits_well bs x) e
    go false true e = made_well refs.Right (digits_number bs) f (λ n. refl) (λ x. digits_well bs x) e
    go false false e = absurd (cc (e))

filled_well : (s : Slot) (t : Token) (x : Filled s) → filled s t ≡ Some x → FilledWell s x
filled_well (exactly w) t x e = tt
filled_well a_variable (text w) x e = variable_well w x (is_variable w) refl e
filled_well a_variable (number n) x e = absurd (cc (e))
filled_well a_variable (binder n) x e = absurd (cc (e))
filled_well a_constant t x e = tt
filled_well any_name t x e = tt
filled_well (a_number least most) (text w) x e = absurd (cc (e))
filled_well (a_number least most) (number n) x e = number_well least most n x (leb least n && leb n most) refl e
filled_well (a_number least most) (binder n) x e = absurd (cc (e))
filled_well a_reference (text w) x e = named_well w x e
filled_well a_reference (number n) x e = made_well refs.Line (counted n) x (λ m. refl) (λ m z. counted_well n m (leb n 4294967295) refl z) e
filled_well a_reference (binder n) x e = absurd (cc (e))

abbrev AllAre : (Given → Bool) → List Given → Type 0
AllAre P [] = Unit {0}
AllAre P (g ∷ gs) = (P g ≡ true) × AllAre P gs

-- what is given of what a text can have passes a test
abbrev Yields : (Given → Bool) → Form → Type 0
Yields P (gives g) = P g ≡ true
Yields P (takes s k) = (x : Filled s) → FilledWell s x → Yields P (k x)
Yields P (either w f g) = Yields P f × Yields P g
Yields P (rest_of most goal done k) = (v : Part) → IsGood 0 v → Yields P (k v)
Yields P (more_of item sep done k) = (Q : Given → Bool) × Yields Q item × ((gs : List Given) → AllAre Q gs → Yields P (k (done ++ gs)))
Yields P (one_of f g) = Yields P f × Yields P g
Yields P (too_deep f) = Yields P f

items_are : (Q : Given → Bool) (Is : ℕ → List Token → Given → Type 0) (sep : List ℕ) (n : ℕ) (gs : List Given) (ts : List Token) → ((m : ℕ) (us : List Token) (g : Given) → Is m us g → Q g ≡ true) → AreItems Is sep n gs ts → AllAre Q gs
items_are Q Is sep n [] ts h a = tt
items_are Q Is sep n (g ∷ gs) ts h a = (h (fewer n) a.0 g a.3, items_are Q Is sep (behind (fewer n) a.0) gs a.1 h a.4)

yields : (P : Given → Bool) (f : Form) (n : ℕ) (ts : List Token) (v : Given) → Yields P f → IsOf f n ts v → P v ≡ true
yields P (gives g) n ts v y i = ap P i.1 ∙ y
yields P (takes s k) n ts v y i = yields P (k i.filling) (fewer n) i.rest v (y i.filling (filled_well s i.first i.filling i.fills)) i.more
yields P (either w f g) n ts v y (inl c) = yields P f (fewer n) c.0 v y.0 c.2
yields P (either w f g) n ts v y (inr i) = yields P g n ts v y.1 i
yields P (rest_of most goal done k) n ts v y i = yields P (k (part [] i.tree)) (behind n i.own) i.rest v (y (part [] i.tree) (good i.tree [] i.formed)) i.more
yields P (more_of item sep done k) n ts v y i = yields P (k (done ++ i.items)) (behind n i.own) i.rest v (y.2 i.items (items_are y.0 (IsOf item) sep n i.items i.own (λ m us g x. yields y.0 item m us g y.1 x) i.are)) i.more
yields P (one_of f g) n ts v y (inl i) = yields P f n ts v y.0 i
yields P (one_of f g) n ts v y (inr i) = yields P g n ts v y.1 i
yields P (too_deep f) n ts v y i = yields P f 0 ts v y i.1

followed_yields : (P Q : Given → Bool) (f : Form) (j : Given → Form) → ((g : Given) → Q g ≡ true → Yields P (j g)) → Yields Q f → Yields P (followed f j)
followed_yields P Q (gives g) j h y = h g y
followed_yields P Q (takes s k) j h y = λ x w. followed_yields P Q (k x) j h (y x w)
followed_yields P Q (either w f g) j h y = (followed_yields P Q f j h y.0, followed_yields P Q g j h y.1)
followed_yields P Q (rest_of most goal done k) j h y = λ v g. followed_yields P Q (k v) j h (y v g)
followed_yields P Q (more_of item sep done k) j h y = (y.0, y.1, λ gs a. followed_yields P Q (k (done ++ gs)) j h (y.2 gs a))
followed_yields P Q (one_of f g) j h y = (followed_yields P Q f j h y.0, followed_yields P Q g j h y.1)
followed_yields P Q (too_deep f) j h y = followed_yields P Q f j h y

-- a list of items that pass a test
many_yields : (P Q : Given → Bool) (item : Form) (sep : List ℕ) (k : List Given → Form) → Yields Q item → ((g : Given) (gs : List Given) → Q g ≡ true → AllAre Q gs → Yields P (k (g ∷ gs))) → Yields P (many item sep k)
many_yields P Q item sep k y h = followed_yields P Q item (λ g. more_of item sep (g ∷ []) k) (λ g q. (Q, y, λ gs a. h g gs q a)) y

all_mapped : {A : Type 0} (Q : Given → Bool) (un : Given → A) (test : A → Bool) → ((g : Given) → Q g ≡ true → test (un g) ≡ true) → (gs : List Given) → AllAre Q gs → all_of (map test (map un gs)) ≡ true
all_mapped Q un test h [] a = refl
all_mapped Q un test h (g ∷ gs) a = and_from (test (un g)) (all_of (map test (map un gs))) (h g a.0) (all_mapped Q un test h gs a.1)

-- terms

abbrev is_term : Given → Bool
is_term (a_term t) = readable_term t 0
is_term (a_request r) = false
is_term (a_cert c) = false
is_term (a_name x) = false
is_term (a_parameter p) = false
is_term (a_kid n) = false
is_term (a_program p) = false
is_term (an_arm a) = false
is_term (a_pin p) = false
is_term (a_formula f) = false
is_term (a_line l) = false
is_term (a_part p) = false
is_term (a_sum l) = false

term_is : (g : Given) → is_term g ≡ true → readable_term (term_in g) 0 ≡ true
term_is (a_term t) e = e
term_is (a_request r) e = absurd (true≢false (sym e))
term_is (a_cert c) e = absurd (true≢false (sym e))
term_is (a_name x) e = absurd (true≢false (sym e))
term_is (a_parameter p) e = absurd (true≢false (sym e))
term_is (a_kid n) e = absurd (true≢false (sym e))
term_is (a_program p) e = absurd (true≢false (sym e))
term_is (an_arm a) e = absurd (true≢false (sym e))
term_is (a_pin p) e = absurd (true≢false (sym e))
term_is (a_formula f) e = absurd (true≢false (sym e))
term_is (a_line l) e = absurd (true≢false (sym e))
term_is (a_part p) e = absurd (true≢false (sym e))
term_is (a_sum l) e = absurd (true≢false (sym e))

term_yields : (P : Given → Bool) (most : ℕ) (k : Term → Form) → ((t : Term) → readable_term t 0 ≡ true → Yields P (k t)) → Yields P (term most k)
unfolding term
term_yields P most k h = λ v g. h (as_term v) (as_term_good 0 v g)

formula_yields : (P : Given → Bool) (most : ℕ) (k : Formula → Form) → ((f : Formula) → readable_formula f 0 ≡ true → Yields P (k f)) → Yields P (formula most k)
unfolding formula
formula_yields P most k h = λ v g. h (as_formula v) (as_formula_good 0 v g)

terms_yield : (P : Given → Bool) (most : ℕ) (k : List Term → Form) → ((ts : List Term) → readable_terms ts ≡ true → Yields P (k ts)) → Yields P (terms most k)
unfolding terms term_form
terms_yield P most k h =
    many_yields P is_term (term most (λ t. gives (a_term t))) (codes ",") (λ gs. k (map term_in gs)) (term_yields is_term most (λ t. gives (a_term t)) (λ t p. p))
    (λ g gs q a. h (map term_in (g ∷ gs)) (all_mapped is_term term_in (λ t. readable_term t 0) term_is (g ∷ gs) (q, a)))

closed_terms_yield : (P : Given → Bool) (k : List Term → Form) → ((ts : List Term) → readable_terms ts ≡ true → Yields P (k ts)) → Yields P (closed_terms k)
unfolding closed_terms
closed_terms_yield P k h = (h [] refl, terms_yield P 511 (λ ts. mark (codes ")") (k ts)) (λ ts p x w. h ts p))

two_terms_yield : (P : Given → Bool) (k : Term × Term → Form) → ((a b : Term) → readable_term a 0 ≡ true → readable_term b 0 ≡ true → Yields P (k (a, b))) → Yields P (two_terms k)
unfolding two_terms
two_terms_yield P k h = term_yields P 512 (λ a. mark (codes ",") (term 512 (λ b. k (a, b)))) (λ a p x w. term_yields P 512 (λ b. k (a, b)) (λ b q. h a b p q))

-- two, three and four at once
two_good : (a b : Bool) → a ≡ true → b ≡ true → (a && (b && true)) ≡ true
two_good a b p q = and_from a (b && true) p (and_from b true q refl)

three_good : (a b c : Bool) → a ≡ true → b ≡ true → c ≡ true → (a && (b && (c && true))) ≡ true
three_good a b c p q r = and_from a (b && (c && true)) p (two_good b c q r)

four_good : (a b c d : Bool) → a ≡ true → b ≡ true → c ≡ true → d ≡ true → (a && (b && (c && (d && true)))) ≡ true
four_good a b c d p q r s = and_from a (b && (c && (d && true))) p (three_good b c d q r s)

-- what is to be said of what a line goes on with
abbrev Lines : (Given → Bool) → (CertLine → Form) → Type 0
Lines P k = (l : CertLine) → readable_line l ≡ true → Yields P (k l)

put_same_yields : (P : Given → Bool) (k : CertLine → Form) → Lines P k → Yields P (put_same k)
unfolding put_same
put_same_yields P k h =
    two_terms_yield P (λ p. mark (codes ",") (term 512 (λ e. k (lines.PutSame p.0 p.1 e))))
    (λ a i p q x w. term_yields P 512 (λ e. k (lines.PutSame a i e)) (λ e r. h (lines.PutSame a i e) (three_good (readable_term a 0) (readable_term i 0) (readable_term e 0) p q r)))

put_other_yields : (P : Given → Bool) (k : CertLine → Form) → Lines P k → Yields P (put_other k)
unfolding put_other
put_other_yields P k h =
    two_terms_yield P (λ p. mark (codes ",") (two_terms (λ q. k (lines.PutOther p.0 p.1 q.0 q.1))))
    (λ a i p q x w. two_terms_yield P (λ r. k (lines.PutOther a i r.0 r.1)) (λ e j r s. h (lines.PutOther a i e j) (four_good (readable_term a 0) (readable_term i 0) (readable_term e 0) (readable_term j 0) p q r s)))

numbered_yields : (P : Given → Bool) (k : CertLine → Form) → Lines P k → Yields P (numbered k)
unfolding numbered numbered_rules later_rules
numbered_yields P k h = (
  (λ n w. h (lines.DropL n) w),
  (
    (λ n w. h (lines.DropR n) w),
    (
      (λ n w. h (lines.NotL n) w),
      (
        (λ n w. h (lines.NotR n) w),
        (
          (λ n w. h (lines.AndL n) w),
          (
            (λ n w. h (lines.AndR n) w),
            (
              (λ n w. h (lines.OrL n) w),
              (
                (λ n w. h (lines.OrR n) w),
                (
                  (λ n w. h (lines.ImpL n) w),
                  (
                    (λ n w. h (lines.ImpR n) w),
                    ((λ n w. h (lines.EqR n) w), ((λ n w. h (lines.Flip n) w), ((λ n w. h (lines.UnfoldL n) w), (λ x z n w. h (lines.UnfoldR n) w)))),
                  ),
                ),
              ),
            ),
          ),
        ),
      ),
    ),
  ),
)

axioms_yield : (P : Given → Bool) (k : CertLine → Form) → Lines P k → Yields P (axioms k)
unfolding axioms
axioms_yield P k h = (
  put_same_yields P k h,
  (
    put_other_yields P k h,
    (
      two_terms_yield P (λ p. k (lines.ArrExt p.0 p.1)) (λ a b p q. h (lines.ArrExt a b) (two_good (readable_term a 0) (readable_term b 0) p q)),
      (two_terms_yield P (λ p. k (lines.DivMod p.0 p.1)) (λ a b p q. h (lines.DivMod a b) (two_good (readable_term a 0) (readable_term b 0) p q)), numbered_yields P k h),
    ),
  ),
)

by_term : (P : Given → Bool) (k : ℕ × Term → Form) → ((n : ℕ) (t : Term) → (is_counted n && readable_term t 0) ≡ true → Yields P (k (n, t))) → Yields P (number_and_term k)
unfolding number_and_term
by_term P k h = λ n w. term_yields P 512 (λ t. k (n, t)) (λ t p. h n t (and_from (is_counted n) (readable_term t 0) w p))

by_name : (P : Given → Bool) (k : ℕ × List ℕ → Form) → ((n : ℕ) (y : List ℕ) → (is_counted n && not (is_upper y)) ≡ true → Yields P (k (n, y))) → Yields P (number_and_name k)
unfolding number_and_name
by_name P k h = λ n w y u. h n y (and_from (is_counted n) (not (is_upper y)) w u)

by_numbers : (P : Given → Bool) (k : ℕ × ℕ → Form) → ((i m : ℕ) → (is_counted i && is_counted m) ≡ true → Yields P (k (i, m))) → Yields P (two_numbers k)
unfolding two_numbers
by_numbers P k h = λ i w m u. h i m (and_from (is_counted i) (is_counted m) w u)

instances_yield : (P : Given → Bool) (k : CertLine → Form) → Lines P k → Yields P (instances k)
unfolding instances
instances_yield P k h = (
  by_term P (λ p. k (lines.AllL p.0 p.1)) (λ n t. h (lines.AllL n t)),
  (
    by_term P (λ p. k (lines.ExR p.0 p.1)) (λ n t. h (lines.ExR n t)),
    (
      by_name P (λ p. k (lines.AllR p.0 p.1)) (λ n y. h (lines.AllR n y)),
      (
        by_name P (λ p. k (lines.ExL p.0 p.1)) (λ n y. h (lines.ExL n y)),
        (by_numbers P (λ p. k (lines.RwL p.0 p.1)) (λ i m. h (lines.RwL i m)), (by_numbers P (λ p. k (lines.RwR p.0 p.1)) (λ i m. h (lines.RwR i m)), axioms_yield P k h)),
      ),
    ),
  ),
)

-- sums

minus_fits : (n : ℕ) → leb n 170141183460469231731687303715884105727 ≡ true → is_multiplier (signed true n) ≡ true
minus_fits zero w = refl
minus_fits (suc n) w = w

times_yield : (P : Given → Bool) (minus : Bool) (n : ℕ) (k : SumPart → Form) → leb n 170141183460469231731687303715884105727 ≡ true → ((p : SumPart) → readable_part p ≡ true → Yields P (k p)) → Yields P (times minus n k)
unfolding times
times_yield P minus n k w h = λ x z f r. h (record { times = signed minus n; of = f }) (and_from (is_multiplier (signed minus n)) (readable_reference f) (fits minus) r)
  where
    fits : (b : Bool) → is_multiplier (signed b n) ≡ true
    fits true = minus_fits n w
    fits false = w

abbrev is_part : Given → Bool
is_part (a_part p) = readable_part p
is_part _ = true

part_is : (g : Given) → is_part g ≡ true → readable_part (part_in g) ≡ true
part_is (a_part p) e = e
part_is (a_term t) e = refl
part_is (a_request r) e = refl
part_is (a_cert c) e = refl
part_is (a_name x) e = refl
part_is (a_parameter p) e = refl
part_is (a_kid n) e = refl
part_is (a_program p) e = refl
part_is (an_arm a) e = refl
part_is (a_pin p) e = refl
part_is (a_formula f) e = refl
part_is (a_line l) e = refl
part_is (a_sum l) e = refl

part_yields : Yields is_part part_form
unfolding part_form sum_part
part_yields = ((λ n w. times_yield is_part true n (λ p. gives (a_part p)) w (λ p r. r)), (λ n w. times_yield is_part false n (λ p. gives (a_part p)) w (λ p r. r)))

abbrev Sums : (Given → Bool) → (LinLine → Form) → Type 0
Sums P k = (l : LinLine) → readable_sum l ≡ true → Yields P (k l)

sum_yields : (P : Given → Bool) (minus : Bool) (n : ℕ) (k : LinLine → Form) → leb n 170141183460469231731687303715884105727 ≡ true → Sums P k → Yields P (sum_of minus n k)
unfolding sum_of
sum_yields P minus n k w h =
    times_yield P minus n (λ p. more_of part_form (codes "+") (a_part p ∷ []) (λ gs. k (sums.Sum (map part_in gs)))) w
    (λ p r. (is_part, part_yields, λ gs a. h (sums.Sum (p ∷ map part_in gs)) (and_from (readable_part p) (all_of (map readable_part (map part_in gs))) r (all_mapped is_part part_in readable_part part_is gs a))))

chosen_yields : (P : Given → Bool) (b : Bool) (f g : Form) → (b ≡ true → Yields P f) → Yields P g → Yields P (cond b f g)
chosen_yields P true f g y z = y refl
chosen_yields P false f g y z = z

lin_line_yields : (P : Given → Bool) (k : LinLine → Form) → Sums P k → Yields P (lin_line k)
unfolding lin_line sum_or_quotient
lin_line_yields P k h = (
  (λ n w. sum_yields P true n k w h),
  (λ n w. chosen_yields P (leb n 4294967295) (either (codes "/") (any_number (λ d. k (sums.Divide n (pos d)))) (sum_of false n k)) (sum_of false n k) (λ c. ((λ d u. h (sums.Divide n (pos d)) (and_from (is_counted n) (is_literal (pos d)) c u)), sum_yields P false n k w h)) (sum_yields P false n k w h)),
)

closed_line_yields : (P : Given → Bool) (k : LinLine → Form) → Sums P k → Yields P (closed_line k)
unfolding closed_line
closed_line_yields P k h = lin_line_yields P (λ l. mark (codes "]") (k l)) (λ l r x w. h l r)

abbrev is_sum : Given → Bool
is_sum (a_sum l) = readable_sum l
is_sum (a_part p) = false
is_sum (a_term t) = false
is_sum (a_request r) = false
is_sum (a_cert c) = false
is_sum (a_name x) = false
is_sum (a_parameter p) = false
is_sum (a_kid n) = false
is_sum (a_program p) = false
is_sum (an_arm a) = false
is_sum (a_pin p) = false
is_sum (a_formula f) = false
is_sum (a_line l) = false

sum_is : (g : Given) → is_sum g ≡ true → readable_sum (lin_in g) ≡ true
sum_is (a_sum l) e = e
sum_is (a_part p) e = absurd (true≢false (sym e))
sum_is (a_term t) e = absurd (true≢false (sym e))
sum_is (a_request r) e = absurd (true≢false (sym e))
sum_is (a_cert c) e = absurd (true≢false (sym e))
sum_is (a_name x) e = absurd (true≢false (sym e))
sum_is (a_parameter p) e = absurd (true≢false (sym e))
sum_is (a_kid n) e = absurd (true≢false (sym e))
sum_is (a_program p) e = absurd (true≢false (sym e))
sum_is (an_arm a) e = absurd (true≢false (sym e))
sum_is (a_pin p) e = absurd (true≢false (sym e))
sum_is (a_formula f) e = absurd (true≢false (sym e))
sum_is (a_line l) e = absurd (true≢false (sym e))

lin_form_yields : Yields is_sum lin_form
unfolding lin_form
lin_form_yields = closed_line_yields is_sum (λ l. gives (a_sum l)) (λ l r. r)

lin_yields : (P : Given → Bool) (k : List LinLine → Form) → ((ls : List LinLine) → some_and_all (map readable_sum ls) ≡ true → Yields P (k ls)) → Yields P (lin k)
unfolding lin closed_lines
lin_yields P k h =
    λ x w. many_yields P is_sum lin_form (codes "[") (λ gs. k (map lin_in gs)) lin_form_yields
    (λ g gs q a. h (map lin_in (g ∷ gs)) (all_mapped is_sum lin_in readable_sum sum_is (g ∷ gs) (q, a)))

-- lines

rule_yields : (P : Given → Bool) (k : CertLine → Form) → Lines P k → Yields P (rule k)
unfolding rule lemma
rule_yields P k h = (
  h lines.Ax refl,
  (
    h lines.FalseL refl,
    (
      h lines.TrueR refl,
      (
        h lines.Refl refl,
        (
          formula_yields P 512 (λ f. k (lines.Cut f)) (λ f. h (lines.Cut f)),
          (
            lin_yields P (λ ls. k (lines.Lin ls)) (λ ls. h (lines.Lin ls)),
            ((λ n w x z. closed_terms_yield P (λ ts. k (lines.Lemma n ts)) (λ ts. h (lines.Lemma n ts))), instances_yield P k h),
          ),
        ),
      ),
    ),
  ),
)

abbrev is_line : Given → Bool
is_line (a_line l) = readable_line l
is_line _ = true

line_is : (g : Given) → is_line g ≡ true → readable_line (line_in g) ≡ true
line_is (a_line l) e = e
line_is (a_term t) e = refl
line_is (a_request r) e = refl
line_is (a_cert c) e = refl
line_is (a_name x) e = refl
line_is (a_parameter p) e = refl
line_is (a_kid n) e = refl
line_is (a_program p) e = refl
line_is (an_arm a) e = refl
line_is (a_pin p) e = refl
line_is (a_formula f) e = refl
line_is (a_part p) e = refl
line_is (a_sum l) e = refl

line_form_yields : Yields is_line line_form
unfolding line_form
line_form_yields = rule_yields is_line (λ l. gives (a_line l)) (λ l r. r)

abbrev is_cert : Given → Bool
is_cert (a_cert c) = readable_cert c
is_cert _ = true

cert_yields : Yields is_cert cert_form
unfolding cert_form cert
cert_yields =
    many_yields is_cert is_line line_form (codes ";") (λ gs. gives (a_cert (record { lines = map line_in gs }))) line_form_yields
    (λ g gs q a. all_mapped is_line line_in readable_line line_is (g ∷ gs) (q, a))

pub certs_readable : (ts : List Token) (c : Cert) → SpellsAs cert_form ts (a_cert c) → readable_cert c ≡ true
certs_readable ts c s = yields is_cert cert_form (length ts) ts (a_cert c) cert_yields s
