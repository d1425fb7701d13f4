-- The forms of certificates keep their choices apart.
use Rattle.std.proofs.Common.{◌≡◌, ℕ, Bool, true, false, cond, List, [], ◌∷◌, map, refl}
use Rattle.std.specs.Prelude.{codes, leb, pos}
use Rattle.rw_terms.specs.declared.term.Term.{Term}
use Rattle.rw_arith.specs.declared.line.LinLine.{LinLine}
use Rattle.rw_arith.specs.declared.line.LinLine.TheVariants as sums
use Rattle.rw_sequents.specs.declared.line.CertLine.{CertLine}
use Rattle.rw_sequents.specs.declared.line.CertLine.TheVariants as lines
use Rattle.rw_tokens.specs.Tokens.{Token, text}
use Rattle.rw_forms.specs.Forms.{Given, a_line, a_sum, Form, gives, takes, either, a_number, more_of}
use Rattle.rw_forms.specs.Phrases.{mark, term}
use Rattle.rw_forms.specs.Certificates.{numbered, numbered_rules, later_rules, number_and_term, number_and_name, two_numbers, two_terms, put_same, put_other, axioms, instances, any_number, times, sum_part, part_form, part_in, sum_of, sum_or_quotient, lin_line, closed_line, closed_lines, lin_form, lin_in, lin, lemma, rule, line_form, line_in, cert}
use Rattle.rw_forms.specs.Reading.{ends_value}
use Rattle.rw_forms.proofs.Grammar.{starts, Keeps}
use Rattle.rw_forms.proofs.Keeping.{mark_ends, comma_ends, semicolon_ends, formula_keeps, term_keeps, values_keep, closed_terms_keep}

-- what follows a part that ends with a value ends it
abbrev Ends : {A : Type 0} → (Token → Bool) → (A → Form) → Type 0
Ends {A = A} F k = (x : A) (t : Token) → starts (k x) F t ≡ true → ends_value t ≡ true

abbrev All : {A : Type 0} → (Given → Type 0) → (Token → Bool) → (A → Form) → Type 0
All {A = A} P F k = (x : A) → Keeps P F (k x)

numbered_by : (P : Given → Type 0) (F : Token → Bool) (k : CertLine → Form) → All P F k → (make : ℕ → CertLine) → Keeps P F (takes (a_number 0 4294967295) (λ n. k (make n)))
numbered_by P F k h make = (refl, λ n. h (make n))

later_keep : (P : Given → Type 0) (F : Token → Bool) (k : CertLine → Form) → All P F k → Keeps P F (later_rules (λ r. takes (a_number 0 4294967295) (λ n. k (Rattle.rw_forms.specs.Certificates.with_number r n))))
unfolding later_rules
later_keep P F k h =
    let n = numbered_by P F k h in
    (refl, n lines.OrL, (refl, n lines.OrR, (refl, n lines.ImpL, (refl, n lines.ImpR, (refl, n lines.EqR, (refl, n lines.Flip, (refl, n lines.UnfoldL, (refl, λ x. n lines.UnfoldR))))))))

numbered_keep : (P : Given → Type 0) (F : Token → Bool) (k : CertLine → Form) → All P F k → Keeps P F (numbered k)
unfolding numbered numbered_rules later_rules
numbered_keep P F k h =
    let n = numbered_by P F k h in
    (refl, n lines.DropL, (refl, n lines.DropR, (refl, n lines.NotL, (refl, n lines.NotR, (refl, n lines.AndL, (refl, n lines.AndR, later_keep P F k h))))))

two_terms_keep : (P : Given → Type 0) (F : Token → Bool) (k : Term × Term → Form) → Ends F k → All P F k → Keeps P F (two_terms k)
unfolding two_terms
two_terms_keep P F k e h =
    term_keeps P F 512 (λ a. mark (codes ",") (term 512 (λ b. k (a, b)))) (λ a t. mark_ends F (codes ",") (term 512 (λ b. k (a, b))) t comma_ends)
    (λ a. (refl, λ x. term_keeps P F 512 (λ b. k (a, b)) (λ b. e (a, b)) (λ b. h (a, b))))

put_same_keeps : (P : Given → Type 0) (F : Token → Bool) (k : CertLine → Form) → Ends F k → All P F k → Keeps P F (put_same k)
unfolding put_same
put_same_keeps P F k e h =
    two_terms_keep P F (λ p. mark (codes ",") (term 512 (λ v. k (lines.PutSame p.0 p.1 v)))) (λ p t. mark_ends F (codes ",") (term 512 (λ v. k (lines.PutSame p.0 p.1 v))) t comma_ends)
    (λ p. (refl, λ x. term_keeps P F 512 (λ v. k (lines.PutSame p.0 p.1 v)) (λ v. e (lines.PutSame p.0 p.1 v)) (λ v. h (lines.PutSame p.0 p.1 v))))

put_other_keeps : (P : Given → Type 0) (F : Token → Bool) (k : CertLine → Form) → Ends F k → All P F k → Keeps P F (put_other k)
unfolding put_other
put_other_keeps P F k e h =
    two_terms_keep P F (λ p. mark (codes ",") (two_terms (λ q. k (lines.PutOther p.0 p.1 q.0 q.1)))) (λ p t. mark_ends F (codes ",") (two_terms (λ q. k (lines.PutOther p.0 p.1 q.0 q.1))) t comma_ends)
    (λ p. (refl, λ x. two_terms_keep P F (λ q. k (lines.PutOther p.0 p.1 q.0 q.1)) (λ q. e (lines.PutOther p.0 p.1 q.0 q.1)) (λ q. h (lines.PutOther p.0 p.1 q.0 q.1))))

axioms_keep : (P : Given → Type 0) (F : Token → Bool) (k : CertLine → Form) → Ends F k → All P F k → Keeps P F (axioms k)
unfolding axioms numbered numbered_rules later_rules
axioms_keep P F k e h = (
  refl,
  put_same_keeps P F k e h,
  (
    refl,
    put_other_keeps P F k e h,
    (
      refl,
      two_terms_keep P F (λ p. k (lines.ArrExt p.0 p.1)) (λ p. e (lines.ArrExt p.0 p.1)) (λ p. h (lines.ArrExt p.0 p.1)),
      (refl, two_terms_keep P F (λ p. k (lines.DivMod p.0 p.1)) (λ p. e (lines.DivMod p.0 p.1)) (λ p. h (lines.DivMod p.0 p.1)), numbered_keep P F k h),
    ),
  ),
)

by_term : (P : Given → Type 0) (F : Token → Bool) (k : ℕ × Term → Form) → Ends F k → All P F k → Keeps P F (number_and_term k)
unfolding number_and_term
by_term P F k e h = (refl, λ n. term_keeps P F 512 (λ t. k (n, t)) (λ t. e (n, t)) (λ t. h (n, t)))

by_name : (P : Given → Type 0) (F : Token → Bool) (k : ℕ × List ℕ → Form) → All P F k → Keeps P F (number_and_name k)
unfolding number_and_name
by_name P F k h = (refl, λ n. (refl, λ y. h (n, y)))

by_numbers : (P : Given → Type 0) (F : Token → Bool) (k : ℕ × ℕ → Form) → All P F k → Keeps P F (two_numbers k)
unfolding two_numbers
by_numbers P F k h = (refl, λ i. (refl, λ m. h (i, m)))

instances_keep : (P : Given → Type 0) (F : Token → Bool) (k : CertLine → Form) → Ends F k → All P F k → Keeps P F (instances k)
unfolding instances axioms numbered numbered_rules later_rules
instances_keep P F k e h = (
  refl,
  by_term P F (λ p. k (lines.AllL p.0 p.1)) (λ p. e (lines.AllL p.0 p.1)) (λ p. h (lines.AllL p.0 p.1)),
  (
    refl,
    by_term P F (λ p. k (lines.ExR p.0 p.1)) (λ p. e (lines.ExR p.0 p.1)) (λ p. h (lines.ExR p.0 p.1)),
    (
      refl,
      by_name P F (λ p. k (lines.AllR p.0 p.1)) (λ p. h (lines.AllR p.0 p.1)),
      (
        refl,
        by_name P F (λ p. k (lines.ExL p.0 p.1)) (λ p. h (lines.ExL p.0 p.1)),
        (
          refl,
          by_numbers P F (λ p. k (lines.RwL p.0 p.1)) (λ p. h (lines.RwL p.0 p.1)),
          (refl, by_numbers P F (λ p. k (lines.RwR p.0 p.1)) (λ p. h (lines.RwR p.0 p.1)), axioms_keep P F k e h),
        ),
      ),
    ),
  ),
)

part_keeps : Keeps (λ g. Unit {0}) (λ t. true) part_form
unfolding part_form sum_part times
part_keeps = (refl, (refl, λ n. (refl, λ x. (refl, λ r. tt))), (refl, λ n. (refl, λ x. (refl, λ r. tt))))

-- what follows a sum is no `+`
abbrev NoSum : (Token → Bool) → (LinLine → Form) → Type 0
NoSum F k = (l : LinLine) → starts (k l) F (text (codes "+")) ≡ false

sum_keeps : (P : Given → Type 0) (F : Token → Bool) (minus : Bool) (n : ℕ) (k : LinLine → Form) → NoSum F k → All P F k → Keeps P F (sum_of minus n k)
unfolding sum_of times
sum_keeps P F minus n k e h =
    (refl, λ x. (refl, λ r. ((λ t. true), refl, (λ gs t z. refl), (λ gs. e (sums.Sum (map part_in gs))), part_keeps, (λ gs. h (sums.Sum (map part_in gs))))))

chosen_keeps : (P : Given → Type 0) (F : Token → Bool) (b : Bool) (f g : Form) → Keeps P F f → Keeps P F g → Keeps P F (cond b f g)
chosen_keeps P F true f g h i = h
chosen_keeps P F false f g h i = i

line_keeps : (P : Given → Type 0) (F : Token → Bool) (k : LinLine → Form) → NoSum F k → All P F k → Keeps P F (lin_line k)
unfolding lin_line sum_or_quotient sum_of times
line_keeps P F k e h = (
  refl,
  (refl, λ n. sum_keeps P F true n k e h),
  (
    refl,
    λ n. chosen_keeps P F (leb n 4294967295) (either (codes "/") (any_number (λ d. k (sums.Divide n (pos d)))) (sum_of false n k)) (sum_of false n k)
        (refl, (refl, λ d. h (sums.Divide n (pos d))), sum_keeps P F false n k e h) (sum_keeps P F false n k e h),
  ),
)

lin_form_keeps : Keeps (λ g. Unit {0}) (λ t. true) lin_form
unfolding lin_form closed_line
lin_form_keeps = line_keeps (λ g. Unit {0}) (λ t. true) (λ l. mark (codes "]") (gives (a_sum l))) (λ l. refl) (λ l. (refl, λ x. tt))

lin_keeps : (P : Given → Type 0) (F : Token → Bool) (k : List LinLine → Form) → ((ls : List LinLine) → starts (k ls) F (text (codes "[")) ≡ false) → All P F k → Keeps P F (lin k)
unfolding lin closed_lines
lin_keeps P F k e h = (
  refl,
  λ x. Rattle.rw_forms.proofs.Grammar.keeps_followed lin_form (λ g. more_of lin_form (codes "[") (g ∷ []) (λ gs. k (map lin_in gs))) (λ g. Unit {0}) P (λ t. true) F
      (λ g t s. refl)
      (λ g. ((λ t. true), refl, (λ gs t z. refl), (λ gs. e (map lin_in gs)), lin_form_keeps, (λ gs. h (map lin_in gs)))) lin_form_keeps,
)

lemma_keeps : (P : Given → Type 0) (F : Token → Bool) (k : CertLine → Form) → All P F k → Keeps P F (lemma k)
unfolding lemma
lemma_keeps P F k h = (refl, λ n. (refl, λ x. closed_terms_keep P F (λ ts. k (lines.Lemma n ts)) (λ ts. h (lines.Lemma n ts))))

rule_keeps : (P : Given → Type 0) (F : Token → Bool) (k : CertLine → Form) → Ends F k → ((l : CertLine) → starts (k l) F (text (codes "[")) ≡ false) → All P F k → Keeps P F (rule k)
unfolding rule instances axioms numbered numbered_rules later_rules
rule_keeps P F k e s h = (
  refl,
  h lines.Ax,
  (
    refl,
    h lines.FalseL,
    (
      refl,
      h lines.TrueR,
      (
        refl,
        h lines.Refl,
        (
          refl,
          formula_keeps P F 512 (λ f. k (lines.Cut f)) (λ f t. e (lines.Cut f) t) (λ f. h (lines.Cut f)),
          (
            refl,
            lin_keeps P F (λ ls. k (lines.Lin ls)) (λ ls. s (lines.Lin ls)) (λ ls. h (lines.Lin ls)),
            (refl, lemma_keeps P F k h, instances_keep P F k e h),
          ),
        ),
      ),
    ),
  ),
)

square_no_end : ends_value (text (codes "[")) ≡ false
unfolding Rattle.rw_tokens.specs.Classes.mark_texts Rattle.rw_tokens.specs.Classes.text_class Rattle.rw_tokens.specs.Classes.class_of
square_no_end = refl

cert_line_keeps : Keeps (λ g. Unit {0}) ends_value line_form
unfolding line_form
cert_line_keeps = rule_keeps (λ g. Unit {0}) ends_value (λ l. gives (a_line l)) (λ l t s. s) (λ l. square_no_end) (λ l. tt)

pub cert_keeps : (P : Given → Type 0) (F : Token → Bool) (k : List CertLine → Form) → Ends F k → ((ls : List CertLine) → starts (k ls) F (text (codes ";")) ≡ false) → All P F k → Keeps P F (cert k)
unfolding cert
cert_keeps P F k d e h = values_keep P F line_form (codes ";") (λ gs. k (map line_in gs)) semicolon_ends (λ gs t. d (map line_in gs) t) (λ gs. e (map line_in gs)) (λ gs. h (map line_in gs)) cert_line_keeps
