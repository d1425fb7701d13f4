-- The items of the lists in certificates.
use Rattle.std.proofs.Common.{◌≡◌, Bool, true, false, cond, List, [], ◌∷◌, map, ℕ, refl}
use Rattle.std.specs.Prelude.{codes, leb, pos}
use Rattle.rw_arith.specs.declared.line.Part.{Part as SumPart}
use Rattle.rw_arith.specs.declared.line.LinLine.{LinLine}
use Rattle.rw_arith.specs.declared.line.LinLine.TheVariants as sums
use Rattle.rw_sequents.specs.declared.line.CertLine.{CertLine}
use Rattle.rw_sequents.specs.declared.line.CertLine.TheVariants as lines
use Rattle.rw_forms.specs.Forms.{Given, Form, gives, takes, more_of, followed, either, any_name, a_line, a_part, a_sum}
use Rattle.rw_forms.specs.Phrases.{mark, formula, term, closed_terms}
use Rattle.rw_forms.specs.Certificates.{numbered, numbered_rules, later_rules, number_and_term, number_and_name, two_numbers, two_terms, put_same, put_other, axioms, instances, any_number, times, sum_part, part_form, sum_of, sum_or_quotient, lin_line, closed_line, lin_form, lin_in, closed_lines, lin, lemma, rule, line_form}
use Rattle.rw_forms.proofs.Listing.{IsItem}
use Rattle.rw_forms.proofs.ListItems.{followed_twice, terms_followed}

-- the parts of a sum behind their first multiplier
abbrev pub begun : Bool → ℕ → (List Given → Form) → Form
begun minus n k = times minus n (λ p. more_of part_form (codes "+") (a_part p ∷ []) k)

pub part_item : IsItem {A = SumPart} part_form sum_part a_part
unfolding part_form sum_part times
part_item = λ j. refl

chosen : (b : Bool) (f g : Form) (j : Given → Form) → followed (cond b f g) j ≡ cond b (followed f j) (followed g j)
chosen true f g j = refl
chosen false f g j = refl

quotient_followed : (n : ℕ) (k : LinLine → Form) (j : Given → Form) → followed (sum_or_quotient n k) j ≡ sum_or_quotient n (λ l. followed (k l) j)
unfolding sum_or_quotient sum_of times
quotient_followed n k j = chosen (leb n 4294967295) (either (codes "/") (any_number (λ d. k (sums.Divide n (pos d)))) (sum_of false n k)) (sum_of false n k) j

pub sum_item : IsItem {A = LinLine} lin_form closed_line a_sum
unfolding lin_form closed_line lin_line sum_of times
sum_item = λ j i. either (codes "-") (any_number (λ n. sum_of true n (λ l. mark (codes "]") (j (a_sum l))))) (any_number (λ n. quotient_followed n (λ l. mark (codes "]") (gives (a_sum l))) j i))

lin_followed : (k : List LinLine → Form) (j : Given → Form) → followed (lin k) j ≡ lin (λ ls. followed (k ls) j)
unfolding lin closed_lines
lin_followed k j = λ i. mark (codes "[") (followed_twice lin_form (λ g. more_of lin_form (codes "[") (g ∷ []) (λ gs. k (map lin_in gs))) j i)

lemma_followed : (k : CertLine → Form) (j : Given → Form) → followed (lemma k) j ≡ lemma (λ l. followed (k l) j)
unfolding lemma closed_terms
lemma_followed k j = λ i. takes any_name (λ n. mark (codes "(") (either (codes ")") (followed (k (lines.Lemma n [])) j) (terms_followed 511 (λ ts. mark (codes ")") (k (lines.Lemma n ts))) j i)))

pub line_item : IsItem {A = CertLine} line_form rule a_line
unfolding line_form rule formula term numbered numbered_rules later_rules number_and_term number_and_name two_numbers two_terms put_same put_other axioms instances
line_item = λ j i.
    either (codes "ax") (j (a_line lines.Ax)) (either (codes "falseL") (j (a_line lines.FalseL)) (either (codes "trueR") (j (a_line lines.TrueR)) (either (codes "refl") (j (a_line lines.Refl))
    (either (codes "cut") (formula 512 (λ f. j (a_line (lines.Cut f)))) (either (codes "lin") (lin_followed (λ ls. gives (a_line (lines.Lin ls))) j i)
    (either (codes "lemma") (lemma_followed (λ l. gives (a_line l)) j i) (instances (λ l. j (a_line l)))))))))
