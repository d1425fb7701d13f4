-- An arithmetic line that begins with a number: only the number of a line may be divided.
use Rattle.std.proofs.Common.{◌≡◌, ◌<◌, ◌≤◌, ℕ, false, cond, List, ap}
use Rattle.std.specs.Prelude.{codes, pos}
use Rattle.std.proofs.lemmas.Bool.{le-leb, lt-leb}
use Rattle.rw_arith.specs.declared.line.LinLine.{LinLine}
use Rattle.rw_arith.specs.declared.line.LinLine.TheVariants as sums
use Rattle.rw_forms.specs.Forms.{Form, either}
use Rattle.rw_forms.specs.Reading.{read_form}
use Rattle.rw_forms.specs.Certificates.{any_number, sum_of, sum_or_quotient}

abbrev quotient : ℕ → (LinLine → Form) → Form
quotient n k = either (codes "/") (any_number (λ d. k (sums.Divide n (pos d)))) (sum_of false n k)

pub great_sum : (n : ℕ) (k : LinLine → Form) (here : List ℕ) → 4294967295 < n → read_form (sum_or_quotient n k) here ≡ read_form (sum_of false n k) here
unfolding sum_or_quotient
great_sum n k here e = ap (λ b. read_form (cond b (quotient n k) (sum_of false n k)) here) (lt-leb n 4294967295 e)

pub small_sum : (n : ℕ) (k : LinLine → Form) (here : List ℕ) → n ≤ 4294967295 → read_form (sum_or_quotient n k) here ≡ read_form (quotient n k) here
unfolding sum_or_quotient
small_sum n k here e = ap (λ b. read_form (cond b (quotient n k) (sum_of false n k)) here) (le-leb n 4294967295 e)
