use Rattle.rw_terms.proofs.Dividing.{quotient_law, rest_of_positive, rest_of_negative, by_zero}
use Rattle.rw_terms.proofs.laws.division.Goals as goal

pub returns : goal.returns
returns c = record { quotient = quotient_law; positive = rest_of_positive; negative = rest_of_negative; zero = by_zero }
