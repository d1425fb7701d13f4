use Rattle.rw_reader.proofs.Expressions.{one_tokens_value, one_text_value}
use Rattle.rw_reader.proofs.laws.one_value.Goals as goal

pub returns : goal.returns
returns c = record { tokens = one_tokens_value; texts = one_text_value }
