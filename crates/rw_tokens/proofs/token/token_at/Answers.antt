use Rattle.std.proofs.Common.{sym, ap, ◌∙◌, Some, drop, drop-drop}
use Rattle.std.specs.Prelude.{option_map}
use Rattle.rw_tokens.specs.Tokens.{skip, with_next, front_token, token_at}
use Rattle.rw_tokens.specs.Seen.{seen}
use Rattle.rw_tokens.proofs.Bytes.{behind_is}
use Rattle.rw_tokens.proofs.token.token_at.Goals as goal

pub returns-in-Some : goal.returns-in-Some
unfolding token_at
returns-in-Some c = (
  c.skip.ensures.within,
  ap (option_map (with_next (drop c.args.at c.args.line.now))) (ap front_token (sym (behind_is c.args.line.now c.args.at)) ∙ sym c.in-Some.ensures.token) ∙
      ap (λ x. Some (seen c.in-Some.token, x)) (ap skip (drop-drop c.in-Some.len c.args.at c.args.line.now) ∙ sym c.skip.ensures.place),
)

pub returns-in-None : goal.returns-in-None
unfolding token_at
returns-in-None c = ap (option_map (with_next (drop c.args.at c.args.line.now))) (ap front_token (sym (behind_is c.args.line.now c.args.at)) ∙ sym c.in-None.ensures.token)
