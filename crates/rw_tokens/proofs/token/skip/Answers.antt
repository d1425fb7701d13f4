use Rattle.std.proofs.Common.{◌∙◌, sym, ap, drop, arith, length-drop, drop-drop}
use Rattle.std.specs.List.{prefix_len}
use Rattle.rw_tokens.specs.Tokens.{is_blank, skip}
use Rattle.rw_tokens.proofs.Bytes.{front_within, behind_is}
use Rattle.rw_tokens.proofs.token.skip.Goals as goal

pub overflow_add-result : goal.overflow_add-result
overflow_add-result c = let e = c.blank_len.ensures ∙ ap (prefix_len is_blank) (behind_is c.args.line.now c.args.at) in omega (arith, length-drop c.args.at c.args.line.now, front_within is_blank (drop c.args.at c.args.line.now))

pub returns-clause-within : goal.returns-clause-within
returns-clause-within c = let e = c.blank_len.ensures ∙ ap (prefix_len is_blank) (behind_is c.args.line.now c.args.at) in omega (arith, length-drop c.args.at c.args.line.now, front_within is_blank (drop c.args.at c.args.line.now))

pub returns-clause-place : goal.returns-clause-place
unfolding skip
returns-clause-place c =
    sym (drop-drop c.blank_len.result c.args.at c.args.line.now) ∙
    ap (λ n. drop n (drop c.args.at c.args.line.now)) (c.blank_len.ensures ∙ ap (prefix_len is_blank) (behind_is c.args.line.now c.args.at))
