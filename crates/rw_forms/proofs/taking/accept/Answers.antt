use Rattle.std.proofs.Common.{◌∙◌, sym, drop, arith}
use Rattle.rw_tokens.specs.Seen.{seen}
use Rattle.rw_tokens.proofs.Shorter.{moves_on}
use Rattle.rw_forms.proofs.Parts.{none_other, other_goes, word_goes, moved}
use Rattle.rw_forms.proofs.taking.accept.Goals as goal

pub returns-in-None-clause-chose : goal.returns-in-None-clause-chose
returns-in-None-clause-chose c = (c.requires, none_other c.args.text.now (drop c.args.at.now c.args.line.now) c.in-None.ensures)

pub returns-then-not-is_text-clause-chose : goal.returns-then-not-is_text-clause-chose
returns-then-not-is_text-clause-chose c = (c.requires, other_goes c.args.text.now (drop c.args.at.now c.args.line.now) (seen c.in-Some.token) _ c.in-Some.ensures.1 (sym c.is_text.ensures ∙ c.if-not-is_text.true))

pub returns-else-not-is_text-clause-chose : goal.returns-else-not-is_text-clause-chose
returns-else-not-is_text-clause-chose c = (moved c.args.line.now c.args.at.now c.in-Some.next c.requires c.in-Some.ensures.0, word_goes c.args.text.now (drop c.args.at.now c.args.line.now) (seen c.in-Some.token) _ c.in-Some.ensures.1 (sym c.is_text.ensures ∙ c.if-not-is_text.false))

pub returns-else-not-is_text-clause-further : goal.returns-else-not-is_text-clause-further
returns-else-not-is_text-clause-further c = λ _. moves_on c.args.line.now c.args.at.now c.in-Some.next (seen c.in-Some.token) c.in-Some.ensures.1

pub returns-else-not-is_text-clause-on : goal.returns-else-not-is_text-clause-on
returns-else-not-is_text-clause-on c = let h = moves_on c.args.line.now c.args.at.now c.in-Some.next (seen c.in-Some.token) c.in-Some.ensures.1 in omega arith
