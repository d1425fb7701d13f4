use Rattle.std.proofs.Common.{◌∙◌, sym, ap, true, false, Some}
use Rattle.rw_forms.specs.Forms.{constant_of}
use Rattle.rw_tokens.specs.Seen.{seen}
use Rattle.rw_forms.proofs.Parts.{constant_is, no_constant}
use Rattle.rw_forms.proofs.taking.constant_of.Goals as goal

pub returns-then-is_lower : goal.returns-then-is_lower
returns-then-is_lower c = sym (ap (λ t. constant_of (seen t)) c.in-Text.is ∙ constant_is c.in-Text.text.now c.in-Ok.ensures.ok.1 true (sym c.is_lower.ensures ∙ c.if-is_lower.true))

pub returns-else-is_lower : goal.returns-else-is_lower
returns-else-is_lower c = ap Some c.in-Ok.ensures.ok.0 ∙ sym (ap (λ t. constant_of (seen t)) c.in-Text.is ∙ constant_is c.in-Text.text.now c.in-Ok.ensures.ok.1 false (sym c.is_lower.ensures ∙ c.if-is_lower.false))

pub returns-in-Err : goal.returns-in-Err
returns-in-Err c = sym (ap (λ t. constant_of (seen t)) c.in-Text.is ∙ no_constant c.in-Text.text.now c.in-Err.ensures.err.1)
