use Rattle.std.proofs.Common.{◌∙◌}
use Rattle.rw_terms.specs.declared.term.Formula.TheVariants as formula
use Rattle.rw_programs.specs.State.{names_of}
use Rattle.rw_modules.proofs.Joined.{made_of}
use Rattle.rw_modules.proofs.concrete.made_start.Goals as goal

pub returns : goal.returns
returns c = c.in_ok-made.ensures ∙ λ i. made_of ((c.in_ok-frame.ensures ∙ λ j. names_of (c.as_slice.ensures j)) i) formula.True (c.in_ok-post.ensures i)
