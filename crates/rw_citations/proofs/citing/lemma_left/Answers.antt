use Rattle.std.proofs.Common.{map, [], None, sym, ap, ◌∙◌}
use Rattle.rw_terms.specs.Rules.{are_of}
use Rattle.rw_goals.specs.Sorting.{sort_of}
use Rattle.rw_quantifiers.specs.Quantified.{typed_left}
use Rattle.rw_citations.proofs.Long.{long_said}
use Rattle.rw_citations.proofs.citing.lemma_left.Goals as goal

pub returns-then-is_long : goal.returns-then-is_long
returns-then-is_long c =
    c.past_limits.ensures
    ∙ ap (λ ps. typed_left (are_of (map (λ p. p.1) ps) (map (sort_of c.args.names.now []) c.args.terms.now)) None) c.as_slice-params.ensures
    ∙ sym (long_said c.args.names.now c.args.lemma.now.params c.args.terms.now c.args.lemma.now.sequent (c.is_long.ensures c.if-is_long.true))
