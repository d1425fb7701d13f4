use Rattle.std.proofs.Common.{◌≡◌, ◌∙◌, sym, ap, Some, option_copied}
use Rattle.rw_citations.specs.Cited.{said_right, unfolded_right}
use Rattle.rw_citations.proofs.unfolding.unfolded_right.Goals as goal

pub returns : goal.returns
returns c =
    let found : option_copied c.args.found ≡ Some c.in-Some.definition.now = search in
    c.in_ok-parts.ensures
    ∙ ap (λ ps. said_right c.args.names.now ps c.args.terms.now c.in-Some.definition.now.body) c.as_slice-params.ensures
    ∙ ap (λ o. unfolded_right c.args.names.now o c.args.terms.now) (sym found)
