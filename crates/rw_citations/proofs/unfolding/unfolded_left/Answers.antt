use Rattle.std.proofs.Common.{◌≡◌, ◌∙◌, sym, ap, Some, option_copied}
use Rattle.rw_citations.specs.Cited.{said_left, unfolded_left}
use Rattle.rw_citations.proofs.unfolding.unfolded_left.Goals as goal

pub returns : goal.returns
returns c =
    let found : option_copied c.args.found ≡ Some c.in-Some.definition.now = search in
    c.in_ok-parts.ensures
    ∙ ap (λ ps. said_left c.args.names.now ps c.args.terms.now c.in-Some.definition.now.body) c.as_slice-params.ensures
    ∙ ap (λ o. unfolded_left c.args.names.now o c.args.terms.now) (sym found)
