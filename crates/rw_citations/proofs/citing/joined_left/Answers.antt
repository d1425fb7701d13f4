use Rattle.std.proofs.Common.{◌≡◌, ◌∙◌, ap}
use Rattle.rw_citations.specs.Conj.{statement}
use Rattle.rw_citations.specs.Cited.{said_left}
use Rattle.rw_citations.proofs.citing.joined_left.Goals as goal

pub returns : goal.returns
returns c =
    let said : c.get.result.now ≡ statement c.args.lemma.now.sequent = c.get.ensures ∙ c.in_ok-statement.ensures in
    c.in_ok-parts.ensures
    ∙ ap (λ ps. said_left c.args.names.now ps c.args.terms.now c.get.result.now) c.as_slice-params.ensures
    ∙ ap (said_left c.args.names.now c.args.lemma.now.params c.args.terms.now) said
