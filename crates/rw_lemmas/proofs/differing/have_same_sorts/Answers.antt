use Rattle.std.proofs.Common.{sym, ◌∙◌}
use Rattle.rw_library.specs.Entries.{sorts_of}
use Rattle.rw_library.proofs.Sorts.{sorts_same, sorts_found}
use Rattle.rw_lemmas.proofs.differing.have_same_sorts.Goals as goal

pub returns : goal.returns
returns c =
    (λ e. sorts_same (sorts_of c.args.one.now) (sorts_of c.args.other.now) (sym c.same_sorts.ensures ∙ e), λ e. c.same_sorts.ensures ∙ sorts_found (sorts_of c.args.one.now) (sorts_of c.args.other.now) e)
