use Rattle.std.proofs.Common.{◌≡◌, [], drop}
use Rattle.rw_lemmas.specs.Citing.{names_in_all, with_names}
use Rattle.rw_lemmas.proofs.citing.cited_names.Given as goal

abbrev pub invariant-loop-line : goal.invariant-loop-line
invariant-loop-line l = with_names l.names (names_in_all l.unfolds (drop l.line-index l.lines)) ≡ with_names [] (names_in_all l.unfolds l.lines)
