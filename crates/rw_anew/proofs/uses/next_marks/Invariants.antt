use Rattle.std.proofs.Common.{◌≡◌, take, map}
use Rattle.rw_library.specs.Entries.{entry_name}
use Rattle.rw_anew.specs.Uses.{is_cited}
use Rattle.rw_anew.proofs.uses.next_marks.Given as goal

abbrev pub invariant-loop-entry : goal.invariant-loop-entry
invariant-loop-entry l = l.next ≡ map (λ e. is_cited l.main l.proofs l.marks (entry_name e)) (take l.entry-index l.entries)
