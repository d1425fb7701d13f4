use Rattle.std.proofs.Common.{◌≡◌, drop}
use Rattle.rw_users.specs.Users.{entry_user}
use Rattle.rw_users.proofs.entries.entry_user.Given as goal

abbrev pub invariant-loop-i : goal.invariant-loop-i
invariant-loop-i l = entry_user l.name l.proofs l.i (drop l.i l.entries) ≡ entry_user l.name l.proofs 0 l.entries
