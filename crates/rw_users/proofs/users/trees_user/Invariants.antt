use Rattle.std.proofs.Common.{◌≡◌, drop}
use Rattle.rw_users.specs.Users.{trees_user}
use Rattle.rw_users.proofs.users.trees_user.Given as goal

abbrev pub invariant-loop-tree : goal.invariant-loop-tree
invariant-loop-tree l = trees_user l.name l.parts (drop l.tree-index l.trees) ≡ trees_user l.name l.parts l.trees
