use Rattle.std.proofs.Common.{◌≡◌, map, drop}
use Rattle.rw_terms.specs.Mentions.{any_of}
use Rattle.rw_uses.specs.Uses.{node_uses}
use Rattle.rw_uses.proofs.uses.+uses.Given as goal

abbrev pub invariant-kids_use-loop-i : goal.invariant-kids_use-loop-i
invariant-kids_use-loop-i l = any_of (map (node_uses l.name) (drop l.i l.kids)) ≡ any_of (map (node_uses l.name) l.kids)
