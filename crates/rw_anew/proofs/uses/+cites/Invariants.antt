use Rattle.std.proofs.Common.{◌≡◌, map, drop}
use Rattle.rw_terms.specs.Mentions.{any_of}
use Rattle.rw_anew.specs.Uses.{node_cites}
use Rattle.rw_anew.proofs.uses.+cites.Given as goal

abbrev pub invariant-kids_cite-loop-i : goal.invariant-kids_cite-loop-i
invariant-kids_cite-loop-i l = any_of (map (node_cites l.name) (drop l.i l.kids)) ≡ any_of (map (node_cites l.name) l.kids)
