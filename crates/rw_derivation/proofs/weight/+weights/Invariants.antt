use Rattle.std.proofs.Common.{◌≡◌, ◌+◌, ◌≤◌, ℕ, List, map, min, drop}
use Rattle.rw_derivation.specs.Derived.{sites, kid_sites}
use Rattle.rw_derivation.specs.Seen.{seen}
use Rattle.rw_derivation.proofs.Sites.{weigh}
use Rattle.rw_derivation.proofs.weight.+weights.Given as goal

-- the weight so far and that of the kids that are left
abbrev pub invariant-kids_weight-loop-i : goal.invariant-kids_weight-loop-i
invariant-kids_weight-loop-i l = record {
  fits : l.sum ≤ 18446744073709551615;
  is : (path : List ℕ) → min (l.sum + weigh (seen l.around) (kid_sites (map (sites (seen l.around)) (drop l.i l.kids)) l.children l.i path)) 18446744073709551615 ≡ min (weigh (seen l.around) (kid_sites (map (sites (seen l.around)) l.kids) l.children 0 path)) 18446744073709551615;
}
