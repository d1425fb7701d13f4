use Rattle.std.proofs.Common.{◌≡◌, ◌+◌, ◌≤◌, min, max, map, drop}
use Rattle.rw_terms.specs.Size.{terms_weight, terms_depth}
use Rattle.rw_subst.specs.Leaves.{rebuilt_term}
use Rattle.rw_subst.specs.Rules.{leaves_of}
use Rattle.rw_subst.proofs.reckon.+size_of_term.Given as goal

-- the size so far and the terms that are left
abbrev pub invariant-size_of_terms-loop-term : goal.invariant-size_of_terms-loop-term
invariant-size_of_terms-loop-term l = record {
  heavy : l.all.weight ≤ 4294967295;
  deep : l.all.depth ≤ 4294967295;
  weight :
      min (l.all.weight + terms_weight (map (rebuilt_term (leaves_of l.rule) l.under) (drop l.term-index l.terms))) 4294967295
      ≡ min (terms_weight (map (rebuilt_term (leaves_of l.rule) l.under) l.terms)) 4294967295;
  depth :
      min (max l.all.depth (terms_depth (map (rebuilt_term (leaves_of l.rule) l.under) (drop l.term-index l.terms)))) 4294967295
      ≡ min (terms_depth (map (rebuilt_term (leaves_of l.rule) l.under) l.terms)) 4294967295;
}
