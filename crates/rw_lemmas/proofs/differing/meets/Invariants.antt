use Rattle.std.proofs.Common.{◌≡◌, drop}
use Rattle.rw_lemmas.specs.Differing.{meets}
use Rattle.rw_lemmas.proofs.differing.meets.Given as goal

abbrev pub invariant-loop-name : goal.invariant-loop-name
invariant-loop-name l = meets (drop l.name-index l.names) l.formula ≡ meets l.names l.formula
