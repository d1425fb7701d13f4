-- Guards taken together.
use Rattle.std.specs.Prelude.{List, map}
use Rattle.rw_terms.specs.declared.term.Formula.{Formula}
use Rattle.rw_terms.specs.declared.scope.Entry.{Entry}
use Rattle.rw_subst.specs.Conj.{conj}
use Rattle.rw_subst.specs.Definedness.{appended, guard_conditions}

-- the conditions that say that all terms of the guards are defined, in order
abbrev pub guards_definedness : List Entry → List Formula → Formula
guards_definedness scope guards = conj (appended (map (guard_conditions scope) guards))
