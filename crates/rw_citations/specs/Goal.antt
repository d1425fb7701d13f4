-- The goal at which a lemma's certificate is checked.
use Rattle.std.specs.Prelude.{List, map}
use Rattle.rw_terms.specs.declared.scope.Entry.{Entry}
use Rattle.rw_terms.specs.declared.scope.Kind.TheVariants as kind
use Rattle.rw_terms.specs.declared.sequent.Sequent.{Sequent}
use Rattle.rw_terms.specs.Named.{Named}
use Rattle.rw_terms.specs.Naming.{names_of}
use Rattle.rw_goals.specs.declared.library.Lemma.{Lemma}

-- a parameter as a name of a scope
abbrev pub parameter_entry : Named → Entry
parameter_entry p = record { name = p.0; sort = p.1; kind = kind.Value }

abbrev pub scope_of_parameters : List Named → List Entry
scope_of_parameters params = map parameter_entry params

-- a lemma's formulas, with those of its parameters that are free in them
abbrev pub goal_of : Lemma → Sequent
goal_of l = record { names = names_of (scope_of_parameters l.params) l.sequent.left l.sequent.right; left = l.sequent.left; right = l.sequent.right }
