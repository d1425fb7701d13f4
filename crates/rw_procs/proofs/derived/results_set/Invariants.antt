use Rattle.std.proofs.Common.{◌≡◌, ◌++◌, map, drop, length}
use Rattle.rw_terms.specs.declared.term.Term.TheVariants as term
use Rattle.rw_programs.specs.State.{names_of}
use Rattle.rw_derived.specs.Derived.{set_to}
use Rattle.rw_procs.proofs.derived.results_set.Given as goal

abbrev pub invariant-loop-i : goal.invariant-loop-i
invariant-loop-i l = record {
  long : length l.results ≡ length l.names;
  rest : l.changes ++ set_to (names_of (drop l.i l.results)) (map (λ x. term.Var x) (drop l.i l.names)) ≡ set_to (names_of l.results) (map (λ x. term.Var x) l.names);
}
