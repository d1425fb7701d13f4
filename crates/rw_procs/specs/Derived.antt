-- The formulas that a call derives from its specification and the head of the procedure.
use Rattle.std.specs.Prelude.{List, map, ◌++◌}
use Rattle.rw_terms.specs.declared.term.Term.{Term}
use Rattle.rw_terms.specs.declared.term.Term.TheVariants as term
use Rattle.rw_terms.specs.declared.term.Formula.{Formula}
use Rattle.rw_subst.specs.Replaced.{replaced_term, replaced_formula, to_initial}
use Rattle.rw_programs.specs.declared.prog.Param.{Param}
use Rattle.rw_programs.specs.declared.prog.Spec.{Spec}
use Rattle.rw_programs.specs.State.{Name, names_of}
use Rattle.rw_derived.specs.Derived.{set_to, without}

-- the precondition of what is called, with the arguments for its values
abbrev pub called_pre : List Param → List Term → Formula → Formula
called_pre values args pre = replaced_formula (set_to (names_of values) args) pre

-- the arguments, said of the state before
abbrev pub args_before : List Name → List Term → List Term
args_before frame args = map (replaced_term (map to_initial frame)) args

-- the postcondition of what is called, with the arguments before for its values, and the names of the results for its results
abbrev pub called_post : List Name → (values results : List Param) → List Term → List Name → Formula → Formula
called_post frame values results args names post = replaced_formula (set_to (names_of values) (args_before frame args) ++ set_to (names_of results) (map (λ x. term.Var x) names)) post

-- the postcondition, where of the frame only these names have changed
abbrev pub changed_post : Spec → List Name → Formula
changed_post w names = replaced_formula (map to_initial (without names w.frame)) w.post
