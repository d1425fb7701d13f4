-- What the concrete bodies of a module are to meet.
use Rattle.std.specs.Prelude.{ℕ, true, List, [], ◌∷◌, ◌++◌, map, Option, Some, None}
use Rattle.std.specs.Option.{option_map}
use Rattle.rw_terms.specs.declared.term.Formula.{Formula}
use Rattle.rw_terms.specs.declared.term.Formula.TheVariants.{True, And, Imp}
use Rattle.rw_terms.specs.declared.scope.Entry.{Entry}
use Rattle.rw_terms.specs.declared.scope.Kind.{Kind}
use Rattle.rw_terms.specs.declared.scope.Kind.TheVariants as kind
use Rattle.rw_subst.specs.declared.slot.Slot.TheVariants as slot
use Rattle.rw_subst.specs.Replaced.{replaced_formula, to_initial}
use Rattle.rw_subst.specs.Conj.{conj}
use Rattle.rw_programs.specs.declared.prog.Param.{Param}
use Rattle.rw_programs.specs.declared.prog.Spec.{Spec}
use Rattle.rw_programs.specs.declared.applied.Child.{Child}
use Rattle.rw_programs.specs.State.{Name, names_of}
use Rattle.rw_derived.specs.Derived.{keeps_value, without}
use Rattle.rw_heads.specs.declared.head.Module.{Module}
use Rattle.rw_heads.specs.declared.head.Oper.{Oper}
use Rattle.rw_heads.specs.Heads.{find_oper}
use Rattle.rw_modules.specs.Quantified.{for_all, for_some}

-- the results in a frame: its names that are not of the abstract state
abbrev pub results_in : Module → List Name → List Name
results_in m frame = without (names_of m.state) frame

-- the abstract names that a frame does not have
abbrev pub kept_by : Module → List Name → List Name
kept_by m frame = without frame (names_of m.state)

-- the postcondition, and that the abstract names outside the frame keep their values
abbrev pub kept_post : Module → Spec → Formula
kept_post m w = conj (w.post ∷ map keeps_value (kept_by m w.frame))

-- the specification of both states: before and after, they are coupled
abbrev pub augmented : Module → Spec → Spec
augmented m w = record {
  frame = results_in m w.frame ++ (names_of m.state ++ names_of m.concrete);
  pre = And w.pre m.coupling;
  post = And (kept_post m w) m.coupling;
}

-- The specification of the concrete state alone: some abstract state meets the precondition, and for all abstract states that met it
-- before, some abstract state meets the postcondition.
abbrev pub diminished : Module → Spec → Spec
diminished m w = record {
  frame = without (names_of m.state) w.frame;
  pre = for_some slot.Var m.state w.pre;
  post = for_all slot.Init m.state (Imp (replaced_formula (map to_initial w.frame) w.pre) (for_some slot.Var m.state w.post));
}

-- the head that a concrete operation is to meet, and the one that a concrete start is to meet
abbrev pub oper_head : Module → Spec → Spec
oper_head m w = diminished m (augmented m w)

abbrev pub start_head : Module → Spec
start_head m = record { frame = names_of m.concrete; pre = True; post = for_some slot.Var m.state (And m.start m.coupling) }

-- parameters as names of a scope
abbrev pub entries : Kind → List Param → List Entry
entries k ps = map (λ p. record { name = p.name; sort = p.sort; kind = k }) ps

-- the scope of a concrete start: the concrete state; and of a concrete operation, its values and results too
abbrev pub start_scope : Module → List Entry
start_scope m = entries kind.Local m.concrete

abbrev pub oper_scope : Module → Oper → List Entry
oper_scope m o = start_scope m ++ (entries kind.Value o.values ++ entries kind.Outcome o.results)

-- the root of a tree of the module, which has a table place
abbrev pub root_in : List Entry → ℕ → Spec → Child
root_in scope place w = record { context = record { scope = scope; opened = []; order = place; inner = true }; spec = w }

-- the root of the start's tree, or of the tree of an operation that is there
abbrev pub concrete_head : Module → ℕ → Option Name → Option Child
concrete_head m place None = Some (root_in (start_scope m) place (start_head m))
concrete_head m place (Some o) = option_map (λ e. root_in (oper_scope m e) place (oper_head m e.spec)) (find_oper o m.operations)
