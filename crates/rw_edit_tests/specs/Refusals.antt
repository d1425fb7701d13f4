-- The tests of globals, roots, steps and certificates.
use Rattle.std.specs.Prelude.{ℕ, Bool, true, false, not, ◌&&◌, ◌||◌, if◌then◌else◌, nat_le, nat_lt, length, List, [], ◌∷◌, map, Option, Some, None}
use Rattle.std.specs.Option.{option_or}
use Rattle.rw_terms.specs.declared.scope.Entry.{Entry}
use Rattle.rw_terms.specs.declared.scope.Head.{Head}
use Rattle.rw_terms.specs.declared.term.Term.{Term}
use Rattle.rw_terms.specs.declared.term.Formula.{Formula}
use Rattle.rw_terms.specs.Size.{term_weight, term_depth}
use Rattle.rw_faults.specs.Faults.{first_name, first_of_names, unknown_in, predicate_unknown_in, is_ill_sorted}
use Rattle.rw_faults.specs.Initial.{is_twice, initial_outside}
use Rattle.rw_faults.specs.Limits.{is_light, is_shallow, is_small}
use Rattle.rw_programs.specs.declared.prog.Param.{Param}
use Rattle.rw_programs.specs.declared.prog.Spec.{Spec}
use Rattle.std.specs.List.{list_all}
use Rattle.rw_sequents.specs.declared.line.Cert.{Cert}
use Rattle.rw_sequents.specs.declared.line.CertLine.{CertLine}
use Rattle.rw_sequents.specs.declared.line.CertLine.TheVariants as line
use Rattle.rw_sequents.specs.Counting.{line_count}
use Rattle.rw_goals.specs.declared.library.Item.{Item}
use Rattle.rw_library.specs.Entries.{has_lemma, heads_of}
use Rattle.rw_heads.specs.declared.head.Module.{Module}
use Rattle.rw_heads.specs.declared.head.ProcHead.{ProcHead}
use Rattle.rw_heads.specs.declared.step.ModStep.TheVariants as module_step
use Rattle.rw_heads.specs.Heads.{has_proc, has_module}
use Rattle.rw_heads.specs.Listed.{has_name}
use Rattle.rw_edits.specs.declared.edit.TreeName.{TreeName}
use Rattle.rw_edits.specs.declared.edit.TreeName.TheVariants as tree
use Rattle.rw_edits.specs.declared.edit.Place.{Place}
use Rattle.rw_edit_tests.specs.declared.refusal.EditRefusal.{EditRefusal}
use Rattle.rw_edit_tests.specs.declared.refusal.EditRefusal.TheVariants as refusal
use Rattle.rw_edit_tests.specs.declared.refusal.Which.TheVariants as which
use Rattle.rw_laws.specs.declared.step.BasicStep.{BasicStep}
use Rattle.rw_laws.specs.declared.step.BasicStep.TheVariants as basic
use Rattle.rw_loops.specs.declared.step.LoopStep.{LoopStep}
use Rattle.rw_loops.specs.declared.step.LoopStep.TheVariants as loop
use Rattle.rw_loops.specs.Counts.{guards_of}
use Rattle.rw_edits.specs.declared.edit.Step.{Step}
use Rattle.rw_edits.specs.declared.edit.Step.TheVariants as step
use Rattle.rw_trees.specs.declared.node.Node.{Node}
use Rattle.rw_edits.specs.Counts.{kids_of}
use Rattle.rw_trees.specs.Edits.{global, is_param}
use Rattle.rw_trees.specs.Nodes.{size}

-- the first name of a frame that is no global
abbrev pub frame_unknown : List Param → List (List ℕ) → Option (List ℕ)
frame_unknown globals [] = None
frame_unknown globals (x ∷ names) = if is_param globals x then frame_unknown globals names else Some x

-- the first name of a specification, frame first, that is no global, or predicate that is not defined
abbrev pub root_unknown : List Param → List Head → Spec → Option (List ℕ)
root_unknown globals heads w =
    first_name (frame_unknown globals w.frame) (first_name (unknown_in (map global globals) heads w.pre) (unknown_in (map global globals) heads w.post))

-- within the limits, but ill-sorted or with an initial variable of a name that is not among these
abbrev pub is_ill_formed : List Entry → List Head → List (List ℕ) → Formula → Bool
is_ill_formed scope heads initials f = is_small f && (initial_outside initials f || is_ill_sorted scope heads f [])

-- the first ill-formed part: a frame with a name twice is part 0, the precondition is part 1, the postcondition part 2
abbrev pub ill_formed_part : List Entry → List Head → Spec → Option ℕ
ill_formed_part scope heads w =
    if is_twice w.frame then Some 0
    else if is_ill_formed scope heads [] w.pre then Some 1
    else if is_ill_formed scope heads w.frame w.post then Some 2
    else None

-- the first limit that a specification passes
abbrev pub past_limit : Spec → Option EditRefusal
past_limit w =
    if not (is_light w.pre) || not (is_light w.post) then Some (refusal.Limit which.Weight 1024)
    else if not (is_shallow w.pre) || not (is_shallow w.post) then Some (refusal.Limit which.Depth 64)
    else if nat_lt 64 (length w.frame) then Some (refusal.Limit which.Globals 64)
    else None

-- a name that is not declared is unknown
abbrev pub unknown : Option (List ℕ) → Option EditRefusal
unknown None = None
unknown (Some x) = Some (refusal.Unknown x)

abbrev pub ill_formed : Option ℕ → Option EditRefusal
ill_formed None = None
ill_formed (Some part) = Some (refusal.Sort part)

-- the tests of a root, in order: unknown names, ill-formed parts, limits
unfoldable pub root_refusal : List Param → List Head → Spec → Option EditRefusal
root_refusal globals heads w =
    option_or (unknown (root_unknown globals heads w)) (option_or (ill_formed (ill_formed_part (map global globals) heads w)) (past_limit w))

-- the tests of a global: its name is no global and not in the table, and there are fewer than 64
abbrev pub var_refusal : List Param → List (List ℕ) → Param → Option EditRefusal
var_refusal globals order p =
    if is_param globals p.name || has_name p.name order then Some (refusal.Duplicate p.name)
    else if nat_le 64 (length globals) then Some (refusal.Limit which.Globals 64)
    else None

-- the place is a node, and then what is asked there
abbrev pub at_place : Bool → Place → Option EditRefusal → Option EditRefusal
at_place true q ask = ask
at_place false q ask = Some (refusal.NoNode q)

-- the obligation is there, and then what is asked of it
abbrev pub at_obligation : Bool → ℕ → Option EditRefusal → Option EditRefusal
at_obligation true k ask = ask
at_obligation false k ask = Some (refusal.NoObligation k)

-- the limits of a term are those of a formula
abbrev pub is_light_term : Term → Bool
is_light_term t = nat_le (term_weight t) 1024

abbrev pub is_shallow_term : Term → Bool
is_shallow_term t = nat_le (term_depth t) 64

-- the formula of a line passes a test, and so do its terms another
abbrev pub passes : (Formula → Bool) → (Term → Bool) → CertLine → Bool
passes formula term (line.Cut f) = formula f
passes formula term (line.AllL i t) = term t
passes formula term (line.ExR j t) = term t
passes formula term (line.PutSame a i e) = term a && (term i && term e)
passes formula term (line.PutOther a i e j) = term a && (term i && (term e && term j))
passes formula term (line.ArrExt a b) = term a && term b
passes formula term (line.DivMod t u) = term t && term u
passes formula term (line.Lemma n ts) = list_all term ts
passes formula term _ = true

-- the first limit that a certificate passes: the weight and the depth of each formula and term in it, and 4096 lines, rule lines and
-- arithmetic lines
abbrev pub cert_limit : Cert → Option EditRefusal
cert_limit c =
    if not (list_all (passes is_light is_light_term) c.lines) then Some (refusal.Limit which.Weight 1024)
    else if not (list_all (passes is_shallow is_shallow_term) c.lines) then Some (refusal.Limit which.Depth 64)
    else if nat_le (line_count c.lines) 4096 then None
    else Some (refusal.Limit which.Lines 4096)

-- the formula of a step passes a test, and so do its terms another
abbrev pub step_passes : (Formula → Bool) → (Term → Bool) → BasicStep → Bool
step_passes formula term (basic.Weaken f) = formula f
step_passes formula term (basic.Strengthen f) = formula f
step_passes formula term (basic.Assign names terms) = list_all term terms
step_passes formula term (basic.Follow names terms) = list_all term terms
step_passes formula term (basic.Seq f) = formula f
step_passes formula term (basic.SeqCon names f) = formula f
step_passes formula term (basic.Con x t) = term t
step_passes formula term _ = true

-- the guards of such a step pass a test, and so does its variant another
abbrev pub loop_passes : (Formula → Bool) → (Term → Bool) → LoopStep → Bool
loop_passes formula term (loop.If guards) = list_all formula guards
loop_passes formula term (loop.Do v guards) = term v && list_all formula guards
loop_passes formula term (loop.Block x sort) = true

-- the first limit that the arguments of a step pass
abbrev pub terms_limit : List Term → Option EditRefusal
terms_limit ts =
    if not (list_all is_light_term ts) then Some (refusal.Limit which.Weight 1024)
    else if not (list_all is_shallow_term ts) then Some (refusal.Limit which.Depth 64)
    else None

-- the first limit that the formulas and terms of a step pass: weight and depth; then that of its guards, of which there are at most 32
abbrev pub text_limit : Step → Option EditRefusal
text_limit (step.Basic s) =
    if not (step_passes is_light is_light_term s) then Some (refusal.Limit which.Weight 1024)
    else if not (step_passes is_shallow is_shallow_term s) then Some (refusal.Limit which.Depth 64)
    else None
text_limit (step.Loop s) =
    if not (loop_passes is_light is_light_term s) then Some (refusal.Limit which.Weight 1024)
    else if not (loop_passes is_shallow is_shallow_term s) then Some (refusal.Limit which.Depth 64)
    else if nat_lt 32 (length (guards_of s)) then Some (refusal.Limit which.Guards 32)
    else None
text_limit (step.Call s) = terms_limit s.args
text_limit (step.Module (module_step.Open m)) = None
text_limit (step.Module (module_step.Op m o args results)) = terms_limit args

-- the name, unless it is there
abbrev pub unless_there : Bool → List ℕ → Option (List ℕ)
unless_there true x = None
unless_there false x = Some x

-- the name in a place that the table lacks: a tree is one of a procedure or of a module; an operation that is not there makes no node
abbrev pub unknown_in_place : List ProcHead → List Module → TreeName → Option (List ℕ)
unknown_in_place procs modules tree.Main = None
unknown_in_place procs modules (tree.Proc x) = unless_there (has_proc x procs) x
unknown_in_place procs modules (tree.Start m) = unless_there (has_module m modules) m
unknown_in_place procs modules (tree.Oper m o) = unless_there (has_module m modules) m

-- the first name of a step that is not in the table as what the step takes it for: a predicate, a procedure or a module
abbrev pub unknown_in_step : List Head → List ProcHead → List Module → Step → Option (List ℕ)
unknown_in_step heads procs modules (step.Basic (basic.Weaken f)) = predicate_unknown_in heads f
unknown_in_step heads procs modules (step.Basic (basic.Strengthen f)) = predicate_unknown_in heads f
unknown_in_step heads procs modules (step.Basic (basic.Seq f)) = predicate_unknown_in heads f
unknown_in_step heads procs modules (step.Basic (basic.SeqCon names f)) = predicate_unknown_in heads f
unknown_in_step heads procs modules (step.Basic _) = None
unknown_in_step heads procs modules (step.Loop s) = first_of_names (map (predicate_unknown_in heads) (guards_of s))
unknown_in_step heads procs modules (step.Call s) = unless_there (has_proc s.name procs) s.name
unknown_in_step heads procs modules (step.Module (module_step.Open m)) = unless_there (has_module m modules) m
unknown_in_step heads procs modules (step.Module (module_step.Op m o args results)) = unless_there (has_module m modules) m

-- the first predicate of a line that is not defined, or the lemma that it cites, where there is none of that name
abbrev pub unknown_in_line : List Head → List Item → CertLine → Option (List ℕ)
unknown_in_line heads entries (line.Cut f) = predicate_unknown_in heads f
unknown_in_line heads entries (line.Lemma n ts) = unless_there (has_lemma n entries) n
unknown_in_line heads entries _ = None

-- the first such name of a certificate
abbrev pub unknown_in_cert : List Item → Cert → Option (List ℕ)
unknown_in_cert entries c = first_of_names (map (unknown_in_line (heads_of entries) entries) c.lines)

-- the tree has at most 2048 nodes with the step, and a place at most 128 kid numbers: one of 128 has no kids
abbrev pub tree_limit : List ℕ → ℕ → Node → Option EditRefusal
tree_limit path kids after =
    if nat_lt 2048 (size after) then Some (refusal.Limit which.Nodes 2048)
    else if nat_lt 0 kids && nat_le 128 (length path) then Some (refusal.Limit which.Path 128)
    else None

-- the first limit that a step passes, by the tree with it
abbrev pub step_limit : List ℕ → Step → Node → Option EditRefusal
step_limit path s after = option_or (text_limit s) (tree_limit path (kids_of s) after)
