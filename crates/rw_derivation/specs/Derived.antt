-- What the laws derive for the nodes of trees, from the roots downwards.
use Rattle.std.specs.Prelude.{ℕ, ◌+◌, List, [], ◌∷◌, ◌++◌, Option, Some, None, slice_get}
use Rattle.std.specs.Option.{option_map}
use Rattle.rw_programs.specs.declared.prog.Param.{Param}
use Rattle.rw_programs.specs.declared.prog.Spec.{Spec}
use Rattle.rw_programs.specs.declared.applied.Context.{Context}
use Rattle.rw_programs.specs.declared.applied.Child.{Child}
use Rattle.rw_programs.specs.declared.applied.Misfit.TheVariants as cause
use Rattle.rw_sequents.specs.declared.line.Cert.{Cert}
use Rattle.rw_laws.specs.Laws.{Law, fits, misfit, law_of}
use Rattle.rw_loops.specs.Laws.{law_of as loop_law}
use Rattle.rw_procs.specs.Laws.{call_law}
use Rattle.rw_heads.specs.declared.head.ProcHead.{ProcHead}
use Rattle.rw_heads.specs.Heads.{find_proc}
use Rattle.rw_heads.specs.Listed.{name_place}
use Rattle.rw_edits.specs.declared.edit.Step.{Step}
use Rattle.rw_edits.specs.declared.edit.Step.TheVariants as step
use Rattle.rw_trees.specs.declared.node.Node.{Node, Node-F, fold-Node}
use Rattle.rw_trees.specs.declared.node.Tree.{Tree}
use Rattle.rw_trees.specs.Around.{Around}
use Rattle.rw_derivation.specs.declared.derived.Outcome.TheVariants as outcome
use Rattle.rw_derivation.specs.declared.derived.Derived.{Derived}
use Rattle.rw_derivation.specs.Given.{tree_given}

-- the procedure of a name with its table place
abbrev pub head_in : Around → List ℕ → Option (ProcHead × ℕ)
head_in around x = option_map (λ h. (h, name_place x around.order)) (find_proc x around.procs)

-- the steps of modules have no laws yet: they do not fit, as where the table has no such module
abbrev pub module_law : Law
module_law = misfit cause.Unknown

-- what the law of a step says of a specification, by what surrounds the step
abbrev pub law_at : Around → Context → Spec → Step → Law
law_at around context w (step.Basic s) = law_of context around.heads w s
law_at around context w (step.Loop s) = loop_law context around.heads w s
law_at around context w (step.Call s) = call_law context w s (head_in around s.name)
law_at around context w (step.Module s) = module_law

-- what a law derives: a misfit gives its kids nothing and owes nothing
abbrev pub derived_by : Law → Derived
derived_by (fits a) = record { outcome = outcome.Fits; children = a.children; obligations = a.obligations }
derived_by (misfit m) = record { outcome = outcome.Misfit m; children = []; obligations = [] }

-- what is derived for a node, by the specification that it is given and by its step
unfoldable pub derived : Around → Option Child → Option Step → Derived
derived around None s = record { outcome = outcome.NoSpec; children = []; obligations = [] }
derived around (Some c) None = record { outcome = outcome.Open; children = []; obligations = [] }
derived around (Some c) (Some s) = derived_by (law_at around c.context c.spec s)

-- a node with what it is given
pub record Site : Type 0 where
  pub path : List ℕ
  pub given : Option Child
  pub step : Option Step
  pub certs : List (Option Cert)

-- a node and all below in preorder, by what the node is given and by its path
abbrev pub Sites : Type 0
Sites = Option Child → List ℕ → List Site

-- each kid is given what the law of its parent's step makes for its number, if it makes that
abbrev pub kid_sites : List Sites → List Child → ℕ → List ℕ → List Site
kid_sites [] children i path = []
kid_sites (f ∷ fs) children i path = f (slice_get children i) (path ++ (i + 1) ∷ []) ++ kid_sites fs children (i + 1) path

abbrev pub sites_step : Around → Node-F Sites → Sites
sites_step around y given path =
    record { path = path; given = given; step = y.step; certs = y.certs } ∷ kid_sites y.kids (derived around given y.step).children 0 path

abbrev pub sites : Around → Node → Sites
sites around = fold-Node Sites (sites_step around)

-- the nodes of a tree, by what its root is given
abbrev pub tree_sites : Around → List Param → Option Spec → Tree → List Site
tree_sites around globals root t = sites around t.top (tree_given around globals root t.name) []
