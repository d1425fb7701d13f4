-- What the laws derive for the nodes of a tree, from the root downwards.
use Rattle.std.specs.Prelude.{ℕ, ◌+◌, List, [], ◌∷◌, ◌++◌, map, false, Option, Some, None, slice_get}
use Rattle.rw_terms.specs.declared.scope.Head.{Head}
use Rattle.rw_programs.specs.declared.prog.Param.{Param}
use Rattle.rw_programs.specs.declared.prog.Spec.{Spec}
use Rattle.rw_programs.specs.declared.applied.Context.{Context}
use Rattle.rw_programs.specs.declared.applied.Child.{Child}
use Rattle.rw_sequents.specs.declared.line.Cert.{Cert}
use Rattle.rw_laws.specs.Laws.{Law, fits, misfit, law_of}
use Rattle.rw_loops.specs.Laws.{law_of as loop_law}
use Rattle.rw_nodes.specs.declared.edit.Step.{Step}
use Rattle.rw_nodes.specs.declared.edit.Step.TheVariants as step
use Rattle.rw_nodes.specs.declared.node.Node.{Node, Node-F, fold-Node}
use Rattle.rw_nodes.specs.Edits.{global}
use Rattle.rw_sites.specs.declared.derived.Outcome.TheVariants as outcome
use Rattle.rw_sites.specs.declared.derived.Derived.{Derived}

-- where the main tree stands: its scope is the globals
unfoldable pub main_context : List Param → Context
main_context globals = record { scope = map global globals; opened = []; order = 4294967295; inner = false }

-- the root is given the specification that was set last, over the globals
abbrev pub root_given : List Param → Option Spec → Option Child
root_given globals None = None
root_given globals (Some w) = Some (record { context = main_context globals; spec = w })

-- what the law of a step says of a specification, by the heads of predicates
abbrev pub law_at : List Head → Context → Spec → Step → Law
law_at heads context w (step.Basic s) = law_of context heads w s
law_at heads context w (step.Loop s) = loop_law context heads w s

-- what a law derives: a misfit gives its kids nothing and owes nothing
abbrev pub derived_by : Law → Derived
derived_by (fits a) = record { outcome = outcome.Fits; children = a.children; obligations = a.obligations }
derived_by (misfit m) = record { outcome = outcome.Misfit m; children = []; obligations = [] }

-- what is derived for a node, by the specification that it is given and by its step
unfoldable pub derived : List Head → Option Child → Option Step → Derived
derived heads None s = record { outcome = outcome.NoSpec; children = []; obligations = [] }
derived heads (Some c) None = record { outcome = outcome.Open; children = []; obligations = [] }
derived heads (Some c) (Some s) = derived_by (law_at heads c.context c.spec s)

-- a node with what it is given
pub record Site : Type 0 where
  pub path : List ℕ
  pub given : Option Child
  pub step : Option Step
  pub certs : List (Option Cert)

-- a node and all below in preorder, by what the node is given and by its path
abbrev pub Sites : Type 0
Sites = Option Child → List ℕ → List Site

-- each kid is given what the law of its parent's step makes for its number, if it makes that
abbrev pub kid_sites : List Sites → List Child → ℕ → List ℕ → List Site
kid_sites [] children i path = []
kid_sites (f ∷ fs) children i path = f (slice_get children i) (path ++ (i + 1) ∷ []) ++ kid_sites fs children (i + 1) path

abbrev pub sites_step : List Head → Node-F Sites → Sites
sites_step heads y given path =
    record { path = path; given = given; step = y.step; certs = y.certs } ∷ kid_sites y.kids (derived heads given y.step).children 0 path

abbrev pub sites : List Head → Node → Sites
sites heads = fold-Node Sites (sites_step heads)
