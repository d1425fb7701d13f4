-- The weight of a project: the parts of the specifications and of the obligations of all nodes.
use Rattle.std.specs.Prelude.{ℕ, ◌+◌, List, map, length, min, Option, Some, None}
use Rattle.rw_terms.specs.declared.term.Formula.{Formula}
use Rattle.rw_terms.specs.declared.sequent.Sequent.{Sequent}
use Rattle.rw_terms.specs.Size.{formula_weight}
use Rattle.rw_programs.specs.declared.prog.Param.{Param}
use Rattle.rw_programs.specs.declared.prog.Spec.{Spec}
use Rattle.rw_programs.specs.declared.applied.Child.{Child}
use Rattle.rw_trees.specs.declared.node.Tree.{Tree}
use Rattle.rw_trees.specs.declared.parts.Parts.{Parts}
use Rattle.rw_trees.specs.Around.{Around, around_in}
use Rattle.rw_trees.specs.Nodes.{total}
use Rattle.rw_derivation.specs.Derived.{Site, derived, tree_sites}

-- the weight of a formula, at most 4,294,967,295
abbrev pub formula_parts : Formula → ℕ
formula_parts f = min (formula_weight f) 4294967295

-- the weight of an obligation is that of its formulas
abbrev pub sequent_parts : Sequent → ℕ
sequent_parts q = total (map formula_parts q.left) + total (map formula_parts q.right)

-- the weight of a specification is that of its formulas, and the length of its frame
abbrev pub spec_parts : Spec → ℕ
spec_parts w = formula_parts w.pre + formula_parts w.post + length w.frame

abbrev pub given_parts : Option Child → ℕ
given_parts None = 0
given_parts (Some c) = spec_parts c.spec

-- the weight of a node is that of its specification and of its obligations
abbrev pub site_parts : Around → Site → ℕ
site_parts around x = given_parts x.given + total (map sequent_parts (derived around x.given x.step).obligations)

-- the weight of a tree is that of its nodes
unfoldable pub tree_weight : Around → List Param → Option Spec → Tree → ℕ
tree_weight around globals root t = total (map (site_parts around) (tree_sites around globals root t))

-- the weight of a project is that of its trees
abbrev pub parts_weight : Parts → ℕ
parts_weight parts = total (map (tree_weight (around_in parts) parts.globals parts.root) parts.trees)
