-- The program that a derivation ends in: the skeleton of each node, with its kids' programs in their places.
use Rattle.std.specs.Prelude.{ℕ, ◌+◌, List, [], ◌∷◌, Option, Some, None, slice_get, unwrap_or}
use Rattle.rw_terms.specs.declared.scope.Head.{Head}
use Rattle.rw_programs.specs.declared.prog.Prog.{Prog}
use Rattle.rw_programs.specs.declared.prog.Prog.TheVariants as prog
use Rattle.rw_programs.specs.declared.applied.Child.{Child}
use Rattle.rw_meaning.specs.Filling.{fill}
use Rattle.rw_laws.specs.Laws.{Law, fits, misfit}
use Rattle.rw_nodes.specs.declared.edit.Edit.{Edit}
use Rattle.rw_nodes.specs.declared.edit.Step.{Step}
use Rattle.rw_nodes.specs.declared.node.Node.{Node, Node-F, fold-Node}
use Rattle.rw_nodes.specs.Edits.{globals_of, root_of}
use Rattle.rw_nodes.specs.Nodes.{numbered}
use Rattle.rw_nodes.specs.Parts.{tree_of}
use Rattle.rw_sites.specs.Derived.{law_at, root_given}
use Rattle.rw_anew.specs.Anew.{heads_in, library_of}

-- the program of a node, if it has one, by what the node is given
abbrev pub Codes : Type 0
Codes = Option Child → Option Prog

-- a program before others, where all are there
abbrev pub before_others : Option Prog → Option (List Prog) → Option (List Prog)
before_others None rest = None
before_others (Some c) None = None
before_others (Some c) (Some rest) = Some (c ∷ rest)

-- the programs of the kids, each by what the law of the parent's step makes for its number, where each kid has one
abbrev pub kids_code : List Codes → List Child → ℕ → Option (List Prog)
kids_code [] children i = Some []
kids_code (f ∷ fs) children i = before_others (f (slice_get children i)) (kids_code fs children (i + 1))

-- the program of the kid of this number, from 1
abbrev pub kid_program : List Prog → ℕ → Prog
kid_program codes n = unwrap_or (numbered codes n) (prog.Kid n)

-- a skeleton with the kids' programs in their places
abbrev pub filled_with : Prog → Option (List Prog) → Option Prog
filled_with skeleton None = None
filled_with skeleton (Some codes) = Some (fill (kid_program codes) skeleton)

abbrev pub filled_by : Law → List Codes → Option Prog
filled_by (fits a) kids = filled_with a.skeleton (kids_code kids a.children 0)
filled_by (misfit m) kids = None

-- a node has a program where it has a specification, its step's law fits by the heads of predicates, and each kid has a program
unfoldable pub code_by : List Head → Option Child → Option Step → List Codes → Option Prog
code_by heads None s kids = None
code_by heads (Some c) None kids = None
code_by heads (Some c) (Some s) kids = filled_by (law_at heads c.context c.spec s) kids

abbrev pub code_step : List Head → Node-F Codes → Codes
code_step heads y given = code_by heads given y.step y.kids

abbrev pub code : List Head → Node → Codes
code heads = fold-Node Codes (code_step heads)

-- the program that the live edits end in
abbrev pub code_of : List Edit → Option Prog
code_of l = code (heads_in (library_of l)) (tree_of l) (root_given (globals_of l) (root_of l))
