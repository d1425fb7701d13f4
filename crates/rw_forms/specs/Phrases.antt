-- The parts that requests are made of: sorts, terms, formulas, names, specifications, places, parameters and sequents.
use Rattle.std.specs.Prelude.{ℕ, List, [], map, codes, pos}
use Rattle.rw_terms.specs.declared.term.Sort.{Sort}
use Rattle.rw_terms.specs.declared.term.Sort.TheVariants as sorts
use Rattle.rw_terms.specs.declared.term.Term.{Term}
use Rattle.rw_terms.specs.declared.term.Term.TheOpen.{Term-F}
use Rattle.rw_terms.specs.declared.term.Term.TheViews.{roll-Term}
use Rattle.rw_terms.specs.declared.term.Formula.{Formula}
use Rattle.rw_terms.specs.declared.term.Formula.TheOpen.{Formula-F}
use Rattle.rw_terms.specs.declared.term.Formula.TheViews.{roll-Formula}
use Rattle.rw_terms.specs.Named.{Named}
use Rattle.rw_programs.specs.declared.prog.Spec.{Spec}
use Rattle.rw_nodes.specs.declared.edit.TreeName.TheVariants as trees
use Rattle.rw_nodes.specs.declared.edit.Place.{Place}
use Rattle.rw_syntax.specs.Grammar.{as_term, as_formula}
use Rattle.rw_forms.specs.Forms.{exactly, a_variable, a_constant, a_number, Given, a_name, a_parameter, a_kid, a_term, a_formula, Form, gives, takes, either, rest_of, more_of, one_of, many}

-- a word or a symbol, and what is to follow it
abbrev pub mark : List ℕ → Form → Form
mark w f = takes (exactly w) (λ _. f)

-- `int`, or `array` and a length
unfoldable pub sort : (Sort → Form) → Form
sort k = either (codes "int") (k sorts.Int) (mark (codes "array") (takes (a_number 1 1024) (λ n. k (sorts.Array n))))

-- a formula whose own nest is within `most`
unfoldable pub formula : ℕ → (Formula → Form) → Form
formula most k = rest_of most 1 [] (λ v. k (as_formula v))

-- a term whose own nest is within `most`
unfoldable pub term : ℕ → (Term → Form) → Form
term most k = rest_of most 6 [] (λ v. k (as_term v))

-- a name as an item
abbrev pub name_in : Given → List ℕ
name_in (a_name x) = x
name_in _ = []

-- a variable as an item
unfoldable pub name_form : Form
name_form = takes a_variable (λ x. gives (a_name x))

-- NAME { , NAME }
unfoldable pub names : (List (List ℕ) → Form) → Form
names k = many name_form (codes ",") (λ gs. k (map name_in gs))

-- a constant as an item
unfoldable pub constant_form : Form
constant_form = takes a_constant (λ x. gives (a_name x))

-- constants with commas between them
unfoldable pub constants : (List (List ℕ) → Form) → Form
constants k = many constant_form (codes ",") (λ gs. k (map name_in gs))

-- a frame and a colon; an empty frame is written as nothing
unfoldable pub frame : (List (List ℕ) → Form) → Form
frame k = either (codes ":") (k []) (names (λ xs. mark (codes ":") (k xs)))

-- [ FORM , FORM ] behind a frame
abbrev pub bracketed : List (List ℕ) → (Spec → Form) → Form
bracketed xs k = mark (codes "[") (formula 511 (λ f. mark (codes ",") (formula 511 (λ g. mark (codes "]") (k (record { frame = xs; pre = f; post = g }))))))

-- FRAME [ FORM , FORM ]
unfoldable pub spec : (Spec → Form) → Form
spec k = frame (λ xs. bracketed xs k)

-- a kid's number as an item
unfoldable pub kid_form : Form
kid_form = takes (a_number 1 4294967295) (λ n. gives (a_kid n))

abbrev pub kid_in : Given → ℕ
kid_in (a_kid n) = n
kid_in _ = 0

abbrev pub place_at : List ℕ → Place
place_at ks = record { tree = trees.Main; path = record { kids = ks } }

-- the kid numbers of a place in the main tree, each behind `/`
unfoldable pub kids : (Place → Form) → Form
kids k = more_of kid_form (codes "/") [] (λ gs. k (place_at (map kid_in gs)))

-- `main` and the kid numbers
unfoldable pub place : (Place → Form) → Form
place k = mark (codes "main") (kids k)

-- a term as an item, whose own nest is within `most`
unfoldable pub term_form : ℕ → Form
term_form most = term most (λ t. gives (a_term t))

abbrev pub term_in : Given → Term
term_in (a_term t) = t
term_in _ = roll-Term (Term-F.Lit (pos 0))

-- TERM { , TERM }
unfoldable pub terms : ℕ → (List Term → Form) → Form
terms most k = many (term_form most) (codes ",") (λ gs. k (map term_in gs))

-- terms and a closing bracket, or that bracket alone
unfoldable pub closed_terms : (List Term → Form) → Form
closed_terms k = either (codes ")") (k []) (terms 511 (λ ts. mark (codes ")") (k ts)))

-- a formula as an item, whose own nest is within `most`
unfoldable pub formula_form : ℕ → Form
formula_form most = formula most (λ f. gives (a_formula f))

abbrev pub formula_in : Given → Formula
formula_in (a_formula f) = f
formula_in _ = roll-Formula Formula-F.True

-- formulas with this word or symbol between them
unfoldable pub formulas : ℕ → List ℕ → (List Formula → Form) → Form
formulas most sep k = many (formula_form most) sep (λ gs. k (map formula_in gs))

-- the formulas before `|-`, if there are some, and it
unfoldable pub left_side : (List Formula → Form) → Form
left_side k = either (codes "|-") (k []) (formulas 512 (codes ",") (λ fs. mark (codes "|-") (k fs)))

-- formulas, or none
unfoldable pub right_side : (List Formula → Form) → Form
right_side k = one_of (formulas 512 (codes ",") k) (k [])

-- NAME : SORT
unfoldable pub parameter : (Named → Form) → Form
parameter k = takes a_variable (λ x. mark (codes ":") (sort (λ s. k (x, s))))

-- a parameter as an item
unfoldable pub parameter_form : Form
parameter_form = parameter (λ p. gives (a_parameter p))

abbrev pub parameter_in : Given → Named
parameter_in (a_parameter p) = p
parameter_in _ = ([], sorts.Int)

-- NAME : SORT { , NAME : SORT }
unfoldable pub parameters : (List Named → Form) → Form
parameters k = many parameter_form (codes ",") (λ gs. k (map parameter_in gs))

-- parameters and a closing bracket
unfoldable pub closed_parameters : (List Named → Form) → Form
closed_parameters k = parameters (λ ps. mark (codes ")") (k ps))

-- parameters and a closing bracket, or that bracket alone
unfoldable pub some_parameters : (List Named → Form) → Form
some_parameters k = either (codes ")") (k []) (closed_parameters k)
