-- The tests of what the table gets and loses.
use Rattle.std.specs.Prelude.{ℕ, Bool, true, false, min, not, ◌&&◌, ◌||◌, ◌+◌, if◌then◌else◌, nat_le, length, List, [], ◌∷◌, map, Option, Some, None, bytes_eq}
use Rattle.std.specs.Option.{option_or}
use Rattle.std.specs.List.{list_all}
use Rattle.rw_terms.specs.declared.term.Formula.{Formula}
use Rattle.rw_terms.specs.declared.scope.Entry.{Entry}
use Rattle.rw_terms.specs.declared.scope.Head.{Head}
use Rattle.rw_faults.specs.Faults.{first_name, first_of_names, unknown_in, predicate_unknown_in}
use Rattle.rw_faults.specs.Limits.{is_light, is_shallow}
use Rattle.rw_sequents.specs.declared.line.Cert.{Cert}
use Rattle.rw_goals.specs.declared.library.Definition.{Definition}
use Rattle.rw_goals.specs.declared.library.Lemma.{Lemma}
use Rattle.rw_goals.specs.declared.library.Item.{Item}
use Rattle.rw_goals.specs.declared.library.Item.TheVariants as item
use Rattle.rw_citations.specs.Goal.{scope_of_parameters}
use Rattle.rw_heads.specs.declared.head.Module.{Module}
use Rattle.rw_heads.specs.declared.head.ProcHead.{ProcHead}
use Rattle.rw_heads.specs.Heads.{has_proc, has_module}
use Rattle.rw_heads.specs.Listed.{has_name}
use Rattle.rw_library.specs.Entries.{has_lemma, has_definition, before_entry, head_of, heads_of}
use Rattle.rw_library.specs.Parameters.{first_repeated}
use Rattle.rw_edit_tests.specs.declared.refusal.EditRefusal.{EditRefusal}
use Rattle.rw_edit_tests.specs.declared.refusal.EditRefusal.TheVariants as refusal
use Rattle.rw_edit_tests.specs.declared.refusal.Which.TheVariants as which
use Rattle.rw_edit_tests.specs.Refusals.{unknown, ill_formed, is_ill_formed, unknown_in_cert, cert_limit}

abbrev pub repeated : Option (List ℕ) → Option EditRefusal
repeated None = None
repeated (Some x) = Some (refusal.Duplicate x)

-- the name is in the table as another kind, or a parameter stands twice
abbrev pub duplicate : Bool → List ℕ → Option (List ℕ) → Option EditRefusal
duplicate clash x twice = if clash then Some (refusal.Duplicate x) else repeated twice

-- the limits of an entry: the weight and the depth of its formulas, 16 parameters, 1024 entries
abbrev pub entry_limit : Bool → Bool → Bool → List ℕ → List (List ℕ) → Option EditRefusal
entry_limit light shallow few x order =
    if not light then Some (refusal.Limit which.Weight 1024)
    else if not shallow then Some (refusal.Limit which.Depth 64)
    else if not few then Some (refusal.Limit which.Params 16)
    else if not (has_name x order) && nat_le 1024 (length order) then Some (refusal.Limit which.Table 1024)
    else None

-- the four tests of an entry, in order: a name that is unknown, or there already, an ill-formed part, a limit that is passed
abbrev pub entry_refusal : Option (List ℕ) → Option EditRefusal → Option ℕ → Option EditRefusal → Option EditRefusal
entry_refusal name twice part limit = option_or (unknown name) (option_or twice (option_or (ill_formed part) limit))

-- some procedure or module has the name
abbrev pub is_headed : List ℕ → List ProcHead → List Module → Bool
is_headed x procs modules = has_proc x procs || has_module x modules

-- at most 16 parameters
abbrev pub are_few : ℕ → Bool
are_few n = nat_le n 16

-- the heads of the predicates, where a definition that is set again has its new one
abbrev pub heads_with : Definition → List Item → List Head
heads_with d [] = []
heads_with d (item.Definition e ∷ es) = (if bytes_eq e.name d.name then head_of d else head_of e) ∷ heads_with d es
heads_with d (item.Lemma l ∷ es) = heads_with d es

-- the body of a definition is part 1
abbrev pub body_part : Bool → Option ℕ
body_part true = Some 1
body_part false = None

-- the first name of the body that is no parameter, or predicate that is not defined
abbrev pub define_unknown : List Head → Definition → Option (List ℕ)
define_unknown heads d = unknown_in (scope_of_parameters d.params) heads d.body

-- its name is that of another kind, or a parameter stands twice
abbrev pub define_duplicate : List Item → List ProcHead → List Module → Definition → Option EditRefusal
define_duplicate entries procs modules d = duplicate (has_lemma d.name entries || is_headed d.name procs modules) d.name (first_repeated [] d.params)

abbrev pub define_part : List Head → Definition → Option ℕ
define_part heads d = body_part (is_ill_formed (scope_of_parameters d.params) heads [] d.body)

-- the first limit that the definition passes
abbrev pub define_limit : List (List ℕ) → Definition → Option EditRefusal
define_limit order d = entry_limit (is_light d.body) (is_shallow d.body) (are_few (length d.params)) d.name order

-- the tests of a definition, but for those of the weight, the order and its users: its names and predicates are known, its name is that of
-- no other kind and no parameter stands twice, its body is well-formed over its parameters and without initial variables, and the limits
unfoldable pub define_refusal : List Item → List ProcHead → List Module → List (List ℕ) → Definition → Option EditRefusal
define_refusal entries procs modules order d =
    entry_refusal (define_unknown (heads_with d entries) d) (define_duplicate entries procs modules d) (define_part (heads_with d entries) d) (define_limit order d)

abbrev pub ordered : Option (List ℕ) → Option EditRefusal
ordered None = None
ordered (Some x) = Some (refusal.Order x)

-- a definition may use those before its own place alone
abbrev pub order_refusal : List Item → Definition → Option EditRefusal
order_refusal entries d = ordered (predicate_unknown_in (heads_of (before_entry entries d.name)) d.body)

-- the first name of a lemma's formulas, left ones first, that is no parameter, or predicate that is not defined
abbrev pub lemma_unknown : List Head → Lemma → Option (List ℕ)
lemma_unknown heads l =
    first_name (first_of_names (map (unknown_in (scope_of_parameters l.params) heads) l.sequent.left))
    (first_of_names (map (unknown_in (scope_of_parameters l.params) heads) l.sequent.right))

-- the number of the part behind one, at most 4,294,967,295
abbrev pub next_part : ℕ → ℕ
next_part k = min (k + 1) 4294967295

-- the number of the first ill-formed one of some formulas, which are numbered from k on
abbrev pub ill_formed_from : List Entry → List Head → ℕ → List Formula → Option ℕ
ill_formed_from scope heads k [] = None
ill_formed_from scope heads k (f ∷ fs) = if is_ill_formed scope heads [] f then Some k else ill_formed_from scope heads (next_part k) fs

-- the number of the formula behind so many
abbrev pub number_behind : ℕ → ℕ
number_behind n = min (n + 1) 4294967295

-- the formulas of a lemma are its parts, from 1, the left ones first
abbrev pub lemma_part : List Head → Lemma → Option ℕ
lemma_part heads l =
    option_or (ill_formed_from (scope_of_parameters l.params) heads 1 l.sequent.left)
    (ill_formed_from (scope_of_parameters l.params) heads (number_behind (length l.sequent.left)) l.sequent.right)

-- each formula of a lemma is within the limit of weight, and within that of depth
abbrev pub is_light_lemma : Lemma → Bool
is_light_lemma l = list_all is_light l.sequent.left && list_all is_light l.sequent.right

abbrev pub is_shallow_lemma : Lemma → Bool
is_shallow_lemma l = list_all is_shallow l.sequent.left && list_all is_shallow l.sequent.right

-- its name is that of another kind, or a parameter stands twice
abbrev pub lemma_duplicate : List Item → List ProcHead → List Module → Lemma → Option EditRefusal
lemma_duplicate entries procs modules l = duplicate (has_definition l.name entries || is_headed l.name procs modules) l.name (first_repeated [] l.params)

-- the first limit that the lemma passes
abbrev pub lemma_limit : List (List ℕ) → Lemma → Option EditRefusal
lemma_limit order l = entry_limit (is_light_lemma l) (is_shallow_lemma l) (are_few (length l.params)) l.name order

-- the tests of a lemma, as those of a definition; any definition may stand in it
unfoldable pub lemma_refusal : List Item → List ProcHead → List Module → List (List ℕ) → Lemma → Option EditRefusal
lemma_refusal entries procs modules order l =
    entry_refusal (lemma_unknown (heads_of entries) l) (lemma_duplicate entries procs modules l) (lemma_part (heads_of entries) l) (lemma_limit order l)

-- the tests of a lemma's certificate: there is such a lemma, its names are known, and the limits
abbrev pub prove_refusal : List Item → List ℕ → Cert → Option EditRefusal
prove_refusal entries n c = if has_lemma n entries then option_or (unknown (unknown_in_cert entries c)) (cert_limit c) else Some (refusal.Unknown n)
