-- The tests of what the table gets and loses.
use Rattle.std.specs.Prelude.{ℕ, Bool, true, false, min, not, ◌&&◌, ◌+◌, if◌then◌else◌, nat_le, nat_lt, length, List, [], ◌∷◌, map, Option, Some, None, bytes_eq}
use Rattle.std.specs.Option.{option_or}
use Rattle.std.specs.List.{list_all}
use Rattle.rw_terms.specs.declared.term.Formula.{Formula}
use Rattle.rw_terms.specs.declared.scope.Entry.{Entry}
use Rattle.rw_terms.specs.declared.scope.Head.{Head}
use Rattle.rw_terms.specs.Named.{Named}
use Rattle.rw_faults.specs.Faults.{first_name, first_of_names, unknown_in, predicate_unknown_in}
use Rattle.rw_faults.specs.Limits.{is_light, is_shallow}
use Rattle.rw_sequents.specs.declared.line.Cert.{Cert}
use Rattle.rw_goals.specs.declared.library.Definition.{Definition}
use Rattle.rw_goals.specs.declared.library.Lemma.{Lemma}
use Rattle.rw_goals.specs.declared.library.Item.{Item}
use Rattle.rw_goals.specs.declared.library.Item.TheVariants as item
use Rattle.rw_citations.specs.Goal.{scope_of_parameters}
use Rattle.rw_library.specs.Entries.{has_entry, has_lemma, has_definition, before_entry, head_of, heads_of}
use Rattle.rw_library.specs.Parameters.{first_repeated}
use Rattle.rw_refusals.specs.declared.refusal.EditRefusal.{EditRefusal}
use Rattle.rw_refusals.specs.declared.refusal.EditRefusal.TheVariants as refusal
use Rattle.rw_refusals.specs.declared.refusal.Which.TheVariants as which
use Rattle.rw_refusals.specs.Refusals.{unknown, ill_formed, is_ill_formed, unknown_in_cert, cert_limit}

abbrev pub repeated : Option (List ℕ) → Option EditRefusal
repeated None = None
repeated (Some x) = Some (refusal.Duplicate x)

-- the name is in the table as another kind, or a parameter stands twice
abbrev pub duplicate : Bool → List ℕ → List Named → Option EditRefusal
duplicate clash x params = if clash then Some (refusal.Duplicate x) else repeated (first_repeated [] params)

-- the limits of an entry: the weight and the depth of its formulas, 16 parameters, 1024 entries
abbrev pub entry_limit : Bool → Bool → List Named → List ℕ → List Item → Option EditRefusal
entry_limit light shallow params x entries =
    if not light then Some (refusal.Limit which.Weight 1024)
    else if not shallow then Some (refusal.Limit which.Depth 64)
    else if nat_lt 16 (length params) then Some (refusal.Limit which.Params 16)
    else if not (has_entry x entries) && nat_le 1024 (length entries) then Some (refusal.Limit which.Table 1024)
    else None

-- the heads of the predicates, where a definition that is set again has its new one
abbrev pub heads_with : Definition → List Item → List Head
heads_with d [] = []
heads_with d (item.Definition e ∷ es) = (if bytes_eq e.name d.name then head_of d else head_of e) ∷ heads_with d es
heads_with d (item.Lemma l ∷ es) = heads_with d es

-- the body of a definition is part 1
abbrev pub body_part : Bool → Option ℕ
body_part true = Some 1
body_part false = None

-- the tests of a definition, but for those of the weight, the order and its users: its names and predicates are known, its name is no
-- lemma's and no parameter stands twice, its body is well-formed over its parameters and without initial variables, and the limits
unfoldable pub define_refusal : List Item → Definition → Option EditRefusal
define_refusal entries d =
    option_or (unknown (unknown_in (scope_of_parameters d.params) (heads_with d entries) d.body))
    (option_or (duplicate (has_lemma d.name entries) d.name d.params)
    (option_or (ill_formed (body_part (is_ill_formed (scope_of_parameters d.params) (heads_with d entries) [] d.body)))
    (entry_limit (is_light d.body) (is_shallow d.body) d.params d.name entries)))

abbrev pub ordered : Option (List ℕ) → Option EditRefusal
ordered None = None
ordered (Some x) = Some (refusal.Order x)

-- a definition may use those before its own place alone
abbrev pub order_refusal : List Item → Definition → Option EditRefusal
order_refusal entries d = ordered (predicate_unknown_in (heads_of (before_entry entries d.name)) d.body)

-- the first name of a lemma's formulas, left ones first, that is no parameter, or predicate that is not defined
abbrev pub lemma_unknown : List Head → Lemma → Option (List ℕ)
lemma_unknown heads l =
    first_name (first_of_names (map (unknown_in (scope_of_parameters l.params) heads) l.sequent.left))
    (first_of_names (map (unknown_in (scope_of_parameters l.params) heads) l.sequent.right))

-- the number of the part behind one, at most 4,294,967,295
abbrev pub next_part : ℕ → ℕ
next_part k = min (k + 1) 4294967295

-- the number of the first ill-formed one of some formulas, which are numbered from k on
abbrev pub ill_formed_from : List Entry → List Head → ℕ → List Formula → Option ℕ
ill_formed_from scope heads k [] = None
ill_formed_from scope heads k (f ∷ fs) = if is_ill_formed scope heads [] f then Some k else ill_formed_from scope heads (next_part k) fs

-- the number of the formula behind so many
abbrev pub number_behind : ℕ → ℕ
number_behind n = min (n + 1) 4294967295

-- the formulas of a lemma are its parts, from 1, the left ones first
abbrev pub lemma_part : List Head → Lemma → Option ℕ
lemma_part heads l =
    option_or (ill_formed_from (scope_of_parameters l.params) heads 1 l.sequent.left)
    (ill_formed_from (scope_of_parameters l.params) heads (number_behind (length l.sequent.left)) l.sequent.right)

-- the tests of a lemma, as those of a definition; any definition may stand in it
unfoldable pub lemma_refusal : List Item → Lemma → Option EditRefusal
lemma_refusal entries l =
    option_or (unknown (lemma_unknown (heads_of entries) l))
    (option_or (duplicate (has_definition l.name entries) l.name l.params)
    (option_or (ill_formed (lemma_part (heads_of entries) l))
    (entry_limit (list_all is_light l.sequent.left && list_all is_light l.sequent.right) (list_all is_shallow l.sequent.left && list_all is_shallow l.sequent.right) l.params l.name entries)))

-- the tests of a lemma's certificate: there is such a lemma, its names are known, and the limits
abbrev pub prove_refusal : List Item → List ℕ → Cert → Option EditRefusal
prove_refusal entries n c = if has_lemma n entries then option_or (unknown (unknown_in_cert entries c)) (cert_limit c) else Some (refusal.Unknown n)
