-- What the tests of the table tell where they refuse nothing.
use Rattle.std.proofs.Common.{◌≡◌, ℕ, ◌+◌, Bool, true, false, if◌then◌else◌, ◌||◌, ◌&&◌, List, [], ◌∷◌, length, map, Option, Some, None, refl, sym, ap, ◌∙◌}
use Rattle.std.proofs.lemmas.Bool.{and_from, and_parts, or_parts}
use Rattle.std.specs.List.{list_all, slice_get}
use Rattle.rw_terms.specs.declared.scope.Entry.{Entry}
use Rattle.rw_terms.specs.declared.scope.Head.{Head}
use Rattle.rw_terms.specs.declared.term.Formula.{Formula}
use Rattle.rw_terms.specs.Named.{Named}
use Rattle.rw_terms.specs.WellFormed.{IsFormed}
use Rattle.rw_terms.specs.Rules.{keeps_rules}
use Rattle.rw_terms.specs.Validity.{Each}
use Rattle.rw_faults.specs.Faults.{first_of_names, unknown_in, predicate_unknown_in, is_ill_sorted}
use Rattle.rw_faults.specs.Initial.{initial_outside}
use Rattle.rw_faults.specs.Limits.{is_light, is_shallow, is_small}
use Rattle.rw_faults.proofs.Apart.{faults_apart}
use Rattle.rw_soundness.proofs.Binders.{small}
use Rattle.rw_sequents.specs.declared.line.Cert.{Cert}
use Rattle.rw_goals.specs.declared.library.Definition as definitions
use Rattle.rw_goals.specs.declared.library.Lemma as lemmas
use Rattle.rw_goals.specs.declared.library.Item.{Item}
use Rattle.rw_citations.specs.Goal.{scope_of_parameters}
use Rattle.rw_library.specs.Entries.{has_lemma, has_definition, before_entry, heads_of}
use Rattle.rw_library.specs.Naming.{item_names}
use Rattle.rw_nodes.specs.declared.parts.Parts.{Parts}
use Rattle.rw_refusals.specs.declared.refusal.Spot.{Spot}
use Rattle.std.specs.Option.{option_or}
use Rattle.rw_tree.specs.Users.{beside_names, entry_user, root_names, tree_user, spot_at, user_in, node_user}
use Rattle.rw_refusals.specs.Refusals.{unknown, ill_formed, is_ill_formed}
use Rattle.rw_refusals.specs.Entering.{heads_with, duplicate, body_part, entry_limit, define_refusal, ordered, order_refusal, lemma_unknown, next_part, ill_formed_from, number_behind, lemma_part, lemma_refusal}
use Rattle.rw_tree.specs.Used.{in_use}
use Rattle.rw_tree.proofs.Same.{first_told}
use Rattle.rw_collect.proofs.Bits.{first_none}

pub known_told : (o : Option (List ℕ)) → unknown o ≡ None → o ≡ None
known_told None e = refl
known_told (Some x) e = absurd (cc)

pub formed_told : (o : Option ℕ) → ill_formed o ≡ None → o ≡ None
formed_told None e = refl
formed_told (Some part) e = absurd (cc)

-- a formula within the limits that is not ill-formed and has no unknown name
pub sound_part : (scope : List Entry) (heads : List Head) (initials : List (List ℕ)) (f : Formula) → is_small f ≡ true → unknown_in scope heads f ≡ None → is_ill_formed scope heads initials f ≡ false →
    IsFormed scope heads f × (initial_outside initials f ≡ false)
sound_part scope heads initials f within known formed =
    let both : (initial_outside initials f || is_ill_sorted scope heads f []) ≡ false = sym (ap (λ b. b && (initial_outside initials f || is_ill_sorted scope heads f [])) within) ∙ formed in
    ((small f within, (faults_apart scope heads f []).1 (known, (or_parts (initial_outside initials f) (is_ill_sorted scope heads f []) both).1)), (or_parts (initial_outside initials f) (is_ill_sorted scope heads f []) both).0)

duplicate_told : (clash : Bool) (x : List ℕ) (params : List Named) → duplicate clash x params ≡ None → clash ≡ false
duplicate_told true x params e = absurd (cc)
duplicate_told false x params e = refl

body_told : (b : Bool) → ill_formed (body_part b) ≡ None → b ≡ false
body_told true e = absurd (cc)
body_told false e = refl

limit_told : (light shallow : Bool) (params : List Named) (x : List ℕ) (entries : List Item) → entry_limit light shallow params x entries ≡ None → (light ≡ true) × (shallow ≡ true)
limit_told false shallow params x entries e = absurd (cc)
limit_told true false params x entries e = absurd (cc)
limit_told true true params x entries e = (refl, refl)

-- an accepted definition: its name is no lemma's, and its body keeps the rules
pub record DefineTold (es : List Item) (d : definitions.Definition) : Type 0 where
  pub no_lemma : has_lemma d.name es ≡ false
  pub kept : keeps_rules (scope_of_parameters d.params) (heads_with d es) d.body [] ≡ true

pub define_told : (es : List Item) (d : definitions.Definition) → define_refusal es d ≡ None → DefineTold es d
unfolding define_refusal
define_told es d e =
    let first = first_told (unknown (unknown_in (scope_of_parameters d.params) (heads_with d es) d.body)) _ e in
    let second = first_told (duplicate (has_lemma d.name es) d.name d.params) _ first.1 in
    let third = first_told (ill_formed (body_part (is_ill_formed (scope_of_parameters d.params) (heads_with d es) [] d.body))) _ second.1 in
    let limits = limit_told (is_light d.body) (is_shallow d.body) d.params d.name es third.1 in record {
      no_lemma = duplicate_told (has_lemma d.name es) d.name d.params second.0;
      kept =
          (sound_part (scope_of_parameters d.params) (heads_with d es) [] d.body (and_from (is_light d.body) (is_shallow d.body) limits.0 limits.1)
          (known_told (unknown_in (scope_of_parameters d.params) (heads_with d es) d.body) first.0) (body_told (is_ill_formed (scope_of_parameters d.params) (heads_with d es) [] d.body) third.0)).0.1;
    }

ordered_told : (o : Option (List ℕ)) → ordered o ≡ None → o ≡ None
ordered_told None e = refl
ordered_told (Some x) e = absurd (cc)

pub order_told : (es : List Item) (d : definitions.Definition) → order_refusal es d ≡ None → predicate_unknown_in (heads_of (before_entry es d.name)) d.body ≡ None
order_told es d e = ordered_told (predicate_unknown_in (heads_of (before_entry es d.name)) d.body) e

or_part_told : (one two : Option ℕ) → option_or one two ≡ None → (one ≡ None) × (two ≡ None)
or_part_told None two e = (refl, e)
or_part_told (Some k) two e = absurd (cc)

part_told : (b : Bool) (k : ℕ) (rest : Option ℕ) → (if b then Some k else rest) ≡ None → (b ≡ false) × (rest ≡ None)
part_told true k rest e = absurd (cc)
part_told false k rest e = (refl, e)

each_kept : (scope : List Entry) (heads : List Head) (k : ℕ) (fs : List Formula) → first_of_names (map (unknown_in scope heads) fs) ≡ None → ill_formed_from scope heads k fs ≡ None →
    list_all is_light fs ≡ true → list_all is_shallow fs ≡ true → Each (λ f. keeps_rules scope heads f [] ≡ true) fs
each_kept scope heads k [] known formed light shallow = tt
each_kept scope heads k (f ∷ fs) known formed light shallow =
    let names = first_none (unknown_in scope heads f) (first_of_names (map (unknown_in scope heads) fs)) known in
    let parts = part_told (is_ill_formed scope heads [] f) k (ill_formed_from scope heads (next_part k) fs) formed in
    let lights = and_parts (is_light f) (list_all is_light fs) light in
    let shallows = and_parts (is_shallow f) (list_all is_shallow fs) shallow in
    ((sound_part scope heads [] f (and_from (is_light f) (is_shallow f) lights.0 shallows.0) names.0 parts.0).0.1, each_kept scope heads (next_part k) fs names.1 parts.1 lights.1 shallows.1)

-- an accepted lemma: its name is no definition's, and its formulas keep the rules
pub record LemmaTold (es : List Item) (l : lemmas.Lemma) : Type 0 where
  pub no_definition : has_definition l.name es ≡ false
  pub left : Each (λ f. keeps_rules (scope_of_parameters l.params) (heads_of es) f [] ≡ true) l.sequent.left
  pub right : Each (λ f. keeps_rules (scope_of_parameters l.params) (heads_of es) f [] ≡ true) l.sequent.right

pub lemma_told : (es : List Item) (l : lemmas.Lemma) → lemma_refusal es l ≡ None → LemmaTold es l
unfolding lemma_refusal
lemma_told es l e =
    let scope : List Entry = scope_of_parameters l.params in
    let left : List Formula = l.sequent.left in
    let right : List Formula = l.sequent.right in
    let first = first_told (unknown (lemma_unknown (heads_of es) l)) _ e in
    let second = first_told (duplicate (has_definition l.name es) l.name l.params) _ first.1 in
    let third = first_told (ill_formed (lemma_part (heads_of es) l)) _ second.1 in
    let names = first_none (first_of_names (map (unknown_in scope (heads_of es)) left)) (first_of_names (map (unknown_in scope (heads_of es)) right)) (known_told (lemma_unknown (heads_of es) l) first.0) in
    let parts = or_part_told (ill_formed_from scope (heads_of es) 1 left) (ill_formed_from scope (heads_of es) (number_behind (length left)) right) (formed_told (lemma_part (heads_of es) l) third.0) in
    let limits = limit_told (list_all is_light left && list_all is_light right) (list_all is_shallow left && list_all is_shallow right) l.params l.name es third.1 in
    let lights = and_parts (list_all is_light left) (list_all is_light right) limits.0 in
    let shallows = and_parts (list_all is_shallow left) (list_all is_shallow right) limits.1 in record {
      no_definition = duplicate_told (has_definition l.name es) l.name l.params second.0;
      left = each_kept scope (heads_of es) 1 left names.0 parts.0 lights.0 shallows.0;
      right = each_kept scope (heads_of es) (number_behind (length left)) right names.1 parts.1 lights.1 shallows.1;
    }

pub use_told : (x : List ℕ) (o : Option Spot) → in_use x o ≡ None → o ≡ None
use_told x None e = refl
use_told x (Some s) e = absurd (cc)

spot_told : (one two : Option Spot) → option_or one two ≡ None → (one ≡ None) × (two ≡ None)
spot_told None two e = (refl, e)
spot_told (Some s) two e = absurd (cc)

entry_told : (b c : Bool) (s : Spot) (rest : Option Spot) → (if b || c then Some s else rest) ≡ None → (b ≡ false) × (rest ≡ None)
entry_told true c s rest e = absurd (cc)
entry_told false true s rest e = absurd (cc)
entry_told false false s rest e = (refl, e)

entries_unused : (x : List ℕ) (proofs : List (Option Cert)) (k : ℕ) (es : List Item) → entry_user x proofs k es ≡ None → Each (λ e. item_names x e ≡ false) es
entries_unused x proofs k [] e = tt
entries_unused x proofs k (d ∷ es) e =
    let t = entry_told (item_names x d) (beside_names x (slice_get proofs k)) _ (entry_user x proofs (k + 1) es) e in
    (t.0, entries_unused x proofs (k + 1) es t.1)

place_told : (x : List ℕ) (o : Option (List ℕ)) → spot_at x o ≡ None → o ≡ None
place_told x None e = refl
place_told x (Some p) e = absurd (cc)

tree_told : (b : Bool) (path : List ℕ) (o : Option (List ℕ)) → (if b then Some path else o) ≡ None → b ≡ false
tree_told true path o e = absurd (cc)
tree_told false path o e = refl

-- what nothing uses stands in no entry's formulas, and not in the root
pub user_told : (x : List ℕ) (parts : Parts) → user_in x parts ≡ None → Each (λ e. item_names x e ≡ false) parts.library.entries × (root_names x parts.root ≡ false)
unfolding user_in
user_told x parts e =
    let t = spot_told (entry_user x parts.proofs 0 parts.library.entries) (spot_at x (tree_user x parts.root parts.main)) e in
    (entries_unused x parts.proofs 0 parts.library.entries t.0, tree_told (root_names x parts.root) [] (node_user x parts.main []) (place_told x (tree_user x parts.root parts.main) t.1))
