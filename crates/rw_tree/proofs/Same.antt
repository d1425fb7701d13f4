-- The tests by the parts are those by the list that makes them.
use Rattle.std.proofs.Common.{◌≡◌, ℕ, Bool, true, false, ◌&&◌, if◌then◌else◌, List, [], ◌∷◌, map, refl, sym, ap, ◌∙◌, subst, Option, Some, None}
use Rattle.std.specs.Option.{is_some, option_or}
use Rattle.rw_sequents.specs.declared.line.Cert.{Cert}
use Rattle.rw_nodes.specs.declared.edit.Place.{Place}
use Rattle.rw_nodes.specs.declared.edit.Edit.{Edit}
use Rattle.rw_nodes.specs.declared.edit.Edit.TheVariants as edit
use Rattle.rw_nodes.specs.declared.parts.Parts.{Parts}
use Rattle.rw_programs.specs.declared.prog.Param.{Param}
use Rattle.rw_goals.specs.declared.library.Item.{Item}
use Rattle.rw_goals.specs.declared.library.Item.TheVariants as item
use Rattle.rw_library.specs.Entries.{has_entry, heads_of}
use Rattle.rw_nodes.specs.Table.{table_of, entry_in, proof_in, entries_of, proofs_of}
use Rattle.rw_nodes.specs.Edits.{globals_of, root_of, without_param, is_node, has_obligation_of}
use Rattle.rw_nodes.specs.Nodes.{look, has_obligation}
use Rattle.rw_nodes.specs.Parts.{Makes, IsPlaced, applied_to, tree_of, parts_of, less_entry, edited}
use Rattle.rw_nodes.proofs.Tabled.{put_entries, put_proofs, prove_entries, prove_proofs, without_entries, without_proofs, without_none}
use Rattle.rw_nodes.proofs.Making.{made_by, made_none}
use Rattle.rw_nodes.proofs.Once.{made_once}
use Rattle.rw_nodes.proofs.There.{nodes_there, obligations_there}
use Rattle.rw_refusals.specs.declared.refusal.EditRefusal.{EditRefusal}
use Rattle.rw_refusals.specs.Refusals.{unknown, predicate_in_step, unknown_in_cert, at_place, at_obligation, cert_limit, step_limit}
use Rattle.rw_tree.specs.Accepting.{full, refusal_of, IsGood, IsProject}
use Rattle.rw_refusals.specs.Entering.{define_refusal, order_refusal}
use Rattle.rw_tree.specs.Used.{sorts_refusal}
use Rattle.rw_tree.specs.Mirror.{refusal_in}

-- what an accepted test says
pub at_told : (b : Bool) (q : Place) (ask : Option EditRefusal) → at_place b q ask ≡ None → (b ≡ true) × (ask ≡ None)
at_told true q ask e = (refl, e)
at_told false q ask e = absurd (cc)

pub obligation_told : (b : Bool) (k : ℕ) (ask : Option EditRefusal) → at_obligation b k ask ≡ None → (b ≡ true) × (ask ≡ None)
obligation_told true k ask e = (refl, e)
obligation_told false k ask e = absurd (cc)

pub first_told : (one two : Option EditRefusal) → option_or one two ≡ None → (one ≡ None) × (two ≡ None)
first_told None two e = (refl, e)
first_told (Some r) two e = absurd (cc)

pub both_none : (one two : Option EditRefusal) → one ≡ None → two ≡ None → option_or one two ≡ None
both_none None two a b = b
both_none (Some r) two a b = absurd (cc)

-- the parts with another table
abbrev table_parts : ℕ → List Edit → List Param → List Item → List (Option Cert) → Parts
table_parts most l globals entries proofs = record { globals = globals; root = root_of l; library = record { entries = entries }; proofs = proofs; main = tree_of l; most = most }

with_table : (most : ℕ) (l : List Edit) {es fs : List Item} {ps qs : List (Option Cert)} → es ≡ fs → ps ≡ qs → table_parts most l (globals_of l) es ps ≡ table_parts most l (globals_of l) fs qs
with_table most l ee ep = λ i. table_parts most l (globals_of l) (ee i) (ep i)

dropped_same : (most : ℕ) (l : List Edit) (x : List ℕ) (b : Bool) → has_entry x (entries_of l) ≡ b →
    (if b then less_entry (parts_of most l) x else record (parts_of most l) { globals = without_param (globals_of l) x })
    ≡ table_parts most l (if b then globals_of l else without_param (globals_of l) x) (entries_of (edit.Drop x ∷ l)) (proofs_of (edit.Drop x ∷ l))
dropped_same most l x true is = with_table most l (sym (without_entries (table_of l) x)) (sym (without_proofs (table_of l) x))
dropped_same most l x false is =
    let same : table_of l ≡ table_of (edit.Drop x ∷ l) = sym (without_none (table_of l) x is) in
    λ i. table_parts most l (without_param (globals_of l) x) (map entry_in (same i)) (map proof_in (same i))

-- the parts after an edit are those of the longer list
pub applied_same : (most : ℕ) (l : List Edit) (e : Edit) → applied_to (parts_of most l) e ≡ parts_of most (e ∷ l)
applied_same most l (edit.Var p) = refl
applied_same most l (edit.Root w) = refl
applied_same most l (edit.Step q s) = refl
applied_same most l (edit.Clear q) = refl
applied_same most l (edit.Prove q k c) = refl
applied_same most l (edit.ProveLemma x c) = with_table most l (sym (prove_entries (table_of l) x c)) (sym (prove_proofs (table_of l) x c))
applied_same most l (edit.Define d) = with_table most l (sym (put_entries (table_of l) (item.Definition d))) (sym (put_proofs (table_of l) (item.Definition d)))
applied_same most l (edit.Lemma k) = with_table most l (sym (put_entries (table_of l) (item.Lemma k))) (sym (put_proofs (table_of l) (item.Lemma k)))
applied_same most l (edit.Drop x) = dropped_same most l x (has_entry x (entries_of l)) refl

-- edit by edit the list makes its project
pub edited_same : (most : ℕ) (l : List Edit) → edited most l ≡ parts_of most l
edited_same most [] = refl
edited_same most (e ∷ l) = ap (λ ps. applied_to ps e) (edited_same most l) ∙ applied_same most l e

module _ (most : ℕ) (l : List Edit) (m : Makes most l (parts_of most l)) where
  there : (q : Place) → is_node l q.path.kids ≡ true → is_some (look (tree_of l) q.path.kids) ≡ true
  there q e = nodes_there l (tree_of l) q.path.kids m.main ∙ e

  obligation_there : (q : Place) (k : ℕ) → is_node l q.path.kids ≡ true → has_obligation_of l q.path.kids k ≡ true → has_obligation (tree_of l) q.path.kids k ≡ true
  obligation_there q k e h = obligations_there l (tree_of l) q.path.kids k m.main ∙ ap (λ b. b && has_obligation_of l q.path.kids k) e ∙ h

  -- an accepted edit is placed
  pub placed : (e : Edit) → refusal_of most l e ≡ None → IsPlaced (tree_of l) e
  placed (edit.Var p) h = tt
  placed (edit.Root w) h = tt
  placed (edit.Step q s) h = there q (at_told (is_node l q.path.kids) q _ (first_told (unknown (predicate_in_step (heads_of (entries_of l)) s)) _ h).1).0
  placed (edit.Clear q) h = there q (at_told (is_node l q.path.kids) q _ h).0
  placed (edit.Prove q k c) h =
      let t = at_told (is_node l q.path.kids) q _ (first_told (unknown (unknown_in_cert (entries_of l) c)) _ h).1 in
      obligation_there q k t.0 (obligation_told (has_obligation_of l q.path.kids k) k (cert_limit c) t.1).0
  placed (edit.ProveLemma x c) h = tt
  placed (edit.Define d) h = tt
  placed (edit.Lemma k) h = tt
  placed (edit.Drop x) h = tt

-- good edits make their project
pub made_good : (most : ℕ) (l : List Edit) → IsGood most l → Makes most l (parts_of most l)
made_good most [] good = made_none most
made_good most (e ∷ l) good =
    let m = made_good most l good.0 in
    subst (Makes most (e ∷ l)) (applied_same most l e) (made_by most l (parts_of most l) m e (placed most l m e good.1))

pub parts_same : (most : ℕ) (l : List Edit) (parts : Parts) → IsGood most l → Makes most l parts → parts ≡ parts_of most l
parts_same most l parts good m = made_once most l parts (parts_of most l) m (made_good most l good)

or_at : (b : Bool) (q : Place) (one two : Option EditRefusal) → option_or (at_place b q one) two ≡ at_place b q (option_or one two)
or_at true q one two = refl
or_at false q one two = refl

or_or : (one two three : Option EditRefusal) → option_or (option_or one two) three ≡ option_or one (option_or two three)
or_or None two three = refl
or_or (Some r) two three = refl

no_more : (o : Option EditRefusal) → option_or o None ≡ o
no_more None = refl
no_more (Some r) = refl

-- what is asked of an obligation is asked where the node is there
and_asked : (b c : Bool) (q : Place) (k : ℕ) (ask : Option EditRefusal) → at_place b q (at_obligation (b && c) k ask) ≡ at_place b q (at_obligation c k ask)
and_asked true c q k ask = refl
and_asked false c q k ask = refl

module _ (most : ℕ) (l : List Edit) (m : Makes most l (parts_of most l)) where
  here : (q : Place) → is_some (look (tree_of l) q.path.kids) ≡ is_node l q.path.kids
  here q = nodes_there l (tree_of l) q.path.kids m.main

  by_parts : (e : Edit) → refusal_in (parts_of most l) e ≡ refusal_of most l e
  by_parts (edit.Var p) = refl
  by_parts (edit.Root w) = refl
  by_parts (edit.Step q s) =
      or_or (unknown (predicate_in_step (heads_of (entries_of l)) s)) _ _
      ∙ ap (option_or (unknown (predicate_in_step (heads_of (entries_of l)) s)))
      (or_at (is_some (look (tree_of l) q.path.kids)) q (step_limit q.path.kids s (tree_of (edit.Step q s ∷ l))) (full (parts_of most (edit.Step q s ∷ l)))
      ∙ ap (λ b. at_place b q (option_or (step_limit q.path.kids s (tree_of (edit.Step q s ∷ l))) (full (parts_of most (edit.Step q s ∷ l))))) (here q))
  by_parts (edit.Clear q) =
      or_at (is_some (look (tree_of l) q.path.kids)) q None (full (parts_of most (edit.Clear q ∷ l)))
      ∙ ap (λ b. at_place b q (full (parts_of most (edit.Clear q ∷ l)))) (here q)
  by_parts (edit.Prove q k c) =
      no_more _
      ∙ ap (option_or (unknown (unknown_in_cert (entries_of l) c)))
      (ap (λ b. at_place b q (at_obligation (has_obligation (tree_of l) q.path.kids k) k (cert_limit c))) (here q)
      ∙ ap (λ b. at_place (is_node l q.path.kids) q (at_obligation b k (cert_limit c))) (obligations_there l (tree_of l) q.path.kids k m.main)
      ∙ and_asked (is_node l q.path.kids) (has_obligation_of l q.path.kids k) q k (cert_limit c))
  by_parts (edit.ProveLemma x c) = no_more _
  by_parts (edit.Define d) = ap (λ ps. option_or (define_refusal (entries_of l) d) (option_or (full ps) (option_or (order_refusal (entries_of l) d) (sorts_refusal (parts_of most l) d)))) (applied_same most l (edit.Define d))
  by_parts (edit.Lemma k) = no_more _
  by_parts (edit.Drop x) = no_more _

-- the test by the parts is that by the list
pub refusal_same : (most : ℕ) (l : List Edit) (parts : Parts) → IsGood most l → Makes most l parts → (e : Edit) → refusal_in parts e ≡ refusal_of most l e
refusal_same most l parts good m e = ap (λ ps. refusal_in ps e) (parts_same most l parts good m) ∙ by_parts most l (made_good most l good) e

-- an edit that no test refuses makes the project of the longer list
pub made_applied : (most : ℕ) (l : List Edit) (parts : Parts) → IsGood most l → Makes most l parts → (e : Edit) → refusal_in parts e ≡ None → Makes most (e ∷ l) (applied_to parts e)
made_applied most l parts good m e none =
    let accepted : refusal_of most l e ≡ None = sym (refusal_same most l parts good m e) ∙ none in
    subst (Makes most (e ∷ l)) (sym (ap (λ ps. applied_to ps e) (parts_same most l parts good m) ∙ applied_same most l e)) (made_good most (e ∷ l) (good, accepted))

-- some list of good edits makes the project with the edit
pub is_project : (most : ℕ) (parts : Parts) (e : Edit) (l : List Edit) → IsGood most l → Makes most l parts → refusal_in parts e ≡ None → IsProject (applied_to parts e)
is_project most parts e l good m none =
    let accepted : refusal_of most l e ≡ None = sym (refusal_same most l parts good m e) ∙ none in
    (most, e ∷ l, (good, accepted), made_applied most l parts good m e none)
