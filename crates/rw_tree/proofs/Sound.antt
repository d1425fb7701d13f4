-- Good edits make trees of at most 2048 nodes, whose certificates have at most 4096 lines.
use Rattle.std.proofs.Common.{◌≡◌, ℕ, suc, ◌≤◌, ◌+◌, ◌-◌, Bool, true, false, not, if◌then◌else◌, nat_lt, nat_le, nat_eq, List, [], ◌∷◌, length, map, take, sym, ap, ◌∙◌, subst, arith, Option, Some, None, unwrap_or, inl, inr}
use Rattle.std.specs.Option.{option_and_then}
use Rattle.std.specs.List.{list_all, slice_get}
use Rattle.std.proofs.lemmas.Bool.Decides.{leb_tells}
use Rattle.rw_faults.specs.Limits.{is_light, is_shallow}
use Rattle.rw_sequents.specs.declared.line.Cert.{Cert}
use Rattle.rw_sequents.specs.Counting.{line_count}
use Rattle.rw_nodes.specs.declared.edit.Step.{Step}
use Rattle.rw_nodes.specs.declared.edit.Edit.{Edit}
use Rattle.rw_nodes.specs.declared.edit.Edit.TheVariants as edit
use Rattle.rw_nodes.specs.declared.node.Node.{Node, out-Node, out-roll-Node}
use Rattle.rw_nodes.specs.declared.parts.Parts.{Parts}
use Rattle.rw_library.specs.Entries.{heads_of}
use Rattle.rw_nodes.specs.Table.{entries_of}
use Rattle.rw_nodes.specs.Edits.{kids_of, kids_in, obligations_in, cert_at, cert_set, cert_dropped, behind, is_node, has_obligation_of}
use Rattle.rw_nodes.specs.Nodes.{look, cert_seen, renewed, fresh_node, with_cert, size, total}
use Rattle.rw_nodes.specs.Parts.{Makes, tree_of, set_step, set_cert}
use Rattle.rw_nodes.proofs.Making.{found, found_with}
use Rattle.rw_nodes.proofs.Counts.{size-out, size_changed, size_renewed, size_kid}
use Rattle.rw_nodes.proofs.Kids.{kid_each}
use Rattle.rw_refusals.specs.declared.refusal.EditRefusal.TheVariants as refusal
use Rattle.rw_refusals.specs.declared.refusal.Which.TheVariants as which
use Rattle.rw_refusals.specs.Refusals.{unknown, predicate_in_step, unknown_in_cert, is_light_term, is_shallow_term, passes, cert_limit, step_limit, tree_limit, text_limit}
use Rattle.rw_tree.specs.Accepting.{IsGood}
use Rattle.rw_tree.specs.Mirror.{HasFewLines, AreSound}
use Rattle.rw_tree.proofs.Same.{at_told, obligation_told, first_told, placed, made_good, parts_same}

-- what passes no limit has few lines
short_told : (a b : Bool) (c : Cert) → (if a then Some (refusal.Limit which.Weight 1024) else if b then Some (refusal.Limit which.Depth 64) else if nat_le (line_count c.lines) 4096 then None else Some (refusal.Limit which.Lines 4096)) ≡ None → line_count c.lines ≤ 4096
short_told true b c e = absurd (cc)
short_told false true c e = absurd (cc)
short_told false false c e = elim (leb_tells (line_count c.lines) 4096) [
  | inl h ↦ h.1
  | inr h ↦ absurd (let f : Some (refusal.Limit which.Lines 4096) ≡ None = rw h.0 at e in cc)
]

pub is_short : (c : Cert) → cert_limit c ≡ None → line_count c.lines ≤ 4096
is_short c e = short_told (not (list_all (passes is_light is_light_term) c.lines)) (not (list_all (passes is_shallow is_shallow_term) c.lines)) c e

kept : (b : Bool) (old : Option Cert) (c : Cert) → unwrap_or (if b then Some None else None) old ≡ Some c → old ≡ Some c
kept true old c e = absurd (cc)
kept false old c e = e

step_keeps : (s : Option Step) (k : ℕ) (rest : Option (List ℕ)) (old : Option Cert) (c : Cert) → unwrap_or (cert_dropped s k rest) old ≡ Some c → old ≡ Some c
step_keeps s k None old c e = e
step_keeps s k (Some []) old c e = kept (nat_lt (obligations_in s) k) old c e
step_keeps s k (Some (j ∷ rest)) old c e = kept (nat_lt (kids_in s) j) old c e

set_or_kept : (b : Bool) (d : Cert) (rest : Option (List ℕ)) (old : Option Cert) (c : Cert) → line_count d.lines ≤ 4096 → (old ≡ Some c → line_count c.lines ≤ 4096) →
    unwrap_or (if b then cert_set d rest else None) old ≡ Some c → line_count c.lines ≤ 4096
set_or_kept true d None old c short before e = before e
set_or_kept true d (Some []) old c short before e = let same : d ≡ c = cc in subst (λ c. line_count c.lines ≤ 4096) same short
set_or_kept true d (Some (j ∷ rest)) old c short before e = before e
set_or_kept false d rest old c short before e = before e

few_lines : (most : ℕ) (l : List Edit) → IsGood most l → (p : List ℕ) (k : ℕ) (c : Cert) → cert_at l p k ≡ Some c → line_count c.lines ≤ 4096
few_lines most [] good p k c e = absurd (cc)
few_lines most (edit.Var x ∷ l) good p k c e = few_lines most l good.0 p k c e
few_lines most (edit.Root w ∷ l) good p k c e = few_lines most l good.0 p k c e
few_lines most (edit.ProveLemma x d ∷ l) good p k c e = few_lines most l good.0 p k c e
few_lines most (edit.Define d ∷ l) good p k c e = few_lines most l good.0 p k c e
few_lines most (edit.Lemma m ∷ l) good p k c e = few_lines most l good.0 p k c e
few_lines most (edit.Drop x ∷ l) good p k c e = few_lines most l good.0 p k c e
few_lines most (edit.Step q s ∷ l) good p k c e = few_lines most l good.0 p k c (step_keeps (Some s) k (behind q.path.kids p) (cert_at l p k) c e)
few_lines most (edit.Clear q ∷ l) good p k c e = few_lines most l good.0 p k c (step_keeps None k (behind q.path.kids p) (cert_at l p k) c e)
few_lines most (edit.Prove q j d ∷ l) good p k c e =
    let asked = (at_told (is_node l q.path.kids) q _ (first_told (unknown (unknown_in_cert (entries_of l) d)) _ good.1).1).1 in
    let short = is_short d (obligation_told (has_obligation_of l q.path.kids j) j (cert_limit d) asked).1 in
    set_or_kept (nat_eq j k) d (behind q.path.kids p) (cert_at l p k) c short (few_lines most l good.0 p k c) e

-- a tree within the limits has few nodes
few_told : (p : List ℕ) (kids : ℕ) (after : Node) → tree_limit p kids after ≡ None → size after ≤ 2048
few_told p kids after e = elim (leb_tells 2049 (size after)) [
  | inl h ↦ absurd (let f : Some (refusal.Limit which.Nodes 2048) ≡ None = rw h.0 at e in cc)
  | inr h ↦ omega (arith, h.1)
]

-- a step that is taken away leaves fewer nodes
cleared : (n m : Node) (q : List ℕ) → look n q ≡ Some m → size n ≤ 2048 → size (set_step q None n) ≤ 2048
cleared n m q there few =
    let change : size (set_step q None n) + size m ≡ size n + size (renewed (fresh_node None) m) = size_changed (renewed (fresh_node None)) n m q there in
    let one : size (renewed (fresh_node None) m) ≡ 1 = size_renewed None m ∙ ap suc (none_left (out-Node m).kids) in
    let some : size m ≡ suc (total (map size (out-Node m).kids)) = size-out m in
    omega (arith, change, one, some, few) where
      none_left : (ks : List Node) → total (map size (take 0 ks)) + (0 - length ks) ≡ 0
      none_left [] = omega arith
      none_left (k ∷ ks) = omega arith

certificate_kept : (n m : Node) (q : List ℕ) (k : ℕ) (c : Cert) → look n q ≡ Some m → size n ≤ 2048 → size (set_cert q k c n) ≤ 2048
certificate_kept n m q k c there few =
    let change : size (set_cert q k c n) + size m ≡ size n + size (with_cert k c m) = size_changed (with_cert k c) n m q there in
    let same : size (with_cert k c m) ≡ size m = size-out (with_cert k c m) ∙ simp out-roll-Node (sym (size-out m)) in
    omega (arith, change, same, few)

few_nodes : (most : ℕ) (l : List Edit) → IsGood most l → size (tree_of l) ≤ 2048
few_nodes most [] good = let one : size (tree_of []) ≡ 1 = size-out (tree_of []) ∙ simp out-roll-Node in omega (arith, one)
few_nodes most (edit.Var x ∷ l) good = few_nodes most l good.0
few_nodes most (edit.Root w ∷ l) good = few_nodes most l good.0
few_nodes most (edit.ProveLemma x d ∷ l) good = few_nodes most l good.0
few_nodes most (edit.Define d ∷ l) good = few_nodes most l good.0
few_nodes most (edit.Lemma m ∷ l) good = few_nodes most l good.0
few_nodes most (edit.Drop x ∷ l) good = few_nodes most l good.0
few_nodes most (edit.Step q s ∷ l) good =
    let asked = (at_told (is_node l q.path.kids) q _ (first_told (unknown (predicate_in_step (heads_of (entries_of l)) s)) _ good.1).1).1 in
    let limits = (first_told (step_limit q.path.kids s (tree_of (edit.Step q s ∷ l))) _ asked).0 in
    few_told q.path.kids (kids_of s) (tree_of (edit.Step q s ∷ l)) (first_told (text_limit s) _ limits).1
few_nodes most (edit.Clear q ∷ l) good =
    let t = found (tree_of l) q.path.kids (placed most l (made_good most l good.0) (edit.Clear q) good.1) in
    cleared (tree_of l) t.0 q.path.kids t.1 (few_nodes most l good.0)
few_nodes most (edit.Prove q k c ∷ l) good =
    let t = found_with (tree_of l) q.path.kids k (placed most l (made_good most l good.0) (edit.Prove q k c) good.1) in
    certificate_kept (tree_of l) t.0 q.path.kids k c t.1 (few_nodes most l good.0)

pub few_made : (most : ℕ) (l : List Edit) (parts : Parts) → IsGood most l → Makes most l parts → size parts.main ≤ 2048
few_made most l parts good m = subst (λ ps. size ps.main ≤ 2048) (sym (parts_same most l parts good m)) (few_nodes most l good)

pub sound_made : (most : ℕ) (l : List Edit) (parts : Parts) → IsGood most l → Makes most l parts → AreSound parts.main
sound_made most l parts good m = record {
  each = λ p y e k c is. few_lines most l good p k c (sym (m.main.certs p k) ∙ ap (option_and_then (cert_seen k)) e ∙ is);
  few = few_made most l parts good m;
}

-- a kid of a sound node is sound
pub kid_sound : (n kid : Node) (i : ℕ) → AreSound n → slice_get (out-Node n).kids i ≡ Some kid → AreSound kid
kid_sound n kid i s is = record {
  each = kid_each (λ y. HasFewLines y.certs) n kid i s.each is;
  few = let b : suc (size kid) ≤ size n = size_kid n kid i is in omega (arith, b, s.few);
}

-- each node counts at least one
long_total : (xs : List Node) → length xs ≤ total (map size xs)
long_total [] = omega arith
long_total (x ∷ xs) = let s : size x ≡ suc (total (map size (out-Node x).kids)) = size-out x in let r : length xs ≤ total (map size xs) = long_total xs in omega (arith, s, r)

pub few_kids : (n : Node) → AreSound n → length (out-Node n).kids ≤ 2048
few_kids n s = let a : size n ≡ suc (total (map size (out-Node n).kids)) = size-out n in let b : length (out-Node n).kids ≤ total (map size (out-Node n).kids) = long_total (out-Node n).kids in omega (arith, a, b, s.few)
