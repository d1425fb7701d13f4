-- A certificate that is set makes the tree of the longer list.
use Rattle.std.proofs.Common.{◌≡◌, ℕ, zero, suc, if◌then◌else◌, nat_eq, List, [], ◌∷◌, length, refl, sym, ap, ◌∙◌, subst, Option, Some, None, inl, inr, unwrap_or, IsSome, set}
use Rattle.std.specs.List.{slice_get}
use Rattle.std.specs.Option.{option_and_then}
use Rattle.std.proofs.lemmas.Bool.Decides.{eqb_tells}
use Rattle.rw_sequents.specs.declared.line.Cert.{Cert}
use Rattle.rw_edits.specs.declared.edit.Edit.{Edit}
use Rattle.rw_trees.specs.declared.node.Node.{Node, out-Node, out-roll-Node}
use Rattle.rw_trees.specs.Nodes.{put_at, with_cert, look, numbered, Layer, layer, seen, step_seen, step_in, cert_seen, cert_in, IsShaped, AreShaped}
use Rattle.rw_trees.specs.Edits.{behind, step_at, cert_at, cert_set}
use Rattle.rw_trees.specs.Parts.{MakesTree, set_cert}
use Rattle.rw_trees.proofs.Changes.{seen_kid, length-put_at, numbered-put_other, get-set_same}
use Rattle.rw_trees.proofs.At.{changed_seen, split_seen, seen_after}

put_found : {A : Type 0} (xs : List A) (k : ℕ) (x : A) → IsSome (numbered xs k) → numbered (put_at xs k (Some x)) k ≡ Some x
put_found xs zero x h = absurd (cc)
put_found {A = A} xs (suc k) x h = go (slice_get xs k) refl h where
  go : (o : Option A) → slice_get xs k ≡ o → IsSome o → slice_get (set xs k x) k ≡ Some x
  go None is h = absurd (cc)
  go (Some y) is h = get-set_same (λ _. x) xs k y is

layer_with : (k : ℕ) (c : Cert) (m : Node) → layer (with_cert k c m) ≡ record { step = (out-Node m).step; certs = put_at (out-Node m).certs k (Some (Some c)); kids = length (out-Node m).kids }
layer_with k c m = simp out-roll-Node

seen_with : (k : ℕ) (c : Cert) (m : Node) (j : ℕ) (rest : List ℕ) → seen (with_cert k c m) (j ∷ rest) ≡ seen m (j ∷ rest)
seen_with k c m j rest = seen_kid (with_cert k c m) j rest ∙ simp out-roll-Node (sym (seen_kid m j rest))

module _ (l : List Edit) (q : List ℕ) (k : ℕ) (c : Cert) (n m : Node) (made : MakesTree l n) (there : look n q ≡ Some m) (room : IsSome (numbered (out-Node m).certs k)) where
  abbrev new : Node
  new = with_cert k c m

  old : (p r : List ℕ) → behind q p ≡ Some r → seen n p ≡ seen m r
  old p r e = split_seen (with_cert k c) n q m there p r e

  steps_from : (p : List ℕ) (o : Option (List ℕ)) → behind q p ≡ o → option_and_then step_seen (seen_after new o (seen n p)) ≡ step_at l p
  steps_from p None e = made.steps p
  steps_from p (Some []) e = ap step_seen (layer_with k c m) ∙ sym (ap (option_and_then step_seen) (old p [] e)) ∙ made.steps p
  steps_from p (Some (j ∷ rest)) e = ap (option_and_then step_seen) (seen_with k c m j rest ∙ sym (old p (j ∷ rest) e)) ∙ made.steps p

  certs_from : (p : List ℕ) (i : ℕ) (o : Option (List ℕ)) → behind q p ≡ o → option_and_then (cert_seen i) (seen_after new o (seen n p)) ≡ unwrap_or (if nat_eq k i then cert_set c o else None) (cert_at l p i)
  certs_from p i None e = elim (eqb_tells k i) [
    | inl h ↦ rw h.0 (made.certs p i)
    | inr h ↦ rw h.0 (made.certs p i)
  ]
  certs_from p i (Some []) e = elim (eqb_tells k i) [
    | inl h ↦ rw h.0 (ap (cert_seen i) (layer_with k c m) ∙ ap (option_and_then (λ (o : Option Cert). o)) (subst (λ n. numbered (put_at (out-Node m).certs k (Some (Some c))) n ≡ Some (Some c)) h.1 (put_found (out-Node m).certs k (Some c) room)))
    | inr h ↦ rw h.0 (ap (cert_seen i) (layer_with k c m) ∙ ap (option_and_then (λ (o : Option Cert). o)) (numbered-put_other (out-Node m).certs k i (Some (Some c)) h.1)
        ∙ sym (ap (option_and_then (cert_seen i)) (old p [] e)) ∙ made.certs p i)
  ]
  certs_from p i (Some (j ∷ rest)) e =
      let same : option_and_then (cert_seen i) (seen new (j ∷ rest)) ≡ cert_at l p i = ap (option_and_then (cert_seen i)) (seen_with k c m j rest ∙ sym (old p (j ∷ rest) e)) ∙ made.certs p i in
      elim (eqb_tells k i) [ inl h ↦ rw h.0 same | inr h ↦ rw h.0 same ]

  shaped_layer : IsShaped (layer m) → IsShaped (layer new)
  shaped_layer h = rw layer_with (record { kids = h.kids; certs = length-put_at (out-Node m).certs k (Some (Some c)) ∙ h.certs })

  shaped_from : (p : List ℕ) (y : Layer) (o : Option (List ℕ)) → behind q p ≡ o → seen_after new o (seen n p) ≡ Some y → IsShaped y
  shaped_from p y None e h = made.shaped p y h
  shaped_from p y (Some []) e h = let is : layer new ≡ y = cc in subst IsShaped is (shaped_layer (made.shaped p (layer m) (old p [] e)))
  shaped_from p y (Some (j ∷ rest)) e h = made.shaped p y (old p (j ∷ rest) e ∙ sym (seen_with k c m j rest) ∙ h)

  pub steps_kept : (p : List ℕ) → step_in (set_cert q k c n) p ≡ step_at l p
  steps_kept p = ap (option_and_then step_seen) (changed_seen (with_cert k c) n q m there p) ∙ steps_from p (behind q p) refl

  pub certs_put : (p : List ℕ) (i : ℕ) → cert_in (set_cert q k c n) p i ≡ unwrap_or (if nat_eq k i then cert_set c (behind q p) else None) (cert_at l p i)
  certs_put p i = ap (option_and_then (cert_seen i)) (changed_seen (with_cert k c) n q m there p) ∙ certs_from p i (behind q p) refl

  pub shaped_kept : AreShaped (set_cert q k c n)
  shaped_kept p y h = shaped_from p y (behind q p) refl (sym (changed_seen (with_cert k c) n q m there p) ∙ h)
