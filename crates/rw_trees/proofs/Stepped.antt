-- A step that is set makes the tree of the longer list.
use Rattle.std.proofs.Common.{◌≡◌, ℕ, zero, suc, Bool, true, false, if◌then◌else◌, nat_lt, List, [], ◌∷◌, refl, sym, ap, ◌∙◌, subst, Option, Some, None, inl, inr, unwrap_or}
use Rattle.std.specs.Option.{option_and_then}
use Rattle.rw_edits.specs.declared.edit.Step.{Step}
use Rattle.rw_sequents.specs.declared.line.Cert.{Cert}
use Rattle.rw_edits.specs.declared.edit.Edit.{Edit}
use Rattle.rw_trees.specs.declared.node.Node.{Node, out-Node}
use Rattle.rw_trees.specs.Nodes.{look, numbered, renewed, fresh_node, blank, Layer, layer, seen, step_seen, step_in, cert_seen, cert_in, IsShaped, AreShaped}
use Rattle.rw_edits.specs.Counts.{kids_in, obligations_in}
use Rattle.rw_trees.specs.Edits.{behind, step_at, step_set, cert_at, cert_dropped}
use Rattle.rw_trees.specs.Parts.{MakesTree, set_step}
use Rattle.rw_trees.proofs.Layers.{below_renewed, certs_over, below_either, blank_shaped, renewed_shaped, layer_renewed, layer_blank, seen_blank}
use Rattle.rw_trees.proofs.At.{changed_seen, split_seen, seen_after}

said_if : {A : Type 0} (b : Bool) (d : Option A) → (if b then None else d) ≡ unwrap_or (if b then Some None else None) d
said_if true d = refl
said_if false d = refl

none_certified : (k : ℕ) → option_and_then (λ (o : Option Cert). o) (numbered [] k) ≡ None
none_certified zero = refl
none_certified (suc k) = refl

module _ (l : List Edit) (q : List ℕ) (s : Option Step) (n m : Node) (made : MakesTree l n) (there : look n q ≡ Some m) where
  abbrev new : Node
  new = renewed (fresh_node s) m

  -- an observation of a path below, by what was said before
  below : {A : Type 0} (o : Layer → Option A) → o (layer blank) ≡ None → (p : List ℕ) (k : ℕ) (rest : List ℕ) → behind q p ≡ Some (k ∷ rest) → option_and_then o (seen new (k ∷ rest)) ≡ (if nat_lt (kids_in s) k then None else option_and_then o (seen n p))
  below o nothing p k rest e =
      below_renewed o nothing s m k rest
      ∙ ap (λ y. if nat_lt (kids_in s) k then None else option_and_then o y) (sym (split_seen (renewed (fresh_node s)) n q m there p (k ∷ rest) e))

  steps_from : (p : List ℕ) (o : Option (List ℕ)) → behind q p ≡ o → option_and_then step_seen (seen_after new o (seen n p)) ≡ unwrap_or (step_set s o) (step_at l p)
  steps_from p None e = made.steps p
  steps_from p (Some []) e = ap step_seen (layer_renewed s m)
  steps_from p (Some (k ∷ rest)) e =
      below step_seen (ap step_seen layer_blank) p k rest e
      ∙ ap (λ d. if nat_lt (kids_in s) k then None else d) (made.steps p)
      ∙ said_if (nat_lt (kids_in s) k) (step_at l p)

  pub steps_set : (p : List ℕ) → step_in (set_step q s n) p ≡ unwrap_or (step_set s (behind q p)) (step_at l p)
  steps_set p = ap (option_and_then step_seen) (changed_seen (renewed (fresh_node s)) n q m there p) ∙ steps_from p (behind q p) refl

  certs_from : (p : List ℕ) (k : ℕ) (o : Option (List ℕ)) → behind q p ≡ o → option_and_then (cert_seen k) (seen_after new o (seen n p)) ≡ unwrap_or (cert_dropped s k o) (cert_at l p k)
  certs_from p k None e = made.certs p k
  certs_from p k (Some []) e =
      ap (cert_seen k) (layer_renewed s m)
      ∙ certs_over (obligations_in s) k (out-Node m).certs
      ∙ ap (λ d. if nat_lt (obligations_in s) k then None else d)
      (ap (option_and_then (cert_seen k)) (sym (split_seen (renewed (fresh_node s)) n q m there p [] e)) ∙ made.certs p k)
      ∙ said_if (nat_lt (obligations_in s) k) (cert_at l p k)
  certs_from p k (Some (j ∷ rest)) e =
      below (cert_seen k) (ap (cert_seen k) layer_blank ∙ none_certified k) p j rest e
      ∙ ap (λ d. if nat_lt (kids_in s) j then None else d) (made.certs p k)
      ∙ said_if (nat_lt (kids_in s) j) (cert_at l p k)

  pub certs_set : (p : List ℕ) (k : ℕ) → cert_in (set_step q s n) p k ≡ unwrap_or (cert_dropped s k (behind q p)) (cert_at l p k)
  certs_set p k = ap (option_and_then (cert_seen k)) (changed_seen (renewed (fresh_node s)) n q m there p) ∙ certs_from p k (behind q p) refl

  shaped_from : (p : List ℕ) (y : Layer) (o : Option (List ℕ)) → behind q p ≡ o → seen_after new o (seen n p) ≡ Some y → IsShaped y
  shaped_from p y None e h = made.shaped p y h
  shaped_from p y (Some []) e h = let is : layer new ≡ y = cc in subst IsShaped is (renewed_shaped s m)
  shaped_from p y (Some (k ∷ rest)) e h = elim (below_either s m k rest y h) [
    | inl old ↦ made.shaped p y (split_seen (renewed (fresh_node s)) n q m there p (k ∷ rest) e ∙ old)
    | inr is ↦ subst IsShaped (sym is) blank_shaped
  ]

  pub shaped_set : AreShaped (set_step q s n)
  shaped_set p y h = shaped_from p y (behind q p) refl (sym (changed_seen (renewed (fresh_node s)) n q m there p) ∙ h)

-- the tree without edits
pub made_blank : MakesTree [] blank
made_blank = record {
  steps = λ p. nothing_told step_seen (ap step_seen layer_blank) p;
  certs = λ p k. nothing_told (cert_seen k) (ap (cert_seen k) layer_blank ∙ none_certified k) p;
  shaped = shaped;
} where
  nothing_told : {A : Type 0} (o : Layer → Option A) → o (layer blank) ≡ None → (p : List ℕ) → option_and_then o (seen blank p) ≡ None
  nothing_told o nothing [] = nothing
  nothing_told o nothing (k ∷ p) = ap (option_and_then o) (seen_blank k p)

  shaped : AreShaped blank
  shaped [] y h = let is : layer blank ≡ y = cc in subst IsShaped is blank_shaped
  shaped (k ∷ p) y h = absurd (let none : None ≡ Some y = sym (seen_blank k p) ∙ h in cc)
