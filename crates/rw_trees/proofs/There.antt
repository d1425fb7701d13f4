-- The nodes of a project are those that the list of edits has.
use Rattle.std.proofs.Common.{◌≡◌, ℕ, zero, suc, ◌<◌, ◌≤◌, ◌&&◌, List, [], ◌∷◌, ◌++◌, length, get_or, nat_le, true, refl, sym, ap, ◌∙◌, arith, append_assoc, Option, Some, None, inl, inr}
use Rattle.std.specs.List.{slice_get}
use Rattle.std.specs.Option.{option_and_then, option_map, is_some}
use Rattle.std.proofs.lemmas.List.{append-nil}
use Rattle.std.proofs.lemmas.Bool.Decides.{leb_tells}
use Rattle.std.proofs.lemmas.Option.{slice_get-get_or, slice_get_past}
use Rattle.rw_edits.specs.declared.edit.Step.{Step}
use Rattle.rw_edits.specs.declared.edit.Edit.{Edit}
use Rattle.rw_trees.specs.declared.node.Node.{Node, out-Node}
use Rattle.rw_trees.specs.Nodes.{look, numbered, has_obligation, layer, seen, step_seen, IsShaped, AreShaped}
use Rattle.rw_edits.specs.Counts.{kids_in, obligations_in}
use Rattle.rw_trees.specs.Edits.{has_kid, leads_on, is_node, has_obligation_of, step_at}
use Rattle.rw_trees.specs.Parts.{MakesTree}
use Rattle.rw_trees.proofs.Changes.{seen_kid}
use Rattle.rw_trees.proofs.Kids.{kid_each}

module _ (steps : List ℕ → Option Step) where
  abbrev Agrees : Node → List ℕ → Type 0
  Agrees n done = (r : List ℕ) → steps (done ++ r) ≡ option_and_then step_seen (seen n r)

  step_here : (n : Node) (done : List ℕ) → Agrees n done → steps done ≡ (out-Node n).step
  step_here n done h = ap steps (sym (append-nil done)) ∙ h []

  kid_agrees : (n kid : Node) (done : List ℕ) (i : ℕ) → Agrees n done → slice_get (out-Node n).kids i ≡ Some kid → Agrees kid (done ++ suc i ∷ [])
  kid_agrees n kid done i h e r =
      ap steps (append_assoc done (suc i ∷ []) r) ∙ h (suc i ∷ r)
      ∙ ap (option_and_then step_seen) (seen_kid n (suc i) r ∙ ap (option_and_then (λ m. seen m r)) e)

  pub leads : (n : Node) (done rest : List ℕ) → AreShaped n → Agrees n done → is_some (seen n rest) ≡ leads_on steps done rest
  leads n done [] s h = refl
  leads n done (k ∷ rest) s h = ap is_some (seen_kid n k rest) ∙ go (λ kid i sk ak. leads kid (done ++ suc i ∷ []) rest sk ak) k where
    count : length (out-Node n).kids ≡ kids_in (steps done)
    count = (s [] (layer n) refl).kids ∙ sym (ap kids_in (step_here n done h))

    go : ((kid : Node) (i : ℕ) → AreShaped kid → Agrees kid (done ++ suc i ∷ []) → is_some (seen kid rest) ≡ leads_on steps (done ++ suc i ∷ []) rest) → (k : ℕ) → is_some (option_and_then (λ kid. seen kid rest) (numbered (out-Node n).kids k)) ≡ (has_kid (steps done) k && leads_on steps (done ++ k ∷ []) rest)
    go deeper zero = elim (leb_tells 1 zero) [ inl e ↦ absurd (omega (arith, e.1)) | inr e ↦ rw e.0 refl ]
    go deeper (suc i) = elim (leb_tells 1 (suc i)) [
      | inr e ↦ absurd (omega (arith, e.1))
      | inl one ↦ elim (leb_tells (suc i) (kids_in (steps done))) [
        | inl e ↦ (
            let within : i < length (out-Node n).kids = omega (arith, e.1, count) in
            let kid : Node = get_or (out-Node n).kids i n in
            let at : slice_get (out-Node n).kids i ≡ Some kid = slice_get-get_or (out-Node n).kids i n within in
            rw one.0 (rw e.0 (ap (λ o. is_some (option_and_then (λ m. seen m rest) o)) at ∙ deeper kid i (kid_each IsShaped n kid i s at) (kid_agrees n kid done i h at))))
        | inr e ↦ (
            let past : length (out-Node n).kids ≤ i = omega (arith, e.1, count) in
            rw one.0 (rw e.0 (ap (λ o. is_some (option_and_then (λ m. seen m rest) o)) (slice_get_past (out-Node n).kids i past))))
      ]
    ]

seen_there : (n : Node) (p : List ℕ) → is_some (seen n p) ≡ is_some (look n p)
seen_there n p = go (look n p) where
  go : (o : Option Node) → is_some (option_map layer o) ≡ is_some o
  go None = refl
  go (Some m) = refl

-- the nodes of a tree are those that the list has
pub nodes_there : (l : List Edit) (n : Node) (p : List ℕ) → MakesTree l n → is_some (look n p) ≡ is_node l p
nodes_there l n p made = sym (seen_there n p) ∙ leads (step_at l) n [] p made.shaped (λ r. sym (made.steps r))

-- numbers of items count from 1
within : {A : Type 0} (xs : List A) (k : ℕ) → is_some (numbered xs k) ≡ (nat_le 1 k && nat_le k (length xs))
within xs zero = elim (leb_tells 1 zero) [ inl e ↦ absurd (omega (arith, e.1)) | inr e ↦ rw e.0 refl ]
within xs (suc i) = elim (leb_tells 1 (suc i)) [
  | inr e ↦ absurd (omega (arith, e.1))
  | inl one ↦ rw one.0 (elim (leb_tells (suc i) (length xs)) [
    | inl e ↦ rw e.0 (is_within xs i (omega (arith, e.1)))
    | inr e ↦ rw e.0 (ap is_some (slice_get_past xs i (omega (arith, e.1))))
  ])
] where
  is_within : {A : Type 0} (xs : List A) (i : ℕ) → i < length xs → is_some (slice_get xs i) ≡ true
  is_within [] i h = absurd (omega arith)
  is_within (x ∷ xs) zero h = refl
  is_within (x ∷ xs) (suc i) h = is_within xs i (omega arith)

-- the obligations of a tree are those that the list has
pub obligations_there : (l : List Edit) (n : Node) (p : List ℕ) (k : ℕ) → MakesTree l n → has_obligation n p k ≡ (is_node l p && has_obligation_of l p k)
obligations_there l n p k made = go (look n p) refl ∙ ap (λ b. b && has_obligation_of l p k) (nodes_there l n p made) where
  go : (o : Option Node) → look n p ≡ o → is_some (option_and_then (λ m. numbered (out-Node m).certs k) o) ≡ (is_some o && has_obligation_of l p k)
  go None is = refl
  go (Some m) is =
      let there : seen n p ≡ Some (layer m) = ap (option_map layer) is in
      within (out-Node m).certs k
      ∙ ap (λ c. nat_le 1 k && nat_le k c) ((made.shaped p (layer m) there).certs ∙ ap obligations_in (ap (option_and_then step_seen) (sym there) ∙ made.steps p))
