-- What is seen at and below a node that was renewed.
use Rattle.std.proofs.Common.{◌≡◌, ℕ, zero, suc, ◌<◌, ◌≤◌, if◌then◌else◌, nat_lt, List, [], ◌∷◌, length, refl, sym, ap, ◌∙◌, arith, replicate, Option, Some, None, ◌⊎◌, inl, inr, unwrap_or}
use Rattle.std.specs.List.{slice_get}
use Rattle.std.specs.Option.{option_and_then}
use Rattle.std.proofs.lemmas.List.{length-replicate}
use Rattle.std.proofs.lemmas.Bool.Decides.{leb_tells}
use Rattle.rw_edits.specs.declared.edit.Step.{Step}
use Rattle.rw_trees.specs.declared.node.Node.{Node, out-Node, out-roll-Node}
use Rattle.rw_trees.specs.Nodes.{numbered, over, renewed, fresh_node, blank, Layer, layer, seen, IsShaped}
use Rattle.rw_edits.specs.Counts.{kids_in, obligations_in}
use Rattle.rw_trees.proofs.Overs.{over-nil}
use Rattle.rw_trees.proofs.Changes.{seen_kid}

pub length-over : {A : Type 0} (xs ys : List A) → length (over xs ys) ≡ length xs
length-over [] ys = refl
length-over (x ∷ xs) [] = refl
length-over (x ∷ xs) (y ∷ ys) = ap suc (length-over xs ys)

-- within the new places stands the old item, or the new one where there is none
get-over : {A : Type 0} (c i : ℕ) (b : A) (ys : List A) → i < c → slice_get (over (replicate c b) ys) i ≡ Some (unwrap_or (slice_get ys i) b)
get-over zero i b ys h = absurd (omega arith)
get-over (suc c) zero b [] h = refl
get-over (suc c) zero b (y ∷ ys) h = refl
get-over (suc c) (suc i) b [] h = ap (λ zs. slice_get zs i) (sym (over-nil (replicate c b))) ∙ get-over c i b [] (omega arith)
get-over (suc c) (suc i) b (y ∷ ys) h = get-over c i b ys (omega arith)

get-over-past : {A : Type 0} (c i : ℕ) (b : A) (ys : List A) → c ≤ i → slice_get (over (replicate c b) ys) i ≡ None
get-over-past zero i b ys h = refl
get-over-past (suc c) zero b ys h = absurd (omega arith)
get-over-past (suc c) (suc i) b [] h = ap (λ zs. slice_get zs i) (sym (over-nil (replicate c b))) ∙ get-over-past c i b [] (omega arith)
get-over-past (suc c) (suc i) b (y ∷ ys) h = get-over-past c i b ys (omega arith)

pub seen_blank : (k : ℕ) (rest : List ℕ) → seen blank (k ∷ rest) ≡ None
seen_blank k rest = seen_kid blank k rest ∙ simp out-roll-Node (none k) where
  none : (k : ℕ) → option_and_then (λ kid. seen kid rest) (numbered [] k) ≡ None
  none zero = refl
  none (suc k) = refl

pub layer_blank : layer blank ≡ record { step = None; certs = []; kids = 0 }
layer_blank = simp out-roll-Node

pub layer_renewed : (s : Option Step) (m : Node) → layer (renewed (fresh_node s) m) ≡ record { step = s; certs = over (replicate (obligations_in s) None) (out-Node m).certs; kids = kids_in s }
layer_renewed s m = simp (out-roll-Node, length-over, length-replicate)

kids_renewed : (s : Option Step) (m : Node) → (out-Node (renewed (fresh_node s) m)).kids ≡ over (replicate (kids_in s) blank) (out-Node m).kids
kids_renewed s m = simp out-roll-Node

-- a fact that an observation tells of a layer, where a blank one has nothing to tell
module _ {A : Type 0} (o : Layer → Option A) (nothing : o (layer blank) ≡ None) where
  in_blank : (rest : List ℕ) → option_and_then o (seen blank rest) ≡ None
  in_blank [] = nothing
  in_blank (k ∷ rest) = ap (option_and_then o) (seen_blank k rest)

  abbrev told : Option Node → List ℕ → Option A
  told kid rest = option_and_then o (option_and_then (λ n. seen n rest) kid)

  told_renewed : (s : Option Step) (m : Node) (k : ℕ) (rest : List ℕ) → option_and_then o (seen (renewed (fresh_node s) m) (k ∷ rest)) ≡ told (numbered (over (replicate (kids_in s) blank) (out-Node m).kids) k) rest
  told_renewed s m k rest =
      ap (option_and_then o) (seen_kid (renewed (fresh_node s) m) k rest)
      ∙ ap (λ kids. told (numbered kids k) rest) (kids_renewed s m)

  told_old : (m : Node) (k : ℕ) (rest : List ℕ) → option_and_then o (seen m (k ∷ rest)) ≡ told (numbered (out-Node m).kids k) rest
  told_old m k rest = ap (option_and_then o) (seen_kid m k rest)

  told_or_blank : (kid : Option Node) (rest : List ℕ) → told (Some (unwrap_or kid blank)) rest ≡ told kid rest
  told_or_blank None rest = in_blank rest
  told_or_blank (Some n) rest = refl

  pub below_renewed : (s : Option Step) (m : Node) (k : ℕ) (rest : List ℕ) → option_and_then o (seen (renewed (fresh_node s) m) (k ∷ rest)) ≡ (if nat_lt (kids_in s) k then None else option_and_then o (seen m (k ∷ rest)))
  below_renewed s m k rest = go k where
    go : (k : ℕ) → option_and_then o (seen (renewed (fresh_node s) m) (k ∷ rest)) ≡ (if nat_lt (kids_in s) k then None else option_and_then o (seen m (k ∷ rest)))
    go zero = elim (leb_tells (suc (kids_in s)) zero) [
      | inl h ↦ absurd (omega (arith, h.1))
      | inr h ↦ rw h.0 (told_renewed s m zero rest ∙ sym (told_old m zero rest))
    ]
    go (suc i) = elim (leb_tells (suc (kids_in s)) (suc i)) [
      | inl h ↦ rw h.0 (told_renewed s m (suc i) rest ∙ ap (λ kid. told kid rest) (get-over-past (kids_in s) i blank (out-Node m).kids (omega (arith, h.1))))
      | inr h ↦ rw h.0 (told_renewed s m (suc i) rest
          ∙ ap (λ kid. told kid rest) (get-over (kids_in s) i blank (out-Node m).kids (omega (arith, h.1)))
          ∙ told_or_blank (slice_get (out-Node m).kids i) rest
          ∙ sym (told_old m (suc i) rest))
    ]

abbrev inner : {A : Type 0} → Option (Option A) → Option A
inner o = option_and_then (λ x. x) o

inner_or_none : {A : Type 0} (o : Option (Option A)) → unwrap_or o None ≡ inner o
inner_or_none None = refl
inner_or_none (Some x) = refl

-- certificates of obligations that are left stay
pub certs_over : {A : Type 0} (b k : ℕ) (cs : List (Option A)) → inner (numbered (over (replicate b None) cs) k) ≡ (if nat_lt b k then None else inner (numbered cs k))
certs_over b zero cs = elim (leb_tells (suc b) zero) [ inl h ↦ absurd (omega (arith, h.1)) | inr h ↦ rw h.0 refl ]
certs_over b (suc i) cs = elim (leb_tells (suc b) (suc i)) [
  | inl h ↦ rw h.0 (ap inner (get-over-past b i None cs (omega (arith, h.1))))
  | inr h ↦ rw h.0 (ap inner (get-over b i None cs (omega (arith, h.1))) ∙ inner_or_none (slice_get cs i))
]

-- what stands below a renewed node stood there before, or is blank
pub below_either : (s : Option Step) (m : Node) (k : ℕ) (rest : List ℕ) (y : Layer) → seen (renewed (fresh_node s) m) (k ∷ rest) ≡ Some y → (seen m (k ∷ rest) ≡ Some y) ⊎ (y ≡ layer blank)
below_either s m k rest y e = go k (sym (seen_kid (renewed (fresh_node s) m) k rest ∙ ap (λ kids. option_and_then (λ n. seen n rest) (numbered kids k)) (kids_renewed s m)) ∙ e) where
  blank_only : (rest : List ℕ) → seen blank rest ≡ Some y → y ≡ layer blank
  blank_only [] h = cc
  blank_only (k ∷ rest) h = absurd (let no_kid : None ≡ Some y = sym (seen_blank k rest) ∙ h in cc)

  found : (i : ℕ) (o : Option Node) → slice_get (out-Node m).kids i ≡ o → option_and_then (λ n. seen n rest) (Some (unwrap_or o blank)) ≡ Some y → (seen m (suc i ∷ rest) ≡ Some y) ⊎ (y ≡ layer blank)
  found i None is h = inr (blank_only rest h)
  found i (Some n) is h = inl (seen_kid m (suc i) rest ∙ ap (option_and_then (λ n. seen n rest)) is ∙ h)

  go : (k : ℕ) → option_and_then (λ n. seen n rest) (numbered (over (replicate (kids_in s) blank) (out-Node m).kids) k) ≡ Some y → (seen m (k ∷ rest) ≡ Some y) ⊎ (y ≡ layer blank)
  go zero h = absurd (cc)
  go (suc i) h = elim (leb_tells (suc (kids_in s)) (suc i)) [
    | inl past ↦ absurd (let none : None ≡ Some y = sym (ap (option_and_then (λ n. seen n rest)) (get-over-past (kids_in s) i blank (out-Node m).kids (omega (arith, past.1)))) ∙ h in cc)
    | inr within ↦ found i (slice_get (out-Node m).kids i) refl (sym (ap (option_and_then (λ n. seen n rest)) (get-over (kids_in s) i blank (out-Node m).kids (omega (arith, within.1)))) ∙ h)
  ]

pub blank_shaped : IsShaped (layer blank)
blank_shaped = rw layer_blank (record { kids = refl; certs = refl })

pub renewed_shaped : (s : Option Step) (m : Node) → IsShaped (layer (renewed (fresh_node s) m))
renewed_shaped s m = rw layer_renewed (record { kids = refl; certs = length-over (replicate (obligations_in s) None) (out-Node m).certs ∙ length-replicate (obligations_in s) None })
