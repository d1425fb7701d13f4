-- What is seen in a node after a change at a path.
use Rattle.std.proofs.Common.{◌≡◌, ◌≢◌, ℕ, zero, suc, if◌then◌else◌, List, [], ◌∷◌, length, refl, sym, ap, ◌∙◌, subst, set, Option, Some, None, inl, inr}
use Rattle.std.specs.List.{slice_get}
use Rattle.std.specs.Option.{option_and_then, option_map}
use Rattle.std.proofs.lemmas.List.{length-set}
use Rattle.std.proofs.lemmas.Bool.Decides.{eqb_tells}
use Rattle.rw_trees.specs.declared.node.Node.{Node, out-Node, out-roll-Node}
use Rattle.rw_trees.specs.Nodes.{look, numbered, changed, with_kids, put_at, layer, seen}
use Rattle.rw_trees.specs.Edits.{behind}

pub length-put_at : {A : Type 0} (xs : List A) (k : ℕ) (o : Option A) → length (put_at xs k o) ≡ length xs
length-put_at xs zero o = refl
length-put_at xs (suc k) None = refl
length-put_at xs (suc k) (Some x) = length-set xs k x

pub get-set_same : {A : Type 0} (h : A → A) (xs : List A) (k : ℕ) (x : A) → slice_get xs k ≡ Some x → slice_get (set xs k (h x)) k ≡ Some (h x)
get-set_same h [] k x e = cc
get-set_same h (y ∷ xs) zero x e = refl
get-set_same h (y ∷ xs) (suc k) x e = get-set_same h xs k x e

get-set_other : {A : Type 0} (xs : List A) (j k : ℕ) (x : A) → j ≢ k → slice_get (set xs j x) k ≡ slice_get xs k
get-set_other [] j k x e = refl
get-set_other (y ∷ xs) zero zero x e = absurd (e refl)
get-set_other (y ∷ xs) zero (suc k) x e = refl
get-set_other (y ∷ xs) (suc j) zero x e = refl
get-set_other (y ∷ xs) (suc j) (suc k) x e = get-set_other xs j k x (λ h. e (ap suc h))

pub numbered-put_same : {A : Type 0} (h : A → A) (xs : List A) (k : ℕ) → numbered (put_at xs k (option_map h (numbered xs k))) k ≡ option_map h (numbered xs k)
numbered-put_same h xs zero = refl
numbered-put_same {A = A} h xs (suc k) = found (slice_get xs k) refl where
  found : (o : Option A) → slice_get xs k ≡ o → slice_get (put_at xs (suc k) (option_map h o)) k ≡ option_map h o
  found None is = is
  found (Some x) is = get-set_same h xs k x is

pub numbered-put_other : {A : Type 0} (xs : List A) (j k : ℕ) (o : Option A) → j ≢ k → numbered (put_at xs j o) k ≡ numbered xs k
numbered-put_other xs zero k o e = refl
numbered-put_other xs (suc j) zero o e = refl
numbered-put_other xs (suc j) (suc k) None e = refl
numbered-put_other xs (suc j) (suc k) (Some x) e = get-set_other xs j k x (λ h. e (ap suc h))

-- the kid's place keeps its layer
layer-with_kids : (n : Node) (k : ℕ) (o : Option Node) → layer (with_kids n (put_at (out-Node n).kids k o)) ≡ layer n
layer-with_kids n k o = simp (out-roll-Node, length-put_at)

then-cong : {A B : Type 0} (f g : A → Option B) → ((x : A) → f x ≡ g x) → (o : Option A) → option_and_then f o ≡ option_and_then g o
then-cong f g h None = refl
then-cong f g h (Some x) = h x

then-then : {A B C : Type 0} (f : A → Option B) (g : B → Option C) (o : Option A) → option_and_then g (option_and_then f o) ≡ option_and_then (λ x. option_and_then g (f x)) o
then-then f g None = refl
then-then f g (Some x) = refl

map-then : {A B C : Type 0} (f : A → Option B) (g : B → C) (o : Option A) → option_map g (option_and_then f o) ≡ option_and_then (λ x. option_map g (f x)) o
map-then f g None = refl
map-then f g (Some x) = refl

then-map : {A B C : Type 0} (f : A → B) (g : B → Option C) (o : Option A) → option_and_then g (option_map f o) ≡ option_and_then (λ x. g (f x)) o
then-map f g None = refl
then-map f g (Some x) = refl

pub seen_kid : (n : Node) (k : ℕ) (p : List ℕ) → seen n (k ∷ p) ≡ option_and_then (λ kid. seen kid p) (numbered (out-Node n).kids k)
seen_kid n k p = map-then (λ kid. look kid p) layer (numbered (out-Node n).kids k)

seen_made : (n : Node) (kids : List Node) (k : ℕ) (p : List ℕ) → seen (with_kids n kids) (k ∷ p) ≡ option_and_then (λ kid. seen kid p) (numbered kids k)
seen_made n kids k p = seen_kid (with_kids n kids) k p ∙ simp out-roll-Node

seen_same : (f : Node → Node) (n : Node) (k : ℕ) (q p : List ℕ) → seen (changed f n (k ∷ q)) (k ∷ p) ≡ option_and_then (λ kid. seen (changed f kid q) p) (numbered (out-Node n).kids k)
seen_same f n k q p =
    seen_made n _ k p
    ∙ ap (option_and_then (λ kid. seen kid p)) (numbered-put_same (λ kid. changed f kid q) (out-Node n).kids k)
    ∙ then-map (λ kid. changed f kid q) (λ kid. seen kid p) (numbered (out-Node n).kids k)

seen_other : (f : Node → Node) (n : Node) (j k : ℕ) (q p : List ℕ) → j ≢ k → seen (changed f n (j ∷ q)) (k ∷ p) ≡ seen n (k ∷ p)
seen_other f n j k q p ne =
    seen_made n _ k p
    ∙ ap (option_and_then (λ kid. seen kid p)) (numbered-put_other (out-Node n).kids j k _ ne)
    ∙ sym (seen_kid n k p)

-- off the path nothing changes
pub seen_before : (f : Node → Node) (n : Node) (q p : List ℕ) → behind q p ≡ None → seen (changed f n q) p ≡ seen n p
seen_before f n [] p e = cc
seen_before f n (j ∷ q) [] e = ap Some (layer-with_kids n j _)
seen_before f n (j ∷ q) (k ∷ p) e = elim (eqb_tells j k) [
  | inl h ↦ (let e' : behind q p ≡ None = ap (λ b. if b then behind q p else None) (sym h.0) ∙ e in
      subst (λ i. seen (changed f n (i ∷ q)) (k ∷ p) ≡ seen n (k ∷ p)) (sym h.1)
      (seen_same f n k q p ∙ then-cong _ _ (λ kid. seen_before f kid q p e') (numbered (out-Node n).kids k) ∙ sym (seen_kid n k p)))
  | inr h ↦ seen_other f n j k q p h.1
]

-- at its end and beyond all is as in the changed node
pub seen_behind : (f : Node → Node) (n : Node) (q p r : List ℕ) → behind q p ≡ Some r → seen (changed f n q) p ≡ option_and_then (λ m. seen (f m) r) (look n q)
seen_behind f n [] p r e = let is : p ≡ r = cc in ap (seen (f n)) is
seen_behind f n (j ∷ q) [] r e = absurd (cc)
seen_behind f n (j ∷ q) (k ∷ p) r e = elim (eqb_tells j k) [
  | inl h ↦ (let e' : behind q p ≡ Some r = ap (λ b. if b then behind q p else None) (sym h.0) ∙ e in
      subst (λ i. seen (changed f n (i ∷ q)) (k ∷ p) ≡ option_and_then (λ m. seen (f m) r) (look n (i ∷ q))) (sym h.1)
      (seen_same f n k q p ∙ then-cong _ _ (λ kid. seen_behind f kid q p r e') (numbered (out-Node n).kids k)
      ∙ sym (then-then (λ kid. look kid q) (λ m. seen (f m) r) (numbered (out-Node n).kids k))))
  | inr h ↦ absurd (let e' : None ≡ Some r = ap (λ b. if b then behind q p else None) (sym h.0) ∙ e in cc)
]

-- what is seen beyond a path is what its end shows
pub seen_split : (n : Node) (q p r : List ℕ) → behind q p ≡ Some r → seen n p ≡ option_and_then (λ m. seen m r) (look n q)
seen_split n [] p r e = let is : p ≡ r = cc in ap (seen n) is
seen_split n (j ∷ q) [] r e = absurd (cc)
seen_split n (j ∷ q) (k ∷ p) r e = elim (eqb_tells j k) [
  | inl h ↦ (let e' : behind q p ≡ Some r = ap (λ b. if b then behind q p else None) (sym h.0) ∙ e in
      subst (λ i. seen n (k ∷ p) ≡ option_and_then (λ m. seen m r) (look n (i ∷ q))) (sym h.1)
      (seen_kid n k p ∙ then-cong _ _ (λ kid. seen_split kid q p r e') (numbered (out-Node n).kids k)
      ∙ sym (then-then (λ kid. look kid q) (λ m. seen m r) (numbered (out-Node n).kids k))))
  | inr h ↦ absurd (let e' : None ≡ Some r = ap (λ b. if b then behind q p else None) (sym h.0) ∙ e in cc)
]
