-- A node that is put in the place of another, and back.
use Rattle.std.proofs.Common.{◌≡◌, ℕ, zero, suc, List, [], ◌∷◌, refl, sym, ap, ◌∙◌, set, Option, Some, None}
use Rattle.std.specs.List.{slice_get}
use Rattle.std.specs.Option.{option_and_then, option_map}
use Rattle.rw_sequents.specs.declared.line.Cert.{Cert}
use Rattle.rw_edits.specs.declared.edit.Step.{Step}
use Rattle.rw_trees.specs.declared.node.Node.{Node, out-Node, roll-Node, out-roll-Node, roll-out-Node}
use Rattle.rw_trees.specs.Nodes.{look, numbered, changed, renewed, put_at, with_kids}
use Rattle.rw_trees.proofs.Changes.{numbered-put_same}
use Rattle.rw_trees.proofs.Exchanged.{exchanged_back}

abbrev node_of : Option Step → List (Option Cert) → List Node → Node
node_of s cs ks = roll-Node (record { step = s; certs = cs; kids = ks })

-- a renewal is taken back by the rest of the old node
renewed_back : (m fresh : Node) → renewed (renewed m fresh) (renewed fresh m) ≡ m
renewed_back m fresh = simp (out-roll-Node, exchanged_back) (roll-out-Node m)

put_twice : {A : Type 0} (xs : List A) (k : ℕ) (a b : Option A) → (b ≡ None → a ≡ None) → put_at (put_at xs k a) k b ≡ put_at xs k b
put_twice xs zero a b h = refl
put_twice xs (suc k) None None h = refl
put_twice xs (suc k) None (Some y) h = refl
put_twice xs (suc k) (Some x) None h = absurd (let e : Some x ≡ None = h refl in cc)
put_twice xs (suc k) (Some x) (Some y) h = set_twice xs k x y where
  set_twice : {A : Type 0} (xs : List A) (k : ℕ) (x y : A) → set (set xs k x) k y ≡ set xs k y
  set_twice [] k x y = refl
  set_twice (z ∷ xs) zero x y = refl
  set_twice (z ∷ xs) (suc k) x y = ap (λ zs. z ∷ zs) (set_twice xs k x y)

map_none : {A B C : Type 0} (f : A → B) (g : A → C) (o : Option A) → option_map g o ≡ None → option_map f o ≡ None
map_none f g None e = refl
map_none f g (Some x) e = absurd (cc)

map_map : {A B C : Type 0} (f : A → B) (g : B → C) (o : Option A) → option_map g (option_map f o) ≡ option_map (λ x. g (f x)) o
map_map f g None = refl
map_map f g (Some x) = refl

map_cong : {A B : Type 0} (f g : A → B) → ((x : A) → f x ≡ g x) → (o : Option A) → option_map f o ≡ option_map g o
map_cong f g h None = refl
map_cong f g h (Some x) = ap Some (h x)

-- two changes at one path are one
changed_twice : (f g : Node → Node) (n : Node) (p : List ℕ) → changed f (changed g n p) p ≡ changed (λ m. f (g m)) n p
changed_twice f g n [] = refl
changed_twice f g n (k ∷ p) =
    let kids : List Node = (out-Node n).kids in
    let first : Option Node = option_map (λ kid. changed g kid p) (numbered kids k) in
    let mid : Node = with_kids n (put_at kids k first) in
    let both : Option Node = option_map (λ kid. changed (λ m. f (g m)) kid p) (numbered kids k) in
    let inside : (out-Node mid).kids ≡ put_at kids k first = simp out-roll-Node in
    let second : option_map (λ kid. changed f kid p) (numbered (out-Node mid).kids k) ≡ both =
    ap (λ ks. option_map (λ kid. changed f kid p) (numbered ks k)) inside
    ∙ ap (option_map (λ kid. changed f kid p)) (numbered-put_same (λ kid. changed g kid p) kids k)
    ∙ map_map (λ kid. changed g kid p) (λ kid. changed f kid p) (numbered kids k)
    ∙ map_cong _ _ (λ kid. changed_twice f g kid p) (numbered kids k) in
    ap (λ o. with_kids mid (put_at (out-Node mid).kids k o)) second
    ∙ ap (λ ks. with_kids mid (put_at ks k both)) inside
    ∙ ap (with_kids mid) (put_twice kids k first both (map_none _ _ (numbered kids k)))
    ∙ with_kids_twice n (put_at kids k first) (put_at kids k both) where
      with_kids_twice : (n : Node) (ks ls : List Node) → with_kids (with_kids n ks) ls ≡ with_kids n ls
      with_kids_twice n ks ls = simp out-roll-Node

set_back : {A : Type 0} (xs : List A) (i : ℕ) (x : A) → slice_get xs i ≡ Some x → set xs i x ≡ xs
set_back [] i x e = refl
set_back (y ∷ xs) zero x e = let is : y ≡ x = cc in ap (λ z. z ∷ xs) (sym is)
set_back (y ∷ xs) (suc i) x e = ap (λ zs. y ∷ zs) (set_back xs i x e)

put_back : {A : Type 0} (h : A → A) (xs : List A) (k : ℕ) → ((x : A) → numbered xs k ≡ Some x → h x ≡ x) → put_at xs k (option_map h (numbered xs k)) ≡ xs
put_back h xs zero same = refl
put_back {A = A} h xs (suc k) same = go (slice_get xs k) refl where
  go : (o : Option A) → slice_get xs k ≡ o → put_at xs (suc k) (option_map h o) ≡ xs
  go None is = refl
  go (Some x) is = ap (set xs k) (same x is) ∙ set_back xs k x is

-- a change that leaves the node as it is changes nothing
changed_none : (f : Node → Node) (n m : Node) (p : List ℕ) → look n p ≡ Some m → f m ≡ m → changed f n p ≡ n
changed_none f n m [] e same = let is : n ≡ m = cc in ap f is ∙ same ∙ sym is
changed_none f n m (k ∷ p) e same =
    ap (with_kids n) (put_back (λ kid. changed f kid p) (out-Node n).kids k
    (λ kid is. changed_none f kid m p (sym (ap (option_and_then (λ kid. look kid p)) is) ∙ e) same))
    ∙ roll-out-Node n

-- a graft of the rest of the old node puts all back
pub grafted_back : (n m fresh : Node) (p : List ℕ) → look n p ≡ Some m → changed (renewed (renewed m fresh)) (changed (renewed fresh) n p) p ≡ n
grafted_back n m fresh p e = changed_twice (renewed (renewed m fresh)) (renewed fresh) n p ∙ changed_none (λ x. renewed (renewed m fresh) (renewed fresh x)) n m p e (renewed_back m fresh)

-- what is there after a change
pub look_changed : (f : Node → Node) (n : Node) (p : List ℕ) → look (changed f n p) p ≡ option_map f (look n p)
look_changed f n [] = refl
look_changed f n (k ∷ p) =
    let kids : List Node = (out-Node n).kids in
    let inside : (out-Node (changed f n (k ∷ p))).kids ≡ put_at kids k (option_map (λ kid. changed f kid p) (numbered kids k)) = simp out-roll-Node in
    ap (λ ks. option_and_then (λ kid. look kid p) (numbered ks k)) inside
    ∙ ap (option_and_then (λ kid. look kid p)) (numbered-put_same (λ kid. changed f kid p) kids k)
    ∙ each (numbered kids k) (λ kid. look_changed f kid p) where
      each : (o : Option Node) → ((kid : Node) → look (changed f kid p) p ≡ option_map f (look kid p)) → option_and_then (λ kid. look kid p) (option_map (λ kid. changed f kid p) o) ≡ option_map f (option_and_then (λ kid. look kid p) o)
      each None h = refl
      each (Some kid) h = h kid
