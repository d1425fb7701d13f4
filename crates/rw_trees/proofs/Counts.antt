-- How many nodes there are after a change.
use Rattle.std.proofs.Common.{◌≡◌, ℕ, zero, suc, ◌+◌, ◌-◌, ◌≤◌, List, [], ◌∷◌, map, take, length, replicate, refl, sym, ap, ◌∙◌, arith, set, Option, Some, None}
use Rattle.std.specs.List.{slice_get}
use Rattle.std.specs.Option.{option_and_then, option_map}
use Rattle.rw_edits.specs.declared.edit.Step.{Step}
use Rattle.rw_trees.specs.declared.node.Node.{Node, out-Node, fold_out-Node, out-roll-Node}
use Rattle.rw_edits.specs.Counts.{kids_in}
use Rattle.rw_trees.specs.Nodes.{look, numbered, changed, renewed, fresh_node, blank, over, put_at, total, size_step, size}
use Rattle.rw_trees.proofs.Overs.{over-nil}

pub size-out : (n : Node) → size n ≡ suc (total (map size (out-Node n).kids))
size-out n = fold_out-Node ℕ size_step n

size_blank : size blank ≡ 1
size_blank = size-out blank ∙ simp out-roll-Node

total_set : (xs : List Node) (i : ℕ) (x y : Node) → slice_get xs i ≡ Some x → total (map size (set xs i y)) + size x ≡ total (map size xs) + size y
total_set [] i x y e = absurd (cc)
total_set (z ∷ xs) zero x y e = let is : z ≡ x = cc in let s : size z ≡ size x = ap size is in omega (arith, s)
total_set (z ∷ xs) (suc i) x y e = let h : total (map size (set xs i y)) + size x ≡ total (map size xs) + size y = total_set xs i x y e in omega (arith, h)

size_put : (f : Node → Node) (xs : List Node) (k : ℕ) (p : List ℕ) (m : Node) → option_and_then (λ kid. look kid p) (numbered xs k) ≡ Some m → ((kid : Node) → look kid p ≡ Some m → size (changed f kid p) + size m ≡ size kid + size (f m)) →
    total (map size (put_at xs k (option_map (λ kid. changed f kid p) (numbered xs k)))) + size m ≡ total (map size xs) + size (f m)
size_put f xs zero p m e h = absurd (cc)
size_put f xs (suc i) p m e h = go (slice_get xs i) refl e where
  go : (o : Option Node) → slice_get xs i ≡ o → option_and_then (λ kid. look kid p) o ≡ Some m → total (map size (put_at xs (suc i) (option_map (λ kid. changed f kid p) o))) + size m ≡ total (map size xs) + size (f m)
  go None is g = absurd (cc)
  go (Some kid) is g =
      let one : total (map size (set xs i (changed f kid p))) + size kid ≡ total (map size xs) + size (changed f kid p) = total_set xs i kid (changed f kid p) is in
      let two : size (changed f kid p) + size m ≡ size kid + size (f m) = h kid g in
      omega (arith, one, two)

-- a change of one node changes the number by as much
pub size_changed : (f : Node → Node) (n m : Node) (p : List ℕ) → look n p ≡ Some m → size (changed f n p) + size m ≡ size n + size (f m)
size_changed f n m [] e = let is : n ≡ m = cc in let a : size (f n) ≡ size (f m) = ap (λ x. size (f x)) is in let b : size n ≡ size m = ap size is in omega (arith, a, b)
size_changed f n m (k ∷ p) e =
    let inside : size (changed f n (k ∷ p)) ≡ suc (total (map size (put_at (out-Node n).kids k (option_map (λ kid. changed f kid p) (numbered (out-Node n).kids k))))) = size-out (changed f n (k ∷ p)) ∙ simp out-roll-Node in
    let kids : total (map size (put_at (out-Node n).kids k (option_map (λ kid. changed f kid p) (numbered (out-Node n).kids k)))) + size m ≡ total (map size (out-Node n).kids) + size (f m) = size_put f (out-Node n).kids k p m e (λ kid g. size_changed f kid m p g) in
    let all : size n ≡ suc (total (map size (out-Node n).kids)) = size-out n in
    omega (arith, inside, kids, all)

-- a node has no more nodes than all
pub total_get : (xs : List Node) (i : ℕ) (x : Node) → slice_get xs i ≡ Some x → size x ≤ total (map size xs)
total_get [] i x h = absurd (cc)
total_get (z ∷ xs) zero x h = let is : z ≡ x = cc in let s : size z ≡ size x = ap size is in omega (arith, s)
total_get (z ∷ xs) (suc i) x h = let s : size x ≤ total (map size xs) = total_get xs i x h in omega (arith, s)

-- a kid has fewer nodes
pub size_kid : (n kid : Node) (i : ℕ) → slice_get (out-Node n).kids i ≡ Some kid → suc (size kid) ≤ size n
size_kid n kid i is =
    let one : size kid ≤ total (map size (out-Node n).kids) = total_get (out-Node n).kids i kid is in
    let all : size n ≡ suc (total (map size (out-Node n).kids)) = size-out n in
    omega (arith, one, all)

within_kid : (n : Node) (k : ℕ) (p : List ℕ) (m : Node) → ((kid : Node) → look kid p ≡ Some m → size m ≤ size kid) → option_and_then (λ kid. look kid p) (numbered (out-Node n).kids k) ≡ Some m → size m ≤ size n
within_kid n zero p m h e = absurd (cc)
within_kid n (suc i) p m h e = go (slice_get (out-Node n).kids i) refl e where
  go : (o : Option Node) → slice_get (out-Node n).kids i ≡ o → option_and_then (λ kid. look kid p) o ≡ Some m → size m ≤ size n
  go None is g = absurd (cc)
  go (Some kid) is g = let one : size m ≤ size kid = h kid g in let two : suc (size kid) ≤ size n = size_kid n kid i is in omega (arith, one, two)

-- a node within another has no more nodes
pub size_look : (n m : Node) (p : List ℕ) → look n p ≡ Some m → size m ≤ size n
size_look n m [] e = let is : n ≡ m = cc in let s : size n ≡ size m = ap size is in omega (arith, s)
size_look n m (k ∷ p) e = within_kid n k p m (λ kid g. size_look kid m p g) e

total_blanks : (c : ℕ) → total (map size (replicate c blank)) ≡ c
total_blanks zero = refl
total_blanks (suc c) = let h : total (map size (replicate c blank)) ≡ c = total_blanks c in let b : size blank ≡ 1 = size_blank in omega (arith, h, b)

total_over : (c : ℕ) (ys : List Node) → total (map size (over (replicate c blank) ys)) ≡ total (map size (take c ys)) + (c - length ys)
total_over zero [] = refl
total_over zero (y ∷ ys) = omega arith
total_over (suc c) [] = ap (λ zs. total (map size zs)) (over-nil (replicate (suc c) blank)) ∙ let h : total (map size (replicate (suc c) blank)) ≡ suc c = total_blanks (suc c) in omega (arith, h)
total_over (suc c) (y ∷ ys) = let h : total (map size (over (replicate c blank) ys)) ≡ total (map size (take c ys)) + (c - length ys) = total_over c ys in omega (arith, h)

-- a node with a new step keeps the kids that have a place, and the others are blank
pub size_renewed : (s : Option Step) (m : Node) → size (renewed (fresh_node s) m) ≡ suc (total (map size (take (kids_in s) (out-Node m).kids)) + (kids_in s - length (out-Node m).kids))
size_renewed s m = size-out (renewed (fresh_node s) m) ∙ ap (λ ks. suc (total (map size ks))) (simp out-roll-Node) ∙ ap suc (total_over (kids_in s) (out-Node m).kids)

pub kids_fewer : (node : Node) (kids : List Node) → kids ≡ (out-Node node).kids → size node ≡ suc (total (map size kids))
kids_fewer node kids is = size-out node ∙ ap (λ ks. suc (total (map size ks))) (sym is)
