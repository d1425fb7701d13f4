-- One step down a path, as the code takes it.
use Rattle.std.proofs.Common.{◌≡◌, ℕ, zero, suc, ◌<◌, ◌-◌, ◌==◌, true, false, List, [], ◌∷◌, length, refl, sym, ap, ◌∙◌, subst, arith, take, drop, get_or, Option, Some, None, IsSome}
use Rattle.std.specs.List.{slice_get}
use Rattle.std.specs.Option.{option_and_then, is_some}
use Rattle.std.proofs.lemmas.Option.{slice_get_within}
use Rattle.std.proofs.lemmas.List.{take_all}
use Rattle.rw_trees.specs.declared.node.Node.{Node, out-Node}
use Rattle.std.proofs.lemmas.Bool.{eqb-true}
use Rattle.rw_sequents.specs.declared.line.Cert.{Cert}
use Rattle.rw_trees.specs.Nodes.{has_obligation, look, numbered, renewed}

pub rest_of-cons : (k : ℕ) (q : List ℕ) → take (length (k ∷ q) - 1) (drop 1 (k ∷ q)) ≡ q
rest_of-cons k q = grind (arith, take_all {A = ℕ})

pub first_within : (n : Node) (p : List ℕ) → (length p == 0) ≡ false → IsSome (look n p) → get_or p 0 0 - 1 < length (out-Node n).kids
first_within n [] e h = absurd (cc)
first_within n (zero ∷ q) e h = absurd (cc)
first_within n (suc j ∷ q) e h = found (slice_get (out-Node n).kids j) refl h where
  found : (o : Option Node) → slice_get (out-Node n).kids j ≡ o → IsSome (option_and_then (λ kid. look kid q) o) → suc j - 1 < length (out-Node n).kids
  found None is s = absurd (cc)
  found (Some kid) is s = let within : j < length (out-Node n).kids = slice_get_within _ j kid is in omega arith

pub rest_some : (n kid : Node) (p : List ℕ) → (length p == 0) ≡ false → IsSome (look n p) → slice_get (out-Node n).kids (get_or p 0 0 - 1) ≡ Some kid → IsSome (look kid (take (length p - 1) (drop 1 p)))
rest_some n kid [] e h is = absurd (cc)
rest_some n kid (zero ∷ q) e h is = absurd (cc)
rest_some n kid (suc j ∷ q) e h is =
    let back : suc j - 1 ≡ j = omega arith in
    rw rest_of-cons (subst (λ o. IsSome (option_and_then (λ kid. look kid q) o)) (sym (ap (slice_get (out-Node n).kids) back) ∙ is) h)

pub obligation_there : (n : Node) (p : List ℕ) (k : ℕ) → has_obligation n p k ≡ true → IsSome (look n p)
obligation_there n p k h = go (look n p) h where
  go : (o : Option Node) → is_some (option_and_then (λ m. numbered (out-Node m).certs k) o) ≡ true → IsSome o
  go None h = cc
  go (Some m) h = refl

pub cert_within : (n : Node) (p : List ℕ) (k : ℕ) → (length p == 0) ≡ true → has_obligation n p k ≡ true → k - 1 < length (out-Node n).certs
cert_within n (j ∷ p) k e h = absurd (omega (arith, eqb-true (length (j ∷ p)) 0 e))
cert_within n [] zero e h = absurd (cc)
cert_within n [] (suc i) e h = found (slice_get (out-Node n).certs i) refl h where
  found : (o : Option (Option Cert)) → slice_get (out-Node n).certs i ≡ o → is_some o ≡ true → suc i - 1 < length (out-Node n).certs
  found None is s = absurd (cc)
  found (Some c) is s = let within : i < length (out-Node n).certs = slice_get_within _ i c is in omega arith

pub rest_obligation : (n kid : Node) (p : List ℕ) (k : ℕ) → (length p == 0) ≡ false → has_obligation n p k ≡ true → slice_get (out-Node n).kids (get_or p 0 0 - 1) ≡ Some kid → has_obligation kid (take (length p - 1) (drop 1 p)) k ≡ true
rest_obligation n kid [] k e h is = absurd (cc)
rest_obligation n kid (zero ∷ q) k e h is = absurd (cc)
rest_obligation n kid (suc j ∷ q) k e h is =
    let back : suc j - 1 ≡ j = omega arith in
    rw rest_of-cons (subst (λ o. is_some (option_and_then (λ m. numbered (out-Node m).certs k) (option_and_then (λ kid. look kid q) o)) ≡ true) (sym (ap (slice_get (out-Node n).kids) back) ∙ is) h)

-- what a graft leaves, here and below
pub rest_here : (n m fresh new : Node) (p : List ℕ) → (length p == 0) ≡ true → new ≡ renewed n fresh → look n p ≡ Some m → new ≡ renewed m fresh
rest_here n m fresh new [] e is there = let same : n ≡ m = cc in is ∙ ap (λ x. renewed x fresh) same
rest_here n m fresh new (k ∷ p) e is there = absurd (omega (arith, eqb-true (length (k ∷ p)) 0 e))

pub rest_below : (n kid m fresh new : Node) (p : List ℕ) → (length p == 0) ≡ false → slice_get (out-Node n).kids (get_or p 0 0 - 1) ≡ Some kid →
    ((x : Node) → look kid (take (length p - 1) (drop 1 p)) ≡ Some x → new ≡ renewed x fresh) → look n p ≡ Some m → new ≡ renewed m fresh
rest_below n kid m fresh new [] e is later there = absurd (cc)
rest_below n kid m fresh new (zero ∷ q) e is later there = absurd (cc)
rest_below n kid m fresh new (suc j ∷ q) e is later there =
    let back : suc j - 1 ≡ j = omega arith in
    let at : slice_get (out-Node n).kids j ≡ Some kid = ap (slice_get (out-Node n).kids) (sym back) ∙ is in
    later m (ap (look kid) (rest_of-cons (suc j) q) ∙ sym (ap (option_and_then (λ kid. look kid q)) at) ∙ there)
