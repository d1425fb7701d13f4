-- Sums of the steps that were taken.
use Rattle.std.proofs.Common.{◌≡◌, ◌≤◌, ◌+◌, ℕ, List, Option, Result, Ok, Err, OnErr, arith, ap, add-one}
use Rattle.rw_sequents.specs.declared.line.Cert.{Cert}
use Rattle.rw_nodes.specs.Nodes.{certified}
use Rattle.rw_nodes.specs.Table.{proof_at}

-- a part of what was left is taken, or no more than it
pub part_taken : (new old from part rest left all : ℕ) → new ≡ old + part → left ≡ part + rest → old + left ≡ from + all → new + rest ≡ from + all
part_taken new old from part rest left all n l o = omega (arith, n, l, o)

pub part_within : (new old from part rest left all : ℕ) → new ≤ old + part → left ≡ part + rest → old + left ≡ from + all → new ≤ from + all
part_within new old from part rest left all n l o = omega (arith, n, l, o)

-- the first part, or no more than it
pub first_within : (new old a b : ℕ) → new ≤ old + a → new ≤ old + (a + b)
first_within new old a b n = omega (arith, n)

-- both parts, or no more than both
pub both_taken : (new mid old a b : ℕ) → mid ≡ old + a → new ≡ mid + b → new ≡ old + (a + b)
both_taken new mid old a b m n = omega (arith, m, n)

pub both_within : (new mid old a b : ℕ) → mid ≡ old + a → new ≤ mid + b → new ≤ old + (a + b)
both_within new mid old a b m n = omega (arith, m, n)

-- the certificate of the lemma in a place, counted from 0, is that of number one more
pub proof_numbered : (proofs : List (Option Cert)) (k : ℕ) → certified proofs (k + 1) ≡ proof_at proofs k
proof_numbered proofs k = ap (λ n. certified proofs n) (add-one k)

-- what holds whatever is answered holds of an error, and what follows from it
pub on_err : {T E P : Type 0} (r : Result T E) → P → OnErr r P
on_err (Ok x) p = tt
on_err (Err e) p = p

pub err_weaker : {T E : Type 0} (r : Result T E) (P Q : Type 0) → (P → Q) → OnErr r P → OnErr r Q
err_weaker (Ok x) P Q f p = tt
err_weaker (Err e) P Q f p = f p
