-- Laws of writes and cuts that a crash may have torn.
use Rattle.std.proofs.Common.{ℕ, ◌+◌, List, length, take, drop, refl, ap, arith}
use Rattle.std.proofs.lemmas.List.{take_all}
use Rattle.rw_io.specs.Crash.{Torn, Cut}

-- a write may have done nothing
pub torn_same : (at n : ℕ) (old : List ℕ) → Torn at n old old
torn_same at n old = record {
  before = ap (λ (l : List ℕ). take at l) (take_all (length old) old (omega arith));
  after = ap (λ (l : List ℕ). drop (at + n) l) (take_all (length old) old (omega arith));
  no_shorter = omega arith;
  no_longer = omega arith;
}

-- a cut may have done nothing
pub cut_same : (n : ℕ) (old : List ℕ) → Cut n old old
cut_same n old = record { before = refl; no_longer = omega arith }
