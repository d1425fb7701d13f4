-- Certificates with few lines are counted.
use Rattle.std.proofs.Common.{◌≡◌, ◌∙◌, sym, true, false, inl, inr, ℕ, ◌≤◌, ◌<◌, List, [], ◌∷◌, length, arith}
use Rattle.std.specs.Prelude.{nat_le}
use Rattle.std.proofs.lemmas.Bool.Decides.{leb_tells}
use Rattle.rw_terms.specs.Validity.{Each}
use Rattle.rw_sequents.specs.declared.line.CertLine.{CertLine}
use Rattle.rw_sequents.specs.declared.line.Cert.{Cert}
use Rattle.rw_sequents.specs.Counting.{line_count}
use Rattle.rw_sequents.specs.After.{IsShort, IsCounted}

long : (ls : List CertLine) → length ls ≤ line_count ls
long [] = omega arith
long (l ∷ ls) = let h = long ls in omega arith

short : (ls : List CertLine) → line_count ls < 4294967295 → Each IsShort ls
short [] h = tt
short (l ∷ ls) h = (omega arith, short ls (omega arith))

pub counted : (cert : Cert) → line_count cert.lines < 4294967295 → IsCounted cert
counted cert h = record { lines = let l = long cert.lines in omega arith; each = short cert.lines h }

-- so many lines are few
pub few : (cert : Cert) (n : ℕ) → n < 4294967295 → nat_le (line_count cert.lines) n ≡ true → IsCounted cert
few cert n h e = elim (leb_tells (line_count cert.lines) n) [
  | inl k ↦ counted cert (let l = k.1 in omega arith)
  | inr k ↦ absurd (let f : true ≡ false = sym e ∙ k.0 in cc)
]
