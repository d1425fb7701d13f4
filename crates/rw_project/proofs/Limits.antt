-- The limits on edits and on the bytes of their lines.
use Rattle.std.proofs.Common.{◌≡◌, ℕ, ◌<◌, ◌≤◌, Some, None, refl, arith, inl, inr}
use Rattle.std.proofs.lemmas.Bool.Decides.{leb_tells}
use Rattle.rw_refusals.specs.declared.refusal.EditRefusal.TheVariants as refusal
use Rattle.rw_refusals.specs.declared.refusal.Which.TheVariants as which
use Rattle.rw_project.specs.Session.{past_limits}

pub past_edits : (n b : ℕ) → 65536 ≤ n → Some (refusal.Limit which.Edits 65536) ≡ past_limits n b
unfolding past_limits
past_edits n b h = elim (leb_tells 65536 n) [ inl t ↦ rw t.0 refl | inr f ↦ absurd (omega (arith, h, f.1)) ]

pub past_bytes : (n b : ℕ) → n < 65536 → 16777216 < b → Some (refusal.Limit which.Bytes 16777216) ≡ past_limits n b
unfolding past_limits
past_bytes n b few h = elim (leb_tells 65536 n) [
  | inl t ↦ absurd (omega (arith, few, t.1))
  | inr f ↦ rw f.0 (elim (leb_tells 16777217 b) [ inl g ↦ rw g.0 refl | inr g ↦ absurd (omega (arith, h, g.1)) ])
]

pub past_none : (n b : ℕ) → n < 65536 → b ≤ 16777216 → None ≡ past_limits n b
unfolding past_limits
past_none n b few h = elim (leb_tells 65536 n) [
  | inl t ↦ absurd (omega (arith, few, t.1))
  | inr f ↦ rw f.0 (elim (leb_tells 16777217 b) [ inl g ↦ absurd (omega (arith, h, g.1)) | inr g ↦ rw g.0 refl ])
]
