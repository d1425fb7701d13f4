-- Laws of sums and products of integers.
use Rattle.std.proofs.Common.{◌≡◌, zero, suc, ℤ, pos, negsuc, neg_ℤ, ◌+ℤ◌, ◌-ℤ◌, ◌*ℤ◌, refl, sym, ◌∙◌, ap, arith}
use Rattle.std.proofs.lemmas.Int.{ints}
use Rattle.std.proofs.Math.IntN.{suc_ℤ, pred_ℤ, suc_ℤ-+ℤ, pred_ℤ-+ℤ, suc_ℤ-*ℤ, pred_ℤ-*ℤ, zero-*ℤ, +ℤ_idl, *ℤ_comm}

swapped : (x y p : ℤ) → (x +ℤ y) +ℤ p ≡ (x +ℤ p) +ℤ y
swapped x y p = omega (arith, ints)

taken_off : (x y p : ℤ) → (x +ℤ y) -ℤ p ≡ (x -ℤ p) +ℤ y
taken_off x y p = omega (arith, ints)

abbrev Spreads : ℤ → Type 0
Spreads a = (b p : ℤ) → (a +ℤ b) *ℤ p ≡ (a *ℤ p) +ℤ (b *ℤ p)

one_more : (a : ℤ) → Spreads a → Spreads (suc_ℤ a)
one_more a h b p =
    ap (λ z. z *ℤ p) (suc_ℤ-+ℤ a b)
    ∙ suc_ℤ-*ℤ (a +ℤ b) p
    ∙ ap (λ z. z +ℤ p) (h b p)
    ∙ swapped (a *ℤ p) (b *ℤ p) p
    ∙ sym (ap (λ z. z +ℤ (b *ℤ p)) (suc_ℤ-*ℤ a p))

one_less : (a : ℤ) → Spreads a → Spreads (pred_ℤ a)
one_less a h b p =
    ap (λ z. z *ℤ p) (pred_ℤ-+ℤ a b)
    ∙ pred_ℤ-*ℤ (a +ℤ b) p
    ∙ ap (λ z. z -ℤ p) (h b p)
    ∙ taken_off (a *ℤ p) (b *ℤ p) p
    ∙ sym (ap (λ z. z +ℤ (b *ℤ p)) (pred_ℤ-*ℤ a p))

nothing : Spreads (pos zero)
nothing b p = ap (λ z. z *ℤ p) (+ℤ_idl b) ∙ sym (+ℤ_idl (b *ℤ p)) ∙ sym (ap (λ z. z +ℤ (b *ℤ p)) (zero-*ℤ p))

-- (a + b) * p = a * p + b * p
pub spreads : (a : ℤ) → Spreads a
spreads (pos zero) = nothing
spreads (pos (suc n)) = one_more (pos n) (spreads (pos n))
spreads (negsuc zero) = one_less (pos zero) nothing
spreads (negsuc (suc n)) = one_less (negsuc n) (spreads (negsuc n))

pub spreads_left : (p a b : ℤ) → p *ℤ (a +ℤ b) ≡ (p *ℤ a) +ℤ (p *ℤ b)
spreads_left p a b = *ℤ_comm p (a +ℤ b) ∙ spreads a b p ∙ (λ i. *ℤ_comm a p i +ℤ *ℤ_comm b p i)

cancelled : (x y : ℤ) → x +ℤ y ≡ pos 0 → x ≡ neg_ℤ y
cancelled x y e = omega (arith, ints)

opposite : (a : ℤ) → neg_ℤ a +ℤ a ≡ pos 0
opposite a = omega (arith, ints)

-- (- a) * p = - (a * p)
pub negates : (a p : ℤ) → neg_ℤ a *ℤ p ≡ neg_ℤ (a *ℤ p)
negates a p = cancelled (neg_ℤ a *ℤ p) (a *ℤ p) (sym (spreads (neg_ℤ a) a p) ∙ ap (λ z. z *ℤ p) (opposite a) ∙ zero-*ℤ p)

abbrev Groups : ℤ → Type 0
Groups a = (b c : ℤ) → (a *ℤ b) *ℤ c ≡ a *ℤ (b *ℤ c)

group_more : (a : ℤ) → Groups a → Groups (suc_ℤ a)
group_more a h b c =
    ap (λ z. z *ℤ c) (suc_ℤ-*ℤ a b) ∙ spreads (a *ℤ b) b c ∙ ap (λ z. z +ℤ (b *ℤ c)) (h b c) ∙ sym (suc_ℤ-*ℤ a (b *ℤ c))

sub_spreads : (a b p : ℤ) → (a -ℤ b) *ℤ p ≡ (a *ℤ p) -ℤ (b *ℤ p)
sub_spreads a b p = spreads a (neg_ℤ b) p ∙ ap (λ z. (a *ℤ p) +ℤ z) (negates b p)

group_less : (a : ℤ) → Groups a → Groups (pred_ℤ a)
group_less a h b c =
    ap (λ z. z *ℤ c) (pred_ℤ-*ℤ a b) ∙ sub_spreads (a *ℤ b) b c ∙ ap (λ z. z -ℤ (b *ℤ c)) (h b c) ∙ sym (pred_ℤ-*ℤ a (b *ℤ c))

group_none : Groups (pos zero)
group_none b c = ap (λ z. z *ℤ c) (zero-*ℤ b) ∙ zero-*ℤ c ∙ sym (zero-*ℤ (b *ℤ c))

-- (a * b) * c = a * (b * c)
pub groups : (a : ℤ) → Groups a
groups (pos zero) = group_none
groups (pos (suc n)) = group_more (pos n) (groups (pos n))
groups (negsuc zero) = group_less (pos zero) group_none
groups (negsuc (suc n)) = group_less (negsuc n) (groups (negsuc n))

-- a * (b * c) = b * (a * c)
pub swaps : (a b c : ℤ) → a *ℤ (b *ℤ c) ≡ b *ℤ (a *ℤ c)
swaps a b c = sym (groups a b c) ∙ ap (λ z. z *ℤ c) (*ℤ_comm a b) ∙ groups b a c

-- (a * b) * (p * q) = (a * p) * (b * q)
pub crosses : (a b p q : ℤ) → (a *ℤ b) *ℤ (p *ℤ q) ≡ (a *ℤ p) *ℤ (b *ℤ q)
crosses a b p q = groups a b (p *ℤ q) ∙ ap (λ z. a *ℤ z) (swaps b p q) ∙ sym (groups a p (b *ℤ q))

pub one_times : (a : ℤ) → pos 1 *ℤ a ≡ a
one_times a = suc_ℤ-*ℤ (pos 0) a ∙ ap (λ z. z +ℤ a) (zero-*ℤ a) ∙ +ℤ_idl a
