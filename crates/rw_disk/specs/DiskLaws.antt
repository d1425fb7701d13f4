-- Laws of what a crash leaves by a record of calls.
use Rattle.std.proofs.Common.{◌≡◌, inl, inr, ℕ, ◌+◌, ◌-◌, ◌<◌, ◌≤◌, List, [], ◌∷◌, ◌++◌, length, replicate, take, drop, refl, sym, ◌∙◌, ap, subst, arith, append_assoc, length-append, length-drop, length-take}
use Rattle.std.proofs.lemmas.Bool.{cases_lt}
use Rattle.std.proofs.lemmas.List.{take_all, take_at, drop_at, drop_all, append-nil, length-replicate}
use Rattle.std.proofs.lemmas.Grind.{common_steps}
use Rattle.rw_io.specs.Crash.{Torn, Cut, padded}
use Rattle.rw_io.specs.CrashLaws.{torn_same, cut_same}
use Rattle.rw_disk.specs.Events.{Event, Wrote, WriteFailed, WasCut, CutFailed, Synced, overwritten, read_after, Leaves, LeftSince}

-- now is one of the moments since an earlier one
pub left_now : (first : List ℕ) (events : List Event) (t : ℕ) (c : List ℕ) → Leaves first events c → LeftSince first events t c
left_now first [] t c now = now
left_now first (event ∷ events) t c now = inl now

-- since now there is no other
pub now_alone : (first : List ℕ) (events : List Event) (c : List ℕ) → LeftSince first events (length events) c → Leaves first events c
now_alone first [] c left = left
now_alone first (event ∷ events) c (inl now) = now
now_alone first (event ∷ events) c (inr past) = absurd (omega (arith, past.0))

-- a cut may have done all of its work
pub cut_taken : (n : ℕ) (old : List ℕ) → Cut n old (take n old)
cut_taken n old = record { before = take_all n (take n old) (omega (arith, length-take n old)); no_longer = omega (arith, length-take n old) }

torn_inside : (at : ℕ) (bytes old new : List ℕ) → at ≤ length old → new ≡ take at old ++ bytes ++ drop (at + length bytes) old → Torn at (length bytes) old new
torn_inside at bytes old new le is =
    let front = take at old in
    let n = length bytes in
    let front_length : length front ≡ at = omega (arith, length-take at old) in
    let new_length : length new ≡ at + n + (length old - (at + n)) =
    omega (arith, ap length is, length-append (front ++ bytes) (drop (at + n) old), length-append front bytes, length-drop (at + n) old, front_length) in
    let whole : new ≡ front ++ (bytes ++ drop (at + n) old) = is ∙ append_assoc front bytes (drop (at + n) old) in
    let both : length (front ++ bytes) ≡ at + n = omega (arith, length-append front bytes, front_length) in record {
      before = grind (arith, common_steps, whole, front_length, new_length, le);
      after = elim (cases_lt (length old) (at + n)) [
        | inl past ↦
            drop_all (at + n) (take (length old) new) (omega (arith, length-take (length old) new, past)) ∙ sym (drop_all (at + n) old (omega (arith, past)))
        | inr inside ↦
            ap (λ (l : List ℕ). drop (at + n) l) (take_all (length old) new (omega (arith, new_length, inside)) ∙ is)
            ∙ drop_at (front ++ bytes) (drop (at + n) old) (at + n) both
      ];
      no_shorter = omega (arith, new_length);
      no_longer = omega (arith, new_length);
    }

torn_past : (at : ℕ) (bytes old new : List ℕ) → length old < at → new ≡ old ++ replicate (at - length old) 0 ++ bytes → Torn at (length bytes) old new
torn_past at bytes old new lt is =
    let n = length bytes in
    let zero : ℕ = 0 in
    let zeros = replicate (at - length old) zero in
    let new_length : length new ≡ at + n = omega (arith, lt, ap length is, length-append (old ++ zeros) bytes, length-append old zeros, length-replicate (at - length old) zero) in
    let front : take (length old) new ≡ old = ap (λ (l : List ℕ). take (length old) l) (is ∙ append_assoc old zeros bytes) ∙ take_at old (zeros ++ bytes) (length old) refl in record {
      before = ap (λ (l : List ℕ). take at l) front;
      after = ap (λ (l : List ℕ). drop (at + n) l) front;
      no_shorter = omega (arith, new_length, lt);
      no_longer = omega (arith, new_length);
    }

padded_none : (n : ℕ) (old : List ℕ) → n ≤ length old → padded n old ≡ old
padded_none n old le = let e : n - length old ≡ 0 = omega (arith, le) in rw e (append-nil old)

pub torn_overwritten : (at : ℕ) (bytes old : List ℕ) → Torn at (length bytes) old (overwritten at bytes old)
torn_overwritten at bytes old = elim (cases_lt (length old) at) [
  | inl past ↦
      let p = padded at old in
      let zero : ℕ = 0 in
      let size : length p ≡ at = omega (arith, past, length-append old (replicate (at - length old) zero), length-replicate (at - length old) zero) in
      torn_past at bytes old (overwritten at bytes old) past (
      ap (λ (l : List ℕ). l ++ bytes ++ drop (at + length bytes) old) (take_all at p (omega (arith, size)))
      ∙ ap (λ (l : List ℕ). p ++ bytes ++ l) (drop_all (at + length bytes) old (omega (arith, past)))
      ∙ append-nil (p ++ bytes)
      )
  | inr inside ↦
      torn_inside at bytes old (overwritten at bytes old) inside (ap (λ (l : List ℕ). take at l ++ bytes ++ drop (at + length bytes) old) (padded_none at old inside))
]

-- a crash may leave what a read gives
pub leaves_read : (first : List ℕ) (events : List Event) → Leaves first events (read_after first events)
leaves_read first [] = refl
leaves_read first (Wrote at bytes ∷ events) = (read_after first events, leaves_read first events, torn_overwritten at bytes (read_after first events))
leaves_read first (WriteFailed at n ∷ events) = (read_after first events, leaves_read first events, torn_same at n (read_after first events))
leaves_read first (WasCut n ∷ events) = (read_after first events, leaves_read first events, cut_taken n (read_after first events))
leaves_read first (CutFailed n ∷ events) = (read_after first events, leaves_read first events, cut_same n (read_after first events))
leaves_read first (Synced ∷ events) = refl

-- where a read gives these bytes, a crash may leave them
pub leaves_seen : (first : List ℕ) (events : List Event) (bytes : List ℕ) → bytes ≡ read_after first events → Leaves first events bytes
leaves_seen first events bytes is = subst (Leaves first events) (sym is) (leaves_read first events)
