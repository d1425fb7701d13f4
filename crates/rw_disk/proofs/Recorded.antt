-- One more entry joins a record.
use Rattle.std.proofs.Common.{◌≡◌, ℕ, ◌+◌, ◌≤◌, List, [], ◌∷◌, ◌++◌, length, drop, refl, sym, ◌∙◌, ap, subst, arith, length-drop}
use Rattle.std.proofs.lemmas.List.{take_all, take-append-le, append-nil, drop-append-le}
use Rattle.rw_disk.specs.declared.log.Entry.{Entry}
use Rattle.rw_disk.specs.declared.log.Entry.TheVariants.{Write, TornWrite, Truncate, TornTruncate, Sync}
use Rattle.rw_disk.specs.Events.{Event, Leaves, Synced, Wrote, event_of, bytes_of, told_by, events_of, total}
use Rattle.rw_disk.specs.DiskLaws.{leaves_seen}

pub total_push : (entries : List Entry) (d : Entry) → total (entries ++ d ∷ []) ≡ total entries + bytes_of d
total_push [] d = omega arith
total_push (e ∷ entries) d = omega (arith, total_push entries d)

event_front : (d : Entry) (bytes more : List ℕ) → bytes_of d ≤ length bytes → event_of d (bytes ++ more) ≡ event_of d bytes
event_front (Write at n) bytes more le = ap (λ (l : List ℕ). Wrote at l) (take-append-le n bytes more le)
event_front (TornWrite at n) bytes more le = refl
event_front (Truncate n) bytes more le = refl
event_front (TornTruncate n) bytes more le = refl
event_front Sync bytes more le = refl

told_push : (events : List Event) (entries : List Entry) (d : Entry) (bytes more : List ℕ) → total entries ≡ length bytes → told_by events (entries ++ d ∷ []) (bytes ++ more) ≡ event_of d more ∷ told_by events entries bytes
told_push events [] d [] more is = refl
told_push events [] d (b ∷ bytes) more is = absurd (omega (arith, is))
told_push events (e ∷ entries) d bytes more is =
    let within : bytes_of e ≤ length bytes = omega (arith, is) in
    ap (λ (a : Event). told_by (a ∷ events) (entries ++ d ∷ []) (drop (bytes_of e) (bytes ++ more))) (event_front e bytes more within)
    ∙ ap (λ (l : List ℕ). told_by (event_of e bytes ∷ events) (entries ++ d ∷ []) l) (drop-append-le (bytes_of e) bytes more within)
    ∙ told_push (event_of e bytes ∷ events) entries d (drop (bytes_of e) bytes) more (omega (arith, is, length-drop (bytes_of e) bytes))

-- the new entry's call comes first
pub events_push : (entries : List Entry) (d : Entry) (bytes more : List ℕ) → total entries ≡ length bytes → events_of (entries ++ d ∷ []) (bytes ++ more) ≡ event_of d more ∷ events_of entries bytes
events_push entries d bytes more is = told_push [] entries d bytes more is

pub events_write : (entries : List Entry) (at : ℕ) (bytes more : List ℕ) → total entries ≡ length bytes → events_of (entries ++ Write at (length more) ∷ []) (bytes ++ more) ≡ Wrote at more ∷ events_of entries bytes
events_write entries at bytes more is = events_push entries (Write at (length more)) bytes more is ∙ ap (λ (l : List ℕ). Wrote at l ∷ events_of entries bytes) (take_all (length more) more (omega arith))

pub events_other : (entries : List Entry) (d : Entry) (bytes : List ℕ) → total entries ≡ length bytes → events_of (entries ++ d ∷ []) bytes ≡ event_of d [] ∷ events_of entries bytes
events_other entries d bytes is = ap (λ (l : List ℕ). events_of (entries ++ d ∷ []) l) (sym (append-nil bytes)) ∙ events_push entries d bytes [] is

-- after a sync a crash leaves what it might have left before
pub settled : (first now : List ℕ) (events after : List Event) (c : List ℕ) → now ≡ first → after ≡ Synced ∷ events → Leaves now after c → Leaves first events c
settled first now events after c same is left =
    leaves_seen first events c (subst (λ (l : List Event). Leaves first l c) is (subst (λ (f : List ℕ). Leaves f after c) same left))
