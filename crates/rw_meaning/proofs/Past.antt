-- At all places past the last of the table programs mean the same.
use Rattle.std.proofs.Common.{◌≡◌, refl, sym, ◌∙◌, ◌↔◌, subst, ℕ, suc, ◌≤◌, ◌<◌, Bool, true, false, List, [], ◌∷◌, map, Some, inl, inr, lt_irrefl, arith, max}
use Rattle.std.specs.Prelude.{bytes_eq}
use Rattle.rw_programs.specs.declared.prog.ModCode.{ModCode}
use Rattle.rw_programs.specs.declared.prog.ProcCode.{ProcCode}
use Rattle.rw_programs.specs.declared.prog.Prog.{Prog}
use Rattle.rw_programs.specs.State.{Name, State}
use Rattle.rw_programs.specs.Tables.{Table, find_proc, find_module, after_all, past}
use Rattle.rw_programs.specs.Meaning.{bodies, bodies_before, MayEnd, Sure}
use Rattle.rw_meaning.specs.Calls.{CallEnds, CallSure}
use Rattle.rw_meaning.proofs.CallRows.{call_ends_to, call_sure_to}
use Rattle.rw_meaning.proofs.Grow.{Grows, prog_grows, before_ends, ends_before, before_sure, sure_before}

-- a place that is found is before the first after all
proc_below : (procs : List ProcCode) (f : Name) (e : ProcCode) → find_proc f procs ≡ Some e → e.place < after_all (map (λ e. e.place) procs)
proc_below [] f e h = absurd (cc)
proc_below (a ∷ procs) f e h = go (bytes_eq a.name f) refl (proc_below procs f e)
  where
    here : (a e : ProcCode) (n : ℕ) → Some a ≡ Some e → e.place < max (suc a.place) n
    here a e n i = let same : a ≡ e = cc in subst (λ e. e.place < max (suc a.place) n) same (grind arith)

    later : (m n k : ℕ) → m < n → m < max k n
    later m n k l = grind arith

    go : (b : Bool) → bytes_eq a.name f ≡ b → (find_proc f procs ≡ Some e → e.place < after_all (map (λ e. e.place) procs))
        → e.place < after_all (map (λ e. e.place) (a ∷ procs))
    go true i ih = let is : find_proc f (a ∷ procs) ≡ Some a = rw i in here a e (after_all (map (λ e. e.place) procs)) (sym is ∙ h)
    go false i ih =
        let is : find_proc f (a ∷ procs) ≡ find_proc f procs = rw i in
        later e.place (after_all (map (λ e. e.place) procs)) (suc a.place) (ih (sym is ∙ h))

module_below : (modules : List ModCode) (m : Name) (d : ModCode) → find_module m modules ≡ Some d → d.place < after_all (map (λ d. d.place) modules)
module_below [] m d h = absurd (cc)
module_below (a ∷ modules) m d h = go (bytes_eq a.name m) refl (module_below modules m d)
  where
    here : (a d : ModCode) (n : ℕ) → Some a ≡ Some d → d.place < max (suc a.place) n
    here a d n i = let same : a ≡ d = cc in subst (λ d. d.place < max (suc a.place) n) same (grind arith)

    later : (m n k : ℕ) → m < n → m < max k n
    later m n k l = grind arith

    go : (b : Bool) → bytes_eq a.name m ≡ b → (find_module m modules ≡ Some d → d.place < after_all (map (λ d. d.place) modules))
        → d.place < after_all (map (λ d. d.place) (a ∷ modules))
    go true i ih = let is : find_module m (a ∷ modules) ≡ Some a = rw i in here a d (after_all (map (λ d. d.place) modules)) (sym is ∙ h)
    go false i ih =
        let is : find_module m (a ∷ modules) ≡ find_module m modules = rw i in
        later d.place (after_all (map (λ d. d.place) modules)) (suc a.place) (ih (sym is ∙ h))

proc_past : (E : Table) (p : ℕ) → past E ≤ p → (f : Name) (e : ProcCode) → find_proc f E.procs ≡ Some e → e.place < p
proc_past E p le f e h = go e.place (after_all (map (λ e. e.place) E.procs)) (after_all (map (λ d. d.place) E.modules)) (proc_below E.procs f e h) le
  where
    go : (m a b : ℕ) → m < a → max a b ≤ p → m < p
    go m a b l le = grind arith

module_past : (E : Table) (p : ℕ) → past E ≤ p → (m : Name) (d : ModCode) → find_module m E.modules ≡ Some d → d.place < p
module_past E p le m d h = go d.place (after_all (map (λ e. e.place) E.procs)) (after_all (map (λ d. d.place) E.modules)) (module_below E.modules m d h) le
  where
    go : (m a b : ℕ) → m < b → max a b ≤ p → m < p
    go m a b l le = grind arith

module _ (E : Table) (p k q j r : ℕ) (c : Prog) (before_p : r < p) (before_q : r < q) where
  -- a body at an earlier place is called alike from both places
  sure_there : (s : State) → (bodies E p k).sure r c s → (bodies E q j).sure r c s
  sure_there s h = go (call_sure_to E p k r c s h)
    where
      go : CallSure E p k r c s → (bodies E q j).sure r c s
      go (inl h) = absurd (lt_irrefl p (subst (λ r. r < p) h.0 before_p))
      go (inr h) = inr (sure_before E q r c s before_q h.1)

  ends_there : (s t : State) → (bodies E p k).ends r c s t → (bodies E q j).ends r c s t
  ends_there s t h = go (call_ends_to E p k r c s t h)
    where
      go : CallEnds E p k r c s t → (bodies E q j).ends r c s t
      go (inl h) = absurd (lt_irrefl p (subst (λ r. r < p) h.0 before_p))
      go (inr h) = inr (ends_before E q r c s t before_q h.1)

module _ (E : Table) (p k q j : ℕ) (past_p : past E ≤ p) (past_q : past E ≤ q) where
  called : (f : Name) (e : ProcCode) → find_proc f E.procs ≡ Some e
      → Grows ((bodies E p k).sure e.place e.body) ((bodies E q j).sure e.place e.body) ((bodies E p k).ends e.place e.body) ((bodies E q j).ends e.place e.body)
  called f e h =
      let l = proc_past E p past_p f e h in let m = proc_past E q past_q f e h in
      record { sure = sure_there E p k q j e.place e.body l m; ends = ends_there E p k q j e.place e.body l m; same = λ s t i x. ends_there E q j p k e.place e.body m l s t x }

  opened : (n : Name) (d : ModCode) → find_module n E.modules ≡ Some d → (c : Prog)
      → Grows ((bodies_before E p).sure d.place c) ((bodies_before E q).sure d.place c) ((bodies_before E p).ends d.place c) ((bodies_before E q).ends d.place c)
  opened n d h c =
      let l = module_past E p past_p n d h in let m = module_past E q past_q n d h in record {
        sure = λ s i. sure_before E q d.place c s m (before_sure E p d.place c s i).1;
        ends = λ s t x. ends_before E q d.place c s t m (before_ends E p d.place c s t x).1;
        same = λ s t i x. ends_before E p d.place c s t l (before_ends E q d.place c s t x).1;
      }

  meant : (c : Prog) → Grows (Sure E p k c) (Sure E q j c) (MayEnd E p k c) (MayEnd E q j c)
  meant c = prog_grows E (bodies E p k) (bodies E q j) (bodies_before E p) (bodies_before E q) called opened c

pub past_ends : (E : Table) (p k q j : ℕ) → past E ≤ p → past E ≤ q → (c : Prog) (s t : State) → MayEnd E p k c s t ↔ MayEnd E q j c s t
past_ends E p k q j l m c s t = ((meant E p k q j l m c).ends s t, (meant E q j p k m l c).ends s t)

pub past_sure : (E : Table) (p k q j : ℕ) → past E ≤ p → past E ≤ q → (c : Prog) (s : State) → Sure E p k c s ↔ Sure E q j c s
past_sure E p k q j l m c s = ((meant E p k q j l m c).sure s, (meant E q j p k m l c).sure s)
