-- What a call means, in words.
use Rattle.std.proofs.Common.{◌≡◌, refl, sym, subst, ℕ, zero, suc, List, IsSomeAnd, inl, inr, ◌↔◌, Option}
use Rattle.rw_terms.specs.declared.term.Term.{Term}
use Rattle.rw_terms.specs.State.{Value}
use Rattle.rw_programs.specs.declared.prog.Prog.{Prog, Call, OpCall}
use Rattle.rw_programs.specs.Made.{ModBlock}
use Rattle.rw_programs.specs.State.{Name, State, empty, alone, put_all, names_of, ValuesFor}
use Rattle.rw_programs.specs.Tables.{Table, find_proc, find_module, Begins, returned, held, hold}
use Rattle.rw_programs.specs.Meaning.{bodies, bodies_before, own_bodies, MayEnd, Sure, AllDefined, values}
use Rattle.rw_meaning.specs.Calls.{EarlierEnds, EarlierSure, CallEnds, CallSure}
use Rattle.rw_meaning.proofs.Options.{some_map}
use Rattle.rw_meaning.proofs.Grow.{before_ends, ends_before, before_sure, sure_before}

pub own_ends : (E : Table) (p k q : ℕ) (c : Prog) (s t : State) → (own_bodies E (bodies_before E p) p k).ends q c s t → (q ≡ p) × ((j : ℕ) × (k ≡ suc j) × MayEnd E p j c s t)
own_ends E p zero q c s t h = absurd h
own_ends E p (suc k) q c s t h = (h.0, (k, refl, h.1))

ends_own : (E : Table) (p k q : ℕ) (c : Prog) (s t : State) → q ≡ p → (j : ℕ) → k ≡ suc j → MayEnd E p j c s t → (own_bodies E (bodies_before E p) p k).ends q c s t
ends_own E p k q c s t e j i h = subst (λ k. (own_bodies E (bodies_before E p) p k).ends q c s t) (sym i) (e, h)

own_sure : (E : Table) (p k q : ℕ) (c : Prog) (s : State) → (own_bodies E (bodies_before E p) p k).sure q c s → (q ≡ p) × ((j : ℕ) × (k ≡ suc j) × Sure E p j c s)
own_sure E p zero q c s h = absurd h
own_sure E p (suc k) q c s h = (h.0, (k, refl, h.1))

sure_own : (E : Table) (p k q : ℕ) (c : Prog) (s : State) → q ≡ p → (j : ℕ) → k ≡ suc j → Sure E p j c s → (own_bodies E (bodies_before E p) p k).sure q c s
sure_own E p k q c s e j i h = subst (λ k. (own_bodies E (bodies_before E p) p k).sure q c s) (sym i) (e, h)

pub call_ends_to : (E : Table) (p k q : ℕ) (c : Prog) (s t : State) → (bodies E p k).ends q c s t → CallEnds E p k q c s t
call_ends_to E p k q c s t (inl h) = inl (own_ends E p k q c s t h)
call_ends_to E p k q c s t (inr h) = inr (before_ends E p q c s t h)

pub call_ends_of : (E : Table) (p k q : ℕ) (c : Prog) (s t : State) → CallEnds E p k q c s t → (bodies E p k).ends q c s t
call_ends_of E p k q c s t (inl h) = inl (ends_own E p k q c s t h.0 h.1.0 h.1.1 h.1.2)
call_ends_of E p k q c s t (inr h) = inr (ends_before E p q c s t h.0 h.1)

pub call_sure_to : (E : Table) (p k q : ℕ) (c : Prog) (s : State) → (bodies E p k).sure q c s → CallSure E p k q c s
call_sure_to E p k q c s (inl h) = inl (own_sure E p k q c s h)
call_sure_to E p k q c s (inr h) = inr (before_sure E p q c s h)

pub call_sure_of : (E : Table) (p k q : ℕ) (c : Prog) (s : State) → CallSure E p k q c s → (bodies E p k).sure q c s
call_sure_of E p k q c s (inl h) = inl (sure_own E p k q c s h.0 h.1.0 h.1.1 h.1.2)
call_sure_of E p k q c s (inr h) = inr (sure_before E p q c s h.0 h.1)

module _ (E : Table) (p k : ℕ) where
  pub call_ends_row : (f : Name) (args : List Term) (names : List Name) (s t : State)
      → MayEnd E p k (Call f args names) s t ↔ IsSomeAnd (find_proc f E.procs) (λ e. (a b : State) × Begins empty e (values args s) a
      × CallEnds E p k e.place e.body a b × (t ≡ returned e names b s))
  call_ends_row f args names s t = (
    some_map (find_proc f E.procs) _ _ (λ e i y. (y.0, y.1, y.2, call_ends_to E p k e.place e.body y.0 y.1 y.3, y.4)),
    some_map (find_proc f E.procs) _ _ (λ e i y. (y.0, y.1, y.2, call_ends_of E p k e.place e.body y.0 y.1 y.3, y.4)),
  )

  pub call_sure_row : (f : Name) (args : List Term) (names : List Name) (s : State)
      → Sure E p k (Call f args names) s ↔ (AllDefined args s × IsSomeAnd (find_proc f E.procs) (λ e. (a : State)
      → Begins empty e (values args s) a → CallSure E p k e.place e.body a))
  call_sure_row f args names s = (
    λ h. (h.0, some_map (find_proc f E.procs) _ _ (λ e i y a b. call_sure_to E p k e.place e.body a (y a b)) h.1),
    λ h. (h.0, some_map (find_proc f E.procs) _ _ (λ e i y a b. call_sure_of E p k e.place e.body a (y a b)) h.1),
  )

  pub op_ends_row : (m o : Name) (args : List Term) (names : List Name) (s t : State)
      → MayEnd E p k (OpCall m o args names) s t
      ↔ IsSomeAnd (find_module m E.modules) (λ d. IsSomeAnd (find_proc o d.operations) (λ e. (a b : State)
      × Begins (held E.is_concrete d s) e (values args s) a × EarlierEnds E p d.place e.body a b
      × (t ≡ hold E.is_concrete d b.own (returned e names b s))))
  op_ends_row m o args names s t = (
    some_map (find_module m E.modules) _ _ (λ d i. some_map (find_proc o d.operations) _ _ (λ e j y. (y.0, y.1, y.2, before_ends E p d.place e.body y.0 y.1 y.3, y.4))),
    some_map (find_module m E.modules) _ _ (λ d i. some_map (find_proc o d.operations) _ _ (λ e j y. (y.0, y.1, y.2, ends_before E p d.place e.body y.0 y.1 y.3.0 y.3.1, y.4))),
  )

  pub op_sure_row : (m o : Name) (args : List Term) (names : List Name) (s : State)
      → Sure E p k (OpCall m o args names) s
      ↔ (AllDefined args s × IsSomeAnd (find_module m E.modules) (λ d. IsSomeAnd (find_proc o d.operations) (λ e. (a : State)
      → Begins (held E.is_concrete d s) e (values args s) a → EarlierSure E p d.place e.body a)))
  op_sure_row m o args names s = (
    λ h. (h.0, some_map (find_module m E.modules) _ _ (λ d i. some_map (find_proc o d.operations) _ _ (λ e j y a b. before_sure E p d.place e.body a (y a b))) h.1),
    λ h. (h.0, some_map (find_module m E.modules) _ _ (λ d i. some_map (find_proc o d.operations) _ _ (λ e j y a b. let x = y a b in sure_before E p d.place e.body a x.0 x.1)) h.1),
  )

  pub module_ends_row : (m : Name) (c : Prog) (s t : State)
      → MayEnd E p k (ModBlock m c) s t
      ↔ IsSomeAnd (find_module m E.modules) (λ d. (vs : List (Option Value)) × (a b : State) × ValuesFor d.state vs
      × EarlierEnds E p d.place d.start (alone (put_all (names_of d.state) vs empty)) a
      × MayEnd E p k c (hold E.is_concrete d a.own s) b × (t ≡ hold E.is_concrete d empty b))
  module_ends_row m c s t = (
    some_map (find_module m E.modules) _ _ (λ d i y. (y.0, y.1, y.2, y.3, before_ends E p d.place d.start _ y.1 y.4, y.5, y.6)),
    some_map (find_module m E.modules) _ _ (λ d i y. (y.0, y.1, y.2, y.3, ends_before E p d.place d.start _ y.1 y.4.0 y.4.1, y.5, y.6)),
  )

  pub module_sure_row : (m : Name) (c : Prog) (s : State)
      → Sure E p k (ModBlock m c) s
      ↔ IsSomeAnd (find_module m E.modules) (λ d. (vs : List (Option Value)) → ValuesFor d.state vs
      → EarlierSure E p d.place d.start (alone (put_all (names_of d.state) vs empty))
      × ((a : State) → EarlierEnds E p d.place d.start (alone (put_all (names_of d.state) vs empty)) a → Sure E p k c (hold E.is_concrete d a.own s)))
  module_sure_row m c s = (
    some_map (find_module m E.modules) _ _ (λ d i y vs hv. let x = y vs hv in
        (before_sure E p d.place d.start _ x.0, λ a e. x.1 a (ends_before E p d.place d.start _ a e.0 e.1))),
    some_map (find_module m E.modules) _ _ (λ d i y vs hv. let x = y vs hv in
        (sure_before E p d.place d.start _ x.0.0 x.0.1, λ a e. x.1 a (before_ends E p d.place d.start _ a e))),
  )
