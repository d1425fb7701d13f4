-- The induction over places: the bodies of the table of code meet their heads.
use mathlib.Core.Path.{fun_ext}
use Rattle.std.proofs.Common.{◌≡◌, ◌<◌, ◌⊎◌, ⊎_elim, inl, inr, find, if◌then◌else◌, refl, sym, ap, ◌∙◌, subst, subst₂, ℕ, zero, suc, Bool, true, false, List, [], Option, Some, None, arith, lt_irrefl}
use Rattle.rw_terms.specs.declared.scope.Entry.{Entry}
use Rattle.rw_terms.specs.declared.term.Term.{Term}
use Rattle.rw_terms.specs.declared.term.Formula.{Formula}
use Rattle.rw_terms.specs.declared.term.Formula.TheVariants.{True}
use Rattle.rw_terms.specs.Scopes.{has_name}
use Rattle.rw_terms.specs.State.{Value, State as Map, Fits as FitsMap}
use Rattle.rw_programs.specs.declared.prog.Param.{Param}
use Rattle.rw_programs.specs.declared.prog.ProcCode.{ProcCode}
use Rattle.rw_programs.specs.declared.prog.ModCode.{ModCode}
use Rattle.rw_programs.specs.declared.prog.Spec.{Spec as Promise}
use Rattle.rw_programs.specs.declared.prog.Prog.{Prog, Spec, Kid, Skip, Assign, If', Do', Call, OpCall, Row_of-Arm, end_of-Arm, more_of-Arm}
use Rattle.rw_programs.specs.Made.{Seq, Block, Con, ModBlock}
use Rattle.rw_programs.specs.State.{Name, State, Fits, Holds, Within, empty, alone, is_in, only, read_all, names_of, ValuesFor}
use Rattle.rw_programs.specs.Tables.{Table}
use Rattle.rw_programs.specs.Meaning.{bodies, bodies_before, MayEnd, Sure}
use Rattle.rw_programs.proofs.Skipping.{stable}
use Rattle.rw_programs.specs.Refine.{RefinesAt}
use Rattle.rw_programs.specs.Scoped.{with_local, with_pins, with_entries, with_module}
use Rattle.rw_meaning.specs.Filling.{WhereSome, EachPart, EachArm, brings_of, module_entries}
use Rattle.rw_meaning.specs.Calls.{CallEnds, CallSure}
use Rattle.rw_meaning.proofs.CallRows.{call_ends_to, call_ends_of, call_sure_to, call_sure_of}
use Rattle.rw_meaning.proofs.Grow.{ends_of_any, before_ends, ends_before, before_sure, sure_before}
use Rattle.rw_heads.specs.declared.head.Module.{Module}
use Rattle.rw_modules.specs.Heads.{oper_scope, start_scope, oper_head, start_head}
use Rattle.rw_simulation.specs.Classical.{Classically}
use Rattle.rw_simulation.specs.Coupling.{Pairing, begun, start_state, Simulates, SimulatesStart}
use Rattle.rw_simulation.specs.Related.{pairing}
use Rattle.rw_simulation.specs.Linked.{ProcLinked, OpLinked, StartEnds, ModLinked, PartLinked, SelfLinked}
use Rattle.rw_simulation.specs.Concrete.{pair_of, IsFormed, Meets, SpecSure, SpecEnds, Starts}
use Rattle.rw_simulation.specs.Collected.{ProcPlaced, ModPlaced, OpPlaced, PartPlaced, CodePlaced, BodyMeets, ProcMeets, OperMeets, ModMeets, TablesMeet, BetterClassically, proc_scope}
use Rattle.rw_simulation.proofs.Classics.{surely, thence}
use Rattle.rw_soundness.proofs.Ready.{fits_both}
use Rattle.rw_simulation.proofs.Chosen.{fits_off, values_read, put_back}
use Rattle.rw_simulation.proofs.Link.{links}
use Rattle.rw_simulation.proofs.Entered.{oper_enters}
use Rattle.rw_simulation.proofs.OperHeads.{oper_simulates}
use Rattle.rw_simulation.proofs.StartHeads.{start_simulates}
use Rattle.rw_simulation.proofs.Outermost.{end_stable, nothing_open, related_here, same_here}

-- simulation, of what is sure where that is, and by what is sure where this is
moved : (P : Pairing) (vs zs : List Param) (S : State → Type 0) (N : State → State → Type 0) (S' : State → Type 0) (N' : State → State → Type 0) (T : State → Type 0) (M : State → State → Type 0) (T' : State → Type 0) (M' : State → State → Type 0)
    → Simulates P vs zs S N S' N' → ((s : State) → T s → S s) → ((s t : State) → N s t → M s t) → ((s : State) → S' s → T' s) → ((s t : State) → S' s → M' s t → N' s t) → Simulates P vs zs T M T' M'
moved P vs zs S N S' N' T M T' M' sim into back out more = record {
  sure = λ c args rs hv hr k. out (begun vs zs c args rs) (sim.sure c args rs hv hr (thence k (λ z. (z.0, z.1, into (begun vs zs z.0 args rs) z.2))));
  ends = λ a c args rs t' hv hr coupled h e.
      let h' = into (begun vs zs a args rs) h in
      let e' = more (begun vs zs c args rs) t' (sim.sure c args rs hv hr (surely (a, coupled, h'))) e in
      thence (sim.ends a c args rs t' hv hr coupled h' e') (λ z. (z.0, back (begun vs zs a args rs) z.0 z.1, z.2, z.3, z.4));
}

moved_start : (P : Pairing) (G H : Map → Type 0) (S' : State → Type 0) (N' : State → State → Type 0) (T' : State → Type 0) (M' : State → State → Type 0)
    → SimulatesStart P G S' N' → ((a : Map) → G a → H a) → ((s : State) → S' s → T' s) → ((s t : State) → S' s → M' s t → N' s t) → SimulatesStart P H T' M'
moved_start P G H S' N' T' M' sim back out more = record {
  sure = λ ws hw. out (start_state P.concrete ws) (sim.sure ws hw);
  ends = λ ws t' hw e. thence (sim.ends ws t' hw (more (start_state P.concrete ws) t' (sim.sure ws hw) e)) (λ z. (z.0, back z.0 z.1, z.2));
}

-- a map that fits has nothing off the names
whole : (ps : List Param) (a : Map) → FitsMap (module_entries ps) a → a ≡ only (names_of ps) a
whole ps a fits = fun_ext (λ x. go x (is_in x (names_of ps)) refl)
  where
    go : (x : Name) (b : Bool) → is_in x (names_of ps) ≡ b → a x ≡ only (names_of ps) a x
    go x true i = sym (ap (λ b. if b then a x else None) i)
    go x false i = fits_off ps a x fits i ∙ sym (ap (λ b. if b then a x else None) i)

where_map : {A : Type 0} (o : Option A) (P Q : A → Type 0) → ((a : A) → P a → Q a) → WhereSome o P → WhereSome o Q
where_map None P Q f h = h
where_map (Some a) P Q f h = f a h

module _ (brings : Name → List Entry) (Q R : List Name → List Entry → Prog → Type 0) (f : (opened : List Name) (scope : List Entry) (c : Prog) → Q opened scope c → R opened scope c) where
  mutual
    -- each part meets what follows
    each_part : (opened : List Name) (scope : List Entry) (c : Prog) → EachPart brings Q opened scope c → EachPart brings R opened scope c
    each_part opened scope (Spec w) h = f opened scope (Spec w) h
    each_part opened scope (Kid n) h = f opened scope (Kid n) h
    each_part opened scope Skip h = f opened scope Skip h
    each_part opened scope (Assign names terms) h = f opened scope (Assign names terms) h
    each_part opened scope (Seq c d) h = (f opened scope (Seq c d) h.0, each_part opened scope c h.1, each_part opened scope d h.2)
    each_part opened scope (If' shape arms) h = (f opened scope (If' shape arms) h.0, each_arm opened scope arms h.1)
    each_part opened scope (Do' variant shape arms) h = (f opened scope (Do' variant shape arms) h.0, each_arm opened scope arms h.1)
    each_part opened scope (Block x sort c) h =
        (f opened scope (Block x sort c) h.0, where_map (with_local scope x sort) (λ inner. EachPart brings Q opened inner c) (λ inner. EachPart brings R opened inner c) (λ inner. each_part opened inner c) h.1)
    each_part opened scope (Con pins c) h =
        (f opened scope (Con pins c) h.0, where_map (with_pins scope scope pins) (λ inner. EachPart brings Q opened inner c) (λ inner. EachPart brings R opened inner c) (λ inner. each_part opened inner c) h.1)
    each_part opened scope (Call g args names) h = f opened scope (Call g args names) h
    each_part opened scope (OpCall m o args names) h = f opened scope (OpCall m o args names) h
    each_part opened scope (ModBlock m c) h = (
      f opened scope (ModBlock m c) h.0,
      where_map (with_module opened m) (λ outside. WhereSome (with_entries scope (brings m)) (λ inner. EachPart brings Q outside inner c)) (λ outside. WhereSome (with_entries scope (brings m)) (λ inner. EachPart brings R outside inner c))
          (λ outside. where_map (with_entries scope (brings m)) (λ inner. EachPart brings Q outside inner c) (λ inner. EachPart brings R outside inner c) (λ inner. each_part outside inner c)) h.1,
    )

    each_arm : {n : _} (opened : List Name) (scope : List Entry) (arms : Row_of-Arm n) → EachArm brings Q opened scope arms → EachArm brings R opened scope arms
    each_arm opened scope end_of-Arm h = tt
    each_arm opened scope (more_of-Arm g c rest) h = (each_part opened scope c h.0, each_arm opened scope rest h.1)

module _ (E F : Table) (couplings : Name → Formula) (tables : TablesMeet E F couplings) where
  -- what is said of a body at place r
  abbrev At : ℕ → Type 0
  At r = (scope : List Entry) (w : Promise) (c : Prog) → BodyMeets E F r r scope w c → Meets E.library scope w (Sure F r 0 c) (MayEnd F r 0 c)

  module _ (p q : ℕ) where
    -- what bodies before p and q are, in words
    proc_sure : (r : ℕ) (w : Promise) (s : State) → (bodies E p 0).sure r (Spec w) s → Holds E.library w.pre s s
    proc_sure r w s h = go (call_sure_to E p 0 r (Spec w) s h)
      where
        go : CallSure E p 0 r (Spec w) s → Holds E.library w.pre s s
        go (inl x) = x.1.2
        go (inr x) = x.1.1

    proc_ends : (r : ℕ) (w : Promise) (s t : State) → r < p → Within w.frame s t × Holds E.library w.post s t → (bodies E p 0).ends r (Spec w) s t
    proc_ends r w s t l h = call_ends_of E p 0 r (Spec w) s t (inr (l, (0, h)))

    code_sure : (r : ℕ) (c : Prog) (s : State) → r < q → Sure F r 0 c s → (bodies F q 0).sure r c s
    code_sure r c s l h = call_sure_of F q 0 r c s (inr (l, (0, h)))

    code_ends : (r : ℕ) (c : Prog) (s t : State) → r < q → Sure F r 0 c s → (bodies F q 0).ends r c s t → MayEnd F r 0 c s t
    code_ends r c s t l h e = go (call_ends_to F q 0 r c s t e)
      where
        go : CallEnds F q 0 r c s t → MayEnd F r 0 c s t
        go (inl x) = absurd (lt_irrefl q (subst (λ z. z < q) x.0 l))
        go (inr x) = ends_of_any F r c 0 x.1.0 s t h x.1.1

    oper_sure : (r : ℕ) (w : Promise) (s : State) → (bodies_before E p).sure r (Spec w) s → Holds E.library w.pre s s
    oper_sure r w s h = (before_sure E p r (Spec w) s h).1.1

    oper_ends : (r : ℕ) (w : Promise) (s t : State) → r < p → Within w.frame s t × Holds E.library w.post s t → (bodies_before E p).ends r (Spec w) s t
    oper_ends r w s t l h = ends_before E p r (Spec w) s t l (0, h)

    before_code_ends : (r : ℕ) (c : Prog) (s t : State) → Sure F r 0 c s → (bodies_before F q).ends r c s t → MayEnd F r 0 c s t
    before_code_ends r c s t h e = let x = before_ends F q r c s t e in ends_of_any F r c 0 x.1.0 s t h x.1.1

    module _ (ih : (r : ℕ) → r < q → At r) where
      -- a procedure before p and q
      proc_linked : (opened : List Name) (scope : List Entry) (f : Name) (args : List Term) → ProcPlaced E F p q opened scope f args
          → ProcLinked E F couplings (bodies E p 0) (bodies_before E p) (bodies F q 0) (bodies_before F q) opened scope f args
      proc_linked opened scope f args l = record {
        proc = l.proc;
        code = l.code;
        found = l.found;
        found_code = l.found_code;
        same_values = m.same_values;
        same_results = m.same_results;
        takes = l.takes;
        sure = λ vs rs hv hr k. sure vs rs hv hr k;
        ends = λ vs rs t hv hr h e. ends vs rs t hv hr h e;
      }
        where
          m : ProcMeets E F l.proc l.code
          m = tables.procs f l.proc l.code l.found l.found_code

          begins : List (Option Value) → List (Option Value) → State
          begins vs rs = begun l.proc.values l.proc.results empty vs rs

          -- the precondition, where the head is sure
          pre : (s : State) → (bodies E p 0).sure l.proc.place l.proc.body s → Holds E.library m.spec.pre s s
          pre s h = proc_sure l.proc.place m.spec s (subst (λ c. (bodies E p 0).sure l.proc.place c s) m.is_spec h)

          met : (s : State) → Fits (proc_scope l.proc) s → Holds E.library m.spec.pre s s
              → Sure F l.proc.place 0 l.code.body s × ((t : State) → MayEnd F l.proc.place 0 l.code.body s t → Within m.spec.frame s t × Holds E.library m.spec.post s t)
          met = ih l.proc.place l.before_code (proc_scope l.proc) m.spec l.code.body m.body

          sure : (vs rs : List (Option Value)) → ValuesFor l.proc.values vs → ValuesFor l.proc.results rs → Classically ((bodies E p 0).sure l.proc.place l.proc.body (begins vs rs))
              → (bodies F q 0).sure l.code.place l.code.body (begins vs rs)
          sure vs rs hv hr k =
              subst (λ z. (bodies F q 0).sure z l.code.body (begins vs rs)) (sym m.same_place)
              (code_sure l.proc.place l.code.body (begins vs rs) l.before_code
              (met (begins vs rs) (m.begins vs rs hv hr) (stable E.library m.spec.pre (begins vs rs) (begins vs rs) (thence k (pre (begins vs rs))))).0)

          ends : (vs rs : List (Option Value)) (t : State) → ValuesFor l.proc.values vs → ValuesFor l.proc.results rs → (bodies E p 0).sure l.proc.place l.proc.body (begins vs rs)
              → (bodies F q 0).ends l.code.place l.code.body (begins vs rs) t → Classically ((bodies E p 0).ends l.proc.place l.proc.body (begins vs rs) t)
          ends vs rs t hv hr h e =
              let x = met (begins vs rs) (m.begins vs rs hv hr) (pre (begins vs rs) h) in
              let e' = code_ends l.proc.place l.code.body (begins vs rs) t l.before_code x.0 (subst (λ z. (bodies F q 0).ends z l.code.body (begins vs rs) t) m.same_place e) in
              surely (subst (λ c. (bodies E p 0).ends l.proc.place c (begins vs rs) t) (sym m.is_spec) (proc_ends l.proc.place m.spec (begins vs rs) t l.before (x.1 t e')))

      module _ (n : Name) (l : ModPlaced E F p q n) where
        abbrev d : ModCode
        d = l.abstract

        abbrev d' : ModCode
        d' = l.concrete

        abbrev meets : ModMeets E F (couplings n) d d'
        meets = tables.modules n d d' l.found l.found_code

        -- the two states are those that the module declares
        pairing_is : pair_of E.library meets.declared ≡ pairing E (couplings n) d d'
        pairing_is = λ i. record { library = E.library; coupling = sym meets.coupling_is i; abstract = sym meets.state_is i; concrete = sym meets.concrete_is i }

        abbrev m : Module
        m = meets.declared

        abbrev Ends : Map → Type 0
        Ends = StartEnds E F couplings (bodies E p 0) (bodies_before E p) (bodies F q 0) (bodies_before F q) d

        abbrev StartSimulating : Pairing → Type 0
        StartSimulating P = SimulatesStart P Ends ((bodies_before F q).sure d'.place d'.start) ((bodies_before F q).ends d'.place d'.start)

        abbrev promise : Promise
        promise = record { frame = names_of m.state; pre = True; post = m.start }

        -- an abstract state that meets the start is an end of it
        starts : (a : Map) → Starts E.library m a → Ends a
        starts a h =
            let vs = read_all (names_of m.state) a in
            let begun_is : start_state m.state vs ≡ alone a = λ i. alone (put_back m.state a h.0 i) in
            let ended : Within (names_of m.state) (alone a) (alone a) × Holds E.library m.start (alone a) (alone a) =
            (record { off = λ x i. refl; sorts = λ x i. fits_both (find (has_name x) (module_entries m.state)) (a x) (a x) (h.0 x) (h.0 x); parts = refl }, h.1) in
            let begun_ends : (bodies_before E p).ends d.place (Spec promise) (start_state m.state vs) (alone a) =
            subst (λ s. (bodies_before E p).ends d.place (Spec promise) s (alone a)) (sym begun_is) (oper_ends d.place promise (alone a) (alone a) l.before ended) in
            subst (λ ps. (vs : List (Option Value)) × (t : State) × ValuesFor ps vs × (bodies_before E p).ends d.place d.start (start_state ps vs) t × (a ≡ only (names_of ps) t.own)) (sym meets.state_is) (
              vs,
              alone a,
              values_read m.state a meets.formed.differ h.0,
              subst (λ c. (bodies_before E p).ends d.place c (start_state m.state vs) (alone a)) (sym meets.is_start) begun_ends,
              whole m.state a h.0,
            )

        start_moved : StartSimulating (pair_of E.library m)
        start_moved =
            moved_start (pair_of E.library m) (Starts E.library m) Ends (Sure F d.place 0 d'.start) (MayEnd F d.place 0 d'.start) ((bodies_before F q).sure d'.place d'.start) ((bodies_before F q).ends d'.place d'.start)
            (start_simulates E.library m meets.formed (Sure F d.place 0 d'.start) (MayEnd F d.place 0 d'.start) (ih d.place l.before_code (start_scope m) (start_head m) d'.start meets.start))
            starts
            (λ s h. subst (λ z. (bodies_before F q).sure z d'.start s) (sym meets.same_place) (sure_before F q d.place d'.start s l.before_code (0, h)))
            (λ s t h e. before_code_ends d.place d'.start s t h (subst (λ z. (bodies_before F q).ends z d'.start s t) meets.same_place e))

        start_linked : ModLinked E F couplings (bodies E p 0) (bodies_before E p) (bodies F q 0) (bodies_before F q) n
        start_linked = record { abstract = d; concrete = d'; found = l.found; found_code = l.found_code; simulates = subst StartSimulating pairing_is start_moved }

      module _ (opened : List Name) (scope : List Entry) (n o : Name) (args : List Term) (l : OpPlaced E F p q opened scope n o args) where
        abbrev op_d : ModCode
        op_d = l.mods.abstract

        abbrev op_d' : ModCode
        op_d' = l.mods.concrete

        abbrev mods : ModMeets E F (couplings n) op_d op_d'
        mods = meets n l.mods

        abbrev op_m : Module
        op_m = mods.declared

        abbrev op : OperMeets E F op_m op_d.place l.proc l.code
        op = mods.operations o l.proc l.code l.found l.found_code

        abbrev OpSimulating : Pairing → List Param → List Param → Type 0
        OpSimulating P vs zs =
            Simulates P vs zs ((bodies_before E p).sure op_d.place l.proc.body) ((bodies_before E p).ends op_d.place l.proc.body) ((bodies_before F q).sure op_d'.place l.code.body) ((bodies_before F q).ends op_d'.place l.code.body)

        op_moved : OpSimulating (pair_of E.library op_m) op.oper.values op.oper.results
        op_moved =
            moved (pair_of E.library op_m) op.oper.values op.oper.results (SpecSure E.library op.oper.spec) (SpecEnds E.library op.oper.spec) (Sure F op_d.place 0 l.code.body) (MayEnd F op_d.place 0 l.code.body)
            ((bodies_before E p).sure op_d.place l.proc.body) ((bodies_before E p).ends op_d.place l.proc.body) ((bodies_before F q).sure op_d'.place l.code.body) ((bodies_before F q).ends op_d'.place l.code.body)
            (oper_simulates E.library op_m op.oper mods.formed op.formed (Sure F op_d.place 0 l.code.body) (MayEnd F op_d.place 0 l.code.body)
            (ih op_d.place l.mods.before_code (oper_scope op_m op.oper) (oper_head op_m op.oper.spec) l.code.body op.body) (λ c vs rs hv hr fits. oper_enters op_m op.oper op.formed c vs rs hv hr fits))
            (λ s h. oper_sure op_d.place op.oper.spec s (subst (λ c. (bodies_before E p).sure op_d.place c s) op.is_spec h))
            (λ s t h. subst (λ c. (bodies_before E p).ends op_d.place c s t) (sym op.is_spec) (oper_ends op_d.place op.oper.spec s t l.mods.before h))
            (λ s h. subst (λ z. (bodies_before F q).sure z l.code.body s) (sym mods.same_place) (sure_before F q op_d.place l.code.body s l.mods.before_code (0, h)))
            (λ s t h e. before_code_ends op_d.place l.code.body s t h (subst (λ z. (bodies_before F q).ends z l.code.body s t) mods.same_place e))

        op_linked : OpLinked E F couplings (bodies E p 0) (bodies_before E p) (bodies F q 0) (bodies_before F q) opened scope n o args
        op_linked = record {
          abstract = op_d;
          concrete = op_d';
          found = l.mods.found;
          found_code = l.mods.found_code;
          proc = l.proc;
          code = l.code;
          found_proc = l.found;
          found_proc_code = l.found_code;
          same_values = op.same_values;
          same_results = op.same_results;
          takes = l.takes;
          simulates = subst (λ P. OpSimulating P l.proc.values l.proc.results) (pairing_is n l.mods)
              (subst₂ (λ vs zs. OpSimulating (pair_of E.library op_m) vs zs) (sym op.values_are) (sym op.results_are) op_moved);
        }

      part_linked : (opened : List Name) (scope : List Entry) (c : Prog) → PartPlaced E F p q opened scope c → PartLinked E F couplings (bodies E p 0) (bodies_before E p) (bodies F q 0) (bodies_before F q) opened scope c
      part_linked opened scope (Spec w) h = tt
      part_linked opened scope (Kid n) h = tt
      part_linked opened scope Skip h = tt
      part_linked opened scope (Assign names terms) h = h
      part_linked opened scope (Seq c d) h = tt
      part_linked opened scope (If' shape arms) h = h
      part_linked opened scope (Do' variant shape arms) h = h
      part_linked opened scope (Block x sort c) h = tt
      part_linked opened scope (Con pins c) h = tt
      part_linked opened scope (Call f args names) h = (h.0, h.1, proc_linked opened scope f args h.2)
      part_linked opened scope (OpCall m o args names) h = (h.0, h.1, op_linked opened scope m o args h.2)
      part_linked opened scope (ModBlock m c) h = start_linked m h

      code_links : (scope : List Entry) (c : Prog) → CodePlaced E F p q scope c → SelfLinked E F couplings (bodies E p 0) (bodies_before E p) (bodies F q 0) (bodies_before F q) [] scope c
      code_links scope c l =
          links E F couplings tables.abstract tables.concrete tables.strict (bodies E p 0) (bodies_before E p) (bodies F q 0) (bodies_before F q) [] scope c (nothing_open E scope) l.code l.scoped l.fit
          (each_part (brings_of E) (PartPlaced E F p q) (PartLinked E F couplings (bodies E p 0) (bodies_before E p) (bodies F q 0) (bodies_before F q)) part_linked [] scope c l.parts)

      code_better : (scope : List Entry) (c : Prog) → CodePlaced E F p q scope c → (s : State) → Fits scope s → BetterClassically E p 0 c F q 0 c s
      code_better scope c l s fits h =
          let link = code_links scope c l in
          let here = related_here E F couplings tables.abstract scope l.no_modules s fits in (
            link.sure s (surely (s, here, h)),
            λ t e. thence (link.ends s s t here h e) (λ z. subst (MayEnd E p 0 c s) (same_here E F couplings tables.abstract scope l.no_modules z.0 t z.2).0 z.1),
          )

      body_meets : (scope : List Entry) (w : Promise) (c : Prog) → BodyMeets E F p q scope w c → Meets E.library scope w (Sure F q 0 c) (MayEnd F q 0 c)
      body_meets scope w c body s fits h =
          let link = code_links scope c body.placed in
          let better = body.refines s fits h in
          let here = related_here E F couplings tables.abstract scope body.placed.no_modules s fits in (
            link.sure s (surely (s, here, better.0)),
            λ t e. end_stable scope E.library w s t fits (thence (link.ends s s t here better.0 e) (λ z.
                let one = same_here E F couplings tables.abstract scope body.placed.no_modules z.0 t z.2 in
                let end = better.1 z.0 z.1 in
                (subst (Fits scope) one.0 one.1, subst (Within w.frame s) one.0 end.0, subst (Holds E.library w.post s) one.0 end.1))),
          )

  -- the induction
  all_before : (q : ℕ) → (r : ℕ) → r < q → At r
  all_before zero r l = absurd (omega (arith, l))
  all_before (suc q) r l = ⊎_elim (λ e. subst At (sym e) (λ scope w c body. body_meets q q (all_before q) scope w c body)) (λ l. all_before q r l) (cases r q l)
    where
      cases : (r q : ℕ) → r < suc q → (r ≡ q) ⊎ (r < q)
      cases r q l = grind arith

  pub bodies_refine : (p q : ℕ) (scope : List Entry) (w : Promise) (c : Prog) → BodyMeets E F p q scope w c → RefinesAt scope E p 0 (Spec w) F q 0 c
  bodies_refine p q scope w c body = body_meets p q (all_before q) scope w c body

  pub code_refines : (p q : ℕ) (scope : List Entry) (c : Prog) → CodePlaced E F p q scope c → (s : State) → Fits scope s → BetterClassically E p 0 c F q 0 c s
  code_refines p q scope c l s fits = code_better p q (all_before q) scope c l s fits

  pub operation_simulates : (m : Module) (place : ℕ) (proc code : ProcCode) → IsFormed m → (op : OperMeets E F m place proc code)
      → Simulates (pair_of E.library m) op.oper.values op.oper.results (SpecSure E.library op.oper.spec) (SpecEnds E.library op.oper.spec) (Sure F place 0 code.body) (MayEnd F place 0 code.body)
  operation_simulates m place proc code formed op =
      oper_simulates E.library m op.oper formed op.formed (Sure F place 0 code.body) (MayEnd F place 0 code.body)
      (bodies_refine place place (oper_scope m op.oper) (oper_head m op.oper.spec) code.body op.body) (λ c vs rs hv hr fits. oper_enters m op.oper op.formed c vs rs hv hr fits)

  pub start_simulates_here : (coupling : Formula) (d d' : ModCode) → (mods : ModMeets E F coupling d d')
      → SimulatesStart (pair_of E.library mods.declared) (Starts E.library mods.declared) (Sure F d.place 0 d'.start) (MayEnd F d.place 0 d'.start)
  start_simulates_here coupling d d' mods =
      start_simulates E.library mods.declared mods.formed (Sure F d.place 0 d'.start) (MayEnd F d.place 0 d'.start) (bodies_refine d.place d.place (start_scope mods.declared) (start_head mods.declared) d'.start mods.start)
