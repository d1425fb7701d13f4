-- A program that meets the concrete head of a start simulates the start.
use Rattle.std.proofs.Common.{◌≡◌, refl, sym, ap, ◌∙◌, subst, true, false, if◌then◌else◌, List, [], ◌++◌, reverse, Option, None, true≢false}
use Rattle.std.proofs.lemmas.Bool.{false_from_ne_true}
use Rattle.rw_terms.specs.declared.scope.Kind.TheVariants as kind
use Rattle.rw_terms.specs.declared.term.Formula.TheVariants as formula
use Rattle.rw_terms.specs.declared.term.Formula.TheOpen.{Formula-F}
use Rattle.rw_terms.specs.State.{Value, given, value_in, State as Map, Fits as FitsMap}
use Rattle.rw_terms.specs.Truth.{Definition}
use Rattle.rw_subst.specs.declared.slot.Form.TheVariants as form
use Rattle.rw_subst.specs.declared.slot.Slot.TheVariants as slot
use Rattle.rw_subst.specs.Looks.{Looks, holds_of, in_states}
use Rattle.rw_programs.specs.State.{Name, State, Holds, SameSort, Within, empty, alone, is_in, only, put_all, names_of, ValuesFor}
use Rattle.rw_programs.proofs.Frames.{put_all_off, within_fits}
use Rattle.rw_meaning.specs.Filling.{module_entries}
use Rattle.rw_heads.specs.declared.head.Module.{Module}
use Rattle.rw_modules.specs.Quantified.{Sorted, with_values, onto}
use Rattle.rw_modules.specs.Heads.{start_head, start_scope}
use Rattle.rw_modules.proofs.Quantifying.{for_some_holds, of_layer}
use Rattle.rw_simulation.specs.Classical.{Classically}
use Rattle.rw_simulation.specs.Coupling.{joined, Pairing, Coupled, start_state, SimulatesStart}
use Rattle.rw_simulation.specs.Concrete.{pair_of, IsFormed, Meets, Starts}
use Rattle.rw_simulation.proofs.Chosen.{chosen, values_off, values_chosen, chosen_fits}
use Rattle.rw_simulation.proofs.Lists.{of_joined}
use Rattle.rw_simulation.proofs.Spoken.{spoken_same, and_holds}
use Rattle.rw_simulation.proofs.Entered.{values_fit, start_enters}

module _ (library : List Definition) (m : Module) (fm : IsFormed m) (S' : State → Type 0) (N' : State → State → Type 0) (meets : Meets library (start_scope m) (start_head m) S' N') where
  abbrev A : List Name
  A = names_of m.state

  abbrev C : List Name
  C = names_of m.concrete

  abbrev pair : Pairing
  pair = pair_of library m

  abbrev definitions : List Definition
  definitions = reverse library

  starts_true : (s : State) → Holds library formula.True s s
  starts_true s = of_layer definitions (in_states s.own s.own) Formula-F.True formula.True [] formula.rolls-True tt

  module _ (ws : List (Option Value)) (hv : ValuesFor m.concrete ws) (t' : State) (within : Within C (start_state m.concrete ws) t') (after : Holds library (start_head m).post (start_state m.concrete ws) t') where
    abbrev looks : Looks
    looks = in_states (start_state m.concrete ws).own t'.own

    concrete_fits : FitsMap (module_entries m.concrete) (only C t'.own)
    concrete_fits =
        (within_fits (module_entries m.concrete) C (start_state m.concrete ws) (alone (only C t'.own)) (record { names = values_fit kind.Module m.concrete ws hv; parts = refl })
        (record { off = off; sorts = sorts; parts = refl })).names
      where
        off : (x : Name) → is_in x C ≡ false → only C t'.own x ≡ put_all C ws empty x
        off x i = ap (λ d. if d then t'.own x else None) i ∙ sym (put_all_off C ws empty x i)

        sorts : (x : Name) → is_in x C ≡ true → SameSort (put_all C ws empty x) (only C t'.own x)
        sorts x i = subst (SameSort (put_all C ws empty x)) (sym (ap (λ d. if d then t'.own x else None) i)) (within.sorts x i)

    not_abstract : (x : Name) → is_in x C ≡ true → is_in x A ≡ false
    not_abstract x i = false_from_ne_true (is_in x A) (λ j. true≢false (sym i ∙ fm.apart x j))

    started : (vs : List Value) → Sorted m.state vs → holds_of definitions (with_values slot.Var m.state vs looks) (formula.And m.start m.coupling) (onto vs []) → (a : Map) × Starts library m a × Coupled pair a (only C t'.own)
    started vs sorted h =
        let now = with_values slot.Var m.state vs looks in
        let a = chosen m.state vs in
        let c = only C t'.own in
        let parts = and_holds definitions now (onto vs []) m.start m.coupling h in (
          a,
          (
            chosen_fits m.state vs sorted,
            (spoken_same A [] m.start fm.start definitions now (in_states a a) (λ x i. values_chosen slot.Var form.Variable (λ x y. refl) m.state vs looks x sorted fm.differ i) (λ x i. absurd (true≢false (sym i))) (onto vs []) []).0 parts.0,
          ),
          record {
            abstract = chosen_fits m.state vs sorted;
            concrete = concrete_fits;
            meet = (spoken_same (A ++ C) [] m.coupling fm.coupling definitions now (in_states (joined m.state a c) (joined m.state a c))
                (λ x i. of_joined (now form.Variable x ≡ value_in (joined m.state a c) x) A C x
                (λ j. values_chosen slot.Var form.Variable (λ x y. refl) m.state vs looks x sorted fm.differ j ∙ ap given (sym (ap (λ d. if d then a x else c x) j)))
                (λ j. values_off slot.Var form.Variable (λ x y. refl) m.state vs looks x (not_abstract x j)
                ∙ ap given (sym (ap (λ d. if d then a x else c x) (not_abstract x j) ∙ ap (λ d. if d then t'.own x else None) j))) i)
                (λ x i. absurd (true≢false (sym i))) (onto vs []) []).0 parts.1;
          },
        )

    started_classically : Classically ((a : Map) × Starts library m a × Coupled pair a (only C t'.own))
    started_classically n = (for_some_holds slot.Var m.state (formula.And m.start m.coupling) definitions looks []).0 after (λ vs sorted h. n (started vs sorted h))

  pub start_simulates : SimulatesStart pair (Starts library m) S' N'
  start_simulates = record {
    sure = λ ws hv. (meets (start_state m.concrete ws) (start_enters m ws hv) (starts_true (start_state m.concrete ws))).0;
    ends = λ ws t' hv e.
        let met = (meets (start_state m.concrete ws) (start_enters m ws hv) (starts_true (start_state m.concrete ws))).1 t' e in
        started_classically ws hv t' met.0 met.1;
  }
