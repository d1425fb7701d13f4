-- A program without specifications, whose guards have no predicate, means the same by every library.
use Rattle.std.proofs.Common.{◌≡◌, ◌↔◌, ℕ, zero, suc, ◌≤◌, Bool, true, false, List, [], reverse, inl, inr, sym, ◌∙◌, subst, true≢false}
use Rattle.std.proofs.lemmas.Bool.{and_parts}
use Rattle.rw_terms.specs.declared.term.Formula.{Formula}
use Rattle.rw_terms.specs.declared.term.Formula.TheOpen.{Formula-F}
use Rattle.rw_terms.specs.declared.term.Formula.TheViews.{roll-Formula}
use Rattle.rw_terms.specs.declared.term.Formula.TheFolds.{map-Formula, ind-Formula, fold-roll-Formula}
use Rattle.rw_terms.specs.State.{Value, value_in}
use Rattle.rw_terms.specs.Truth.{Predicates, holds_by, Definition, predicates_of}
use Rattle.rw_terms.proofs.Truths.{to_layer, from_layer, layer_truth}
use Rattle.rw_terms.proofs.Agree.{not_iff, and_iff, imp_iff}
use Rattle.rw_programs.specs.CodeTest.{guard_step, is_guard}
use Rattle.rw_programs.specs.declared.prog.Prog.{Prog, Spec, Kid, Skip, Assign, If', Do', Call, OpCall, Row_of-Arm, end_of-Arm, more_of-Arm}
use Rattle.rw_programs.specs.Made.{Seq, Block, Con, ModBlock}
use Rattle.rw_programs.specs.State.{State, Holds}
use Rattle.rw_programs.specs.Tables.{Table, past}
use Rattle.rw_programs.specs.Meaning.{Bodies, bodies, bodies_before, ends_by, sure_by, arm_ends, arms_sure, NoGuard, GuardsDefined, Chain}
use Rattle.rw_programs.specs.Refine.{BetterAt}
use Rattle.rw_meaning.specs.Filling.{fill, fill_row}

abbrev mutual
  -- no specification is in the program, and its guards are those of code
  pub IsGuarded : Prog → Type 0
  IsGuarded (Spec w) = ⊥
  IsGuarded (Kid n) = Unit {0}
  IsGuarded Skip = Unit {0}
  IsGuarded (Assign names terms) = Unit {0}
  IsGuarded (Seq c d) = IsGuarded c × IsGuarded d
  IsGuarded (If' shape arms) = AreGuarded arms
  IsGuarded (Do' variant shape arms) = AreGuarded arms
  IsGuarded (Block x sort c) = IsGuarded c
  IsGuarded (Con pins c) = IsGuarded c
  IsGuarded (Call f args names) = Unit {0}
  IsGuarded (OpCall m o args names) = Unit {0}
  IsGuarded (ModBlock m c) = IsGuarded c

  -- the same of guards and the programs behind them
  pub AreGuarded : {m : _} → Row_of-Arm m → Type 0
  AreGuarded end_of-Arm = Unit {0}
  AreGuarded (more_of-Arm g c rest) = (is_guard g ≡ true) × IsGuarded c × AreGuarded rest

module _ (ks : ℕ → Prog) (kids : (n : ℕ) → IsGuarded (ks n)) where
  mutual
    -- so is a program in which such programs are put for the kids
    pub filled_guarded : (c : Prog) → IsGuarded c → IsGuarded (fill ks c)
    filled_guarded (Spec w) g = absurd g
    filled_guarded (Kid n) g = kids n
    filled_guarded Skip g = tt
    filled_guarded (Assign names terms) g = tt
    filled_guarded (Seq c d) g = (filled_guarded c g.0, filled_guarded d g.1)
    filled_guarded (If' shape arms) g = filled_arms arms g
    filled_guarded (Do' variant shape arms) g = filled_arms arms g
    filled_guarded (Block x sort c) g = filled_guarded c g
    filled_guarded (Con pins c) g = filled_guarded c g
    filled_guarded (Call f args names) g = tt
    filled_guarded (OpCall m o args names) g = tt
    filled_guarded (ModBlock m c) g = filled_guarded c g

    filled_arms : {m : _} (arms : Row_of-Arm m) → AreGuarded arms → AreGuarded (fill_row ks arms)
    filled_arms end_of-Arm g = tt
    filled_arms (more_of-Arm f c rest) g = (g.0, filled_guarded c g.1, filled_arms rest g.2)

-- a guard holds whatever predicates say
module _ (says more : Predicates) (var init const : List ℕ → Value) where
  abbrev here : Formula → List Value → Type 0
  here = holds_by says var init const

  abbrev there : Formula → List Value → Type 0
  there = holds_by more var init const

  abbrev Same : Formula → Type 0
  Same f = is_guard f ≡ true → (b : List Value) → here f b ↔ there f b

  abbrev Layer : Type 0
  Layer = Formula-F ((f : Formula) × Same f)

  abbrev inside : Layer → Formula-F Formula
  inside = map-Formula ((f : Formula) × Same f) Formula (λ e. e.0)

  same_layer : (y : Layer) → guard_step (map-Formula Formula Bool is_guard (inside y)) ≡ true → (b : List Value) →
      layer_truth says var init const (inside y) b ↔ layer_truth more var init const (inside y) b
  same_layer Formula-F.True g b = (λ h. h, λ h. h)
  same_layer Formula-F.False g b = (λ h. h, λ h. h)
  same_layer (Formula-F.Eq t u) g b = (λ h. h, λ h. h)
  same_layer (Formula-F.Less t u) g b = (λ h. h, λ h. h)
  same_layer (Formula-F.AtMost t u) g b = (λ h. h, λ h. h)
  same_layer (Formula-F.Not f) g b = not_iff (f.1 g b)
  same_layer (Formula-F.And f h) g b = let p = and_parts (is_guard f.0) (is_guard h.0) g in and_iff (f.1 p.0 b) (h.1 p.1 b)
  same_layer (Formula-F.Or f h) g b = let p = and_parts (is_guard f.0) (is_guard h.0) g in not_iff (and_iff (not_iff (f.1 p.0 b)) (not_iff (h.1 p.1 b)))
  same_layer (Formula-F.Imp f h) g b = let p = and_parts (is_guard f.0) (is_guard h.0) g in imp_iff (f.1 p.0 b) (h.1 p.1 b)
  same_layer (Formula-F.All s f) g b = absurd (true≢false (sym g))
  same_layer (Formula-F.Any s f) g b = absurd (true≢false (sym g))
  same_layer (Formula-F.App p ts) g b = absurd (true≢false (sym g))

  same_at : (y : Layer) → Same (roll-Formula (inside y))
  same_at y g b =
      let both = same_layer y (sym (fold-roll-Formula Bool guard_step (inside y)) ∙ g) b in (
        λ h. from_layer more var init const (inside y) b (both.0 (to_layer says var init const (inside y) b h)),
        λ h. from_layer says var init const (inside y) b (both.1 (to_layer more var init const (inside y) b h)),
      )

  pub guard_same : (f : Formula) → Same f
  guard_same = ind-Formula Same (λ u y is. subst (λ z. Same (roll-Formula z)) is (same_at y))

-- what is sure by one is sure by the other, and the ends are the same
pub record Alike (S S' : State → Type 0) (N N' : State → State → Type 0) : Type 0 where
  pub sure : (s : State) → S s ↔ S' s
  pub ends : (s t : State) → N s t ↔ N' s t

chain_map : (R Q : State → State → Type 0) → ((s t : State) → R s t → Q s t) → (k : ℕ) (s t : State) → Chain R k s t → Chain Q k s t
chain_map R Q f zero s t e = e
chain_map R Q f (suc k) s t e = (e.0, chain_map R Q f k s e.0 e.1, f e.0 t e.2)

-- no procedures and no modules are at hand, and any number may bound a loop's turns
abbrev pub bare : List Definition → Bool → Table
bare library concrete = record { library = library; is_concrete = concrete; by_variant = false; procs = []; modules = [] }

module _ (one two : List Definition) (concrete : Bool) (calls before others earlier : Bodies) where
  abbrev E : Table
  E = bare one concrete

  abbrev F : Table
  F = bare two concrete

  holds_same : (g : Formula) (s : State) → is_guard g ≡ true → Holds one g s s ↔ Holds two g s s
  holds_same g s is = guard_same (predicates_of (reverse one)) (predicates_of (reverse two)) (value_in s.own) (value_in s.own) (value_in s.own) g is []

  abbrev ProgAlike : Prog → Type 0
  ProgAlike c = Alike (sure_by E calls before c) (sure_by F others earlier c) (ends_by E calls before c) (ends_by F others earlier c)

  abbrev ArmsAlike : {m : _} → Row_of-Arm m → Type 0
  ArmsAlike arms = Alike (arms_sure E calls before arms) (arms_sure F others earlier arms) (arm_ends E calls before arms) (arm_ends F others earlier arms)

  none_same : {m : _} (arms : Row_of-Arm m) → AreGuarded arms → (s : State) → NoGuard one arms s ↔ NoGuard two arms s
  none_same end_of-Arm g s = (λ h. h, λ h. h)
  none_same (more_of-Arm f c rest) g s = and_iff (not_iff (holds_same f s g.0)) (none_same rest g.2 s)

  seq_alike : (c d : Prog) → ProgAlike c → ProgAlike d → ProgAlike (Seq c d)
  seq_alike c d ac ad = record {
    sure = λ s. (λ h. ((ac.sure s).0 h.0, λ m e. (ad.sure m).0 (h.1 m ((ac.ends s m).1 e))), λ h. ((ac.sure s).1 h.0, λ m e. (ad.sure m).1 (h.1 m ((ac.ends s m).0 e))));
    ends = λ s t. (λ e. (e.0, (ac.ends s e.0).0 e.1, (ad.ends e.0 t).0 e.2), λ e. (e.0, (ac.ends s e.0).1 e.1, (ad.ends e.0 t).1 e.2));
  }

  -- the same of a loop over the arms
  abbrev TurnsOf : {m : _} → Row_of-Arm m → ℕ → State → State → Type 0
  TurnsOf arms = Chain (arm_ends E calls before arms)

  abbrev OtherTurns : {m : _} → Row_of-Arm m → ℕ → State → State → Type 0
  OtherTurns arms = Chain (arm_ends F others earlier arms)

  module _ {m : _} (arms : Row_of-Arm m) (guards : AreGuarded arms) (a : ArmsAlike arms) where
    there_turns : (k : ℕ) (s t : State) → TurnsOf arms k s t → OtherTurns arms k s t
    there_turns k s t e = chain_map _ _ (λ u v. (a.ends u v).0) k s t e

    back_turns : (k : ℕ) (s t : State) → OtherTurns arms k s t → TurnsOf arms k s t
    back_turns k s t e = chain_map _ _ (λ u v. (a.ends u v).1) k s t e

    abbrev LoopSure : (ℕ → State → State → Type 0) → (State → Type 0) → State → Type 0
    LoopSure turns sure s = ((n : ℕ) × ((k : ℕ) (t : State) → turns k s t → k ≤ n) × Unit {0}) × ((k : ℕ) (t : State) → turns k s t → GuardsDefined arms t × sure t)

    loop_sure : (s : State) → LoopSure (TurnsOf arms) (arms_sure E calls before arms) s ↔ LoopSure (OtherTurns arms) (arms_sure F others earlier arms) s
    loop_sure s = (
      λ h. ((h.0.0, (λ k t e. h.0.1 k t (back_turns k s t e)), tt), λ k t e. let r = h.1 k t (back_turns k s t e) in (r.0, (a.sure t).0 r.1)),
      λ h. ((h.0.0, (λ k t e. h.0.1 k t (there_turns k s t e)), tt), λ k t e. let r = h.1 k t (there_turns k s t e) in (r.0, (a.sure t).1 r.1)),
    )

    loop_ends : (s t : State) → (((n : ℕ) × TurnsOf arms n s t) × NoGuard one arms t) ↔ (((n : ℕ) × OtherTurns arms n s t) × NoGuard two arms t)
    loop_ends s t = (
      λ e. ((e.0.0, there_turns e.0.0 s t e.0.1), (none_same arms guards t).0 e.1),
      λ e. ((e.0.0, back_turns e.0.0 s t e.0.1), (none_same arms guards t).1 e.1),
    )

  arm_alike : {m : _} (f : Formula) (c : Prog) (rest : Row_of-Arm m) → is_guard f ≡ true → ProgAlike c → ArmsAlike rest → ArmsAlike (more_of-Arm f c rest)
  arm_alike f c rest g ac ar = record { sure = λ s. and_iff (imp_iff (holds_same f s g) (ac.sure s)) (ar.sure s); ends = λ s t. (there s t, back s t) }
    where
      there : (s t : State) → arm_ends E calls before (more_of-Arm f c rest) s t → arm_ends F others earlier (more_of-Arm f c rest) s t
      there s t (inl e) = inl ((holds_same f s g).0 e.0, (ac.ends s t).0 e.1)
      there s t (inr e) = inr ((ar.ends s t).0 e)

      back : (s t : State) → arm_ends F others earlier (more_of-Arm f c rest) s t → arm_ends E calls before (more_of-Arm f c rest) s t
      back s t (inl e) = inl ((holds_same f s g).1 e.0, (ac.ends s t).1 e.1)
      back s t (inr e) = inr ((ar.ends s t).1 e)

  mutual
    pub prog_alike : (c : Prog) → IsGuarded c → ProgAlike c
    prog_alike (Spec w) g = absurd g
    prog_alike (Kid n) g = record { sure = λ s. (λ h. h, λ h. h); ends = λ s t. (λ h. h, λ h. h) }
    prog_alike Skip g = record { sure = λ s. (λ h. h, λ h. h); ends = λ s t. (λ h. h, λ h. h) }
    prog_alike (Assign names terms) g = record { sure = λ s. (λ h. h, λ h. h); ends = λ s t. (λ h. h, λ h. h) }
    prog_alike (Seq c d) g = seq_alike c d (prog_alike c g.0) (prog_alike d g.1)
    prog_alike (If' shape arms) g = let r = arms_alike arms g in record {
      sure = λ s. (λ h. (h.0, (not_iff (none_same arms g s)).0 h.1, (r.sure s).0 h.2), λ h. (h.0, (not_iff (none_same arms g s)).1 h.1, (r.sure s).1 h.2));
      ends = r.ends;
    }
    prog_alike (Do' variant shape arms) g = let r = arms_alike arms g in record { sure = loop_sure arms g r; ends = loop_ends arms g r }
    prog_alike (Block x sort c) g = let r = prog_alike c g in record {
      sure = λ s. (λ h v hv. (r.sure _).0 (h v hv), λ h v hv. (r.sure _).1 (h v hv));
      ends = λ s t. (λ e. (e.0, e.1, e.2, (r.ends _ e.1).0 e.3, e.4), λ e. (e.0, e.1, e.2, (r.ends _ e.1).1 e.3, e.4));
    }
    prog_alike (Con pins c) g = let r = prog_alike c g in record {
      sure = λ s. (λ h. (r.sure _).0 h, λ h. (r.sure _).1 h);
      ends = λ s t. (λ e. (e.0, (r.ends _ e.0).0 e.1, e.2), λ e. (e.0, (r.ends _ e.0).1 e.1, e.2));
    }
    prog_alike (Call f args names) g = record { sure = λ s. (λ h. (h.0, absurd h.1), λ h. (h.0, absurd h.1)); ends = λ s t. (λ e. absurd e, λ e. absurd e) }
    prog_alike (OpCall m o args names) g = record { sure = λ s. (λ h. (h.0, absurd h.1), λ h. (h.0, absurd h.1)); ends = λ s t. (λ e. absurd e, λ e. absurd e) }
    prog_alike (ModBlock m c) g = record { sure = λ s. (λ h. absurd h, λ h. absurd h); ends = λ s t. (λ e. absurd e, λ e. absurd e) }

    arms_alike : {m : _} (arms : Row_of-Arm m) → AreGuarded arms → ArmsAlike arms
    arms_alike end_of-Arm g = record { sure = λ s. (λ h. h, λ h. h); ends = λ s t. (λ h. h, λ h. h) }
    arms_alike (more_of-Arm f c rest) g = arm_alike f c rest g.0 (prog_alike c g.1) (arms_alike rest g.2)

-- where the program refines another by one library, it does so by any other
pub by_any_library : (one two : List Definition) (concrete : Bool) (D : Table) (p k : ℕ) (c d : Prog) (s : State) → IsGuarded d →
    BetterAt D p k c (bare one concrete) (past (bare one concrete)) 0 d s → BetterAt D p k c (bare two concrete) (past (bare two concrete)) 0 d s
by_any_library one two concrete D p k c d s g better h =
    let E : Table = bare one concrete in
    let F : Table = bare two concrete in
    let a = prog_alike one two concrete (bodies E (past E) 0) (bodies_before E (past E)) (bodies F (past F) 0) (bodies_before F (past F)) d g in
    let r = better h in
    ((a.sure s).0 r.0, λ t e. r.1 t ((a.ends s t).1 e))
