-- Names and constants that a program does not mention.
use Rattle.std.proofs.Common.{◌≡◌, ◌↔◌, refl, sym, ◌∙◌, subst, ℕ, true, List, [], Option, None}
use Rattle.rw_terms.specs.State.{Value}
use Rattle.rw_programs.specs.declared.prog.Pin.{Pin}
use Rattle.rw_programs.specs.declared.prog.Prog.{Prog}
use Rattle.rw_programs.specs.Made.{Con}
use Rattle.rw_programs.specs.State.{Name, State, empty, is_in, put_all, with_own}
use Rattle.rw_programs.specs.Tables.{Table, pin_names, pin_terms}
use Rattle.rw_programs.specs.Meaning.{bodies, bodies_before, MayEnd, Sure, values}
use Rattle.rw_programs.proofs.Frames.{put_all_off}
use Rattle.rw_meaning.specs.Filling.{brings_of}
use Rattle.rw_meaning.specs.Mention.{MentionsNone, AgreeOff}
use Rattle.rw_meaning.proofs.Overlays.{over, over_is, over_again, over_agrees}
use Rattle.rw_meaning.proofs.Quiet.{Quiet, prog_quiet}
use Rattle.rw_meaning.proofs.Scopes.{put_none}

module _ (E : Table) (p k : ℕ) (names : List Name) (c : Prog) (none : MentionsNone (brings_of E) names c) where
  quiet : Quiet names (Sure E p k c) (MayEnd E p k c)
  quiet = prog_quiet E (bodies E p k) (bodies_before E p) names c none

  pub names_keep : (s t : State) → MayEnd E p k c s t → (x : Name) → is_in x names ≡ true → t.own x ≡ s.own x
  names_keep = quiet.moves.keeps

  reaches : (s u : State) → AgreeOff names s u → over names u.own s ≡ u
  reaches s u a = over_is names u.own s u (λ x h. refl) a

  pub names_end : (s u : State) → AgreeOff names s u → (t : State) → MayEnd E p k c s t → (v : State) × MayEnd E p k c u v × AgreeOff names t v
  names_end s u a t e = (over names u.own t, subst (λ w. MayEnd E p k c w (over names u.own t)) (reaches s u a) (quiet.moves.ends u.own s t e), over_agrees names u.own t)

  there : (s u : State) → AgreeOff names s u → Sure E p k c s → Sure E p k c u
  there s u a h = subst (Sure E p k c) (reaches s u a) (quiet.sure u.own s h)

  pub names_sure : (s u : State) → AgreeOff names s u → Sure E p k c s ↔ Sure E p k c u
  names_sure s u a = (there s u a, there u s (record { off = λ x h. sym (a.off x h); parts = sym a.parts }))

module _ (E : Table) (p k : ℕ) (pins : List Pin) (c : Prog) (none : MentionsNone (brings_of E) (pin_names pins) c) (s : State)
    (new : (x : Name) → is_in x (pin_names pins) ≡ true → s.own x ≡ None) where
  abbrev xs : List Name
  xs = pin_names pins

  abbrev vs : List (Option Value)
  vs = values (pin_terms pins) s

  -- the state in which the body begins
  abbrev begun : State
  begun = with_own s (put_all xs vs s.own)

  q : Quiet xs (Sure E p k c) (MayEnd E p k c)
  q = prog_quiet E (bodies E p k) (bodies_before E p) xs c none

  cleared : over xs empty begun ≡ s
  cleared = over_is xs empty begun s new (record { off = λ x h. sym (put_all_off xs vs s.own x h); parts = refl })

  filled : over xs (put_all xs vs s.own) s ≡ begun
  filled = over_is xs (put_all xs vs s.own) s begun (λ x h. refl) (record { off = λ x h. put_all_off xs vs s.own x h; parts = refl })

  gone : (m : State) → over xs empty m ≡ with_own m (put_all xs [] m.own)
  gone m = over_is xs empty m (with_own m (put_all xs [] m.own)) (λ x h. put_none xs m.own x h) (record { off = λ x h. put_all_off xs [] m.own x h; parts = refl })

  -- an end of the body from s has none of the constants
  bare : (t : State) → MayEnd E p k c s t → over xs empty t ≡ t
  bare t e = over_is xs empty t t (λ x h. q.moves.keeps s t e x h ∙ new x h) (record { off = λ x h. refl; parts = refl })

  pub constants_end : (t : State) → MayEnd E p k (Con pins c) s t ↔ MayEnd E p k c s t
  constants_end t = (
    λ e. subst (λ u. MayEnd E p k c u t) cleared (subst (MayEnd E p k c (over xs empty begun)) (gone e.0 ∙ sym e.2) (q.moves.ends empty begun e.0 e.1)),
    λ e.
        let m = over xs (put_all xs vs s.own) t in (
          m,
          subst (λ u. MayEnd E p k c u m) filled (q.moves.ends (put_all xs vs s.own) s t e),
          sym (bare t e) ∙ sym (over_again xs empty (put_all xs vs s.own) t) ∙ gone m,
        ),
  )

  pub constants_sure : Sure E p k (Con pins c) s ↔ Sure E p k c s
  constants_sure = (λ h. subst (Sure E p k c) cleared (q.sure empty begun h), λ h. subst (Sure E p k c) filled (q.sure (put_all xs vs s.own) s h))
