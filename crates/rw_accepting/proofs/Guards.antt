-- A step that passes no limit has few kids.
use Rattle.std.proofs.Common.{◌≡◌, ℕ, ◌≤◌, Bool, true, false, not, if◌then◌else◌, nat_lt, length, Some, None, arith, inl, inr}
use Rattle.std.proofs.lemmas.Bool.Decides.{leb_tells}
use Rattle.rw_faults.specs.Limits.{is_light, is_shallow}
use Rattle.rw_heads.specs.declared.step.ModStep.TheVariants as module_step
use Rattle.rw_laws.specs.declared.step.BasicStep.{BasicStep}
use Rattle.rw_laws.specs.declared.step.BasicStep.TheVariants as basic
use Rattle.rw_laws.specs.Counts.{counts}
use Rattle.rw_loops.specs.declared.step.LoopStep.{LoopStep}
use Rattle.rw_loops.specs.declared.step.LoopStep.TheVariants as loop
use Rattle.rw_loops.specs.Counts.{guards_of, kids_of as loop_kids}
use Rattle.rw_edits.specs.declared.edit.Step.{Step}
use Rattle.rw_edits.specs.declared.edit.Step.TheVariants as step
use Rattle.rw_edits.specs.Counts.{kids_of}
use Rattle.rw_edit_tests.specs.declared.refusal.EditRefusal.TheVariants as refusal
use Rattle.rw_edit_tests.specs.declared.refusal.Which.TheVariants as which
use Rattle.rw_edit_tests.specs.Refusals.{is_light_term, is_shallow_term, loop_passes, text_limit}

few_basic : (s : BasicStep) → (counts s).kids ≤ 32
few_basic basic.Skip = omega arith
few_basic (basic.Weaken f) = omega arith
few_basic (basic.Strengthen f) = omega arith
few_basic (basic.Assign names terms) = omega arith
few_basic (basic.Follow names terms) = omega arith
few_basic (basic.Seq f) = omega arith
few_basic (basic.SeqCon names f) = omega arith
few_basic (basic.Con x t) = omega arith
few_basic (basic.Contract names) = omega arith
few_basic (basic.Expand names) = omega arith

guards_told : (a b : Bool) (n : ℕ) → (if a then Some (refusal.Limit which.Weight 1024) else if b then Some (refusal.Limit which.Depth 64) else if nat_lt 32 n then Some (refusal.Limit which.Guards 32) else None) ≡ None → n ≤ 32
guards_told true b n e = absurd (cc)
guards_told false true n e = absurd (cc)
guards_told false false n e = elim (leb_tells 33 n) [
  | inl h ↦ absurd (let f : Some (refusal.Limit which.Guards 32) ≡ None = rw h.0 at e in cc)
  | inr h ↦ omega (arith, h.1)
]

few_guards : (s : LoopStep) → length (guards_of s) ≤ 32 → loop_kids s ≤ 32
few_guards (loop.If guards) h = h
few_guards (loop.Do v guards) h = h
few_guards (loop.Block x sort) h = omega arith

pub few_kids : (s : Step) → text_limit s ≡ None → kids_of s ≤ 32
few_kids (step.Basic s) e = few_basic s
few_kids (step.Call s) e = omega arith
few_kids (step.Module (module_step.Open m)) e = omega arith
few_kids (step.Module (module_step.Op m o args results)) e = omega arith
few_kids (step.Loop s) e = few_guards s (guards_told (not (loop_passes is_light is_light_term s)) (not (loop_passes is_shallow is_shallow_term s)) (length (guards_of s)) e)
