-- The program that a step makes, with its kids left open.
use Rattle.std.specs.Prelude.{◌≡◌, [], ◌∷◌, length}
use Rattle.rw_programs.specs.declared.prog.Spec.{Spec}
use Rattle.rw_programs.specs.declared.prog.Prog.{Prog}
use Rattle.rw_programs.specs.declared.prog.Prog.TheVariants as prog
use Rattle.rw_programs.specs.declared.prog.Prog.TheViews as made
use Rattle.rw_laws.specs.declared.step.BasicStep.{BasicStep}
use Rattle.rw_laws.specs.declared.step.BasicStep.TheVariants as step
use Rattle.rw_derived.specs.Derived.{pins_for}
use Rattle.rw_laws.specs.Laws.{pin}

abbrev pub skeleton_of : Spec → BasicStep → Prog
skeleton_of w step.Skip = prog.Skip
skeleton_of w (step.Weaken f) = prog.Kid 1
skeleton_of w (step.Strengthen f) = prog.Kid 1
skeleton_of w (step.Assign names terms) = prog.Assign names terms
skeleton_of w (step.Follow names terms) = made.Seq (prog.Kid 1) (prog.Assign names terms)
skeleton_of w (step.Seq f) = made.Seq (prog.Kid 1) (prog.Kid 2)
skeleton_of w (step.SeqCon names f) = made.Con (pins_for w.frame names) (made.Seq (prog.Kid 1) (prog.Kid 2))
skeleton_of w (step.Con x t) = made.Con (pin x t ∷ []) (prog.Kid 1)
skeleton_of w (step.Contract names) = prog.Kid 1
skeleton_of w (step.Expand names) = prog.Kid 1

-- a constant for each name of the frame, where there are to be some
abbrev pub HasPins : Spec → BasicStep → Type 0
HasPins w (step.SeqCon names f) = length w.frame ≡ length names
HasPins w _ = Unit {0}
