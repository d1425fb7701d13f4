-- Specifications made of their parts.
use Rattle.std.proofs.Common.{◌≡◌, List, map, ◌∙◌, ap}
use Rattle.rw_terms.specs.declared.term.Formula.{Formula}
use Rattle.rw_terms.specs.declared.term.Formula.TheVariants as formula
use Rattle.rw_programs.specs.declared.prog.Spec.{Spec}
use Rattle.rw_programs.specs.State.{Name}
use Rattle.rw_heads.specs.declared.head.Module.{Module}
use Rattle.rw_modules.specs.Heads.{kept_post, augmented, diminished}

-- the specification of these parts
abbrev pub made_of : List Name → Formula → Formula → Spec
made_of frame pre post = record { frame = frame; pre = pre; post = post }

-- both states' specification, by its parts
pub augmented_to : (m : Module) (w s : Spec) (frame : List Name) (old pre kept post : Formula) → frame ≡ (augmented m w).frame → old ≡ w.pre → pre ≡ formula.And old m.coupling → kept ≡ kept_post m w → post ≡ formula.And kept m.coupling
    → s ≡ made_of frame pre post → s ≡ augmented m w
augmented_to m w s frame old pre kept post framed was coupled keeps after is =
    is ∙ λ i. made_of (framed i) ((coupled ∙ ap (λ f. formula.And f m.coupling) was) i) ((after ∙ ap (λ f. formula.And f m.coupling) keeps) i)

-- the concrete state's specification, by its parts
pub diminished_to : (m : Module) (w s : Spec) (frame : List Name) (pre post : Formula) → frame ≡ (diminished m w).frame → pre ≡ (diminished m w).pre → post ≡ (diminished m w).post → s ≡ made_of frame pre post → s ≡ diminished m w
diminished_to m w s frame pre post framed before after is = is ∙ λ i. made_of (framed i) (before i) (after i)
