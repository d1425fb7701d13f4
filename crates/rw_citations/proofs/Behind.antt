-- Joining formulas one after another.
use Rattle.std.proofs.Common.{◌≡◌, List, ◌∷◌, Option, Some, None, refl}
use Rattle.rw_terms.specs.declared.term.Formula.{Formula}
use Rattle.rw_subst.specs.Conj.{conj_with, conj, disj_with, disj}
use Rattle.rw_citations.specs.Conj.{and_also, or_also}

-- what is joined so far, if anything is, and more behind it
abbrev pub conj_from : Option Formula → List Formula → Formula
conj_from None gs = conj gs
conj_from (Some f) gs = conj_with f gs

abbrev pub disj_from : Option Formula → List Formula → Formula
disj_from None gs = disj gs
disj_from (Some f) gs = disj_with f gs

pub conj_step : (o : Option Formula) (g : Formula) (gs : List Formula) → conj_from o (g ∷ gs) ≡ conj_from (Some (and_also o g)) gs
conj_step None g gs = refl
conj_step (Some f) g gs = refl

pub disj_step : (o : Option Formula) (g : Formula) (gs : List Formula) → disj_from o (g ∷ gs) ≡ disj_from (Some (or_also o g)) gs
disj_step None g gs = refl
disj_step (Some f) g gs = refl
