-- Atoms without values.
use Rattle.std.proofs.Common.{◌≡◌, List, [], ◌∷◌, Some, refl}
use Rattle.rw_terms.specs.declared.term.Term.{Term}
use Rattle.rw_arith.specs.declared.poly.Summand.{Summand}
use Rattle.rw_finder.specs.declared.fraction.Fraction.{Fraction}
use Rattle.rw_finder.specs.Point.{with_terms}
use Rattle.rw_finder.specs.Finding.{point_of}

pub point_end : (atoms : List Term) → point_of atoms [] ≡ []
point_end [] = refl
point_end (a ∷ atoms) = refl

pub terms_end : (p : List Summand) (atoms : List Term) (sum : Fraction) → with_terms p atoms [] sum ≡ Some sum
terms_end p [] sum = refl
terms_end p (a ∷ atoms) sum = refl
