-- Names of lists one behind the other.
use Rattle.std.proofs.Common.{◌≡◌, ℕ, suc, ◌+◌, ◌<◌, Bool, List, [], ◌∷◌, ◌++◌, length, drop, get_or, refl, sym, ap, ◌∙◌, add-one, drop-cons}
use Rattle.rw_sequents.specs.declared.line.CertLine.{CertLine}
use Rattle.rw_lemmas.specs.Citing.{names_in, names_in_all, with_name, with_names}

pub names_of_two : (seen xs ys : List (List ℕ)) → with_names seen (xs ++ ys) ≡ with_names (with_names seen xs) ys
names_of_two seen [] ys = refl
names_of_two seen (x ∷ xs) ys = names_of_two (with_name seen x) xs ys

-- those of a line, and of the lines behind it
pub names_step : (unfolds : Bool) (lines : List CertLine) (i : ℕ) (l : CertLine) (seen : List (List ℕ)) → i < length lines → l ≡ get_or lines i l →
    with_names (with_names seen (names_in unfolds l)) (names_in_all unfolds (drop (i + 1) lines)) ≡ with_names seen (names_in_all unfolds (drop i lines))
names_step unfolds lines i l seen h e =
    rw (add-one, drop-cons lines i l h)
    (sym (names_of_two seen (names_in unfolds l) (names_in_all unfolds (drop (suc i) lines))) ∙ ap (λ x. with_names seen (names_in unfolds x ++ names_in_all unfolds (drop (suc i) lines))) e)
