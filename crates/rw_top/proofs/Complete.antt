-- Where all lines fit, none is too long.
use Rattle.std.proofs.Common.{◌≡◌, ℕ, Option, None, Some, List, [], ◌∷◌, ◌++◌, length, get_or, inl, inr, ◌∙◌, ap, subst, arith, append_assoc, length-append}
use Rattle.std.proofs.Math.Seq.{get_or-append_seam}
use Rattle.std.specs.Prelude.{IsSomeAnd}
use Rattle.std.specs.Io.KnownBytes.{Consumes}
use Rattle.rw_project.specs.Lines.{whole_lines, last_part, lines_of, if_any, whole_from, rest_from}
use Rattle.rw_project.proofs.Cutting.{lines_go_on, rest_from_append, whole_at_other, rest_at_other, first_line, some_line}
use Rattle.rw_top.specs.Batch.{Fits, Overruns, AnswersShort, Adds}

abbrev others : List ℕ → ℕ → List ℕ → List (List ℕ)
others seen c rest = whole_from (last_part seen) (c ∷ rest) ++ if_any (rest_from (last_part seen) (c ∷ rest))

goes_on : (seen : List ℕ) (c : ℕ) (rest : List ℕ) → lines_of (seen ++ c ∷ rest) ≡ whole_lines seen ++ others seen c rest
goes_on seen c rest =
    lines_go_on seen (c ∷ rest)
    ∙ ap (λ (r : List ℕ). whole_lines seen ++ (whole_from (last_part seen) (c ∷ rest) ++ if_any r)) (rest_from_append [] seen (c ∷ rest))

pub too_long : (seen : List ℕ) (c : ℕ) (rest : List ℕ) → Overruns seen c → Fits (lines_of (seen ++ c ∷ rest)) → ⊥
too_long seen c rest (inl full) fits =
    omega (arith, fits.few, full, ap length (goes_on seen c rest), length-append (whole_lines seen) (others seen c rest), some_line (last_part seen) c rest)
too_long seen c rest (inr over) fits =
    let line = last_part seen ++ c ∷ [] in
    let first = first_line line rest (omega (arith, length-append (last_part seen) (c ∷ []))) in
    let others_are : others seen c rest ≡ first.0 ∷ first.1 =
    ap (λ (l : List (List ℕ)). l ++ if_any (rest_from (last_part seen) (c ∷ rest))) (whole_at_other (last_part seen) c rest over.1)
    ∙ ap (λ (r : List ℕ). whole_from line rest ++ if_any r) (rest_at_other (last_part seen) c rest over.1) ∙ first.2 in
    let lines_are = goes_on seen c rest ∙ ap (λ (l : List (List ℕ)). whole_lines seen ++ l) others_are in
    let n = length (whole_lines seen) in
    let short = fits.short n [] (omega (arith, ap length lines_are, length-append (whole_lines seen) (first.0 ∷ first.1))) in
    let at : get_or (lines_of (seen ++ c ∷ rest)) n [] ≡ first.0 = ap (λ (l : List (List ℕ)). get_or l n []) lines_are ∙ get_or-append_seam (whole_lines seen) first.0 first.1 [] in
    omega (arith, short, ap length at, first.3, over.0, length-append (last_part seen) (c ∷ []))

pub never_short : (left later held held_later : Option (List ℕ)) (taken : List ℕ) → Consumes left later taken → Adds held held_later (AnswersShort taken) → IsSomeAnd left (λ all. Fits (lines_of all)) → ⊥
never_short None later held held_later taken consumes adds fits = fits
never_short (Some all) None held held_later taken consumes adds fits = consumes
never_short (Some all) (Some rest) held held_later taken consumes adds fits =
    let a = adds.2 in
    too_long a.seen a.next (a.more ++ rest) a.overruns
    (subst (λ (l : List ℕ). Fits (lines_of l)) (consumes ∙ ap (λ (l : List ℕ). l ++ rest) a.split ∙ append_assoc a.seen (a.next ∷ a.more) rest) fits)
