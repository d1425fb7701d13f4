-- Where an atom has no value, there is no point.
use Rattle.std.proofs.Common.{◌≡◌, ℕ, zero, suc, ◌+◌, ◌-◌, ◌≤◌, List, ◌∷◌, length, Some, None, sym, ap, ◌∙◌, arith}
use Rattle.rw_terms.specs.declared.term.Term.{Term}
use Rattle.rw_elimination.specs.declared.row.Row.{Row}
use Rattle.rw_finder.specs.declared.fraction.Fraction.{Fraction}
use Rattle.rw_finder.specs.Fractions.{if_some}
use Rattle.rw_finder.specs.Point.{value_at, last_values}

none_stays : (atoms : List Term) (rows : List Row) (d n : ℕ) → last_values atoms rows n ≡ None → last_values atoms rows (d + n) ≡ None
none_stays atoms rows zero n e = ap (last_values atoms rows) (none_on n) ∙ e
  where
    none_on : (n : ℕ) → 0 + n ≡ n
    none_on n = omega arith
none_stays atoms rows (suc d) n e =
    ap (last_values atoms rows) (one_on d n)
    ∙ ap (λ o. if_some o (λ values. if_some (value_at atoms rows ((length atoms - (d + n)) - 1) values) (λ value. Some (value ∷ values)))) (none_stays atoms rows d n e)
  where
    one_on : (d n : ℕ) → suc d + n ≡ suc (d + n)
    one_on d n = omega arith

pub values_none : (atoms : List Term) (rows : List Row) (n : ℕ) (values : List Fraction) → last_values atoms rows n ≡ Some values → value_at atoms rows ((length atoms - n) - 1) values ≡ None →
    (m : ℕ) → n + 1 ≤ m → None ≡ last_values atoms rows m
values_none atoms rows n values e k m l =
    let next : last_values atoms rows (suc n) ≡ None =
    ap (λ o. if_some o (λ vs. if_some (value_at atoms rows ((length atoms - n) - 1) vs) (λ value. Some (value ∷ vs)))) e ∙ ap (λ o. if_some o (λ value. Some (value ∷ values))) k in
    sym (ap (last_values atoms rows) (apart n m l) ∙ none_stays atoms rows (m - suc n) (suc n) next)
  where
    apart : (n m : ℕ) → n + 1 ≤ m → m ≡ (m - suc n) + suc n
    apart n m l = omega arith
