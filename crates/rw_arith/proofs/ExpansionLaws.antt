-- The value of a term's polynomial is the term's value.
use Rattle.std.proofs.Common.{◌≡◌, ℕ, zero, suc, Bool, true, false, cond, ℤ, pos, negsuc, neg_ℤ, ◌+ℤ◌, ◌-ℤ◌, ◌*ℤ◌, List, [], ◌∷◌, map, refl, sym, ◌∙◌, ap, subst, arith}
use Rattle.std.proofs.lemmas.Int.{ints}
use Rattle.std.proofs.Math.IntN.{*ℤ_comm}
use Rattle.rw_terms.specs.declared.term.Term.{Term}
use Rattle.rw_terms.specs.declared.term.Term.TheVariants as v
use Rattle.rw_terms.specs.declared.term.Term.TheOpen.{Term-F}
use Rattle.rw_terms.specs.declared.term.Term.TheViews.{roll-Term}
use Rattle.rw_terms.specs.declared.term.Term.TheFolds.{map-Term, ind-Term, fold-roll-Term}
use Rattle.rw_terms.specs.State.{Value, Whole, whole, State, value_in}
use Rattle.rw_terms.specs.Value.{value_step, value_by}
use Rattle.rw_arith.specs.declared.poly.Summand.{Summand}
use Rattle.rw_arith.specs.declared.poly.Expansion.{Expansion}
use Rattle.rw_arith.specs.declared.poly.Expansion.TheVariants.{Polynomial, Unfit, Wide}
use Rattle.rw_arith.specs.Polynomials.{is_zero, sum, negated, difference, product}
use Rattle.rw_arith.specs.Expanded.{constant, atom, expand_step, expanded}
use Rattle.rw_arith.specs.Values.{polynomial_value, IfPolynomial}
use Rattle.rw_arith.specs.Laws.{ExpansionLaw}
use Rattle.rw_arith.proofs.Integers.{one_times}
use Rattle.rw_arith.proofs.Expanding.{paired, expands_layer}
use Rattle.rw_arith.proofs.Values.{zero_is, weaker, sum_value, negated_value, difference_value, product_value_is}

nothing_more : (n : ℤ) → n +ℤ pos 0 ≡ n
nothing_more n = omega (arith, ints)

pub times_one : (n : ℤ) → n *ℤ pos 1 ≡ n
times_one n = *ℤ_comm n (pos 1) ∙ one_times n

-- a number as a polynomial is worth it
pub constant_value : (of_atom : Term → ℤ) (n : ℤ) → IfPolynomial (constant n) (λ p. polynomial_value of_atom p ≡ n)
constant_value of_atom n = by_case (is_zero n) refl
  where
    by_case : (b : Bool) → is_zero n ≡ b → polynomial_value of_atom (cond b [] (record { times = n; atoms = [] } ∷ [])) ≡ n
    by_case true e = sym (zero_is n e)
    by_case false e = nothing_more (n *ℤ pos 1) ∙ times_one n

module _ (var init const : List ℕ → Value) (b : List Value) where
  abbrev step : Term-F Value → Value
  step = value_step var init const b

  abbrev value_of : Term → Value
  value_of = value_by var init const b

  abbrev of_atom : Term → ℤ
  of_atom t = whole (value_of t)

  abbrev worth : Expansion → ℤ → Type 0
  worth e z = IfPolynomial e (λ p. polynomial_value of_atom p ≡ z)

  abbrev Worth : Term → Type 0
  Worth t = worth (expanded t) (of_atom t)

  abbrev Layer : Type 0
  Layer = Term-F ((t : Term) × Worth t)

  abbrev under : Layer → Term-F Term
  under = map-Term ((t : Term) × Worth t) Term (λ e. e.0)

  atom_worth : (t : Term) → worth (atom t) (of_atom t)
  atom_worth t = nothing_more (pos 1 *ℤ (of_atom t *ℤ pos 1)) ∙ one_times (of_atom t *ℤ pos 1) ∙ times_one (of_atom t)

  -- an atom's value, by its layer
  atom_is : (t : Term) (x : Term-F Term) → roll-Term x ≡ t → worth (atom t) (whole (step (map-Term Term Value value_of x)))
  atom_is t x e = atom_worth t ∙ ap of_atom (sym e) ∙ ap whole (fold-roll-Term Value step x)

  worth_layer : (y : Layer) → worth (expand_step (map-Term Term (Term × Expansion) paired (under y))) (whole (step (map-Term Term Value value_of (under y))))
  worth_layer (Term-F.Lit n) = constant_value of_atom n
  worth_layer (Term-F.Var x) = atom_is (v.Var x) (Term-F.Var x) (v.rolls-Var x)
  worth_layer (Term-F.Init x) = atom_is (v.Init x) (Term-F.Init x) (v.rolls-Init x)
  worth_layer (Term-F.Const x) = atom_is (v.Const x) (Term-F.Const x) (v.rolls-Const x)
  worth_layer (Term-F.Bound k) = tt
  worth_layer (Term-F.Neg a) = negated_value of_atom (expanded a.0) (of_atom a.0) a.1
  worth_layer (Term-F.Add a c) = sum_value of_atom (expanded a.0) (expanded c.0) (of_atom a.0) (of_atom c.0) a.1 c.1
  worth_layer (Term-F.Sub a c) = difference_value of_atom (expanded a.0) (expanded c.0) (of_atom a.0) (of_atom c.0) a.1 c.1
  worth_layer (Term-F.Mul a c) = product_value_is of_atom (expanded a.0) (expanded c.0) (of_atom a.0) (of_atom c.0) a.1 c.1
  worth_layer (Term-F.Div a c) = atom_is (v.Div a.0 c.0) (Term-F.Div a.0 c.0) (v.rolls-Div a.0 c.0)
  worth_layer (Term-F.Mod a c) = atom_is (v.Mod a.0 c.0) (Term-F.Mod a.0 c.0) (v.rolls-Mod a.0 c.0)
  worth_layer (Term-F.Read a c) = atom_is (v.Read a.0 c.0) (Term-F.Read a.0 c.0) (v.rolls-Read a.0 c.0)
  worth_layer (Term-F.Put a c d) = tt
  worth_layer (Term-F.Fun f args) =
      let inner = map (λ (a : Term × Expansion). a.0) (map paired (map (λ (e : (t : Term) × Worth t). e.0) args)) in
      atom_is (v.Fun f inner) (Term-F.Fun f inner) (v.rolls-Fun f inner)

  worth_at : (y : Layer) → Worth (roll-Term (under y))
  worth_at y =
      let here = expand_step (map-Term Term (Term × Expansion) paired (under y)) in
      let there = whole (step (map-Term Term Value value_of (under y))) in
      let same : there ≡ of_atom (roll-Term (under y)) = sym (ap whole (fold-roll-Term Value step (under y))) in
      subst (λ e. worth e (of_atom (roll-Term (under y)))) (sym (expands_layer (under y))) (subst (worth here) same (worth_layer y))

  pub worth_of : (t : Term) → Worth t
  worth_of = ind-Term Worth (λ x y is. subst (λ z. Worth (roll-Term z)) is (worth_at y))

pub expansion_law : ExpansionLaw
expansion_law s0 s binders = worth_of (value_in s) (value_in s0) (value_in s) binders
