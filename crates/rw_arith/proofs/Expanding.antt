-- The expansion of each kind of term.
use Rattle.std.proofs.Common.{◌≡◌, ◌⊎◌, inl, inr, ℕ, ℤ, List, [], ◌∷◌, map, sym, ap, ◌∙◌, refl, subst, Result, IfOk}
use Rattle.rw_terms.specs.declared.term.Term.{Term}
use Rattle.rw_terms.specs.declared.term.Term.TheVariants as v
use Rattle.rw_terms.specs.declared.term.Term.TheOpen.{Term-F}
use Rattle.rw_terms.specs.declared.term.Term.TheViews.{roll-Term}
use Rattle.rw_terms.specs.declared.term.Term.TheFolds.{map-Term, para-roll-Term}
use Rattle.rw_arith.specs.declared.poly.Expansion.{Expansion}
use Rattle.rw_arith.specs.declared.poly.Expansion.TheVariants.{Unfit}
use Rattle.rw_arith.specs.Polynomials.{sum, negated, difference, product}
use Rattle.rw_arith.specs.Expanded.{constant, atom, expand_step, expanded}

abbrev pub paired : Term → Term × Expansion
paired t = (t, expanded t)

pub expands_layer : (x : Term-F Term) → expanded (roll-Term x) ≡ expand_step (map-Term Term (Term × Expansion) paired x)
expands_layer x = para-roll-Term Expansion expand_step x

pub expands_lit : (n : ℤ) → expanded (v.Lit n) ≡ constant n
expands_lit n = ap expanded (sym (v.rolls-Lit n)) ∙ expands_layer (Term-F.Lit n)

pub expands_var : (x : List ℕ) → expanded (v.Var x) ≡ atom (v.Var x)
expands_var x = ap expanded (sym (v.rolls-Var x)) ∙ expands_layer (Term-F.Var x)

pub expands_init : (x : List ℕ) → expanded (v.Init x) ≡ atom (v.Init x)
expands_init x = ap expanded (sym (v.rolls-Init x)) ∙ expands_layer (Term-F.Init x)

pub expands_const : (x : List ℕ) → expanded (v.Const x) ≡ atom (v.Const x)
expands_const x = ap expanded (sym (v.rolls-Const x)) ∙ expands_layer (Term-F.Const x)

pub expands_bound : (k : ℕ) → expanded (v.Bound k) ≡ Unfit
expands_bound k = ap expanded (sym (v.rolls-Bound k)) ∙ expands_layer (Term-F.Bound k)

pub expands_neg : (a : Term) → expanded (v.Neg a) ≡ negated (expanded a)
expands_neg a = ap expanded (sym (v.rolls-Neg a)) ∙ expands_layer (Term-F.Neg a)

pub expands_add : (a b : Term) → expanded (v.Add a b) ≡ sum (expanded a) (expanded b)
expands_add a b = ap expanded (sym (v.rolls-Add a b)) ∙ expands_layer (Term-F.Add a b)

pub expands_sub : (a b : Term) → expanded (v.Sub a b) ≡ difference (expanded a) (expanded b)
expands_sub a b = ap expanded (sym (v.rolls-Sub a b)) ∙ expands_layer (Term-F.Sub a b)

pub expands_mul : (a b : Term) → expanded (v.Mul a b) ≡ product (expanded a) (expanded b)
expands_mul a b = ap expanded (sym (v.rolls-Mul a b)) ∙ expands_layer (Term-F.Mul a b)

pub expands_div : (a b : Term) → expanded (v.Div a b) ≡ atom (v.Div a b)
expands_div a b = ap expanded (sym (v.rolls-Div a b)) ∙ expands_layer (Term-F.Div a b)

pub expands_mod : (a b : Term) → expanded (v.Mod a b) ≡ atom (v.Mod a b)
expands_mod a b = ap expanded (sym (v.rolls-Mod a b)) ∙ expands_layer (Term-F.Mod a b)

pub expands_read : (a b : Term) → expanded (v.Read a b) ≡ atom (v.Read a b)
expands_read a b = ap expanded (sym (v.rolls-Read a b)) ∙ expands_layer (Term-F.Read a b)

pub expands_put : (a i e : Term) → expanded (v.Put a i e) ≡ Unfit
expands_put a i e = ap expanded (sym (v.rolls-Put a i e)) ∙ expands_layer (Term-F.Put a i e)

itself : (ts : List Term) → map (λ a. a.0) (map paired ts) ≡ ts
itself [] = refl
itself (t ∷ ts) = ap (λ us. t ∷ us) (itself ts)

pub expands_fun : (f : List ℕ) (args : List Term) → expanded (v.Fun f args) ≡ atom (v.Fun f args)
expands_fun f args = ap expanded (sym (v.rolls-Fun f args)) ∙ expands_layer (Term-F.Fun f args) ∙ ap (λ ts. atom (v.Fun f ts)) (itself args)

pub names_expand : (t : Term) → ((x : List ℕ) × (t ≡ v.Var x)) ⊎ (((x : List ℕ) × (t ≡ v.Init x)) ⊎ ((x : List ℕ) × (t ≡ v.Const x))) → atom t ≡ expanded t
names_expand t (inl h) = ap atom h.1 ∙ sym (expands_var h.0) ∙ ap expanded (sym h.1)
names_expand t (inr (inl h)) = ap atom h.1 ∙ sym (expands_init h.0) ∙ ap expanded (sym h.1)
names_expand t (inr (inr h)) = ap atom h.1 ∙ sym (expands_const h.0) ∙ ap expanded (sym h.1)

pub others_expand : (t : Term) →
    ((a : Term) × (b : Term) × (t ≡ v.Div a b))
    ⊎ (((a : Term) × (b : Term) × (t ≡ v.Mod a b)) ⊎ (((a : Term) × (b : Term) × (t ≡ v.Read a b)) ⊎ ((f : List ℕ) × (args : List Term) × (t ≡ v.Fun f args)))) → atom t ≡ expanded t
others_expand t (inl h) = ap atom h.2 ∙ sym (expands_div h.0 h.1) ∙ ap expanded (sym h.2)
others_expand t (inr (inl h)) = ap atom h.2 ∙ sym (expands_mod h.0 h.1) ∙ ap expanded (sym h.2)
others_expand t (inr (inr (inl h))) = ap atom h.2 ∙ sym (expands_read h.0 h.1) ∙ ap expanded (sym h.2)
others_expand t (inr (inr (inr h))) = ap atom h.2 ∙ sym (expands_fun h.0 h.1) ∙ ap expanded (sym h.2)

pub none_expands : (t : Term) → ((k : ℕ) × (t ≡ v.Bound k)) ⊎ ((a : Term) × (i : Term) × (e : Term) × (t ≡ v.Put a i e)) → Unfit ≡ expanded t
none_expands t (inl h) = sym (ap expanded h.1 ∙ expands_bound h.0)
none_expands t (inr h) = sym (ap expanded h.3 ∙ expands_put h.0 h.1 h.2)

-- an answer that is one expansion is the other
pub is_then : {E : Type 0} (r : Result Expansion E) (x y : Expansion) → x ≡ y → IfOk r (λ e. e ≡ x) → IfOk r (λ e. e ≡ y)
is_then r x y e h = subst (λ z. IfOk r (λ w. w ≡ z)) e h
