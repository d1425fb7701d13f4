-- The conditions of each kind of part.
use Rattle.std.proofs.Common.{◌≡◌, ◌⊎◌, inl, inr, ℕ, ℤ, List, [], ◌∷◌, ◌++◌, map, sym, ap, ◌∙◌, refl, append_assoc, Result, OnOk}
use Rattle.std.proofs.lemmas.Result.{on_ok_weaker}
use Rattle.rw_terms.specs.declared.term.Term.{Term}
use Rattle.rw_terms.specs.declared.term.Term.TheVariants as v
use Rattle.rw_terms.specs.declared.term.Term.TheOpen.{Term-F}
use Rattle.rw_terms.specs.declared.term.Term.TheViews.{roll-Term}
use Rattle.rw_terms.specs.declared.term.Term.TheFolds.{map-Term, para-roll-Term}
use Rattle.rw_terms.specs.declared.term.Formula.{Formula}
use Rattle.rw_terms.specs.declared.scope.Entry.{Entry}
use Rattle.rw_subst.specs.Definedness.{nonzero, in_range, appended, conditions_step, conditions, conditions_of}

module _ (scope : List Entry) where
  abbrev pub paired : Term → Term × List Formula
  paired t = (t, conditions scope t)

  pub asks_layer : (x : Term-F Term) → conditions scope (roll-Term x) ≡ conditions_step scope (map-Term Term (Term × List Formula) paired x)
  asks_layer x = para-roll-Term (List Formula) (conditions_step scope) x

  pub asks_lit : (n : ℤ) → conditions scope (v.Lit n) ≡ []
  asks_lit n = ap (conditions scope) (sym (v.rolls-Lit n)) ∙ asks_layer (Term-F.Lit n)

  pub asks_var : (x : List ℕ) → conditions scope (v.Var x) ≡ []
  asks_var x = ap (conditions scope) (sym (v.rolls-Var x)) ∙ asks_layer (Term-F.Var x)

  pub asks_init : (x : List ℕ) → conditions scope (v.Init x) ≡ []
  asks_init x = ap (conditions scope) (sym (v.rolls-Init x)) ∙ asks_layer (Term-F.Init x)

  pub asks_const : (x : List ℕ) → conditions scope (v.Const x) ≡ []
  asks_const x = ap (conditions scope) (sym (v.rolls-Const x)) ∙ asks_layer (Term-F.Const x)

  pub asks_bound : (k : ℕ) → conditions scope (v.Bound k) ≡ []
  asks_bound k = ap (conditions scope) (sym (v.rolls-Bound k)) ∙ asks_layer (Term-F.Bound k)

  pub asks_neg : (a : Term) → conditions scope (v.Neg a) ≡ conditions scope a
  asks_neg a = ap (conditions scope) (sym (v.rolls-Neg a)) ∙ asks_layer (Term-F.Neg a)

  pub asks_add : (a b : Term) → conditions scope (v.Add a b) ≡ conditions scope a ++ conditions scope b
  asks_add a b = ap (conditions scope) (sym (v.rolls-Add a b)) ∙ asks_layer (Term-F.Add a b)

  pub asks_sub : (a b : Term) → conditions scope (v.Sub a b) ≡ conditions scope a ++ conditions scope b
  asks_sub a b = ap (conditions scope) (sym (v.rolls-Sub a b)) ∙ asks_layer (Term-F.Sub a b)

  pub asks_mul : (a b : Term) → conditions scope (v.Mul a b) ≡ conditions scope a ++ conditions scope b
  asks_mul a b = ap (conditions scope) (sym (v.rolls-Mul a b)) ∙ asks_layer (Term-F.Mul a b)

  pub asks_div : (a b : Term) → conditions scope (v.Div a b) ≡ (conditions scope a ++ conditions scope b) ++ nonzero b ∷ []
  asks_div a b = ap (conditions scope) (sym (v.rolls-Div a b)) ∙ asks_layer (Term-F.Div a b)

  pub asks_mod : (a b : Term) → conditions scope (v.Mod a b) ≡ (conditions scope a ++ conditions scope b) ++ nonzero b ∷ []
  asks_mod a b = ap (conditions scope) (sym (v.rolls-Mod a b)) ∙ asks_layer (Term-F.Mod a b)

  pub asks_read : (a i : Term) → conditions scope (v.Read a i) ≡ (conditions scope a ++ conditions scope i) ++ in_range scope a i
  asks_read a i = ap (conditions scope) (sym (v.rolls-Read a i)) ∙ asks_layer (Term-F.Read a i)

  pub asks_put : (a i e : Term) → conditions scope (v.Put a i e) ≡ ((conditions scope a ++ conditions scope i) ++ conditions scope e) ++ in_range scope a i
  asks_put a i e = ap (conditions scope) (sym (v.rolls-Put a i e)) ∙ asks_layer (Term-F.Put a i e)

  asks_each : (ts : List Term) → map (λ a. a.1) (map paired ts) ≡ map (conditions scope) ts
  asks_each [] = refl
  asks_each (t ∷ ts) = ap (λ fs. conditions scope t ∷ fs) (asks_each ts)

  pub asks_fun : (f : List ℕ) (args : List Term) → conditions scope (v.Fun f args) ≡ conditions_of scope args
  asks_fun f args = ap (conditions scope) (sym (v.rolls-Fun f args)) ∙ asks_layer (Term-F.Fun f args) ∙ ap appended (asks_each args)

  -- the parts that have no condition of their own, nor a part that has
  pub asks_nothing :
      (t : Term) →
      ((n : ℤ) × (t ≡ v.Lit n)) ⊎ (((x : List ℕ) × (t ≡ v.Var x)) ⊎ (((x : List ℕ) × (t ≡ v.Init x)) ⊎ (((x : List ℕ) × (t ≡ v.Const x)) ⊎ ((k : ℕ) × (t ≡ v.Bound k))))) →
      conditions scope t ≡ []
  asks_nothing t (inl e) = ap (conditions scope) e.1 ∙ asks_lit e.0
  asks_nothing t (inr (inl e)) = ap (conditions scope) e.1 ∙ asks_var e.0
  asks_nothing t (inr (inr (inl e))) = ap (conditions scope) e.1 ∙ asks_init e.0
  asks_nothing t (inr (inr (inr (inl e)))) = ap (conditions scope) e.1 ∙ asks_const e.0
  asks_nothing t (inr (inr (inr (inr e)))) = ap (conditions scope) e.1 ∙ asks_bound e.0

  two : (a b a' b' : Term) → a' ≡ a → b' ≡ b → conditions scope a ++ conditions scope b ≡ conditions scope a' ++ conditions scope b'
  two a b a' b' p q = λ i. conditions scope (sym p i) ++ conditions scope (sym q i)

  pub asks_two : (t a b a' b' : Term) → (t ≡ v.Add a b) ⊎ ((t ≡ v.Sub a b) ⊎ (t ≡ v.Mul a b)) → a' ≡ a → b' ≡ b → conditions scope t ≡ conditions scope a' ++ conditions scope b'
  asks_two t a b a' b' (inl e) p q = ap (conditions scope) e ∙ asks_add a b ∙ two a b a' b' p q
  asks_two t a b a' b' (inr (inl e)) p q = ap (conditions scope) e ∙ asks_sub a b ∙ two a b a' b' p q
  asks_two t a b a' b' (inr (inr e)) p q = ap (conditions scope) e ∙ asks_mul a b ∙ two a b a' b' p q

  pub asks_quotient : (t a b a' b' b'' : Term) → (t ≡ v.Div a b) ⊎ (t ≡ v.Mod a b) → a' ≡ a → b' ≡ b → b'' ≡ b → conditions scope t ≡ (conditions scope a' ++ conditions scope b') ++ nonzero b'' ∷ []
  asks_quotient t a b a' b' b'' (inl e) p q r = ap (conditions scope) e ∙ asks_div a b ∙ (λ i. two a b a' b' p q i ++ nonzero (sym r i) ∷ [])
  asks_quotient t a b a' b' b'' (inr e) p q r = ap (conditions scope) e ∙ asks_mod a b ∙ (λ i. two a b a' b' p q i ++ nonzero (sym r i) ∷ [])

-- what was found, and more behind it
pub found_both : {X : Type 0} (f0 f1 f2 xs ys : List X) → f1 ≡ f0 ++ xs → f2 ≡ f1 ++ ys → f2 ≡ f0 ++ (xs ++ ys)
found_both f0 f1 f2 xs ys e e' = e' ∙ ap (λ f. f ++ ys) e ∙ append_assoc f0 xs ys

pub found_is : {X E : Type 0} (r : Result (Unit {0}) E) (f0 new xs zs : List X) → zs ≡ xs → OnOk r (new ≡ f0 ++ xs) → OnOk r (new ≡ f0 ++ zs)
found_is r f0 new xs zs z = on_ok_weaker r (λ e. e ∙ ap (λ w. f0 ++ w) (sym z))

pub found_behind : {X E : Type 0} (r : Result (Unit {0}) E) (f0 f1 new xs ys zs : List X) → f1 ≡ f0 ++ xs → zs ≡ xs ++ ys → OnOk r (new ≡ f1 ++ ys) → OnOk r (new ≡ f0 ++ zs)
found_behind r f0 f1 new xs ys zs e z = on_ok_weaker r (λ e'. found_both f0 f1 new xs ys e e' ∙ ap (λ w. f0 ++ w) (sym z))
