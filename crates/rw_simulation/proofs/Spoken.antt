-- Where formulas hold that speak of given names.
use Rattle.std.proofs.Common.{◌≡◌, ◌↔◌, refl, sym, ap, ◌∙◌, subst, true, List, [], ◌∷◌, map, Option, Some, None, true≢false}
use Rattle.std.specs.Prelude.{bytes_eq}
use Rattle.rw_terms.specs.declared.scope.Entry.{Entry}
use Rattle.rw_terms.specs.declared.term.Term.TheVariants as v
use Rattle.rw_terms.specs.declared.term.Formula.{Formula}
use Rattle.rw_terms.specs.declared.term.Formula.TheVariants as formula
use Rattle.rw_terms.specs.declared.term.Formula.TheOpen.{Formula-F}
use Rattle.rw_terms.specs.State.{Value, given, FitsEntry}
use Rattle.rw_terms.specs.Truth.{Definition}
use Rattle.rw_terms.specs.Validity.{Each}
use Rattle.rw_subst.specs.declared.slot.Form.{Form}
use Rattle.rw_subst.specs.declared.slot.Form.TheVariants as form
use Rattle.rw_subst.specs.Conj.{conj_with}
use Rattle.rw_subst.specs.Looks.{Looks, holds_of}
use Rattle.rw_subst.specs.Stands.{stands_in}
use Rattle.rw_subst.proofs.ClosedTerms.{plain_value}
use Rattle.rw_programs.specs.State.{Name, is_in}
use Rattle.rw_derived.specs.Derived.{keeps_value}
use Rattle.rw_meaning.proofs.Tests.{same_bytes}
use Rattle.rw_modules.proofs.Binders.{formed_same}
use Rattle.rw_modules.proofs.Quantifying.{layer_of, of_layer}
use Rattle.rw_simulation.specs.Concrete.{Speaks}
use Rattle.rw_simulation.proofs.Lists.{either}

-- look-ups that agree on the names, whatever the binders are
pub spoken_same : (names befores : List Name) (f : Formula) → Speaks names befores f → (definitions : List Definition) (looks there : Looks) → ((x : Name) → is_in x names ≡ true → looks form.Variable x ≡ there form.Variable x)
    → ((x : Name) → is_in x befores ≡ true → looks form.Initial x ≡ there form.Initial x) → (b b' : List Value) → holds_of definitions looks f b ↔ holds_of definitions there f b'
spoken_same names befores f speaks definitions looks there variables befores_same b b' = formed_same speaks.scope looks there speaks.heads definitions f speaks.keeps agree b b'
  where
    agree : (g : Form) (x : Name) → stands_in g x f ≡ true → looks g x ≡ there g x
    agree form.Variable x h = variables x (speaks.variable x h)
    agree form.Initial x h = befores_same x (speaks.initial x h)
    agree form.Constant x h = absurd (speaks.constant x h)

module _ (definitions : List Definition) (looks : Looks) (b : List Value) where
  pub and_holds : (f g : Formula) → holds_of definitions looks (formula.And f g) b → holds_of definitions looks f b × holds_of definitions looks g b
  and_holds f g h = layer_of definitions looks (Formula-F.And f g) (formula.And f g) b (formula.rolls-And f g) h

  pub holds_and : (f g : Formula) → holds_of definitions looks f b × holds_of definitions looks g b → holds_of definitions looks (formula.And f g) b
  holds_and f g h = of_layer definitions looks (Formula-F.And f g) (formula.And f g) b (formula.rolls-And f g) h

  pub imp_holds : (f g : Formula) → holds_of definitions looks (formula.Imp f g) b → holds_of definitions looks f b → holds_of definitions looks g b
  imp_holds f g h = layer_of definitions looks (Formula-F.Imp f g) (formula.Imp f g) b (formula.rolls-Imp f g) h

  -- the parts of formulas that are joined
  pub conj_parts : (f : Formula) (fs : List Formula) → holds_of definitions looks (conj_with f fs) b → holds_of definitions looks f b × Each (λ g. holds_of definitions looks g b) fs
  conj_parts f [] h = (h, tt)
  conj_parts f (g ∷ gs) h = let r = conj_parts (formula.And f g) gs h in let p = and_holds f g r.0 in (p.0, (p.1, r.1))

  -- what is said to keep its value has its first value
  kept_value : (x : Name) → holds_of definitions looks (keeps_value x) b → looks form.Variable x ≡ looks form.Initial x
  kept_value x h =
      sym (plain_value looks b form.Variable x)
      ∙ (layer_of definitions looks (Formula-F.Eq (v.Var x) (v.Init x)) (keeps_value x) b (formula.rolls-Eq (v.Var x) (v.Init x)) h ∙ plain_value looks b form.Initial x)

  pub each_kept : (xs : List Name) → Each (λ g. holds_of definitions looks g b) (map keeps_value xs) → (x : Name) → is_in x xs ≡ true → looks form.Variable x ≡ looks form.Initial x
  each_kept [] h x i = absurd (true≢false (sym i))
  each_kept (y ∷ xs) h x i =
      either (looks form.Variable x ≡ looks form.Initial x) (bytes_eq x y) (is_in x xs) (λ e. subst (λ z. looks form.Variable z ≡ looks form.Initial z) (sym (same_bytes x y e)) (kept_value y h.0)) (each_kept xs h.1 x) i

-- values of one entry that are given as one are one
pub same_given : (o : Option Entry) (u w : Option Value) → FitsEntry o u → FitsEntry o w → given u ≡ given w → u ≡ w
same_given None None None a b e = refl
same_given None None (Some z) a b e = absurd b
same_given None (Some z) w a b e = absurd a
same_given (Some o) None w a b e = absurd a
same_given (Some o) (Some z) None a b e = absurd b
same_given (Some o) (Some y) (Some z) a b e = ap Some e
