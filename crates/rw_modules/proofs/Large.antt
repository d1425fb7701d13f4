-- How large the formulas of concrete heads are.
use Rattle.std.proofs.Common.{◌≡◌, ◌≤◌, ◌<◌, ◌⊎◌, inl, inr, ℕ, ◌+◌, min, max, Bool, true, false, if◌then◌else◌, List, [], ◌∷◌, map, drop, length, length-drop, refl, ap, ◌∙◌, ◌-◌, subst, arith}
use Rattle.std.proofs.lemmas.Bool.{and_parts, leb-true}
use Rattle.rw_terms.specs.declared.term.Term.{Term}
use Rattle.rw_terms.specs.declared.term.Term.TheVariants as term
use Rattle.rw_terms.specs.declared.term.Formula.{Formula}
use Rattle.rw_terms.specs.declared.term.Formula.TheVariants as formula
use Rattle.rw_terms.specs.declared.term.Formula.TheOpen.{Formula-F}
use Rattle.rw_terms.specs.Size.{formula_weight, formula_depth}
use Rattle.rw_terms.specs.WellFormed.{IsSmallFormula}
use Rattle.rw_faults.specs.Limits.{is_light, is_shallow, is_small}
use Rattle.rw_subst.specs.declared.error.SubstError.{SubstError}
use Rattle.rw_subst.specs.declared.error.SubstError.TheVariants as subst_error
use Rattle.rw_subst.specs.declared.slot.Form.{Form}
use Rattle.rw_subst.specs.declared.slot.Form.TheVariants as form
use Rattle.rw_subst.specs.declared.slot.Slot.{Slot}
use Rattle.rw_subst.specs.Limits.{IsFormulaRefusal}
use Rattle.rw_subst.specs.Slots.{is_slot, plain, changed}
use Rattle.rw_subst.specs.Replaced.{changed_leaves, closed_leaves, closed, replaced_formula, to_initial}
use Rattle.rw_programs.specs.declared.prog.Param.{Param}
use Rattle.rw_programs.specs.State.{Name}
use Rattle.rw_modules.specs.declared.sizes.Size.{Size}
use Rattle.rw_modules.specs.Sizes.{size_of}
use Rattle.rw_modules.specs.Quantified.{for_all, for_some}
use Rattle.rw_modules.proofs.AsLarge.{IsSingle, AreSingle, variable_single, initial_single, constant_single, binder_single, formula_weighs, formula_reaches, formula_as_large}

plain_single : (g : Form) (x : Name) → IsSingle (plain g x)
plain_single form.Variable x = variable_single x
plain_single form.Initial x = initial_single x
plain_single form.Constant x = constant_single x

closed_single : (s : Slot) → AreSingle (closed_leaves s)
closed_single s = record { names = λ k g x. go k g x (is_slot g x s); binders = λ k j. binder_single j }
  where
    go : (k : ℕ) (g : Form) (x : Name) (b : Bool) → IsSingle (if b then term.Bound k else plain g x)
    go k g x true = binder_single k
    go k g x false = plain_single g x

before_single : (frame : List Name) → AreSingle (changed_leaves (map to_initial frame))
before_single frame = record { names = λ k g x. go frame g x; binders = λ k j. binder_single j }
  where
    at : (g : Form) (x y : Name) (t : Term) (b : Bool) → IsSingle t → IsSingle (if b then term.Init y else t)
    at g x y t true h = initial_single y
    at g x y t false h = h

    go : (frame : List Name) (g : Form) (x : Name) → IsSingle (changed (map to_initial frame) g x)
    go [] g x = plain_single g x
    go (y ∷ frame) g x = at g x y (changed (map to_initial frame) g x) (is_slot g x (to_initial y).slot) (go frame g x)

-- a closed formula is as large
pub closed_weight : (s : Slot) (f : Formula) → formula_weight (closed s f) ≡ formula_weight f
closed_weight s f = (formula_as_large (closed_leaves s) (closed_single s) f 0).0

pub closed_depth : (s : Slot) (f : Formula) → formula_depth (closed s f) ≡ formula_depth f
closed_depth s f = (formula_as_large (closed_leaves s) (closed_single s) f 0).1

-- so is one that is said of the state before
pub initial_weight : (frame : List Name) (f : Formula) → formula_weight (replaced_formula (map to_initial frame) f) ≡ formula_weight f
initial_weight frame f = (formula_as_large (changed_leaves (map to_initial frame)) (before_single frame) f 0).0

pub initial_depth : (frame : List Name) (f : Formula) → formula_depth (replaced_formula (map to_initial frame) f) ≡ formula_depth f
initial_depth frame f = (formula_as_large (changed_leaves (map to_initial frame)) (before_single frame) f 0).1

module _ (slot : Name → Slot) where
  -- each name adds one part, above all others
  pub some_weight : (ps : List Param) (f : Formula) → formula_weight (for_some slot ps f) ≡ length ps + formula_weight f
  some_weight [] f = omega arith
  some_weight (p ∷ ps) f =
      let n = formula_weighs (Formula-F.Any p.sort (closed (slot p.name) (for_some slot ps f))) _ _ (formula.rolls-Any p.sort (closed (slot p.name) (for_some slot ps f))) refl in
      omega (arith, n, closed_weight (slot p.name) (for_some slot ps f), some_weight ps f)

  pub some_depth : (ps : List Param) (f : Formula) → formula_depth (for_some slot ps f) ≡ length ps + formula_depth f
  some_depth [] f = omega arith
  some_depth (p ∷ ps) f =
      let n = formula_reaches (Formula-F.Any p.sort (closed (slot p.name) (for_some slot ps f))) _ _ (formula.rolls-Any p.sort (closed (slot p.name) (for_some slot ps f))) refl in
      omega (arith, n, closed_depth (slot p.name) (for_some slot ps f), some_depth ps f)

  pub all_weight : (ps : List Param) (f : Formula) → formula_weight (for_all slot ps f) ≡ length ps + formula_weight f
  all_weight [] f = omega arith
  all_weight (p ∷ ps) f =
      let n = formula_weighs (Formula-F.All p.sort (closed (slot p.name) (for_all slot ps f))) _ _ (formula.rolls-All p.sort (closed (slot p.name) (for_all slot ps f))) refl in
      omega (arith, n, closed_weight (slot p.name) (for_all slot ps f), all_weight ps f)

  pub all_depth : (ps : List Param) (f : Formula) → formula_depth (for_all slot ps f) ≡ length ps + formula_depth f
  all_depth [] f = omega arith
  all_depth (p ∷ ps) f =
      let n = formula_reaches (Formula-F.All p.sort (closed (slot p.name) (for_all slot ps f))) _ _ (formula.rolls-All p.sort (closed (slot p.name) (for_all slot ps f))) refl in
      omega (arith, n, closed_depth (slot p.name) (for_all slot ps f), all_depth ps f)

pub and_weight : (f g : Formula) → formula_weight (formula.And f g) ≡ formula_weight f + formula_weight g + 1
and_weight f g = formula_weighs (Formula-F.And f g) _ _ (formula.rolls-And f g) refl

pub and_depth : (f g : Formula) → formula_depth (formula.And f g) ≡ max (formula_depth f) (formula_depth g) + 1
and_depth f g = formula_reaches (Formula-F.And f g) _ _ (formula.rolls-And f g) refl

pub imp_weight : (f g : Formula) → formula_weight (formula.Imp f g) ≡ formula_weight f + formula_weight g + 1
imp_weight f g = formula_weighs (Formula-F.Imp f g) _ _ (formula.rolls-Imp f g) refl

pub imp_depth : (f g : Formula) → formula_depth (formula.Imp f g) ≡ max (formula_depth f) (formula_depth g) + 1
imp_depth f g = formula_reaches (Formula-F.Imp f g) _ _ (formula.rolls-Imp f g) refl

-- the size of a formula under as many quantifiers, as it is reckoned
pub under_size : (n : ℕ) (f g : Formula) (a s : Size) → a ≡ size_of f → formula_weight g ≡ n + formula_weight f → formula_depth g ≡ n + formula_depth f
    → s.weight ≡ min (n + a.weight) 4294967295 → s.depth ≡ min (n + a.depth) 4294967295 → s ≡ size_of g
under_size n f g a s is heavy deep w d =
    let aw : a.weight ≡ min (formula_weight f) 4294967295 = ap (λ z. z.weight) is in
    let ad : a.depth ≡ min (formula_depth f) 4294967295 = ap (λ z. z.depth) is in
    let weight : s.weight ≡ min (formula_weight g) 4294967295 = omega (arith, aw, heavy, w) in
    let depth : s.depth ≡ min (formula_depth g) 4294967295 = omega (arith, ad, deep, d) in
    λ i. record { weight = weight i; depth = depth i }

-- the size of two formulas joined, as it is reckoned
pub joined_size : (f g h : Formula) (a b s : Size) → a ≡ size_of f → b ≡ size_of g → formula_weight h ≡ formula_weight f + formula_weight g + 1 → formula_depth h ≡ max (formula_depth f) (formula_depth g) + 1
    → s.weight ≡ min (a.weight + b.weight + 1) 4294967295 → s.depth ≡ min (max a.depth b.depth + 1) 4294967295 → s ≡ size_of h
joined_size f g h a b s is also heavy deep w d =
    let aw : a.weight ≡ min (formula_weight f) 4294967295 = ap (λ z. z.weight) is in
    let ad : a.depth ≡ min (formula_depth f) 4294967295 = ap (λ z. z.depth) is in
    let bw : b.weight ≡ min (formula_weight g) 4294967295 = ap (λ z. z.weight) also in
    let bd : b.depth ≡ min (formula_depth g) 4294967295 = ap (λ z. z.depth) also in
    let weight : s.weight ≡ min (formula_weight h) 4294967295 = omega (arith, aw, bw, heavy, w) in
    let depth : s.depth ≡ min (formula_depth h) 4294967295 = omega (arith, ad, bd, deep, d) in
    λ i. record { weight = weight i; depth = depth i }

-- within the limits by the test
pub within : (f : Formula) → is_small f ≡ true → IsSmallFormula f
within f e = let p = and_parts (is_light f) (is_shallow f) e in (leb-true _ _ p.0, leb-true _ _ p.1)

-- what stands under quantifiers that are within the limits is within them
pub some_room : (slot : Name → Slot) (ps : List Param) (f : Formula) → IsSmallFormula (for_some slot ps f) → (length ps + formula_weight f ≤ 1024) × (length ps + formula_depth f ≤ 64)
some_room slot ps f h = (subst (λ n. n ≤ 1024) (some_weight slot ps f) h.0, subst (λ n. n ≤ 64) (some_depth slot ps f) h.1)

pub all_room : (slot : Name → Slot) (ps : List Param) (f : Formula) → IsSmallFormula (for_all slot ps f) → (length ps + formula_weight f ≤ 1024) × (length ps + formula_depth f ≤ 64)
all_room slot ps f h = (subst (λ n. n ≤ 1024) (all_weight slot ps f) h.0, subst (λ n. n ≤ 64) (all_depth slot ps f) h.1)

-- what is as large as something within the limits is not refused as too large
pub not_refused : (f g : Formula) (e : SubstError) (w : ℕ) → formula_weight g ≡ formula_weight f → formula_depth g ≡ formula_depth f → IsSmallFormula f → e ≡ subst_error.TooLarge w → IsFormulaRefusal g e → ⊥
not_refused f g e w heavy deep small is refusal = go (subst (IsFormulaRefusal g) is refusal).1
  where
    go : (1024 < formula_weight g) ⊎ (64 < formula_depth g) → ⊥
    go (inl h) = omega (arith, heavy, small.0, h)
    go (inr h) = omega (arith, deep, small.1, h)

-- so is it under the last of these quantifiers
pub some_later : (slot : Name → Slot) (ps : List Param) (f g : Formula) (n : ℕ) → length ps + formula_weight f ≤ 1024 → length ps + formula_depth f ≤ 64 → g ≡ for_some slot (drop n ps) f → IsSmallFormula g
some_later slot ps f g n w d is =
    let weight : formula_weight g ≡ length (drop n ps) + formula_weight f = ap formula_weight is ∙ some_weight slot (drop n ps) f in
    let depth : formula_depth g ≡ length (drop n ps) + formula_depth f = ap formula_depth is ∙ some_depth slot (drop n ps) f in
    let rest : length (drop n ps) ≡ length ps - n = length-drop n ps in
    (omega (arith, weight, rest, w), omega (arith, depth, rest, d))

pub all_later : (slot : Name → Slot) (ps : List Param) (f g : Formula) (n : ℕ) → length ps + formula_weight f ≤ 1024 → length ps + formula_depth f ≤ 64 → g ≡ for_all slot (drop n ps) f → IsSmallFormula g
all_later slot ps f g n w d is =
    let weight : formula_weight g ≡ length (drop n ps) + formula_weight f = ap formula_weight is ∙ all_weight slot (drop n ps) f in
    let depth : formula_depth g ≡ length (drop n ps) + formula_depth f = ap formula_depth is ∙ all_depth slot (drop n ps) f in
    let rest : length (drop n ps) ≡ length ps - n = length-drop n ps in
    (omega (arith, weight, rest, w), omega (arith, depth, rest, d))
