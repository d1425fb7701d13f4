-- What stands in a diminished specification that is within the limits is within them.
use Rattle.std.proofs.Common.{◌≡◌, ◌≤◌, ℕ, ◌+◌, max, Bool, true, List, map, length, ap, sym, ◌∙◌, subst, arith}
use Rattle.rw_terms.specs.declared.term.Formula.{Formula}
use Rattle.rw_terms.specs.declared.term.Formula.TheVariants as formula
use Rattle.rw_terms.specs.Size.{formula_weight, formula_depth}
use Rattle.rw_terms.specs.WellFormed.{IsSmallFormula}
use Rattle.rw_faults.specs.Limits.{is_small}
use Rattle.rw_subst.specs.declared.slot.Slot.TheVariants as slot
use Rattle.rw_subst.specs.Replaced.{replaced_formula, to_initial}
use Rattle.rw_programs.specs.declared.prog.Param.{Param}
use Rattle.rw_programs.specs.declared.prog.Spec.{Spec}
use Rattle.rw_heads.specs.declared.head.Module.{Module}
use Rattle.rw_modules.specs.Heads.{diminished, start_head}
use Rattle.rw_modules.specs.Quantified.{for_all, for_some}
use Rattle.rw_modules.proofs.Large.{within, some_room, all_room, some_weight, some_depth, initial_weight, initial_depth, imp_weight, imp_depth}

-- so many more parts, and so many more on the longest path, are within the limits
abbrev pub HasRoom : ℕ → Formula → Type 0
HasRoom n f = (n + formula_weight f ≤ 1024) × (n + formula_depth f ≤ 64)

pub room_for : (ps qs : List Param) (f g : Formula) → ps ≡ qs → f ≡ g → HasRoom (length qs) g → HasRoom (length ps) f
room_for ps qs f g same is h = subst (λ z. HasRoom (length ps) z) (sym is) (subst (λ z. HasRoom (length z) g) (sym same) h)

pub pre_room : (m : Module) (w : Spec) → is_small (diminished m w).pre ≡ true → HasRoom (length m.state) w.pre
pre_room m w e = some_room (λ x. slot.Var x) m.state w.pre (within (diminished m w).pre e)

pub start_room : (m : Module) → is_small (start_head m).post ≡ true → HasRoom (length m.state) (formula.And m.start m.coupling)
start_room m e = some_room (λ x. slot.Var x) m.state (formula.And m.start m.coupling) (within (start_head m).post e)

module _ (m : Module) (w : Spec) (e : is_small (diminished m w).post ≡ true) where
  abbrev old : Formula
  old = replaced_formula (map to_initial w.frame) w.pre

  abbrev after : Formula
  after = for_some (λ x. slot.Var x) m.state w.post

  pub gives_room : HasRoom (length m.state) (formula.Imp old after)
  gives_room = all_room (λ x. slot.Init x) m.state (formula.Imp old after) (within (diminished m w).post e)

  pub post_room : HasRoom (length m.state) w.post
  post_room = (
    omega (arith, gives_room.0, imp_weight old after, some_weight (λ x. slot.Var x) m.state w.post),
    omega (arith, gives_room.1, imp_depth old after, some_depth (λ x. slot.Var x) m.state w.post),
  )

  pub old_room : IsSmallFormula w.pre
  old_room = (
    omega (arith, gives_room.0, imp_weight old after, initial_weight w.frame w.pre),
    omega (arith, gives_room.1, imp_depth old after, initial_depth w.frame w.pre),
  )

-- the formula under the outer quantifiers, by its parts
pub gives_to : (m : Module) (w : Spec) (ps : List Param) (before reached after g : Formula) → before ≡ replaced_formula (map to_initial w.frame) w.pre → ps ≡ m.state → reached ≡ w.post → after ≡ for_some (λ x. slot.Var x) ps reached
    → g ≡ formula.Imp before after → g ≡ formula.Imp (replaced_formula (map to_initial w.frame) w.pre) (for_some (λ x. slot.Var x) m.state w.post)
gives_to m w ps before reached after g was same is quantified gives = gives ∙ λ i. formula.Imp (was i) ((quantified ∙ λ j. for_some (λ x. slot.Var x) (same j) (is j)) i)
