-- What holds of the table of operators.
use Rattle.std.proofs.Common.{◌≡◌, ℕ, ◌≤◌, ◌<◌, Bool, true, false, cond, List, [], ◌∷◌, refl, arith, ◌⊎◌, inl, inr}
use Rattle.rw_syntax.specs.declared.token.Infix.{Infix}
use Rattle.rw_syntax.specs.declared.token.Infix.TheVariants as infixes
use Rattle.rw_syntax.specs.declared.frame.Prefix.{Prefix}
use Rattle.rw_syntax.specs.declared.frame.Prefix.TheVariants as prefixes
use Rattle.rw_syntax.specs.declared.frame.Head.{Head}
use Rattle.rw_syntax.specs.declared.frame.Head.TheVariants as heads
use Rattle.rw_syntax.specs.declared.frame.Frame.{Frame}
use Rattle.rw_syntax.specs.declared.frame.Frame.TheVariants as frames
use Rattle.rw_syntax.specs.Grammar.{number, word, initial, place, truth, Tree, leaf, prefix, binary, group, index, call, level, level_of, left_of, right_of, prefix_level, head_level, is_upper}
use Rattle.rw_syntax.specs.Machine.{hole, frame_level, frame_hole}
use Rattle.rw_syntax.proofs.Choices.{shut_least}

pub record Facts (op : Infix) : Type 0 where
  pub below : level_of op ≤ left_of op
  pub most : level_of op ≤ 7
  pub above_not : 4 ≤ level_of op → 4 < left_of op
  pub least : 1 < left_of op
  pub positive : 1 ≤ level_of op
  pub right_positive : 1 ≤ right_of op
  pub right_most : right_of op ≤ 9
  -- it is looser than its right operand, or is the implication
  pub right : (level_of op < right_of op) ⊎ (level_of op ≡ 1)

pub facts : (op : Infix) → Facts op
facts infixes.Implies = record { below = omega arith; most = omega arith; above_not = λ h. omega arith; least = omega arith; positive = omega arith; right_positive = omega arith; right_most = omega arith; right = inr refl }
facts infixes.Or = record { below = omega arith; most = omega arith; above_not = λ h. omega arith; least = omega arith; positive = omega arith; right_positive = omega arith; right_most = omega arith; right = inl (omega arith) }
facts infixes.And = record { below = omega arith; most = omega arith; above_not = λ h. omega arith; least = omega arith; positive = omega arith; right_positive = omega arith; right_most = omega arith; right = inl (omega arith) }
facts infixes.Equal = record { below = omega arith; most = omega arith; above_not = λ h. omega arith; least = omega arith; positive = omega arith; right_positive = omega arith; right_most = omega arith; right = inl (omega arith) }
facts infixes.Unequal = record { below = omega arith; most = omega arith; above_not = λ h. omega arith; least = omega arith; positive = omega arith; right_positive = omega arith; right_most = omega arith; right = inl (omega arith) }
facts infixes.Less = record { below = omega arith; most = omega arith; above_not = λ h. omega arith; least = omega arith; positive = omega arith; right_positive = omega arith; right_most = omega arith; right = inl (omega arith) }
facts infixes.AtMost = record { below = omega arith; most = omega arith; above_not = λ h. omega arith; least = omega arith; positive = omega arith; right_positive = omega arith; right_most = omega arith; right = inl (omega arith) }
facts infixes.Greater = record { below = omega arith; most = omega arith; above_not = λ h. omega arith; least = omega arith; positive = omega arith; right_positive = omega arith; right_most = omega arith; right = inl (omega arith) }
facts infixes.AtLeast = record { below = omega arith; most = omega arith; above_not = λ h. omega arith; least = omega arith; positive = omega arith; right_positive = omega arith; right_most = omega arith; right = inl (omega arith) }
facts infixes.Plus = record { below = omega arith; most = omega arith; above_not = λ h. omega arith; least = omega arith; positive = omega arith; right_positive = omega arith; right_most = omega arith; right = inl (omega arith) }
facts infixes.Minus = record { below = omega arith; most = omega arith; above_not = λ h. omega arith; least = omega arith; positive = omega arith; right_positive = omega arith; right_most = omega arith; right = inl (omega arith) }
facts infixes.Times = record { below = omega arith; most = omega arith; above_not = λ h. omega arith; least = omega arith; positive = omega arith; right_positive = omega arith; right_most = omega arith; right = inl (omega arith) }
facts infixes.Div = record { below = omega arith; most = omega arith; above_not = λ h. omega arith; least = omega arith; positive = omega arith; right_positive = omega arith; right_most = omega arith; right = inl (omega arith) }
facts infixes.Mod = record { below = omega arith; most = omega arith; above_not = λ h. omega arith; least = omega arith; positive = omega arith; right_positive = omega arith; right_most = omega arith; right = inl (omega arith) }

infix_looser : (op o : Infix) → (level_of o < right_of o) ⊎ (level_of o ≡ 1) → right_of o ≤ level_of op → level_of o < left_of op
infix_looser op o (inl e) h = let a = (facts op).below in omega arith
infix_looser op o (inr e) h = let a = (facts op).least in omega arith

prefix_looser : (op : Infix) (p : Prefix) → prefix_level p ≤ level_of op → prefix_level p < left_of op
prefix_looser op prefixes.Minus h = let a = (facts op).most in absurd (omega arith)
prefix_looser op prefixes.Not h = (facts op).above_not h
prefix_looser op (prefixes.Bind q b s) h = (facts op).least

-- a frame over which an operator may stand is looser than the operator's left operand
pub looser : (op : Infix) (f : Frame) → frame_hole f ≤ level_of op → frame_level f < left_of op
looser op (frames.Prefix p) h = prefix_looser op p h
looser op (frames.Infix o u c) h = infix_looser op o (facts o).right h
looser op (frames.Group only) h = let a = (facts op).least in omega arith
looser op (frames.Index u c) h = let a = (facts op).least in omega arith
looser op (frames.Call g us) h = let a = (facts op).least in omega arith

pub right_bound : (o : Infix) (bound n : ℕ) → bound ≤ level_of o → right_of o ≤ n → bound ≤ n
right_bound o bound n q z = right_bound_by o bound n q z (facts o).right
  where
    right_bound_by : (o : Infix) (bound n : ℕ) → bound ≤ level_of o → right_of o ≤ n → (level_of o < right_of o) ⊎ (level_of o ≡ 1) → bound ≤ n
    right_bound_by o bound n q z (inl e) = omega arith
    right_bound_by o bound n q z (inr e) = let w = (facts o).right_positive in omega arith

pub left_room : (o : Infix) (outer n : ℕ) → outer ≤ level_of o → left_of o ≤ n → outer ≤ n
left_room o outer n a b = let c = (facts o).below in omega arith

prefix_least : (p : Prefix) → (1 ≤ prefix_level p) × (prefix_level p ≤ 9)
prefix_least prefixes.Minus = (omega arith, omega arith)
prefix_least prefixes.Not = (omega arith, omega arith)
prefix_least (prefixes.Bind q b s) = (omega arith, omega arith)

pub upper_level : (b : Bool) → (5 ≤ cond b 5 9) × (cond b 5 9 ≤ 9)
upper_level true = (omega arith, omega arith)
upper_level false = (omega arith, omega arith)

pub head_bounds : (h : Head) → (5 ≤ head_level h) × (head_level h ≤ 9)
head_bounds heads.Put = (omega arith, omega arith)
head_bounds (heads.Named w) = upper_level (is_upper w)

pub level_least : (t : Tree) → 1 ≤ level t
level_least (leaf (number n)) = omega arith
level_least (leaf (word w)) = omega arith
level_least (leaf (initial w)) = omega arith
level_least (leaf (place n)) = omega arith
level_least (leaf (truth b)) = omega arith
level_least (prefix p t) = (prefix_least p).0
level_least (binary op l r) = (facts op).positive
level_least (group t) = let z = shut_least (level t) in omega arith
level_least (index t u) = omega arith
level_least (call h ts t) = let z = (head_bounds h).0 in omega arith

group_hole_most : (b : Bool) → cond b 6 1 ≤ 9
group_hole_most true = omega arith
group_hole_most false = omega arith

-- what is wanted is a level
pub hole_most : (goal : ℕ) (fs : List Frame) → goal ≤ 9 → hole goal fs ≤ 9
hole_most goal [] g = g
hole_most goal (frames.Prefix p ∷ fs) g = (prefix_least p).1
hole_most goal (frames.Infix op u c ∷ fs) g = (facts op).right_most
hole_most goal (frames.Group b ∷ fs) g = group_hole_most b
hole_most goal (frames.Index u c ∷ fs) g = omega arith
hole_most goal (frames.Call h us ∷ fs) g = omega arith
