-- What each rule puts for the names and the binders.
use Rattle.std.specs.Prelude.{◌≡◌, map}
use Rattle.rw_subst.specs.declared.rule.Rule.{Rule}
use Rattle.rw_subst.specs.declared.rule.Rule.TheVariants.{Replace, Open, Close}
use Rattle.rw_subst.specs.Leaves.{Leaves}
use Rattle.rw_subst.specs.Replaced.{changed_leaves, opened_leaves, closed_leaves}
use Rattle.rw_subst.specs.Sizes.{term_size}

abbrev pub leaves_of : Rule → Leaves
leaves_of (Replace changes sizes) = changed_leaves changes.now
leaves_of (Open term size) = opened_leaves term.now
leaves_of (Close slot) = closed_leaves slot.now

-- the sizes beside the terms are theirs
abbrev pub IsMeasured : Rule → Type 0
IsMeasured (Replace changes sizes) = sizes.now ≡ map (λ c. term_size c.term) changes.now
IsMeasured (Open term size) = size ≡ term_size term.now
IsMeasured (Close slot) = Unit {0}
