-- The rules of quantifiers.
use Rattle.std.specs.Prelude.{ℕ, Bool, true, false, ◌||◌, List, [], ◌∷◌, Option, Some, None}
use Rattle.std.specs.List.{list_any}
use Rattle.rw_terms.specs.declared.term.Sort.{Sort}
use Rattle.rw_terms.specs.declared.term.Term.{Term}
use Rattle.rw_terms.specs.declared.term.Term.TheVariants.{Var}
use Rattle.rw_terms.specs.declared.term.Formula.{Formula}
use Rattle.rw_terms.specs.declared.term.Formula.TheOpen.{Formula-F}
use Rattle.rw_terms.specs.declared.term.Formula.TheViews.{out-Formula}
use Rattle.rw_terms.specs.declared.sequent.Sequent.{Sequent}
use Rattle.rw_terms.specs.Mentions.{formulas_mention}
use Rattle.rw_terms.specs.Named.{Named, is_named}
use Rattle.rw_terms.specs.Rules.{is_of}
use Rattle.rw_subst.specs.Replaced.{opened}
use Rattle.rw_goals.specs.declared.added.Parts.{Parts}
use Rattle.rw_goals.specs.declared.added.Parts.TheVariants.{Fails, One}
use Rattle.rw_goals.specs.Causes as causes
use Rattle.rw_goals.specs.Premises.{Effect, on_left, on_right, numbered, principal, at_left, at_right}
use Rattle.rw_goals.specs.Cut.{is_large}
use Rattle.rw_goals.specs.Sorting.{sort_of}

-- a formula, unless it is past a limit
abbrev pub if_small : Bool → Formula → Option Formula
if_small true f = None
if_small false f = Some f

-- the body with a term for the binder, unless it is past a limit
abbrev pub instance : Formula → Term → Option Formula
instance body t = if_small (is_large (opened t body)) (opened t body)

-- the instance beside the quantifier
abbrev pub beside_left : Option Formula → Parts
beside_left None = Fails causes.too_large
beside_left (Some f) = One (on_left (f ∷ []))

abbrev pub beside_right : Option Formula → Parts
beside_right None = Fails causes.too_large
beside_right (Some f) = One (on_right (f ∷ []))

-- if the term is of the quantifier's sort
abbrev pub typed_left : Bool → Option Formula → Parts
typed_left false o = Fails causes.sort
typed_left true o = beside_left o

abbrev pub typed_right : Bool → Option Formula → Parts
typed_right false o = Fails causes.sort
typed_right true o = beside_right o

-- the instance by a term over the names, on the left of a universal and on the right of an existential formula
abbrev pub all_left : List Named → Term → Formula-F Formula → Parts
all_left names t (Formula-F.All sort body) = typed_left (is_of sort (sort_of names [] t)) (instance body t)
all_left names t _ = Fails causes.shape

abbrev pub any_right : List Named → Term → Formula-F Formula → Parts
any_right names t (Formula-F.Any sort body) = typed_right (is_of sort (sort_of names [] t)) (instance body t)
any_right names t _ = Fails causes.shape

-- the quantified formula stays
abbrev pub all_at_left : Sequent → ℕ → Term → Effect
all_at_left q i t = principal (numbered q.left i) q (λ f. all_left q.names t (out-Formula f))

-- the same on the right
abbrev pub any_at_right : Sequent → ℕ → Term → Effect
any_at_right q j t = principal (numbered q.right j) q (λ f. any_right q.names t (out-Formula f))

-- a name of the goal, or free in it
abbrev pub is_known : List ℕ → Sequent → Bool
is_known y q = list_any (is_named y) q.names || (formulas_mention y q.left || formulas_mention y q.right)

-- the instance in place of the quantifier, with the new name
abbrev pub new_left : List ℕ → Sort → Option Formula → Parts
new_left y sort None = Fails causes.too_large
new_left y sort (Some f) = One (record { names = (y, sort) ∷ []; left = f ∷ []; right = [] })

abbrev pub new_right : List ℕ → Sort → Option Formula → Parts
new_right y sort None = Fails causes.too_large
new_right y sort (Some f) = One (record { names = (y, sort) ∷ []; left = []; right = f ∷ [] })

-- if the name is not known
abbrev pub fresh_left : Bool → List ℕ → Sort → Option Formula → Parts
fresh_left true y sort o = Fails causes.not_fresh
fresh_left false y sort o = new_left y sort o

abbrev pub fresh_right : Bool → List ℕ → Sort → Option Formula → Parts
fresh_right true y sort o = Fails causes.not_fresh
fresh_right false y sort o = new_right y sort o

-- the instance by a fresh name, on the right of a universal and on the left of an existential formula
abbrev pub all_right : Bool → List ℕ → Formula-F Formula → Parts
all_right known y (Formula-F.All sort body) = fresh_right known y sort (instance body (Var y))
all_right known y _ = Fails causes.shape

abbrev pub any_left : Bool → List ℕ → Formula-F Formula → Parts
any_left known y (Formula-F.Any sort body) = fresh_left known y sort (instance body (Var y))
any_left known y _ = Fails causes.shape

-- the quantified formula is taken out
abbrev pub all_at_right : Sequent → ℕ → List ℕ → Effect
all_at_right q j y = at_right q j (λ f. all_right (is_known y q) y (out-Formula f))

-- the same on the left
abbrev pub any_at_left : Sequent → ℕ → List ℕ → Effect
any_at_left q i y = at_left q i (λ f. any_left (is_known y q) y (out-Formula f))
