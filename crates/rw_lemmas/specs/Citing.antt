-- The lemmas that a certificate cites, and the definitions that it may unfold.
use Rattle.std.specs.Prelude.{ℕ, Bool, true, false, if◌then◌else◌, List, [], ◌∷◌, ◌++◌}
use Rattle.std.specs.List.{list_any}
use Rattle.rw_terms.specs.declared.term.Formula.{Formula}
use Rattle.rw_terms.specs.declared.term.Formula.TheOpen.{Formula-F}
use Rattle.rw_terms.specs.declared.term.Formula.TheFolds.{fold-Formula}
use Rattle.rw_faults.specs.Initial.{is_listed}
use Rattle.rw_sequents.specs.declared.line.Cert.{Cert}
use Rattle.rw_sequents.specs.declared.line.CertLine.{CertLine}
use Rattle.rw_sequents.specs.declared.line.CertLine.TheVariants as line

-- the predicates of a formula in preorder
abbrev pub predicates_step : Formula-F (List (List ℕ)) → List (List ℕ)
predicates_step Formula-F.True = []
predicates_step Formula-F.False = []
predicates_step (Formula-F.Eq s t) = []
predicates_step (Formula-F.Less s t) = []
predicates_step (Formula-F.AtMost s t) = []
predicates_step (Formula-F.Not f) = f
predicates_step (Formula-F.And f g) = f ++ g
predicates_step (Formula-F.Or f g) = f ++ g
predicates_step (Formula-F.Imp f g) = f ++ g
predicates_step (Formula-F.All _ f) = f
predicates_step (Formula-F.Any _ f) = f
predicates_step (Formula-F.App p args) = p ∷ []

abbrev pub predicates : Formula → List (List ℕ)
predicates = fold-Formula (List (List ℕ)) predicates_step

abbrev pub is_unfolding : CertLine → Bool
is_unfolding (line.UnfoldL i) = true
is_unfolding (line.UnfoldR j) = true
is_unfolding _ = false

-- the names in a line: the lemma that it cites, and if definitions are unfolded the predicates of its formula
abbrev pub names_in : Bool → CertLine → List (List ℕ)
names_in unfolds (line.Lemma n ts) = n ∷ []
names_in unfolds (line.Cut f) = if unfolds then predicates f else []
names_in unfolds _ = []

abbrev pub names_in_all : Bool → List CertLine → List (List ℕ)
names_in_all unfolds [] = []
names_in_all unfolds (l ∷ ls) = names_in unfolds l ++ names_in_all unfolds ls

-- names with more behind them, each where it first comes
abbrev pub with_name : List (List ℕ) → List ℕ → List (List ℕ)
with_name seen x = if is_listed seen x then seen else seen ++ x ∷ []

abbrev pub with_names : List (List ℕ) → List (List ℕ) → List (List ℕ)
with_names seen [] = seen
with_names seen (x ∷ xs) = with_names (with_name seen x) xs

-- the names in a certificate, in the order in which they first come
unfoldable pub cited_names : Cert → List (List ℕ)
cited_names cert = with_names [] (names_in_all (list_any is_unfolding cert.lines) cert.lines)
