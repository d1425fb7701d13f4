-- Trees that are taken away one by one.
use Rattle.std.proofs.Common.{◌≡◌, ℕ, zero, suc, true, false, List, [], ◌∷◌, ◌++◌, length, take, drop, remove, Some, refl, sym, ap, ◌∙◌, arith}
use Rattle.std.specs.Prelude.{not, cond}
use Rattle.std.specs.List.{slice_get}
use Rattle.rw_trees.specs.declared.node.Tree.{Tree}
use Rattle.rw_edits.specs.Names.{goes_with}
use Rattle.rw_trees.specs.Parts.{without_trees}

-- those that were seen, and those that stay of the others
abbrev pub left : List ℕ → ℕ → List Tree → List Tree
left x i ts = take i ts ++ without_trees x (drop i ts)

pub tree_stays : (x : List ℕ) (i : ℕ) (ts : List Tree) (t : Tree) → slice_get ts i ≡ Some t → goes_with x t.name ≡ false → left x (suc i) ts ≡ left x i ts
tree_stays x i [] t e h = absurd (cc)
tree_stays x zero (u ∷ ts) t e h =
    let same : u ≡ t = cc in
    sym (ap (λ b. cond (not b) (u ∷ without_trees x ts) (without_trees x ts)) (ap (λ (v : Tree). goes_with x v.name) same ∙ h))
tree_stays x (suc i) (u ∷ ts) t e h = ap (λ us. u ∷ us) (tree_stays x i ts t e h)

pub tree_goes : (x : List ℕ) (i : ℕ) (ts : List Tree) (t : Tree) → slice_get ts i ≡ Some t → goes_with x t.name ≡ true → left x i (remove ts i) ≡ left x i ts
tree_goes x i [] t e h = absurd (cc)
tree_goes x zero (u ∷ ts) t e h =
    let same : u ≡ t = cc in
    sym (ap (λ b. cond (not b) (u ∷ without_trees x ts) (without_trees x ts)) (ap (λ (v : Tree). goes_with x v.name) same ∙ h))
tree_goes x (suc i) (u ∷ ts) t e h = ap (λ us. u ∷ us) (tree_goes x i ts t e h)

pub all_seen : (x : List ℕ) (i : ℕ) (ts : List Tree) → i ≡ length ts → left x i ts ≡ ts
all_seen x zero [] e = refl
all_seen x (suc i) [] e = absurd (omega (arith, e))
all_seen x zero (u ∷ ts) e = absurd (omega (arith, e))
all_seen x (suc i) (u ∷ ts) e = ap (λ us. u ∷ us) (all_seen x i ts (omega (arith, e)))
