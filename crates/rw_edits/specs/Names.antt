-- Names of trees.
use Rattle.std.specs.Prelude.{◌≡◌, ℕ, Bool, true, false, ◌&&◌, List, [], ◌∷◌, bytes_eq}
use Rattle.std.specs.List.{list_any}
use Rattle.rw_edits.specs.declared.edit.TreeName.{TreeName}
use Rattle.rw_edits.specs.declared.edit.TreeName.TheVariants as tree
use Rattle.rw_edits.specs.declared.edit.Place.{Place}

-- whether two names of trees are one
abbrev pub is_tree : TreeName → TreeName → Bool
is_tree tree.Main tree.Main = true
is_tree tree.Main (tree.Proc y) = false
is_tree tree.Main (tree.Start n) = false
is_tree tree.Main (tree.Oper n y) = false
is_tree (tree.Proc x) tree.Main = false
is_tree (tree.Proc x) (tree.Proc y) = bytes_eq x y
is_tree (tree.Proc x) (tree.Start n) = false
is_tree (tree.Proc x) (tree.Oper n y) = false
is_tree (tree.Start m) tree.Main = false
is_tree (tree.Start m) (tree.Proc y) = false
is_tree (tree.Start m) (tree.Start n) = bytes_eq m n
is_tree (tree.Start m) (tree.Oper n y) = false
is_tree (tree.Oper m x) tree.Main = false
is_tree (tree.Oper m x) (tree.Proc y) = false
is_tree (tree.Oper m x) (tree.Start n) = false
is_tree (tree.Oper m x) (tree.Oper n y) = bytes_eq m n && bytes_eq x y

-- whether a name is among names of trees
abbrev pub has_tree : TreeName → List TreeName → Bool
has_tree t names = list_any (is_tree t) names

-- whether the tree is one of the table entry of the name
abbrev pub goes_with : List ℕ → TreeName → Bool
goes_with x tree.Main = false
goes_with x (tree.Proc y) = bytes_eq y x
goes_with x (tree.Start m) = bytes_eq m x
goes_with x (tree.Oper m y) = bytes_eq m x

-- names of trees of which none stands twice
abbrev pub AreApart : List TreeName → Type 0
AreApart [] = Unit {0}
AreApart (t ∷ ts) = (has_tree t ts ≡ false) × AreApart ts

-- a place of a tree
abbrev pub place_in : TreeName → List ℕ → Place
place_in t path = record { tree = t; path = record { kids = path } }
