-- The trees of a project after an operation was set.
use Rattle.std.proofs.Common.{◌≡◌, ℕ, Bool, true, false, ◌&&◌, ◌||◌, if◌then◌else◌, List, [], ◌∷◌, ◌++◌, map, refl, ap, sym, ◌∙◌, subst}
use Rattle.std.specs.Prelude.{bytes_eq}
use Rattle.rw_edits.specs.declared.edit.Edit.{Edit}
use Rattle.rw_edits.specs.declared.edit.TreeName.{TreeName}
use Rattle.rw_edits.specs.declared.edit.TreeName.TheVariants as tree
use Rattle.rw_heads.specs.declared.head.Oper.{Oper}
use Rattle.rw_trees.specs.declared.node.Tree.{Tree}
use Rattle.rw_edits.specs.Names.{is_tree, has_tree, goes_with}
use Rattle.rw_heads.specs.Listed.{has_name}
use Rattle.rw_heads.specs.Heads.{put_oper, has_module}
use Rattle.rw_trees.specs.Table.{Row, Stated, Headed, Held, row_name, oper_row, picks, name_in, module_in, oper_tree, trees_in, trees_of}
use Rattle.rw_trees.specs.Trees.{speaks, of_tree}
use Rattle.rw_trees.specs.Nodes.{blank}
use Rattle.rw_trees.specs.Parts.{MakesTree, MakesTrees, tree_name, blank_tree, behind_run, inserted, trees_with_oper}
use Rattle.rw_trees.proofs.Named.{same_bytes, bytes_self, bytes_turned, or_left, or_right, or_true, Apart}
use Rattle.rw_trees.proofs.Stepped.{made_blank}
use Rattle.rw_trees.proofs.Tops.{AreThere, tops_kept, same_edits, gone, no_tree, apart_tree}

-- names of trees of which one more is put in
module _ (p : TreeName → Bool) (n : TreeName) where
  names_behind : (ts : List Tree) → map tree_name (behind_run (λ t. p t.name) (blank_tree n) ts) ≡ behind_run p n (map tree_name ts)
  names_behind [] = refl
  names_behind (t ∷ ts) = go (p t.name) (names_behind ts) where
    go : (b : Bool) → map tree_name (behind_run (λ t. p t.name) (blank_tree n) ts) ≡ behind_run p n (map tree_name ts) →
        map tree_name (if b then t ∷ behind_run (λ t. p t.name) (blank_tree n) ts else blank_tree n ∷ t ∷ ts) ≡ (if b then t.name ∷ behind_run p n (map tree_name ts) else n ∷ t.name ∷ map tree_name ts)
    go true rest = ap (λ ns. t.name ∷ ns) rest
    go false rest = refl

  names_inserted : (ts : List Tree) → map tree_name (inserted (λ t. p t.name) (blank_tree n) ts) ≡ inserted p n (map tree_name ts)
  names_inserted [] = refl
  names_inserted (t ∷ ts) = go (p t.name) (names_inserted ts) where
    go : (b : Bool) → map tree_name (inserted (λ t. p t.name) (blank_tree n) ts) ≡ inserted p n (map tree_name ts) →
        map tree_name (if b then t ∷ behind_run (λ t. p t.name) (blank_tree n) ts else t ∷ inserted (λ t. p t.name) (blank_tree n) ts) ≡ (if b then t.name ∷ behind_run p n (map tree_name ts) else t.name ∷ inserted p n (map tree_name ts))
    go true rest = ap (λ ns. t.name ∷ ns) (names_behind ts)
    go false rest = ap (λ ns. t.name ∷ ns) rest

pub names_with_oper : (ts : List Tree) (x : List ℕ) (o : Oper) → map tree_name (trees_with_oper ts x o) ≡ (if has_tree (oper_tree x o) (map tree_name ts) then map tree_name ts else inserted (goes_with x) (oper_tree x o) (map tree_name ts))
names_with_oper ts x o = go (has_tree (oper_tree x o) (map tree_name ts)) where
  go : (b : Bool) → map tree_name (if b then ts else inserted (λ t. goes_with x t.name) (blank_tree (oper_tree x o)) ts) ≡ (if b then map tree_name ts else inserted (goes_with x) (oper_tree x o) (map tree_name ts))
  go true = refl
  go false = names_inserted (goes_with x) (oper_tree x o) ts

-- a blank tree that is put in
module _ (e : Edit) (l : List Edit) (silent : (t : TreeName) → speaks t e ≡ false) (p : Tree → Bool) (n : TreeName) (new : has_tree n (trees_of l) ≡ false) where
  one_blank : has_tree n (trees_of (e ∷ l)) ≡ true → MakesTree (of_tree n (e ∷ l)) blank
  one_blank h = subst (λ k. MakesTree k blank) (sym (same_edits e l silent n h ∙ gone n l new)) made_blank

  one_kept : (t : Tree) → has_tree t.name (trees_of (e ∷ l)) ≡ true → MakesTree (of_tree t.name l) t.top → MakesTree (of_tree t.name (e ∷ l)) t.top
  one_kept t h made = subst (λ k. MakesTree k t.top) (sym (same_edits e l silent t.name h)) made

  tops_behind : (ts : List Tree) → AreThere (trees_of (e ∷ l)) (behind_run p (blank_tree n) ts) → MakesTrees l ts → MakesTrees (e ∷ l) (behind_run p (blank_tree n) ts)
  tops_behind [] h m = (one_blank h.0, tt)
  tops_behind (t ∷ ts) h m = go (p t) h (λ g. tops_behind ts g m.1) where
    go : (b : Bool) → AreThere (trees_of (e ∷ l)) (if b then t ∷ behind_run p (blank_tree n) ts else blank_tree n ∷ t ∷ ts) →
        (AreThere (trees_of (e ∷ l)) (behind_run p (blank_tree n) ts) → MakesTrees (e ∷ l) (behind_run p (blank_tree n) ts)) →
        MakesTrees (e ∷ l) (if b then t ∷ behind_run p (blank_tree n) ts else blank_tree n ∷ t ∷ ts)
    go true g rest = (one_kept t g.0 m.0, rest g.1)
    go false g rest = (one_blank g.0, tops_kept e l silent (t ∷ ts) g.1 m)

  pub tops_inserted : (ts : List Tree) → AreThere (trees_of (e ∷ l)) (inserted p (blank_tree n) ts) → MakesTrees l ts → MakesTrees (e ∷ l) (inserted p (blank_tree n) ts)
  tops_inserted [] h m = tt
  tops_inserted (t ∷ ts) h m = go (p t) h (λ g. tops_inserted ts g m.1) where
    go : (b : Bool) → AreThere (trees_of (e ∷ l)) (if b then t ∷ behind_run p (blank_tree n) ts else t ∷ inserted p (blank_tree n) ts) →
        (AreThere (trees_of (e ∷ l)) (inserted p (blank_tree n) ts) → MakesTrees (e ∷ l) (inserted p (blank_tree n) ts)) →
        MakesTrees (e ∷ l) (if b then t ∷ behind_run p (blank_tree n) ts else t ∷ inserted p (blank_tree n) ts)
    go true g rest = (one_kept t g.0 m.0, tops_behind ts g.1 m.1)
    go false g rest = (one_kept t g.0 m.0, rest g.1)

-- the trees of a module with an operation
module _ (x : List ℕ) (o : Oper) where
  abbrev this : TreeName
  this = oper_tree x o

  abbrev grown : Bool → List TreeName → List TreeName
  grown b ts = if b then ts else inserted (goes_with x) this ts

  -- behind the trees of the module stand those of other entries
  not_with : (rs : List Row) → has_name x (picks name_in rs) ≡ false → behind_run (goes_with x) this (picks trees_in rs) ≡ this ∷ picks trees_in rs
  not_with [] h = refl
  not_with (Stated d q ∷ rs) h = not_with rs (or_right (bytes_eq (row_name (Stated d q)) x) _ h)
  not_with (Headed g ∷ rs) h = let is : bytes_eq g.name x ≡ false = or_left (bytes_eq g.name x) _ h in rw is refl
  not_with (Held m ∷ rs) h = let is : bytes_eq m.name x ≡ false = or_left (bytes_eq m.name x) _ h in rw is refl

  opers_with : (m : List ℕ) (os : List Oper) (ys : List TreeName) → m ≡ x → has_tree this ys ≡ false → behind_run (goes_with x) this ys ≡ this ∷ ys →
      map (oper_tree m) (put_oper os o) ++ ys ≡ (if has_tree this (map (oper_tree m) os ++ ys) then map (oper_tree m) os ++ ys else behind_run (goes_with x) this (map (oper_tree m) os ++ ys))
  opers_with m [] ys is none run = ap (λ y. tree.Oper y o.name ∷ ys) is ∙ sym (rw none run)
  opers_with m (k ∷ os) ys is none run = go (bytes_eq k.name o.name) refl (has_tree this (map (oper_tree m) os ++ ys)) (opers_with m os ys is none run) where
    with : goes_with x (oper_tree m k) ≡ true
    with = ap (λ y. bytes_eq y x) is ∙ bytes_self x

    test : is_tree this (oper_tree m k) ≡ bytes_eq o.name k.name
    test = ap (λ y. bytes_eq x y && bytes_eq o.name k.name) is ∙ ap (λ b. b && bytes_eq o.name k.name) (bytes_self x)

    go : (b : Bool) → bytes_eq k.name o.name ≡ b → (c : Bool) →
        map (oper_tree m) (put_oper os o) ++ ys ≡ (if c then map (oper_tree m) os ++ ys else behind_run (goes_with x) this (map (oper_tree m) os ++ ys)) →
        map (oper_tree m) (if b then o ∷ os else k ∷ put_oper os o) ++ ys ≡ (if is_tree this (oper_tree m k) || c then oper_tree m k ∷ (map (oper_tree m) os ++ ys) else (if goes_with x (oper_tree m k) then oper_tree m k ∷ behind_run (goes_with x) this (map (oper_tree m) os ++ ys) else this ∷ oper_tree m k ∷ (map (oper_tree m) os ++ ys)))
    go true same c rest =
        let names : k.name ≡ o.name = same_bytes k.name o.name same in
        let yes : is_tree this (oper_tree m k) ≡ true = test ∙ ap (λ y. bytes_eq o.name y) names ∙ bytes_self o.name in
        ap (λ y. tree.Oper m y ∷ (map (oper_tree m) os ++ ys)) (sym names) ∙ sym (ap (λ b. if b || c then oper_tree m k ∷ (map (oper_tree m) os ++ ys) else (if goes_with x (oper_tree m k) then oper_tree m k ∷ behind_run (goes_with x) this (map (oper_tree m) os ++ ys) else this ∷ oper_tree m k ∷ (map (oper_tree m) os ++ ys))) yes)
    go false other true rest =
        let no_such : is_tree this (oper_tree m k) ≡ false = test ∙ bytes_turned k.name o.name other in
        ap (λ ts. oper_tree m k ∷ ts) rest ∙ sym (ap (λ b. if b || true then oper_tree m k ∷ (map (oper_tree m) os ++ ys) else (if goes_with x (oper_tree m k) then oper_tree m k ∷ behind_run (goes_with x) this (map (oper_tree m) os ++ ys) else this ∷ oper_tree m k ∷ (map (oper_tree m) os ++ ys))) no_such)
    go false other false rest =
        let no_such : is_tree this (oper_tree m k) ≡ false = test ∙ bytes_turned k.name o.name other in
        ap (λ ts. oper_tree m k ∷ ts) rest
        ∙ sym (ap (λ b. if b || false then oper_tree m k ∷ (map (oper_tree m) os ++ ys) else (if goes_with x (oper_tree m k) then oper_tree m k ∷ behind_run (goes_with x) this (map (oper_tree m) os ++ ys) else this ∷ oper_tree m k ∷ (map (oper_tree m) os ++ ys))) no_such
        ∙ ap (λ b. if b then oper_tree m k ∷ behind_run (goes_with x) this (map (oper_tree m) os ++ ys) else this ∷ oper_tree m k ∷ (map (oper_tree m) os ++ ys)) with)

  -- past a tree of another entry
  past_one : (t : TreeName) (ys zs : List TreeName) → goes_with x t ≡ false → is_tree this t ≡ false → ys ≡ grown (has_tree this zs) zs → t ∷ ys ≡ grown (has_tree this (t ∷ zs)) (t ∷ zs)
  past_one t ys zs out no_such rest = go (has_tree this zs) rest where
    go : (c : Bool) → ys ≡ grown c zs → t ∷ ys ≡ (if is_tree this t || c then t ∷ zs else (if goes_with x t then t ∷ behind_run (goes_with x) this zs else t ∷ inserted (goes_with x) this zs))
    go true rest = ap (λ ts. t ∷ ts) rest ∙ sym (ap (λ b. if b || true then t ∷ zs else (if goes_with x t then t ∷ behind_run (goes_with x) this zs else t ∷ inserted (goes_with x) this zs)) no_such)
    go false rest =
        ap (λ ts. t ∷ ts) rest
        ∙ sym (ap (λ b. if b || false then t ∷ zs else (if goes_with x t then t ∷ behind_run (goes_with x) this zs else t ∷ inserted (goes_with x) this zs)) no_such
        ∙ ap (λ b. if b then t ∷ behind_run (goes_with x) this zs else t ∷ inserted (goes_with x) this zs) out)

  past_opers : (m : List ℕ) (os : List Oper) (ys zs : List TreeName) → bytes_eq m x ≡ false → ys ≡ grown (has_tree this zs) zs → map (oper_tree m) os ++ ys ≡ grown (has_tree this (map (oper_tree m) os ++ zs)) (map (oper_tree m) os ++ zs)
  past_opers m [] ys zs other rest = rest
  past_opers m (k ∷ os) ys zs other rest = past_one (oper_tree m k) (map (oper_tree m) os ++ ys) (map (oper_tree m) os ++ zs) other (apart_tree x this (oper_tree m k) (bytes_self x) other) (past_opers m os ys zs other rest)

  held_named : (rs : List Row) → has_module x (picks module_in rs) ≡ true → has_name x (picks name_in rs) ≡ true
  held_named [] h = absurd (cc)
  held_named (Stated d q ∷ rs) h = ap (λ b. bytes_eq (row_name (Stated d q)) x || b) (held_named rs h) ∙ or_true (bytes_eq (row_name (Stated d q)) x)
  held_named (Headed g ∷ rs) h = ap (λ b. bytes_eq g.name x || b) (held_named rs h) ∙ or_true (bytes_eq g.name x)
  held_named (Held m ∷ rs) h = go (bytes_eq m.name x) h (λ k. held_named rs k) where
    go : (b : Bool) → (b || has_module x (picks module_in rs)) ≡ true → (has_module x (picks module_in rs) ≡ true → has_name x (picks name_in rs) ≡ true) → (b || has_name x (picks name_in rs)) ≡ true
    go true h rest = refl
    go false h rest = rest h

  other_name : (y : List ℕ) (rs : List Row) → has_name y (picks name_in rs) ≡ false → has_name x (picks name_in rs) ≡ true → bytes_eq y x ≡ false
  other_name y rs out h = go (bytes_eq y x) refl where
    go : (b : Bool) → bytes_eq y x ≡ b → b ≡ false
    go true is = absurd (let no_such : true ≡ false = sym h ∙ ap (λ z. has_name z (picks name_in rs)) (sym (same_bytes y x is)) ∙ out in cc)
    go false is = refl

  picked_with_oper : (rs : List Row) → Apart (picks name_in rs) → has_module x (picks module_in rs) ≡ true → picks trees_in (oper_row rs x o) ≡ grown (has_tree this (picks trees_in rs)) (picks trees_in rs)
  picked_with_oper [] a h = absurd (cc)
  picked_with_oper (Stated d q ∷ rs) a h = picked_with_oper rs a.1 h
  picked_with_oper (Headed g ∷ rs) a h =
      past_one (tree.Proc g.name) (picks trees_in (oper_row rs x o)) (picks trees_in rs) (other_name g.name rs a.0 (held_named rs h)) refl (picked_with_oper rs a.1 h)
  picked_with_oper (Held m ∷ rs) a h = go (bytes_eq m.name x) refl h (λ k. picked_with_oper rs a.1 k) where
    here : bytes_eq m.name x ≡ true → (c : Bool) → map (oper_tree m.name) (put_oper m.operations o) ++ picks trees_in rs ≡ (if c then map (oper_tree m.name) m.operations ++ picks trees_in rs else behind_run (goes_with x) this (map (oper_tree m.name) m.operations ++ picks trees_in rs)) →
        tree.Start m.name ∷ (map (oper_tree m.name) (put_oper m.operations o) ++ picks trees_in rs) ≡ grown c (tree.Start m.name ∷ (map (oper_tree m.name) m.operations ++ picks trees_in rs))
    here is true rest = ap (λ ts. tree.Start m.name ∷ ts) rest
    here is false rest =
        ap (λ ts. tree.Start m.name ∷ ts) rest
        ∙ sym (ap (λ b. if b then tree.Start m.name ∷ behind_run (goes_with x) this (map (oper_tree m.name) m.operations ++ picks trees_in rs) else tree.Start m.name ∷ inserted (goes_with x) this (map (oper_tree m.name) m.operations ++ picks trees_in rs)) is)

    go : (b : Bool) → bytes_eq m.name x ≡ b → (b || has_module x (picks module_in rs)) ≡ true → (has_module x (picks module_in rs) ≡ true → picks trees_in (oper_row rs x o) ≡ grown (has_tree this (picks trees_in rs)) (picks trees_in rs)) →
        picks trees_in (if b then Held (record m { operations = put_oper m.operations o }) ∷ rs else Held m ∷ oper_row rs x o) ≡ grown (has_tree this (picks trees_in (Held m ∷ rs))) (picks trees_in (Held m ∷ rs))
    go true is h rest =
        let out : has_name x (picks name_in rs) ≡ false = subst (λ z. has_name z (picks name_in rs) ≡ false) (same_bytes m.name x is) a.0 in
        here is (has_tree this (map (oper_tree m.name) m.operations ++ picks trees_in rs)) (opers_with m.name m.operations (picks trees_in rs) (same_bytes m.name x is) (no_tree x this (bytes_self x) rs out) (not_with rs out))
    go false is h rest =
        past_one (tree.Start m.name) (map (oper_tree m.name) m.operations ++ picks trees_in (oper_row rs x o)) (map (oper_tree m.name) m.operations ++ picks trees_in rs) is refl
        (past_opers m.name m.operations (picks trees_in (oper_row rs x o)) (picks trees_in rs) is (rest h))

  all_from : (rs : List Row) (c : Bool) → picks trees_in (oper_row rs x o) ≡ grown c (picks trees_in rs) → tree.Main ∷ picks trees_in (oper_row rs x o) ≡ grown c (tree.Main ∷ picks trees_in rs)
  all_from rs true e = ap (λ ts. tree.Main ∷ ts) e
  all_from rs false e = ap (λ ts. tree.Main ∷ ts) e

pub all_with_oper : (rs : List Row) (x : List ℕ) (o : Oper) → Apart (picks name_in rs) → has_module x (picks module_in rs) ≡ true →
    tree.Main ∷ picks trees_in (oper_row rs x o) ≡ (if has_tree (oper_tree x o) (tree.Main ∷ picks trees_in rs) then tree.Main ∷ picks trees_in rs else inserted (goes_with x) (oper_tree x o) (tree.Main ∷ picks trees_in rs))
all_with_oper rs x o a h = all_from x o rs (has_tree (oper_tree x o) (picks trees_in rs)) (picked_with_oper x o rs a h)
