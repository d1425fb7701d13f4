-- The trees of a project, each by the edits that speak of it.
use Rattle.std.proofs.Common.{◌≡◌, ℕ, Bool, true, false, ◌&&◌, ◌||◌, if◌then◌else◌, List, [], ◌∷◌, ◌++◌, map, Some, refl, ap, sym, ◌∙◌, subst}
use Rattle.std.specs.Prelude.{cond, bytes_eq}
use Rattle.std.specs.List.{filter}
use Rattle.std.specs.Option.{option_and_then, is_some}
use Rattle.rw_edits.specs.declared.edit.Edit.{Edit}
use Rattle.rw_edits.specs.declared.edit.Place.{Place}
use Rattle.rw_edits.specs.declared.edit.TreeName.{TreeName}
use Rattle.rw_edits.specs.declared.edit.TreeName.TheVariants as tree
use Rattle.rw_heads.specs.declared.head.Oper.{Oper}
use Rattle.rw_trees.specs.declared.node.Node.{Node}
use Rattle.rw_trees.specs.declared.node.Tree.{Tree}
use Rattle.rw_edits.specs.Names.{is_tree, has_tree, goes_with}
use Rattle.rw_heads.specs.Listed.{has_name}
use Rattle.rw_trees.specs.Table.{Row, Stated, Headed, Held, row_name, picks, name_in, oper_tree, trees_in, table_of, order_of, trees_of}
use Rattle.rw_trees.specs.Trees.{speaks, of_tree}
use Rattle.rw_trees.specs.Nodes.{blank, look}
use Rattle.rw_trees.specs.Edits.{is_node, has_obligation_of}
use Rattle.rw_trees.specs.Parts.{MakesTree, MakesTrees, tree_name, top_of, node_of, obligation_in, has_obligation_at, changed_if, in_tree, blank_tree, without_trees}
use Rattle.rw_trees.proofs.Named.{bytes_self, or_left, or_right, or_true, same_tree, tree_self}
use Rattle.rw_trees.proofs.Rows.{stays}
use Rattle.rw_trees.proofs.Stepped.{made_blank}
use Rattle.rw_trees.proofs.There.{nodes_there, obligations_there}

-- the edits of a tree that is there, with one more
pub of_there : (t : TreeName) (e : Edit) (l : List Edit) → has_tree t (trees_of (e ∷ l)) ≡ true → of_tree t (e ∷ l) ≡ (if speaks t e then e ∷ of_tree t l else of_tree t l)
of_there t e l h = ap (λ (b : Bool). if b then (if speaks t e then e ∷ of_tree t l else of_tree t l) else []) h

-- nothing is said of a tree that is not there
pub gone : (t : TreeName) (l : List Edit) → has_tree t (trees_of l) ≡ false → of_tree t l ≡ []
gone t [] h = refl
gone t (e ∷ l) h = ap (λ (b : Bool). if b then (if speaks t e then e ∷ of_tree t l else of_tree t l) else []) h

abbrev pub AreThere : List TreeName → List Tree → Type 0
AreThere names [] = Unit {0}
AreThere names (t ∷ ts) = (has_tree t.name names ≡ true) × AreThere names ts

there_in : (names : List TreeName) (ts : List Tree) → ((t : TreeName) → has_tree t (map tree_name ts) ≡ true → has_tree t names ≡ true) → AreThere names ts
there_in names [] h = tt
there_in names (t ∷ ts) h = (
  h t.name (ap (λ b. b || has_tree t.name (map tree_name ts)) (tree_self t.name)),
  there_in names ts (λ u e. h u (ap (λ b. is_tree u t.name || b) e ∙ or_true (is_tree u t.name))),
)

pub are_there : (ts : List Tree) (names : List TreeName) → map tree_name ts ≡ names → AreThere names ts
are_there ts names e = there_in names ts (λ t h. sym (ap (has_tree t) e) ∙ h)

there_left : (names : List TreeName) (ts us : List Tree) → AreThere names (ts ++ us) → AreThere names ts
there_left names [] us h = tt
there_left names (t ∷ ts) us h = (h.0, there_left names ts us h.1)

there_right : (names : List TreeName) (ts us : List Tree) → AreThere names (ts ++ us) → AreThere names us
there_right names [] us h = h
there_right names (t ∷ ts) us h = there_right names ts us h.1

tops_joined : (l : List Edit) (ts us : List Tree) → MakesTrees l ts → MakesTrees l us → MakesTrees l (ts ++ us)
tops_joined l [] us a b = b
tops_joined l (t ∷ ts) us a b = (a.0, tops_joined l ts us a.1 b)

pub tops_filtered : (l : List Edit) (p : Tree → Bool) (ts : List Tree) → MakesTrees l ts → MakesTrees l (filter p ts)
tops_filtered l p [] a = tt
tops_filtered l p (t ∷ ts) a = go (p t) (tops_filtered l p ts a.1) where
  go : (b : Bool) → MakesTrees l (filter p ts) → MakesTrees l (cond b (t ∷ filter p ts) (filter p ts))
  go true rest = (a.0, rest)
  go false rest = rest

-- trees of which nothing is there
abbrev pub AreNew : List Edit → List TreeName → Type 0
AreNew l [] = Unit {0}
AreNew l (t ∷ ts) = (has_tree t (trees_of l) ≡ false) × AreNew l ts

-- an edit that speaks of no tree
module _ (e : Edit) (l : List Edit) (silent : (t : TreeName) → speaks t e ≡ false) where
  pub same_edits : (t : TreeName) → has_tree t (trees_of (e ∷ l)) ≡ true → of_tree t (e ∷ l) ≡ of_tree t l
  same_edits t h = of_there t e l h ∙ ap (λ (b : Bool). if b then e ∷ of_tree t l else of_tree t l) (silent t)

  pub tops_kept : (ts : List Tree) → AreThere (trees_of (e ∷ l)) ts → MakesTrees l ts → MakesTrees (e ∷ l) ts
  tops_kept [] h m = tt
  tops_kept (t ∷ ts) h m = (subst (λ k. MakesTree k t.top) (sym (same_edits t.name h.0)) m.0, tops_kept ts h.1 m.1)

  tops_blank : (ns : List TreeName) → AreNew l ns → AreThere (trees_of (e ∷ l)) (map blank_tree ns) → MakesTrees (e ∷ l) (map blank_tree ns)
  tops_blank [] a h = tt
  tops_blank (t ∷ ns) a h = (subst (λ k. MakesTree k blank) (sym (same_edits t h.0 ∙ gone t l a.0)) made_blank, tops_blank ns a.1 h.1)

  pub tops_more : (ts : List Tree) (ns : List TreeName) → AreNew l ns → AreThere (trees_of (e ∷ l)) (ts ++ map blank_tree ns) → MakesTrees l ts → MakesTrees (e ∷ l) (ts ++ map blank_tree ns)
  tops_more ts ns a h m = tops_joined (e ∷ l) ts (map blank_tree ns) (tops_kept ts (there_left (trees_of (e ∷ l)) ts (map blank_tree ns) h) m) (tops_blank ns a (there_right (trees_of (e ∷ l)) ts (map blank_tree ns) h))

-- an edit of a node of the tree of this name
module _ (e : Edit) (l : List Edit) (x : TreeName) (said : (t : TreeName) → speaks t e ≡ is_tree x t) (f : Node → Node) where
  abbrev pub Carries : Type 0
  Carries = (t : Tree) → is_tree x t.name ≡ true → MakesTree (of_tree t.name l) t.top → MakesTree (e ∷ of_tree t.name l) (f t.top)

  pub tops_changed : Carries → (ts : List Tree) → AreThere (trees_of (e ∷ l)) ts → MakesTrees l ts → MakesTrees (e ∷ l) (in_tree x f ts)
  tops_changed carries [] h m = tt
  tops_changed carries (t ∷ ts) h m = (go (is_tree x t.name) refl, tops_changed carries ts h.1 m.1) where
    edits : (b : Bool) → is_tree x t.name ≡ b → of_tree t.name (e ∷ l) ≡ (if b then e ∷ of_tree t.name l else of_tree t.name l)
    edits b is = of_there t.name e l h.0 ∙ ap (λ (b : Bool). if b then e ∷ of_tree t.name l else of_tree t.name l) (said t.name ∙ is)

    go : (b : Bool) → is_tree x t.name ≡ b → MakesTree (of_tree (changed_if b f t).name (e ∷ l)) (changed_if b f t).top
    go true is = subst (λ k. MakesTree k (f t.top)) (sym (edits true is)) (carries t is m.0)
    go false is = subst (λ k. MakesTree k t.top) (sym (edits false is)) m.0

pub names_in : (x : TreeName) (f : Node → Node) (ts : List Tree) → map tree_name (in_tree x f ts) ≡ map tree_name ts
names_in x f [] = refl
names_in x f (t ∷ ts) = go (is_tree x t.name) (names_in x f ts) where
  go : (b : Bool) → map tree_name (in_tree x f ts) ≡ map tree_name ts → (changed_if b f t).name ∷ map tree_name (in_tree x f ts) ≡ t.name ∷ map tree_name ts
  go true rest = ap (λ ns. t.name ∷ ns) rest
  go false rest = ap (λ ns. t.name ∷ ns) rest

pub names_more : (ts : List Tree) (ns : List TreeName) → map tree_name (ts ++ map blank_tree ns) ≡ map tree_name ts ++ ns
names_more [] [] = refl
names_more [] (n ∷ ns) = ap (λ ns. n ∷ ns) (names_more [] ns)
names_more (t ∷ ts) ns = ap (λ ns. t.name ∷ ns) (names_more ts ns)

pub names_less : (x : List ℕ) (ts : List Tree) → map tree_name (without_trees x ts) ≡ filter (stays x) (map tree_name ts)
names_less x [] = refl
names_less x (t ∷ ts) = go (stays x t.name) (names_less x ts) where
  go : (b : Bool) → map tree_name (without_trees x ts) ≡ filter (stays x) (map tree_name ts) → map tree_name (cond b (t ∷ without_trees x ts) (without_trees x ts)) ≡ cond b (t.name ∷ filter (stays x) (map tree_name ts)) (filter (stays x) (map tree_name ts))
  go true rest = ap (λ ns. t.name ∷ ns) rest
  go false rest = rest

-- the trees of an entry that is not there are not there
pub apart_tree : (x : List ℕ) (t u : TreeName) → goes_with x t ≡ true → goes_with x u ≡ false → is_tree t u ≡ false
apart_tree x t u h k = go (is_tree t u) refl where
  go : (b : Bool) → is_tree t u ≡ b → b ≡ false
  go true is = absurd (let no_such : true ≡ false = sym h ∙ ap (goes_with x) (same_tree t u is) ∙ k in cc)
  go false is = refl

module _ (x : List ℕ) (t : TreeName) (with : goes_with x t ≡ true) where
  no_oper : (m : List ℕ) (os : List Oper) (ys : List TreeName) → bytes_eq m x ≡ false → has_tree t ys ≡ false → has_tree t (map (oper_tree m) os ++ ys) ≡ false
  no_oper m [] ys is h = h
  no_oper m (o ∷ os) ys is h = ap (λ b. b || has_tree t (map (oper_tree m) os ++ ys)) (apart_tree x t (oper_tree m o) with is) ∙ no_oper m os ys is h

  pub no_tree : (rs : List Row) → has_name x (picks name_in rs) ≡ false → has_tree t (picks trees_in rs) ≡ false
  no_tree [] h = refl
  no_tree (Stated d q ∷ rs) h = no_tree rs (or_right (bytes_eq (row_name (Stated d q)) x) _ h)
  no_tree (Headed g ∷ rs) h =
      ap (λ b. b || has_tree t (picks trees_in rs)) (apart_tree x t (tree.Proc g.name) with (or_left (bytes_eq g.name x) _ h))
      ∙ no_tree rs (or_right (bytes_eq g.name x) _ h)
  no_tree (Held m ∷ rs) h =
      let is : bytes_eq m.name x ≡ false = or_left (bytes_eq m.name x) _ h in
      ap (λ b. b || has_tree t (map (oper_tree m.name) m.operations ++ picks trees_in rs)) (apart_tree x t (tree.Start m.name) with is)
      ∙ no_oper m.name m.operations (picks trees_in rs) is (no_tree rs (or_right (bytes_eq m.name x) _ h))

  pub not_there : (l : List Edit) → has_name x (order_of l) ≡ false → has_tree t (trees_of l) ≡ false
  not_there l h = ap (λ b. b || has_tree t (picks trees_in (table_of l))) (apart_tree x t tree.Main with refl) ∙ no_tree (table_of l) h

pub new_trees : (l : List Edit) (n : Row) → has_name (row_name n) (order_of l) ≡ false → AreNew l (trees_in n)
new_trees l (Stated e p) h = tt
new_trees l (Headed g) h = (not_there g.name (tree.Proc g.name) (bytes_self g.name) l h, tt)
new_trees l (Held m) h = (not_there m.name (tree.Start m.name) (bytes_self m.name) l h, opers m.operations) where
  opers : (os : List Oper) → AreNew l (map (oper_tree m.name) os)
  opers [] = tt
  opers (o ∷ os) = (not_there m.name (oper_tree m.name o) (bytes_self m.name) l h, opers os)

-- the nodes and the obligations of all trees
module _ (l : List Edit) (q : Place) where
  abbrev has_both : ℕ → TreeName → Bool
  has_both k x = is_node (of_tree x l) q.path.kids && has_obligation_of (of_tree x l) q.path.kids k

  pub node_there : (ts : List Tree) → MakesTrees l ts → is_some (node_of ts q) ≡ (has_tree q.tree (map tree_name ts) && is_node (of_tree q.tree l) q.path.kids)
  node_there [] m = refl
  node_there (t ∷ ts) m = go (is_tree q.tree t.name) refl (node_there ts m.1) where
    go : (b : Bool) → is_tree q.tree t.name ≡ b → is_some (node_of ts q) ≡ (has_tree q.tree (map tree_name ts) && is_node (of_tree q.tree l) q.path.kids) →
        is_some (option_and_then (λ n. look n q.path.kids) (if b then Some t.top else top_of ts q.tree)) ≡ ((b || has_tree q.tree (map tree_name ts)) && is_node (of_tree q.tree l) q.path.kids)
    go true is rest = nodes_there (of_tree t.name l) t.top q.path.kids m.0 ∙ ap (λ x. is_node (of_tree x l) q.path.kids) (sym (same_tree q.tree t.name is))
    go false is rest = rest

  pub obligation_there : (k : ℕ) (ts : List Tree) → MakesTrees l ts → has_obligation_at ts q k ≡ (has_tree q.tree (map tree_name ts) && (is_node (of_tree q.tree l) q.path.kids && has_obligation_of (of_tree q.tree l) q.path.kids k))
  obligation_there k [] m = refl
  obligation_there k (t ∷ ts) m = go (is_tree q.tree t.name) refl (obligation_there k ts m.1) where
    go : (b : Bool) → is_tree q.tree t.name ≡ b → has_obligation_at ts q k ≡ (has_tree q.tree (map tree_name ts) && has_both k q.tree) →
        obligation_in (if b then Some t.top else top_of ts q.tree) q.path.kids k ≡ ((b || has_tree q.tree (map tree_name ts)) && has_both k q.tree)
    go true is rest = obligations_there (of_tree t.name l) t.top q.path.kids k m.0 ∙ ap (has_both k) (sym (same_tree q.tree t.name is))
    go false is rest = rest
