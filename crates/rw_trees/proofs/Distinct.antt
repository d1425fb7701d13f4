-- No tree of a project has the name of another.
use Rattle.std.proofs.Common.{◌≡◌, ℕ, Bool, true, false, ◌&&◌, ◌||◌, if◌then◌else◌, List, [], ◌∷◌, ◌++◌, map, None, refl, ap, sym, ◌∙◌, subst}
use Rattle.std.specs.Prelude.{bytes_eq}
use Rattle.rw_sequents.specs.declared.line.Cert.{Cert}
use Rattle.rw_goals.specs.declared.library.Item.TheVariants as item
use Rattle.rw_edits.specs.declared.edit.Edit.{Edit}
use Rattle.rw_edits.specs.declared.edit.Edit.TheVariants as edit
use Rattle.rw_edits.specs.declared.edit.TreeName.{TreeName}
use Rattle.rw_edits.specs.declared.edit.TreeName.TheVariants as tree
use Rattle.rw_heads.specs.declared.head.Oper.{Oper}
use Rattle.rw_trees.specs.declared.parts.Parts.{Parts}
use Rattle.rw_edits.specs.Names.{has_tree, AreApart}
use Rattle.rw_heads.specs.Listed.{has_name, put_name}
use Rattle.rw_heads.specs.Heads.{put_oper}
use Rattle.rw_trees.specs.Table.{Row, Stated, Headed, Held, row_name, is_row, again, put_row, is_stated, proved, prove_row, without_row, bare, is_held, with_oper, oper_row, picks, name_in, oper_tree, trees_in, table_of}
use Rattle.rw_trees.specs.Parts.{Makes, tree_name}
use Rattle.rw_trees.proofs.Named.{bytes_self, bytes_turned, or_left, or_right, Apart, apart_put}
use Rattle.rw_trees.proofs.Rows.{table_apart}
use Rattle.rw_trees.proofs.Tops.{no_tree}

abbrev oper_name : Oper → List ℕ
oper_name o = o.name

-- no operation of the module has the name of another
abbrev OwnApart : Row → Type 0
OwnApart (Stated e p) = Unit {0}
OwnApart (Headed h) = Unit {0}
OwnApart (Held m) = Apart (map oper_name m.operations)

abbrev EachApart : List Row → Type 0
EachApart [] = Unit {0}
EachApart (r ∷ rs) = OwnApart r × EachApart rs

own_again : (n r : Row) → OwnApart n → OwnApart r → OwnApart (again n r)
own_again (Stated e p) (Stated d q) a b = tt
own_again (Stated e p) (Headed h) a b = tt
own_again (Stated e p) (Held m) a b = tt
own_again (Headed h) r a b = tt
own_again (Held m) (Stated e p) a b = a
own_again (Held m) (Headed h) a b = a
own_again (Held m) (Held n) a b = b

each_put : (rs : List Row) (n : Row) → OwnApart n → EachApart rs → EachApart (put_row rs n)
each_put [] n a b = (a, tt)
each_put (r ∷ rs) n a b = go (is_row (row_name n) r) (each_put rs n a b.1) where
  go : (c : Bool) → EachApart (put_row rs n) → EachApart (if c then again n r ∷ rs else r ∷ put_row rs n)
  go true rest = (own_again n r a b.0, b.1)
  go false rest = (b.0, rest)

own_proved : (c : Cert) (r : Row) → OwnApart r → OwnApart (proved c r)
own_proved c (Stated e p) a = tt
own_proved c (Headed h) a = tt
own_proved c (Held m) a = a

each_proved : (rs : List Row) (x : List ℕ) (c : Cert) → EachApart rs → EachApart (prove_row rs x c)
each_proved [] x c a = tt
each_proved (r ∷ rs) x c a = go (is_stated x r) (each_proved rs x c a.1) where
  go : (b : Bool) → EachApart (prove_row rs x c) → EachApart (if b then proved c r ∷ rs else r ∷ prove_row rs x c)
  go true rest = (own_proved c r a.0, a.1)
  go false rest = (a.0, rest)

each_without : (rs : List Row) (x : List ℕ) → EachApart rs → EachApart (without_row rs x)
each_without [] x a = tt
each_without (r ∷ rs) x a = go (is_row x r) (each_without rs x a.1) where
  go : (b : Bool) → EachApart (without_row rs x) → EachApart (if b then rs else r ∷ without_row rs x)
  go true rest = a.1
  go false rest = (a.0, rest)

oper_names : (os : List Oper) (o : Oper) → map oper_name (put_oper os o) ≡ put_name (map oper_name os) o.name
oper_names [] o = refl
oper_names (k ∷ os) o = go (bytes_eq k.name o.name) (oper_names os o) where
  go : (b : Bool) → map oper_name (put_oper os o) ≡ put_name (map oper_name os) o.name → map oper_name (if b then o ∷ os else k ∷ put_oper os o) ≡ (if b then o.name ∷ map oper_name os else k.name ∷ put_name (map oper_name os) o.name)
  go true rest = refl
  go false rest = ap (λ ns. k.name ∷ ns) rest

own_oper : (o : Oper) (r : Row) → OwnApart r → OwnApart (with_oper o r)
own_oper o (Stated e p) a = tt
own_oper o (Headed h) a = tt
own_oper o (Held m) a = subst Apart (sym (oper_names m.operations o)) (apart_put (map oper_name m.operations) o.name a)

each_oper : (rs : List Row) (x : List ℕ) (o : Oper) → EachApart rs → EachApart (oper_row rs x o)
each_oper [] x o a = tt
each_oper (r ∷ rs) x o a = go (is_held x r) (each_oper rs x o a.1) where
  go : (b : Bool) → EachApart (oper_row rs x o) → EachApart (if b then with_oper o r ∷ rs else r ∷ oper_row rs x o)
  go true rest = (own_oper o r a.0, a.1)
  go false rest = (a.0, rest)

each_apart : (l : List Edit) → EachApart (table_of l)
each_apart [] = tt
each_apart (edit.Define d ∷ l) = each_put (table_of l) (Stated (item.Definition d) None) tt (each_apart l)
each_apart (edit.Lemma m ∷ l) = each_put (table_of l) (Stated (item.Lemma m) None) tt (each_apart l)
each_apart (edit.Proc h ∷ l) = each_put (table_of l) (Headed h) tt (each_apart l)
each_apart (edit.Module m ∷ l) = each_put (table_of l) (Held (bare m)) tt (each_apart l)
each_apart (edit.Oper x o ∷ l) = each_oper (table_of l) x o (each_apart l)
each_apart (edit.ProveLemma x c ∷ l) = each_proved (table_of l) x c (each_apart l)
each_apart (edit.Drop x ∷ l) = each_without (table_of l) x (each_apart l)
each_apart (edit.Var p ∷ l) = each_apart l
each_apart (edit.Root w ∷ l) = each_apart l
each_apart (edit.Step q s ∷ l) = each_apart l
each_apart (edit.Clear q ∷ l) = each_apart l
each_apart (edit.Prove q k c ∷ l) = each_apart l

no_start : (m : List ℕ) (os : List Oper) (ys : List TreeName) → has_tree (tree.Start m) ys ≡ false → has_tree (tree.Start m) (map (oper_tree m) os ++ ys) ≡ false
no_start m [] ys h = h
no_start m (o ∷ os) ys h = no_start m os ys h

no_same : (m : List ℕ) (o : Oper) (os : List Oper) (ys : List TreeName) → has_name o.name (map oper_name os) ≡ false → has_tree (oper_tree m o) ys ≡ false → has_tree (oper_tree m o) (map (oper_tree m) os ++ ys) ≡ false
no_same m o [] ys a h = h
no_same m o (k ∷ os) ys a h =
    ap (λ b. (bytes_eq m m && b) || has_tree (oper_tree m o) (map (oper_tree m) os ++ ys)) (bytes_turned k.name o.name (or_left (bytes_eq k.name o.name) _ a))
    ∙ ap (λ b. (b && false) || has_tree (oper_tree m o) (map (oper_tree m) os ++ ys)) (bytes_self m)
    ∙ no_same m o os ys (or_right (bytes_eq k.name o.name) _ a) h

opers_apart : (m : List ℕ) (os : List Oper) (ys : List TreeName) → Apart (map oper_name os) → ((o : Oper) → has_tree (oper_tree m o) ys ≡ false) → AreApart ys → AreApart (map (oper_tree m) os ++ ys)
opers_apart m [] ys a h rest = rest
opers_apart m (o ∷ os) ys a h rest = (no_same m o os ys a.0 (h o), opers_apart m os ys a.1 h rest)

rows_apart : (rs : List Row) → Apart (picks name_in rs) → EachApart rs → AreApart (picks trees_in rs)
rows_apart [] a e = tt
rows_apart (Stated d q ∷ rs) a e = rows_apart rs a.1 e.1
rows_apart (Headed h ∷ rs) a e = (no_tree h.name (tree.Proc h.name) (bytes_self h.name) rs a.0, rows_apart rs a.1 e.1)
rows_apart (Held m ∷ rs) a e = (
  no_start m.name m.operations (picks trees_in rs) (no_tree m.name (tree.Start m.name) (bytes_self m.name) rs a.0),
  opers_apart m.name m.operations (picks trees_in rs) e.0 (λ o. no_tree m.name (oper_tree m.name o) (bytes_self m.name) rs a.0) (rows_apart rs a.1 e.1),
)

no_main_opers : (m : List ℕ) (os : List Oper) (ys : List TreeName) → has_tree tree.Main ys ≡ false → has_tree tree.Main (map (oper_tree m) os ++ ys) ≡ false
no_main_opers m [] ys h = h
no_main_opers m (o ∷ os) ys h = no_main_opers m os ys h

no_main : (rs : List Row) → has_tree tree.Main (picks trees_in rs) ≡ false
no_main [] = refl
no_main (Stated d q ∷ rs) = no_main rs
no_main (Headed h ∷ rs) = no_main rs
no_main (Held m ∷ rs) = no_main_opers m.name m.operations (picks trees_in rs) (no_main rs)

pub trees_apart : (limit : ℕ) (l : List Edit) (parts : Parts) → Makes limit l parts → AreApart (map tree_name parts.trees)
trees_apart limit l parts m = subst AreApart (sym m.names) (no_main (table_of l), rows_apart (table_of l) (table_apart l) (each_apart l))
