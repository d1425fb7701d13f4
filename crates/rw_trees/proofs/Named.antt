-- Names of entries and of trees: whether they are one, and whether they are among others.
use Rattle.std.proofs.Common.{◌≡◌, ℕ, Bool, true, false, ◌&&◌, ◌||◌, if◌then◌else◌, List, [], ◌∷◌, ◌++◌, refl, sym, ap, ◌∙◌, subst}
use Rattle.std.specs.Prelude.{bytes_eq}
use Rattle.std.proofs.lemmas.Slice.Eq.{bytes_eq-Decides}
use Rattle.rw_edits.specs.declared.edit.TreeName.{TreeName}
use Rattle.rw_edits.specs.declared.edit.TreeName.TheVariants as tree
use Rattle.rw_edits.specs.Names.{is_tree}
use Rattle.rw_heads.specs.Listed.{has_name, put_name, without_name}

pub same_bytes : (x y : List ℕ) → bytes_eq x y ≡ true → x ≡ y
same_bytes x y h = (bytes_eq-Decides x y).0 h

pub bytes_self : (x : List ℕ) → bytes_eq x x ≡ true
bytes_self x = (bytes_eq-Decides x x).1 refl

pub bytes_turned : (x y : List ℕ) → bytes_eq x y ≡ false → bytes_eq y x ≡ false
bytes_turned x y h = go (bytes_eq y x) refl where
  go : (b : Bool) → bytes_eq y x ≡ b → b ≡ false
  go true is = absurd (let t : true ≡ false = sym ((bytes_eq-Decides x y).1 (sym (same_bytes y x is))) ∙ h in cc)
  go false is = refl

pub or_left : (a b : Bool) → (a || b) ≡ false → a ≡ false
or_left true b h = absurd (cc)
or_left false b h = refl

pub or_right : (a b : Bool) → (a || b) ≡ false → b ≡ false
or_right true b h = absurd (cc)
or_right false b h = h

pub or_true : (a : Bool) → (a || true) ≡ true
or_true true = refl
or_true false = refl

and_left : (a b : Bool) → (a && b) ≡ true → a ≡ true
and_left true b h = refl
and_left false b h = absurd (cc)

and_right : (a b : Bool) → (a && b) ≡ true → b ≡ true
and_right true b h = h
and_right false b h = absurd (cc)

pub same_tree : (t u : TreeName) → is_tree t u ≡ true → t ≡ u
same_tree tree.Main tree.Main h = refl
same_tree tree.Main (tree.Proc y) h = absurd (cc)
same_tree tree.Main (tree.Start n) h = absurd (cc)
same_tree tree.Main (tree.Oper n y) h = absurd (cc)
same_tree (tree.Proc x) tree.Main h = absurd (cc)
same_tree (tree.Proc x) (tree.Proc y) h = ap tree.Proc (same_bytes x y h)
same_tree (tree.Proc x) (tree.Start n) h = absurd (cc)
same_tree (tree.Proc x) (tree.Oper n y) h = absurd (cc)
same_tree (tree.Start m) tree.Main h = absurd (cc)
same_tree (tree.Start m) (tree.Proc y) h = absurd (cc)
same_tree (tree.Start m) (tree.Start n) h = ap tree.Start (same_bytes m n h)
same_tree (tree.Start m) (tree.Oper n y) h = absurd (cc)
same_tree (tree.Oper m x) tree.Main h = absurd (cc)
same_tree (tree.Oper m x) (tree.Proc y) h = absurd (cc)
same_tree (tree.Oper m x) (tree.Start n) h = absurd (cc)
same_tree (tree.Oper m x) (tree.Oper n y) h =
    ap (λ k. tree.Oper k x) (same_bytes m n (and_left (bytes_eq m n) (bytes_eq x y) h))
    ∙ ap (tree.Oper n) (same_bytes x y (and_right (bytes_eq m n) (bytes_eq x y) h))

pub tree_self : (t : TreeName) → is_tree t t ≡ true
tree_self tree.Main = refl
tree_self (tree.Proc x) = bytes_self x
tree_self (tree.Start m) = bytes_self m
tree_self (tree.Oper m x) = ap (λ b. b && bytes_eq x x) (bytes_self m) ∙ bytes_self x

-- names of which none stands twice
abbrev pub Apart : List (List ℕ) → Type 0
Apart [] = Unit {0}
Apart (x ∷ xs) = (has_name x xs ≡ false) × Apart xs

not_put : (ys : List (List ℕ)) (x y : List ℕ) → has_name y ys ≡ false → bytes_eq x y ≡ false → has_name y (put_name ys x) ≡ false
not_put [] x y h e = rw e refl
not_put (z ∷ ys) x y h e = go (bytes_eq z x) (not_put ys x y (or_right (bytes_eq z y) (has_name y ys) h) e) where
  go : (b : Bool) → has_name y (put_name ys x) ≡ false → has_name y (if b then x ∷ ys else z ∷ put_name ys x) ≡ false
  go true rest = rw e (or_right (bytes_eq z y) (has_name y ys) h)
  go false rest = ap (λ b. b || has_name y (put_name ys x)) (or_left (bytes_eq z y) (has_name y ys) h) ∙ rest

pub apart_put : (xs : List (List ℕ)) (x : List ℕ) → Apart xs → Apart (put_name xs x)
apart_put [] x a = (refl, tt)
apart_put (y ∷ ys) x a = go (bytes_eq y x) refl (apart_put ys x a.1) where
  go : (b : Bool) → bytes_eq y x ≡ b → Apart (put_name ys x) → Apart (if b then x ∷ ys else y ∷ put_name ys x)
  go true is rest = (subst (λ z. has_name z ys ≡ false) (same_bytes y x is) a.0, a.1)
  go false is rest = (not_put ys x y a.0 (bytes_turned y x is), rest)

not_without : (ys : List (List ℕ)) (x y : List ℕ) → has_name y ys ≡ false → has_name y (without_name x ys) ≡ false
not_without [] x y h = refl
not_without (z ∷ ys) x y h = go (bytes_eq z x) (not_without ys x y (or_right (bytes_eq z y) (has_name y ys) h)) where
  go : (b : Bool) → has_name y (without_name x ys) ≡ false → has_name y (if b then ys else z ∷ without_name x ys) ≡ false
  go true rest = or_right (bytes_eq z y) (has_name y ys) h
  go false rest = ap (λ b. b || has_name y (without_name x ys)) (or_left (bytes_eq z y) (has_name y ys) h) ∙ rest

pub apart_without : (xs : List (List ℕ)) (x : List ℕ) → Apart xs → Apart (without_name x xs)
apart_without [] x a = a
apart_without (y ∷ ys) x a = go (bytes_eq y x) (apart_without ys x a.1) where
  go : (b : Bool) → Apart (without_name x ys) → Apart (if b then ys else y ∷ without_name x ys)
  go true rest = a.1
  go false rest = (not_without ys x y a.0, rest)

-- a name that is there stays where it is
pub put_again : (xs : List (List ℕ)) (x : List ℕ) → has_name x xs ≡ true → put_name xs x ≡ xs
put_again [] x h = absurd (cc)
put_again (y ∷ ys) x h = go (bytes_eq y x) refl h (λ k. put_again ys x k) where
  go : (b : Bool) → bytes_eq y x ≡ b → (b || has_name x ys) ≡ true → (has_name x ys ≡ true → put_name ys x ≡ ys) → (if b then x ∷ ys else y ∷ put_name ys x) ≡ y ∷ ys
  go true is h rest = ap (λ z. z ∷ ys) (sym (same_bytes y x is))
  go false is h rest = ap (λ zs. y ∷ zs) (rest h)

-- and a new one goes last
pub put_last : (xs : List (List ℕ)) (x : List ℕ) → has_name x xs ≡ false → put_name xs x ≡ xs ++ x ∷ []
put_last [] x h = refl
put_last (y ∷ ys) x h = ap (λ (b : Bool). if b then x ∷ ys else y ∷ put_name ys x) (or_left (bytes_eq y x) _ h) ∙ ap (λ zs. y ∷ zs) (put_last ys x (or_right (bytes_eq y x) _ h))
