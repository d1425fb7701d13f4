-- States within a frame.
use Rattle.std.proofs.Common.{◌≡◌, refl, sym, subst, ◌∙◌, Bool, true, false, List, [], ◌∷◌, find, Option, Some, None, ◌||◌, true≢false}
use Rattle.std.specs.Prelude.{bytes_eq}
use Rattle.rw_terms.specs.declared.term.Sort.{Sort}
use Rattle.rw_terms.specs.declared.term.Sort.TheVariants.{Int, Array}
use Rattle.rw_terms.specs.declared.scope.Entry.{Entry}
use Rattle.rw_terms.specs.State.{Value, Whole, Cells, HasSort, FitsEntry, Fits as FitsMap, State as Map}
use Rattle.rw_terms.specs.Scopes.{has_name}
use Rattle.rw_programs.specs.State.{Name, State, SameSort, Within, is_in, put_all}
use Rattle.rw_programs.proofs.Beside.{FitsBeside}

-- a name outside the list keeps what it has
pub put_all_off : (xs : List Name) (vs : List (Option Value)) (m : Map) (x : Name) → is_in x xs ≡ false → put_all xs vs m x ≡ m x
put_all_off [] vs m x h = refl
put_all_off (y ∷ ys) vs m x h = go (bytes_eq x y) refl h vs (λ vs h. put_all_off ys vs m x h)
  where
    go : (b : Bool) → bytes_eq x y ≡ b → (b || is_in x ys) ≡ false → (vs : List (Option Value))
        → ((vs : List (Option Value)) → is_in x ys ≡ false → put_all ys vs m x ≡ m x) → put_all (y ∷ ys) vs m x ≡ m x
    go true e h vs ih = absurd (true≢false h)
    go false e h [] ih = rw e (ih [] h)
    go false e h (v ∷ vs) ih = rw e (ih vs h)

-- a value that has the sort of another that has a known sort
sort_moves : (a b : Sort) (u v : Value) → HasSort u a → HasSort u b → HasSort v b → HasSort v a
sort_moves Int Int (Whole z) v h k l = l
sort_moves Int Int (Cells us) v h k l = absurd h
sort_moves Int (Array n) (Whole z) v h k l = absurd k
sort_moves Int (Array n) (Cells us) v h k l = absurd h
sort_moves (Array n) b (Whole z) v h k l = absurd h
sort_moves (Array n) Int (Cells us) v h k l = absurd k
sort_moves (Array n) (Array m) (Cells us) (Whole z) h k l = absurd l
sort_moves (Array n) (Array m) (Cells us) (Cells vs) h k l = l ∙ (sym k ∙ h)

fits_same : (o : Option Entry) (u v : Option Value) → FitsEntry o u → SameSort u v → FitsEntry o v
fits_same None None None f h = tt
fits_same None None (Some v) f h = absurd h
fits_same None (Some u) v f h = absurd f
fits_same (Some a) None v f h = absurd f
fits_same (Some a) (Some u) None f h = absurd h
fits_same (Some a) (Some u) (Some v) f h = sort_moves a.sort h.0 u v f h.1 h.2

same_same : (u v w : Option Value) → SameSort u v → SameSort v w → SameSort u w
same_same None None w h k = k
same_same None (Some v) w h k = absurd h
same_same (Some u) None w h k = absurd h
same_same (Some u) (Some v) None h k = absurd k
same_same (Some u) (Some v) (Some w) h k = (h.0, h.1, sort_moves h.0 k.0 v w h.2 k.1 k.2)

-- a state within a frame of one that fits, fits
pub within_fits : {others : Name → Map} (scope : List Entry) (w : List Name) (s t : State) → FitsBeside others scope s → Within w s t → FitsBeside others scope t
within_fits scope w s t f h = record { names = λ x. go x (is_in x w) refl; parts = h.parts ∙ f.parts }
  where
    go : (x : Name) (b : Bool) → is_in x w ≡ b → FitsEntry (find (has_name x) scope) (t.own x)
    go x true e = fits_same _ _ _ (f.names x) (h.sorts x e)
    go x false e = subst (FitsEntry (find (has_name x) scope)) (sym (h.off x e)) (f.names x)

pub within_trans : (w : List Name) (s t u : State) → Within w s t → Within w t u → Within w s u
within_trans w s t u h k = record {
  off = λ x e. k.off x e ∙ h.off x e;
  sorts = λ x e. same_same _ _ _ (h.sorts x e) (k.sorts x e);
  parts = k.parts ∙ h.parts;
}

fits_itself : (o : Option Entry) (v : Option Value) → FitsEntry o v → SameSort v v
fits_itself None None f = tt
fits_itself None (Some v) f = absurd f
fits_itself (Some a) None f = absurd f
fits_itself (Some a) (Some v) f = (a.sort, f, f)

pub within_refl : (scope : List Entry) (w : List Name) (s : State) → FitsMap scope s.own → Within w s s
within_refl scope w s f = record { off = λ x e. refl; sorts = λ x e. fits_itself _ _ (f x); parts = refl }
