-- Terms that keep the rules of sorts have no loose binder; and where a term without initial variables is defined.
use Rattle.std.proofs.Common.{◌≡◌, ◌≢◌, ℕ, pos, Bool, true, false, ◌||◌, ◌&&◌, List, [], ◌∷◌, map, Option, Some, refl, sym, ◌∙◌, subst}
use Rattle.std.proofs.lemmas.Bool.{and_from, or_parts}
use Rattle.rw_terms.specs.declared.scope.Entry.{Entry}
use Rattle.rw_terms.specs.declared.term.Sort.{Sort}
use Rattle.rw_terms.specs.declared.term.Sort.TheVariants.{Int, Array}
use Rattle.rw_terms.specs.declared.term.Term.{Term}
use Rattle.rw_terms.specs.declared.term.Term.TheOpen.{Term-F}
use Rattle.rw_terms.specs.declared.term.Term.TheViews.{roll-Term}
use Rattle.rw_terms.specs.declared.term.Term.TheFolds.{map-Term, ind-Term, fold-roll-Term}
use Rattle.rw_terms.specs.State.{whole, cells, State}
use Rattle.rw_terms.specs.Value.{value}
use Rattle.rw_terms.specs.Rules.{of_ints, sort_step, sort_in}
use Rattle.rw_terms.specs.Mentions.{any_of}
use Rattle.rw_terms.specs.Defined.{IsIndex, PartDefined, Defined}
use Rattle.rw_terms.specs.Validity.{Each}
use Rattle.rw_faults.specs.Initial.{outside_step, term_outside}
use Rattle.rw_subst.specs.declared.slot.Form.{Form}
use Rattle.rw_subst.specs.declared.slot.Form.TheVariants as form
use Rattle.rw_subst.specs.Closed.{closed_step, is_closed}
use Rattle.rw_subst.specs.Looks.{in_states}
use Rattle.rw_subst.specs.Stands.{stands_in_term}
use Rattle.rw_subst.proofs.Every.{OfParts, every_term}
use Rattle.rw_subst.proofs.WellSorted.{int_part, int_parts, read_parts, put_parts}
use Rattle.rw_soundness.proofs.Bridges.{term_agrees}
use Rattle.rw_soundness.proofs.Initials.{none_in_term}

module _ (scope : List Entry) where
  abbrev Claim : Term → Type 0
  Claim t = (s : Sort) → sort_in scope [] t ≡ Some s → is_closed t ≡ true

  abbrev Part : Type 0
  Part = (t : Term) × Claim t

  abbrev under : Term-F Part → Term-F Term
  under = map-Term Part Term (λ e. e.0)

  two : (a b : Part) (s : Sort) → of_ints (sort_in scope [] a.0) (sort_in scope [] b.0) ≡ Some s → (is_closed a.0 && is_closed b.0) ≡ true
  two a b s e = let parts = int_parts _ _ s e in and_from _ _ (a.1 Int parts.0) (b.1 Int parts.1)

  layer : (y : Term-F Part) (s : Sort) → sort_step scope [] (map-Term Term (Option Sort) (sort_in scope []) (under y)) ≡ Some s → closed_step (map-Term Term Bool is_closed (under y)) ≡ true
  layer (Term-F.Lit n) s e = refl
  layer (Term-F.Var n) s e = refl
  layer (Term-F.Init n) s e = refl
  layer (Term-F.Const n) s e = refl
  layer (Term-F.Bound k) s e = absurd (cc)
  layer (Term-F.Neg a) s e = a.1 Int (int_part _ s e)
  layer (Term-F.Add a b) s e = two a b s e
  layer (Term-F.Sub a b) s e = two a b s e
  layer (Term-F.Mul a b) s e = two a b s e
  layer (Term-F.Div a b) s e = two a b s e
  layer (Term-F.Mod a b) s e = two a b s e
  layer (Term-F.Read a i) s e = let parts = read_parts _ _ s e in and_from _ _ (a.1 (Array parts.length) parts.array) (i.1 Int parts.index)
  layer (Term-F.Put a i z) s e =
      let parts = put_parts _ _ _ s e in and_from _ _ (a.1 (Array parts.length) parts.array) (and_from _ _ (i.1 Int parts.index) (z.1 Int parts.item))
  layer (Term-F.Fun f args) s e = absurd (cc)

  claim_at : (y : Term-F Part) → Claim (roll-Term (under y))
  claim_at y s e = fold-roll-Term Bool closed_step (under y) ∙ layer y s (sym (fold-roll-Term (Option Sort) (sort_step scope []) (under y)) ∙ e)

  pub sorted_closed : (t : Term) → Claim t
  sorted_closed = ind-Term Claim (λ u y is. subst (λ z. Claim (roll-Term z)) is (claim_at y))

-- the value of a term without initial variables is the same in all initial states
pub same_value : (t : Term) → term_outside [] t ≡ false → (s0 s1 s : State) → value s0 s [] t ≡ value s1 s [] t
same_value t e s0 s1 s = term_agrees t (in_states s0 s) (in_states s1 s) same
  where
    same : (g : Form) (x : List ℕ) → stands_in_term g x t ≡ true → in_states s0 s g x ≡ in_states s1 s g x
    same form.Variable x h = refl
    same form.Initial x h = absurd (none_in_term x t e h)
    same form.Constant x h = refl

module _ (s0 s1 s : State) where
  abbrev out : Term → Bool
  out = term_outside []

  abbrev Moves : Term → Type 0
  Moves t = out t ≡ false → Defined s0 s t → Defined s1 s t

  abbrev Moving : Type 0
  Moving = (t : Term) × Moves t

  abbrev below : Term-F Moving → Term-F Term
  below = map-Term Moving Term (λ e. e.0)

  divides : (b : Term) → out b ≡ false → whole (value s0 s [] b) ≢ pos 0 → whole (value s1 s [] b) ≢ pos 0
  divides b e = subst (λ v. whole v ≢ pos 0) (same_value b e s0 s1 s)

  within : (a i : Term) → out a ≡ false → out i ≡ false → IsIndex (whole (value s0 s [] i)) (cells (value s0 s [] a)) → IsIndex (whole (value s1 s [] i)) (cells (value s1 s [] a))
  within a i e h k = subst (λ v. IsIndex (whole (value s1 s [] i)) (cells v)) (same_value a e s0 s1 s) (subst (λ v. IsIndex (whole v) (cells (value s0 s [] a))) (same_value i h s0 s1 s) k)

  both_move : (a b : Moving) → (out a.0 || out b.0) ≡ false → Defined s0 s a.0 × Defined s0 s b.0 → Defined s1 s a.0 × Defined s1 s b.0
  both_move a b e h = (a.1 (or_parts (out a.0) (out b.0) e).0 h.0, b.1 (or_parts (out a.0) (out b.0) e).1 h.1)

  args_move : (ts : List Moving) → any_of (map out (map (λ e. e.0) ts)) ≡ false → Each (Defined s0 s) (map (λ e. e.0) ts) → Each (Defined s1 s) (map (λ e. e.0) ts)
  args_move [] e h = tt
  args_move (t ∷ ts) e h =
      let rest = any_of (map out (map (λ e. e.0) ts)) in (t.1 (or_parts (out t.0) rest e).0 h.0, args_move ts (or_parts (out t.0) rest e).1 h.1)

  layer_moves : (y : Term-F Moving) → outside_step [] (map-Term Term Bool out (below y)) ≡ false → PartDefined s0 s (below y) × OfParts (Defined s0 s) (below y) → PartDefined s1 s (below y) × OfParts (Defined s1 s) (below y)
  layer_moves (Term-F.Lit n) e h = h
  layer_moves (Term-F.Var n) e h = h
  layer_moves (Term-F.Init n) e h = h
  layer_moves (Term-F.Const n) e h = h
  layer_moves (Term-F.Bound k) e h = h
  layer_moves (Term-F.Neg a) e h = (tt, a.1 e h.1)
  layer_moves (Term-F.Add a b) e h = (tt, both_move a b e h.1)
  layer_moves (Term-F.Sub a b) e h = (tt, both_move a b e h.1)
  layer_moves (Term-F.Mul a b) e h = (tt, both_move a b e h.1)
  layer_moves (Term-F.Div a b) e h = (divides b.0 (or_parts (out a.0) (out b.0) e).1 h.0, both_move a b e h.1)
  layer_moves (Term-F.Mod a b) e h = (divides b.0 (or_parts (out a.0) (out b.0) e).1 h.0, both_move a b e h.1)
  layer_moves (Term-F.Read a i) e h = (within a.0 i.0 (or_parts (out a.0) (out i.0) e).0 (or_parts (out a.0) (out i.0) e).1 h.0, both_move a i e h.1)
  layer_moves (Term-F.Put a i z) e h =
      let first = (or_parts (out a.0 || out i.0) (out z.0) e).0 in
      let array = (or_parts (out a.0) (out i.0) first).0 in
      let index = (or_parts (out a.0) (out i.0) first).1 in
      (within a.0 i.0 array index h.0, (a.1 array h.1.0, i.1 index h.1.1, z.1 (or_parts (out a.0 || out i.0) (out z.0) e).1 h.1.2))
  layer_moves (Term-F.Fun f ts) e h = (tt, args_move ts e h.1)

  moves_at : (y : Term-F Moving) → Moves (roll-Term (below y))
  moves_at y e h =
      (every_term (PartDefined s1 s) (below y)).1 (layer_moves y (sym (fold-roll-Term Bool (outside_step []) (below y)) ∙ e) ((every_term (PartDefined s0 s) (below y)).0 h))

  -- a term without initial variables is defined whatever the initial state is
  pub defined_moves : (t : Term) → Moves t
  defined_moves = ind-Term Moves (λ u y is. subst (λ z. Moves (roll-Term z)) is (moves_at y))
