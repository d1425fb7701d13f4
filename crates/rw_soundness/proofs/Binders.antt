-- Formulas within the limits, and the sorts of terms under binders.
use Rattle.std.proofs.Common.{◌≡◌, true, List, [], Option, Some, refl, sym, ap, ◌∙◌, subst, leb-true}
use Rattle.std.proofs.lemmas.Bool.{and_parts}
use Rattle.rw_terms.specs.declared.scope.Entry.{Entry}
use Rattle.rw_terms.specs.declared.term.Sort.{Sort}
use Rattle.rw_terms.specs.declared.term.Sort.TheVariants.{Int, Array}
use Rattle.rw_terms.specs.declared.term.Term.{Term}
use Rattle.rw_terms.specs.declared.term.Term.TheOpen.{Term-F}
use Rattle.rw_terms.specs.declared.term.Term.TheViews.{roll-Term}
use Rattle.rw_terms.specs.declared.term.Term.TheFolds.{map-Term, ind-Term, fold-roll-Term}
use Rattle.rw_terms.specs.declared.term.Formula.{Formula}
use Rattle.rw_terms.specs.Rules.{of_int, of_ints, of_read, of_put, sort_step, sort_in}
use Rattle.rw_terms.specs.WellFormed.{IsSmallFormula}
use Rattle.rw_subst.proofs.WellSorted.{int_part, int_parts, read_parts, put_parts}
use Rattle.rw_faults.specs.Limits.{is_small}

-- a formula within the limits
pub small : (f : Formula) → is_small f ≡ true → IsSmallFormula f
small f e = (leb-true _ _ (and_parts _ _ e).0, leb-true _ _ (and_parts _ _ e).1)

module _ (scope : List Entry) (b : List Sort) where
  abbrev old : Term → Option Sort
  old = sort_in scope []

  abbrev new : Term → Option Sort
  new = sort_in scope b

  abbrev Claim : Term → Type 0
  Claim t = (s : Sort) → old t ≡ Some s → new t ≡ old t

  abbrev Part : Type 0
  Part = (t : Term) × Claim t

  abbrev under : Term-F Part → Term-F Term
  under = map-Term Part Term (λ e. e.0)

  two : (p q : Part) (s : Sort) → of_ints (old p.0) (old q.0) ≡ Some s → of_ints (new p.0) (new q.0) ≡ of_ints (old p.0) (old q.0)
  two p q s e = let parts = int_parts _ _ s e in λ i. of_ints (p.1 Int parts.0 i) (q.1 Int parts.1 i)

  layer : (y : Term-F Part) (s : Sort) → sort_step scope [] (map-Term Term (Option Sort) old (under y)) ≡ Some s
      → sort_step scope b (map-Term Term (Option Sort) new (under y)) ≡ sort_step scope [] (map-Term Term (Option Sort) old (under y))
  layer (Term-F.Lit n) s e = refl
  layer (Term-F.Var n) s e = refl
  layer (Term-F.Init n) s e = refl
  layer (Term-F.Const n) s e = refl
  layer (Term-F.Bound k) s e = absurd (cc)
  layer (Term-F.Neg p) s e = ap of_int (p.1 Int (int_part _ s e))
  layer (Term-F.Add p q) s e = two p q s e
  layer (Term-F.Sub p q) s e = two p q s e
  layer (Term-F.Mul p q) s e = two p q s e
  layer (Term-F.Div p q) s e = two p q s e
  layer (Term-F.Mod p q) s e = two p q s e
  layer (Term-F.Read p q) s e = let parts = read_parts _ _ s e in λ i. of_read (p.1 (Array parts.length) parts.array i) (q.1 Int parts.index i)
  layer (Term-F.Put p q r) s e = let parts = put_parts _ _ _ s e in λ i. of_put (p.1 (Array parts.length) parts.array i) (q.1 Int parts.index i) (r.1 Int parts.item i)
  layer (Term-F.Fun f args) s e = absurd (cc)

  claim_at : (y : Term-F Part) → Claim (roll-Term (under y))
  claim_at y s e =
      let is = fold-roll-Term (Option Sort) (sort_step scope []) (under y) in
      fold-roll-Term (Option Sort) (sort_step scope b) (under y) ∙ (layer y s (sym is ∙ e) ∙ sym is)

  -- a term that has a sort has it whatever the binders are
  pub sort_under : (t : Term) → Claim t
  sort_under = ind-Term Claim (λ u y is. subst (λ z. Claim (roll-Term z)) is (claim_at y))
