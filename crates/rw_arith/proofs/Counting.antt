-- The first fault of lines is behind those that gave polynomials.
use Rattle.std.proofs.Common.{◌≡◌, ℕ, ◌+◌, ◌<◌, ◌≤◌, ◌⊎◌, inl, inr, Bool, true, false, cond, List, [], ◌∷◌, ◌++◌, drop, length, Some, None, Err, sym, subst, arith, length-drop}
use Rattle.rw_terms.specs.declared.term.Formula.{Formula}
use Rattle.rw_arith.specs.declared.line.LinLine.{LinLine}
use Rattle.rw_arith.specs.declared.error.LinError.{LinError}
use Rattle.rw_arith.specs.declared.error.LinError.TheVariants as fault
use Rattle.rw_arith.specs.declared.poly.Summand.{Summand}
use Rattle.rw_arith.specs.declared.poly.Expansion.{Expansion}
use Rattle.rw_arith.specs.declared.poly.Expansion.TheVariants.{Polynomial, Unfit, Wide}
use Rattle.rw_arith.specs.Lines.{line_expansion, made_by, if_made, all_made, refutes, fault_of, lines_fault, checked_of, Counted}

at_end : (b : Bool) (n total : ℕ) → n ≤ total → n ≤ checked_of total (cond b None (Some (fault.NotContradiction total)))
at_end true n total h = h
at_end false n total h = h

module _ (left right : List Formula) (total : ℕ) where
  abbrev Behind : ℕ → ℕ → List LinLine → List (List Summand) → Type 0
  Behind k n lines made = k ≤ checked_of total (fault_of total (all_made left right n lines made))

  behind_line : (e : Expansion) (lines : List LinLine) (made : List (List Summand)) (n : ℕ) → ((made : List (List Summand)) → Behind (n + 1) (n + 1) lines made) →
      n + 1 ≤ checked_of total (fault_of total (if_made (made_by (n + 1) made e) (all_made left right (n + 1) lines)))
  behind_line (Polynomial p) lines made n h = h (made ++ p ∷ [])
  behind_line Unfit lines made n h = omega arith
  behind_line Wide lines made n h = omega arith

  behind : (lines : List LinLine) (made : List (List Summand)) (n : ℕ) → n + length lines ≤ total → Behind n n lines made
  behind [] made n h = at_end (refutes made) n total (omega arith)
  behind (line ∷ lines) made n h =
      let k = behind_line (line_expansion left right made line) lines made n (λ more. behind lines more (n + 1) (omega arith)) in omega arith

  behind_next : (lines : List LinLine) (made : List (List Summand)) (n : ℕ) → 0 < length lines → n + length lines ≤ total → Behind (n + 1) n lines made
  behind_next [] made n some h = absurd (omega arith)
  behind_next (line ∷ lines) made n some h = behind_line (line_expansion left right made line) lines made n (λ more. behind lines more (n + 1) (omega arith))

-- where the first lines gave polynomials, the next one is checked
next_is_checked : (left right : List Formula) (lines : List LinLine) (made : List (List Summand)) (n i : ℕ) → n ≡ i → i < length lines →
    all_made left right n (drop i lines) made ≡ all_made left right 0 lines [] → n + 1 ≤ checked_of (length lines) (lines_fault left right lines)
next_is_checked left right lines made n i is h e =
    let l = length-drop i lines in
    subst (λ r. n + 1 ≤ checked_of (length lines) (fault_of (length lines) r)) e
    (behind_next left right (length lines) (drop i lines) made n (omega (arith, l)) (omega (arith, l)))

-- the steps where a line has no polynomial, or there is no memory
pub stopped : (left right : List Formula) (lines : List LinLine) (made : List (List Summand)) (n i old new : ℕ) (x : Expansion) (e : LinError) → n ≡ i → i < length lines →
    all_made left right n (drop i lines) made ≡ all_made left right 0 lines [] → new ≡ old + (n + 1) → (e ≡ fault.Memory) ⊎ (made_by (n + 1) made x ≡ Err e) →
    Counted (length lines) (lines_fault left right lines) old new e
stopped left right lines made n i old new x e is h rest ticked (inl none) =
    let k = next_is_checked left right lines made n i is h rest in
    let most : new ≤ old + checked_of (length lines) (lines_fault left right lines) = omega arith in
    subst (Counted (length lines) (lines_fault left right lines) old new) (sym none) most
stopped left right lines made n i old new (Polynomial p) e is h rest ticked (inr k) = absurd (cc)
stopped left right lines made n i old new Unfit e is h rest ticked (inr k) =
    let same : fault.BadLine (n + 1) ≡ e = cc in subst (Counted (length lines) (lines_fault left right lines) old new) same ticked
stopped left right lines made n i old new Wide e is h rest ticked (inr k) =
    let same : fault.Wide (n + 1) ≡ e = cc in subst (Counted (length lines) (lines_fault left right lines) old new) same ticked
