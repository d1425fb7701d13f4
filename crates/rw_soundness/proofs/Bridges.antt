-- Truth depends on the names that stand in a formula, each in its form; and what replacement does to it.
use Rattle.std.proofs.Common.{◌≡◌, ◌↔◌, ℕ, true, List, [], ◌∷◌, slice_get, refl, sym, ap, ◌∙◌}
use Rattle.rw_terms.specs.declared.term.Term.{Term}
use Rattle.rw_terms.specs.declared.term.Formula.{Formula}
use Rattle.rw_terms.specs.State.{Value, given}
use Rattle.rw_terms.specs.Truth.{Definition}
use Rattle.rw_subst.specs.declared.slot.Form.{Form}
use Rattle.rw_subst.specs.declared.slot.Change.{Change}
use Rattle.rw_subst.specs.Closed.{are_closed}
use Rattle.rw_subst.specs.Looks.{Looks, value_of, holds_of, changed_looks}
use Rattle.rw_subst.specs.Replaced.{changed_leaves, replaced_term, replaced_formula}
use Rattle.rw_subst.specs.Stands.{stands_in_term, stands_in}
use Rattle.rw_subst.proofs.ClosedTerms.{plain_value, binder_value}
use Rattle.rw_subst.proofs.Rebuilding.{kept_term, kept_formula}
use Rattle.rw_subst.proofs.Replacing.{replacement_keeps_truth}
use Rattle.rw_subst.proofs.Defining.{then, back}

-- the binders are the same ones
abbrev SameBinders : ℕ → List Value → List Value → Type 0
SameBinders k b b' = b ≡ b'

module _ (looks there : Looks) where
  kept : (t : Term) → ((g : Form) (x : List ℕ) → stands_in_term g x t ≡ true → looks g x ≡ there g x) → value_of looks [] (replaced_term [] t) ≡ value_of there [] t
  kept t same =
      kept_term (changed_leaves []) looks there (λ g x. stands_in_term g x t) SameBinders (λ k b b' r g x h. plain_value looks b g x ∙ same g x h)
      (λ k b b' r j. binder_value looks b j ∙ ap (λ l. given (slice_get l j)) r) 0 [] [] refl t (λ g x h. h)

  kept_truth : (f : Formula) (definitions : List Definition) → ((g : Form) (x : List ℕ) → stands_in g x f ≡ true → looks g x ≡ there g x) →
      holds_of definitions looks (replaced_formula [] f) [] ↔ holds_of definitions there f []
  kept_truth f definitions same =
      kept_formula (changed_leaves []) looks there (λ g x. stands_in g x f) SameBinders (λ k b b' r g x h. plain_value looks b g x ∙ same g x h)
      (λ k b b' r j. binder_value looks b j ∙ ap (λ l. given (slice_get l j)) r) (λ k b b' w r. ap (λ l. w ∷ l) r) definitions f (λ g x h. h) 0 [] [] refl

-- a term has one value by look-ups that agree on what stands in it
pub term_agrees : (t : Term) (looks there : Looks) → ((g : Form) (x : List ℕ) → stands_in_term g x t ≡ true → looks g x ≡ there g x) → value_of looks [] t ≡ value_of there [] t
term_agrees t looks there same = sym (kept looks looks t (λ g x h. refl)) ∙ kept looks there t same

-- a formula holds by both or by neither
pub agrees : (f : Formula) (definitions : List Definition) (looks there : Looks) → ((g : Form) (x : List ℕ) → stands_in g x f ≡ true → looks g x ≡ there g x) →
    holds_of definitions looks f [] ↔ holds_of definitions there f []
agrees f definitions looks there same = then (back (kept_truth looks looks f definitions (λ g x h. refl))) (kept_truth looks there f definitions same)

-- what is replaced holds where the formula holds by the changed look-ups
pub bridge : (changes : List Change) (f : Formula) (definitions : List Definition) (looks there : Looks) → are_closed changes ≡ true →
    ((g : Form) (x : List ℕ) → stands_in g x f ≡ true → changed_looks changes looks g x ≡ there g x) → holds_of definitions looks (replaced_formula changes f) [] ↔ holds_of definitions there f []
bridge changes f definitions looks there closed same = then (replacement_keeps_truth changes f closed definitions looks []) (agrees f definitions (changed_looks changes looks) there same)
