-- The tests of what the table gets, one after the other.
use Rattle.std.proofs.Common.{◌≡◌, ℕ, List, Option, Some, None, sym, ap, ◌∙◌}
use Rattle.rw_edit_tests.specs.declared.refusal.EditRefusal.{EditRefusal}
use Rattle.rw_edit_tests.specs.declared.refusal.EditRefusal.TheVariants as refusal
use Rattle.rw_edit_tests.specs.Entering.{entry_refusal}

-- where the first three tests pass, the fourth decides
pub passed : (name : Option (List ℕ)) (twice : Option EditRefusal) (part : Option ℕ) (limit : Option EditRefusal) →
    name ≡ None → twice ≡ None → part ≡ None → limit ≡ entry_refusal name twice part limit
passed name twice part limit known single formed =
    sym (ap (λ x. entry_refusal x twice part limit) known ∙ ap (λ x. entry_refusal None x part limit) single ∙ ap (λ x. entry_refusal None None x limit) formed)

-- the first test that does not pass decides
module _ {name known : Option (List ℕ)} (en : name ≡ known) where
  pub name_told : (twice : Option EditRefusal) (part : Option ℕ) (limit : Option EditRefusal) {x : List ℕ} → name ≡ Some x → Some (refusal.Unknown x) ≡ entry_refusal known twice part limit
  name_told twice part limit is = ap (λ o. entry_refusal o twice part limit) (sym is ∙ en)

  module _ (nn : name ≡ None) {twice single : Option EditRefusal} (et : twice ≡ single) where
    after_name : (part : Option ℕ) (limit : Option EditRefusal) → entry_refusal None twice part limit ≡ entry_refusal known single part limit
    after_name part limit = ap (λ o. entry_refusal o twice part limit) (sym nn ∙ en) ∙ ap (λ t. entry_refusal known t part limit) et

    pub twice_told : (part : Option ℕ) (limit : Option EditRefusal) {r : EditRefusal} → twice ≡ Some r → Some r ≡ entry_refusal known single part limit
    twice_told part limit is = ap (λ t. entry_refusal None t part limit) (sym is) ∙ after_name part limit

    module _ (nt : twice ≡ None) {part formed : Option ℕ} (ep : part ≡ formed) where
      after_twice : (limit : Option EditRefusal) → entry_refusal None None part limit ≡ entry_refusal known single formed limit
      after_twice limit = ap (λ t. entry_refusal None t part limit) (sym nt) ∙ after_name part limit ∙ ap (λ p. entry_refusal known single p limit) ep

      pub part_told : (limit : Option EditRefusal) {k : ℕ} → part ≡ Some k → Some (refusal.Sort k) ≡ entry_refusal known single formed limit
      part_told limit is = ap (λ p. entry_refusal None None p limit) (sym is) ∙ after_twice limit

-- the same of the tests of an entry as the code answers them, one after the other
pub told : {name known : Option (List ℕ)} {twice single : Option EditRefusal} {part formed : Option ℕ} {limit within : Option EditRefusal} →
    name ≡ known → name ≡ None → twice ≡ single → twice ≡ None → part ≡ formed → part ≡ None → limit ≡ within → limit ≡ entry_refusal known single formed within
told en nn et nt ep np el = el ∙ passed _ _ _ _ (sym en ∙ nn) (sym et ∙ nt) (sym ep ∙ np)
