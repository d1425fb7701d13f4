-- The tests of a root specification, one after the other.
use Rattle.std.proofs.Common.{◌≡◌, ℕ, List, Option, Some, None, map, sym, ap, ◌∙◌}
use Rattle.std.specs.Option.{option_or}
use Rattle.rw_terms.specs.declared.scope.Head.{Head}
use Rattle.rw_programs.specs.declared.prog.Param.{Param}
use Rattle.rw_programs.specs.declared.prog.Spec.{Spec}
use Rattle.rw_edit_tests.specs.declared.refusal.EditRefusal.TheVariants as refusal
use Rattle.rw_trees.specs.Edits.{global}
use Rattle.rw_edit_tests.specs.Refusals.{unknown, ill_formed, root_unknown, ill_formed_part, past_limit, root_refusal}

module _ (globals : List Param) (heads : List Head) (w : Spec) (o : Option (List ℕ)) (asked : o ≡ root_unknown globals heads w) where
  pub unknown_told : (x : List ℕ) → o ≡ Some x → Some (refusal.Unknown x) ≡ root_refusal globals heads w
  unfolding root_refusal
  unknown_told x is = ap (λ o. option_or (unknown o) (option_or (ill_formed (ill_formed_part (map global globals) heads w)) (past_limit w))) (sym is ∙ asked)

  all_known : o ≡ None → option_or (ill_formed (ill_formed_part (map global globals) heads w)) (past_limit w) ≡ root_refusal globals heads w
  unfolding root_refusal
  all_known is = ap (λ o. option_or (unknown o) (option_or (ill_formed (ill_formed_part (map global globals) heads w)) (past_limit w))) (sym is ∙ asked)

  module _ (part : Option ℕ) (tested : part ≡ ill_formed_part (map global globals) heads w) (known : o ≡ None) where
    pub part_told : (k : ℕ) → part ≡ Some k → Some (refusal.Sort k) ≡ root_refusal globals heads w
    part_told k is = ap (λ p. option_or (ill_formed p) (past_limit w)) (sym is ∙ tested) ∙ all_known known

    pub limit_told : part ≡ None → past_limit w ≡ root_refusal globals heads w
    limit_told is = ap (λ p. option_or (ill_formed p) (past_limit w)) (sym is ∙ tested) ∙ all_known known
