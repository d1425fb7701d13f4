-- The tests of definitions and lemmas, one after the other.
use Rattle.std.proofs.Common.{◌≡◌, ℕ, ◌&&◌, Bool, false, List, [], sym, ap, ◌∙◌, Option, None}
use Rattle.std.specs.Option.{option_or}
use Rattle.std.specs.List.{list_all}
use Rattle.rw_terms.specs.declared.scope.Entry.{Entry}
use Rattle.rw_terms.specs.declared.scope.Head.{Head}
use Rattle.rw_terms.specs.Named.{Named}
use Rattle.rw_faults.specs.Faults.{unknown_in}
use Rattle.rw_faults.specs.Limits.{is_light, is_shallow}
use Rattle.rw_goals.specs.declared.library.Definition.{Definition}
use Rattle.rw_goals.specs.declared.library.Lemma.{Lemma}
use Rattle.rw_goals.specs.declared.library.Item.{Item}
use Rattle.rw_citations.specs.Goal.{scope_of_parameters}
use Rattle.rw_library.specs.Entries.{has_lemma, has_definition, heads_of}
use Rattle.rw_refusals.specs.declared.refusal.EditRefusal.{EditRefusal}
use Rattle.rw_refusals.specs.Refusals.{unknown, ill_formed, is_ill_formed}
use Rattle.rw_refusals.specs.Entering.{duplicate, entry_limit, heads_with, body_part, define_refusal, lemma_unknown, lemma_part, lemma_refusal}

-- where the first three tests pass, the fourth decides
passed : (a b c d : Option EditRefusal) → a ≡ None → b ≡ None → c ≡ None → option_or a (option_or b (option_or c d)) ≡ d
passed a b c d ea eb ec =
    ap (λ o. option_or o (option_or b (option_or c d))) ea ∙ ap (λ o. option_or o (option_or c d)) eb ∙ ap (λ o. option_or o d) ec

pub define_passed : (es : List Item) (d : Definition) (params : List Named) (scope : List Entry) (heads : List Head) (u : Option (List ℕ)) (clash ill light shallow : Bool) (dup r : Option EditRefusal) →
    params ≡ d.params → scope ≡ scope_of_parameters params → heads ≡ heads_with d es →
    u ≡ unknown_in scope heads d.body → u ≡ None → clash ≡ has_lemma d.name es → dup ≡ duplicate clash d.name params → dup ≡ None →
    ill ≡ is_ill_formed scope heads [] d.body → ill ≡ false → light ≡ is_light d.body → shallow ≡ is_shallow d.body → r ≡ entry_limit light shallow params d.name es → r ≡ define_refusal es d
unfolding define_refusal
define_passed es d params scope heads u clash ill light shallow dup r ep esc eh eu nu ecl ed nd ei ni el esh er =
    let scopes : scope ≡ scope_of_parameters d.params = esc ∙ ap scope_of_parameters ep in
    let known : unknown_in (scope_of_parameters d.params) (heads_with d es) d.body ≡ None =
    sym (ap (λ s. unknown_in s (heads_with d es) d.body) scopes) ∙ sym (ap (λ h. unknown_in scope h d.body) eh) ∙ sym eu ∙ nu in
    let single : duplicate (has_lemma d.name es) d.name d.params ≡ None =
    sym (ap (λ c. duplicate c d.name d.params) ecl) ∙ sym (ap (duplicate clash d.name) ep) ∙ sym ed ∙ nd in
    let formed : is_ill_formed (scope_of_parameters d.params) (heads_with d es) [] d.body ≡ false =
    sym (ap (λ s. is_ill_formed s (heads_with d es) [] d.body) scopes) ∙ sym (ap (λ h. is_ill_formed scope h [] d.body) eh) ∙ sym ei ∙ ni in
    er
    ∙ ap (λ ps. entry_limit light shallow ps d.name es) ep
    ∙ ap (λ b. entry_limit b shallow d.params d.name es) el
    ∙ ap (λ b. entry_limit (is_light d.body) b d.params d.name es) esh
    ∙ sym (passed (unknown (unknown_in (scope_of_parameters d.params) (heads_with d es) d.body)) (duplicate (has_lemma d.name es) d.name d.params)
    (ill_formed (body_part (is_ill_formed (scope_of_parameters d.params) (heads_with d es) [] d.body))) _ (ap unknown known) single (ap (λ b. ill_formed (body_part b)) formed))

pub lemma_passed : (es : List Item) (l : Lemma) (params : List Named) (heads : List Head) (u : Option (List ℕ)) (part : Option ℕ) (clash light shallow : Bool) (dup r : Option EditRefusal) →
    params ≡ l.params → heads ≡ heads_of es →
    u ≡ lemma_unknown heads l → u ≡ None → clash ≡ has_definition l.name es → dup ≡ duplicate clash l.name params → dup ≡ None → part ≡ lemma_part heads l → part ≡ None →
    light ≡ list_all is_light l.sequent.left && list_all is_light l.sequent.right → shallow ≡ list_all is_shallow l.sequent.left && list_all is_shallow l.sequent.right →
    r ≡ entry_limit light shallow params l.name es → r ≡ lemma_refusal es l
unfolding lemma_refusal
lemma_passed es l params heads u part clash light shallow dup r ep eh eu nu ecl ed nd epart npart el esh er =
    let known : lemma_unknown (heads_of es) l ≡ None = sym (ap (λ h. lemma_unknown h l) eh) ∙ sym eu ∙ nu in
    let single : duplicate (has_definition l.name es) l.name l.params ≡ None =
    sym (ap (λ c. duplicate c l.name l.params) ecl) ∙ sym (ap (duplicate clash l.name) ep) ∙ sym ed ∙ nd in
    let formed : lemma_part (heads_of es) l ≡ None = sym (ap (λ h. lemma_part h l) eh) ∙ sym epart ∙ npart in
    er
    ∙ ap (λ ps. entry_limit light shallow ps l.name es) ep
    ∙ ap (λ b. entry_limit b shallow l.params l.name es) el
    ∙ ap (λ b. entry_limit (list_all is_light l.sequent.left && list_all is_light l.sequent.right) b l.params l.name es) esh
    ∙ sym (passed (unknown (lemma_unknown (heads_of es) l)) (duplicate (has_definition l.name es) l.name l.params) (ill_formed (lemma_part (heads_of es) l)) _ (ap unknown known) single (ap ill_formed formed))
