use Rattle.std.proofs.Common.{◌≡◌, ℕ, ◌++◌, drop, List, [], ◌∷◌, refl, ap, sym, ◌∙◌}
use Rattle.std.proofs.lemmas.List.{append-nil, drop_all}
use Rattle.rw_derived.specs.Derived.{set_to}
use Rattle.rw_wpview.proofs.before.set_to.Goals as goal

none_set : (names : List (List ℕ)) → set_to names [] ≡ []
none_set [] = refl
none_set (x ∷ names) = refl

pub returns-then-i-terms : goal.returns-then-i-terms
returns-then-i-terms c =
    let left = drop c.loop-i.i c.args.names.now in
    sym (append-nil c.loop-i.changes) ∙ (ap (λ r. c.loop-i.changes ++ r) (sym (ap (set_to left) (drop_all c.loop-i.i c.args.terms.now c.if-i-terms.true) ∙ none_set left)) ∙ c.loop-i.invariant)
