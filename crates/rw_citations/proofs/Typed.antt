-- What is told of an instance by terms of the right sorts.
use Rattle.std.proofs.Common.{◌≡◌, Bool, true, Option, sym, ap, ◌∙◌, Result, IfOk}
use Rattle.std.proofs.lemmas.Result.{IfOk-weaker}
use Rattle.rw_terms.specs.declared.term.Formula.{Formula}
use Rattle.rw_goals.specs.declared.added.Parts.{Parts}
use Rattle.rw_quantifiers.specs.Quantified.{beside_left, beside_right, typed_left, typed_right}

pub told_left : {E : Type 0} (r : Result Parts E) (o p : Option Formula) (b : Bool) (x : Parts) → IfOk r (λ q. q ≡ beside_left o) → o ≡ p → b ≡ true → x ≡ typed_left b p → IfOk r (λ q. q ≡ x)
told_left r o p b x h e is f =
    IfOk-weaker r (λ q. q ≡ beside_left o) (λ q. q ≡ x) (λ q k. k ∙ ap beside_left e ∙ sym (f ∙ ap (λ c. typed_left c p) is)) h

pub told_right : {E : Type 0} (r : Result Parts E) (o p : Option Formula) (b : Bool) (x : Parts) → IfOk r (λ q. q ≡ beside_right o) → o ≡ p → b ≡ true → x ≡ typed_right b p → IfOk r (λ q. q ≡ x)
told_right r o p b x h e is f =
    IfOk-weaker r (λ q. q ≡ beside_right o) (λ q. q ≡ x) (λ q k. k ∙ ap beside_right e ∙ sym (f ∙ ap (λ c. typed_right c p) is)) h
