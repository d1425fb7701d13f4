-- Reading a stack from its top, where the top is the last item.
use Rattle.std.proofs.Common.{◌≡◌, ℕ, suc, ◌+◌, ◌-◌, ◌<◌, List, ◌∷◌, length, drop, reverse, get_or, sym, ap, ◌∙◌, arith}
use Rattle.std.proofs.lemmas.List.{get_or-reverse, length-reverse}
use Rattle.std.proofs.Math.Seq.{drop-cons}

pub deep : {A : Type 0} (items xs : List A) (d l : ℕ) (x : A) → xs ≡ reverse items → l ≡ length items → d < l → x ≡ get_or items (l - 1 - d) x → drop d xs ≡ x ∷ drop (d + 1) xs
deep items xs d l x e h k r =
    let lt : d < length items = omega arith in
    let n : length xs ≡ length items = ap length e ∙ length-reverse items in
    let m : d < length xs = omega arith in
    let v : get_or xs d x ≡ x = ap (λ y. get_or y d x) e ∙ get_or-reverse items d x lt ∙ ap (λ y. get_or items (y - 1 - d) x) (sym h) ∙ sym r in
    drop-cons xs d x m ∙ ap (λ y. y ∷ drop (suc d) xs) v ∙ ap (λ y. x ∷ drop y xs) (let q : suc d ≡ d + 1 = omega arith in q)
