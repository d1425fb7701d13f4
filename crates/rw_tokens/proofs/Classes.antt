-- Tokens and their classes.
use Rattle.std.proofs.Common.{◌≡◌, List, [], ◌∷◌, ◌++◌, Some, refl, sym, ap, ◌∙◌}
use Rattle.rw_syntax.specs.declared.token.Token.{Token as Class}
use Rattle.rw_tokens.specs.Tokens.{Token}
use Rattle.rw_tokens.specs.Classes.{class_of, AreClasses}
use Rattle.rw_syntax.proofs.Choices.{some_is}

pub same_classes : (ts : List Token) (cs ds : List Class) → AreClasses ts cs → AreClasses ts ds → cs ≡ ds
same_classes [] cs ds a b = a ∙ sym b
same_classes (t ∷ ts) cs ds a b =
    let first : a.0 ≡ b.0 = some_is (sym a.3 ∙ b.3) in
    a.2 ∙ ap (λ c. c ∷ a.1) first ∙ ap (λ l. b.0 ∷ l) (same_classes ts a.1 b.1 a.4 b.4) ∙ sym b.2

-- one more
pub one_class : (ts : List Token) (cs : List Class) (t : Token) (c : Class) → AreClasses ts cs → class_of t ≡ Some c → AreClasses (ts ++ t ∷ []) (cs ++ c ∷ [])
one_class [] cs t c a e = (c, [], ap (λ l. l ++ c ∷ []) a, e, refl)
one_class (k ∷ ts) cs t c a e = (a.0, a.1 ++ c ∷ [], ap (λ l. l ++ c ∷ []) a.2, a.3, one_class ts a.1 t c a.4 e)

-- what is one more
pub last_class : (ts : List Token) (cs ds : List Class) (t : Token) → AreClasses ts cs → AreClasses (ts ++ t ∷ []) ds → (c : Class) × (class_of t ≡ Some c) × (ds ≡ cs ++ c ∷ [])
last_class [] cs ds t a b = (b.0, b.3, b.2 ∙ ap (λ l. b.0 ∷ l) b.4 ∙ ap (λ l. l ++ b.0 ∷ []) (sym a))
last_class (k ∷ ts) cs ds t a b =
    let r = last_class ts a.1 b.1 t a.4 b.4 in
    let first : b.0 ≡ a.0 = some_is (sym b.3 ∙ a.3) in
    (r.0, r.1, b.2 ∙ ap (λ c. c ∷ b.1) first ∙ ap (λ l. a.0 ∷ l) r.2 ∙ ap (λ l. l ++ r.0 ∷ []) (sym a.2))

-- classes of a front
pub front_classes : (ts more : List Token) (cs : List Class) → AreClasses (ts ++ more) cs → (fs : List Class) × (ms : List Class) × (cs ≡ fs ++ ms) × AreClasses ts fs × AreClasses more ms
front_classes [] more cs a = ([], cs, refl, refl, a)
front_classes (t ∷ ts) more cs a =
    let r = front_classes ts more a.1 a.4 in
    (a.0 ∷ r.0, r.1, a.2 ∙ ap (λ l. a.0 ∷ l) r.2, (a.0, r.0, refl, a.3, r.3), r.4)
