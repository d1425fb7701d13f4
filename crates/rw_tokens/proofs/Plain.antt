-- Tokens that hold no word are tokens of a line.
use Rattle.std.proofs.Common.{◌≡◌, true, false, List, [], ◌∷◌, Some, IsTrue, refl, sym, true≢false}
use Rattle.std.specs.Prelude.{codes}
use Rattle.rw_syntax.specs.declared.token.Infix.TheVariants as infixes
use Rattle.rw_syntax.specs.declared.token.Infix.{Infix}
use Rattle.rw_syntax.specs.declared.token.Quantifier.TheVariants as quantifiers
use Rattle.rw_syntax.specs.declared.token.Token.{Token as Class}
use Rattle.rw_syntax.specs.declared.token.Token.TheVariants as classes
use Rattle.rw_syntax.proofs.Goes.{is_plain, ArePlain}
use Rattle.rw_tokens.specs.Tokens.{Token, text, number, binder}
use Rattle.rw_tokens.specs.Classes.{mark_texts, text_class, class_of, AreClasses}

infix_token : (op : Infix) → (t : Token) × (class_of t ≡ Some (classes.Infix op))
unfolding mark_texts text_class class_of
infix_token infixes.And = (text (codes "and"), refl)
infix_token infixes.Or = (text (codes "or"), refl)
infix_token infixes.Implies = (text (codes "=>"), refl)
infix_token infixes.Equal = (text (codes "="), refl)
infix_token infixes.Unequal = (text (codes "<>"), refl)
infix_token infixes.Less = (text (codes "<"), refl)
infix_token infixes.AtMost = (text (codes "<="), refl)
infix_token infixes.Greater = (text (codes ">"), refl)
infix_token infixes.AtLeast = (text (codes ">="), refl)
infix_token infixes.Plus = (text (codes "+"), refl)
infix_token infixes.Minus = (text (codes "-"), refl)
infix_token infixes.Times = (text (codes "*"), refl)
infix_token infixes.Div = (text (codes "div"), refl)
infix_token infixes.Mod = (text (codes "mod"), refl)

plain_token : (c : Class) → IsTrue (is_plain c) → (t : Token) × (class_of t ≡ Some c)
unfolding mark_texts text_class class_of
plain_token (classes.Number n) p = (number n, refl)
plain_token (classes.Word w) p = absurd (true≢false (sym p))
plain_token (classes.Initial w) p = absurd (true≢false (sym p))
plain_token (classes.Place n) p = (binder n, refl)
plain_token (classes.Truth true) p = (text (codes "true"), refl)
plain_token (classes.Truth false) p = (text (codes "false"), refl)
plain_token (classes.Infix op) p = infix_token op
plain_token (classes.Quantifier quantifiers.All) p = (text (codes "forall"), refl)
plain_token (classes.Quantifier quantifiers.Any) p = (text (codes "exists"), refl)
plain_token classes.Not p = (text (codes "not"), refl)
plain_token classes.Int p = (text (codes "int"), refl)
plain_token classes.Array p = (text (codes "array"), refl)
plain_token classes.Put p = (text (codes "put"), refl)
plain_token classes.Open p = (text (codes "("), refl)
plain_token classes.Close p = (text (codes ")"), refl)
plain_token classes.OpenSquare p = (text (codes "["), refl)
plain_token classes.CloseSquare p = (text (codes "]"), refl)
plain_token classes.Comma p = (text (codes ","), refl)
plain_token classes.Colon p = (text (codes ":"), refl)
plain_token classes.Dot p = (text (codes "."), refl)

pub plain_tokens : (cs : List Class) → ArePlain cs → (ts : List Token) × AreClasses ts cs
plain_tokens [] p = ([], refl)
plain_tokens (c ∷ cs) p =
    let t = plain_token c p.0 in
    let r = plain_tokens cs p.1 in
    (t.0 ∷ r.0, (c, cs, refl, t.1, r.1))
