-- What tokens are to terms and formulas.
use Rattle.std.specs.Prelude.{◌≡◌, ℕ, ◌-◌, true, false, ◌&&◌, cond, List, [], ◌∷◌, length, take, Option, Some, None, codes, bytes_eq}
use Rattle.rw_terms.specs.Names.{is_name, ends_with_0}
use Rattle.rw_syntax.specs.declared.token.Infix.TheVariants as infixes
use Rattle.rw_syntax.specs.declared.token.Quantifier.TheVariants as quantifiers
use Rattle.rw_syntax.specs.declared.token.Token.{Token as Class}
use Rattle.rw_syntax.specs.declared.token.Token.TheVariants as classes
use Rattle.rw_tokens.specs.declared.class.Mark.{Mark}
use Rattle.rw_tokens.specs.declared.class.Mark.TheVariants as marks
use Rattle.rw_tokens.specs.Tokens.{Token, text, number, binder}

-- the words and symbols of terms and formulas
unfoldable pub mark_texts : List (List ℕ × Mark)
mark_texts =
    (codes "and", marks.Infix infixes.And) ∷ (codes "or", marks.Infix infixes.Or) ∷ (codes "=>", marks.Infix infixes.Implies) ∷ (codes "not", marks.Not) ∷
    (codes "true", marks.Truth true) ∷ (codes "false", marks.Truth false) ∷ (codes "forall", marks.Quantifier quantifiers.All) ∷ (codes "exists", marks.Quantifier quantifiers.Any) ∷
    (codes "int", marks.Int) ∷ (codes "array", marks.Array) ∷ (codes "put", marks.Put) ∷
    (codes "=", marks.Infix infixes.Equal) ∷ (codes "<>", marks.Infix infixes.Unequal) ∷ (codes "<", marks.Infix infixes.Less) ∷ (codes "<=", marks.Infix infixes.AtMost) ∷ (codes ">", marks.Infix infixes.Greater) ∷ (codes ">=", marks.Infix infixes.AtLeast) ∷
    (codes "+", marks.Infix infixes.Plus) ∷ (codes "-", marks.Infix infixes.Minus) ∷ (codes "*", marks.Infix infixes.Times) ∷ (codes "div", marks.Infix infixes.Div) ∷ (codes "mod", marks.Infix infixes.Mod) ∷
    (codes "(", marks.Open) ∷ (codes ")", marks.Close) ∷ (codes "[", marks.OpenSquare) ∷ (codes "]", marks.CloseSquare) ∷ (codes ",", marks.Comma) ∷ (codes ":", marks.Colon) ∷ (codes ".", marks.Dot) ∷ []

-- the mark that a text is
abbrev pub mark_in : List (List ℕ × Mark) → List ℕ → Option Mark
mark_in [] w = None
mark_in (k ∷ ks) w = cond (bytes_eq w k.0) (Some k.1) (mark_in ks w)

-- the class of a mark
abbrev pub mark_class : Mark → Class
mark_class (marks.Infix op) = classes.Infix op
mark_class (marks.Truth b) = classes.Truth b
mark_class (marks.Quantifier q) = classes.Quantifier q
mark_class marks.Not = classes.Not
mark_class marks.Int = classes.Int
mark_class marks.Array = classes.Array
mark_class marks.Put = classes.Put
mark_class marks.Open = classes.Open
mark_class marks.Close = classes.Close
mark_class marks.OpenSquare = classes.OpenSquare
mark_class marks.CloseSquare = classes.CloseSquare
mark_class marks.Comma = classes.Comma
mark_class marks.Colon = classes.Colon
mark_class marks.Dot = classes.Dot

-- without its last byte
abbrev pub shorter : List ℕ → List ℕ
shorter w = take (length w - 1) w

-- a name, or a name and 0
unfoldable pub name_class : List ℕ → Option Class
name_class w = cond (is_name w) (Some (classes.Word w)) (cond (ends_with_0 w && is_name (shorter w)) (Some (classes.Initial (shorter w))) None)

-- a mark, or else a name
abbrev pub class_or : List ℕ → Option Mark → Option Class
class_or w None = name_class w
class_or w (Some m) = Some (mark_class m)

-- what a word or a symbol is
unfoldable pub text_class : List ℕ → Option Class
text_class w = class_or w (mark_in mark_texts w)

-- what a token is there, if it is one
unfoldable pub class_of : Token → Option Class
class_of (text w) = text_class w
class_of (number n) = Some (classes.Number n)
class_of (binder n) = Some (classes.Place n)

-- these tokens are these classes
abbrev pub AreClasses : List Token → List Class → Type 0
AreClasses [] cs = cs ≡ []
AreClasses (t ∷ ts) cs = (c : Class) × (rest : List Class) × (cs ≡ c ∷ rest) × (class_of t ≡ Some c) × AreClasses ts rest
