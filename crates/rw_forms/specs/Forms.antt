-- The grammar of requests: a request is of a form, which says what stands where. A new request is a new form.
use Rattle.std.specs.Prelude.{◌≡◌, ℕ, zero, suc, ◌+◌, Bool, false, not, ◌&&◌, cond, leb, eqb, List, [], ◌∷◌, ◌++◌, length, take, Option, Some, None, option_map, option_and_then, IsTrue, bytes_eq, ◌⊎◌}
use Rattle.std.specs.List.{list_all}
use Rattle.rw_terms.specs.Names.{is_name, is_digit}
use Rattle.rw_terms.specs.declared.term.Term.{Term}
use Rattle.rw_terms.specs.declared.term.Formula.{Formula}
use Rattle.rw_arith.specs.declared.line.Ref.{Ref}
use Rattle.rw_arith.specs.declared.line.Ref.TheVariants as refs
use Rattle.rw_arith.specs.declared.line.Part.{Part as SumPart}
use Rattle.rw_arith.specs.declared.line.LinLine.{LinLine}
use Rattle.rw_terms.specs.Named.{Named}
use Rattle.rw_sequents.specs.declared.line.CertLine.{CertLine}
use Rattle.rw_sequents.specs.declared.line.Cert.{Cert}
use Rattle.rw_programs.specs.declared.prog.Arm.{Arm}
use Rattle.rw_programs.specs.declared.prog.Pin.{Pin}
use Rattle.rw_programs.specs.declared.prog.Prog.{Prog}
use Rattle.rw_syntax.specs.declared.token.Token.{Token as Class}
use Rattle.rw_syntax.specs.declared.frame.Part.{Part}
use Rattle.rw_syntax.specs.Grammar.{Tree, level, fits, IsFormed, part, nests, text as tree_text}
use Rattle.rw_syntax.specs.Spelling.{AreWithin}
use Rattle.rw_forms.specs.declared.request.Request.{Request}
use Rattle.rw_tokens.specs.Tokens.{Token, text, number, binder, number_of}
use Rattle.rw_tokens.specs.Classes.{AreClasses}

-- what one token may be
pub data Slot : Type 0 where
  -- this word or symbol
  exactly : List ℕ → Slot
  -- a name that begins with a lower-case letter
  a_variable : Slot
  -- a name that begins with an upper-case letter
  a_constant : Slot
  -- a name, whatever it begins with
  any_name : Slot
  -- a number from the one to the other
  a_number : ℕ → ℕ → Slot
  -- `L` or `R` and the number of a formula, as one word, or the number of a line
  a_reference : Slot

-- what a slot's token says
abbrev pub Filled : Slot → Type 0
Filled (exactly w) = Unit {0}
Filled a_variable = List ℕ
Filled a_constant = List ℕ
Filled any_name = List ℕ
Filled (a_number least most) = ℕ
Filled a_reference = Ref

abbrev pub is_lower : List ℕ → Bool
is_lower [] = false
is_lower (b ∷ bs) = leb 97 b

-- the names of variables
unfoldable pub is_variable : List ℕ → Bool
is_variable w = is_name w && is_lower w

-- the names of constants
unfoldable pub is_constant : List ℕ → Bool
is_constant w = is_name w && not (is_lower w)

-- whether a token is this word or symbol
abbrev pub is_text : List ℕ → Token → Bool
is_text w (text v) = bytes_eq v w
is_text w (number n) = false
is_text w (binder n) = false

abbrev pub variable_of : Token → Option (List ℕ)
variable_of (text w) = cond (is_variable w) (Some w) None
variable_of (number n) = None
variable_of (binder n) = None

abbrev pub constant_of : Token → Option (List ℕ)
constant_of (text w) = cond (is_constant w) (Some w) None
constant_of (number n) = None
constant_of (binder n) = None

abbrev pub name_of : Token → Option (List ℕ)
name_of (text w) = cond (is_name w) (Some w) None
name_of (number n) = None
name_of (binder n) = None

abbrev pub number_within : ℕ → ℕ → Token → Option ℕ
number_within least most (text w) = None
number_within least most (number n) = cond (leb least n && leb n most) (Some n) None
number_within least most (binder n) = None

-- a number of a formula or a line, where it is not too great
abbrev pub counted : ℕ → Option ℕ
counted n = cond (leb n 4294967295) (Some n) None

-- the number that digits alone write
abbrev pub digits_number : List ℕ → Option ℕ
digits_number [] = None
digits_number (d ∷ ds) = cond (list_all is_digit (d ∷ ds)) (option_and_then counted (number_of (d ∷ ds))) None

-- the formula that a letter for its side and its number name
abbrev pub formula_named : List ℕ → Option Ref
formula_named [] = None
formula_named (b ∷ bs) = cond (eqb b 76) (option_map refs.Left (digits_number bs)) (cond (eqb b 82) (option_map refs.Right (digits_number bs)) None)

abbrev pub reference_of : Token → Option Ref
reference_of (text w) = formula_named w
reference_of (number n) = option_map refs.Line (counted n)
reference_of (binder n) = None

-- what a token in a slot says, where it may stand there
abbrev pub filled : (s : Slot) → Token → Option (Filled s)
filled (exactly w) t = cond (is_text w t) (Some tt) None
filled a_variable t = variable_of t
filled a_constant t = constant_of t
filled any_name t = name_of t
filled (a_number least most) t = number_within least most t
filled a_reference t = reference_of t

-- what a form gives: a request, a certificate, a program, or an item of a list
pub data Given : Type 0 where
  a_request : Request → Given
  a_cert : Cert → Given
  a_program : Prog → Given
  a_name : List ℕ → Given
  a_parameter : Named → Given
  a_kid : ℕ → Given
  a_term : Term → Given
  a_formula : Formula → Given
  a_line : CertLine → Given
  a_part : SumPart → Given
  a_sum : LinLine → Given
  an_arm : Arm → Given
  a_pin : Pin → Given

-- what is still to be read, and what is given then
pub data Form : Type 0 where
  -- nothing, and this is given
  gives : Given → Form
  -- a token, and what is to follow it
  takes : (s : Slot) → (Filled s → Form) → Form
  -- what follows this word or symbol, or else another form
  either : List ℕ → Form → Form → Form
  -- The rest of a value of a level, 1 for formulas and 6 for terms, behind its tokens so far, and what is to follow it.
  -- Its own nest stays within `most`: 512, less the brackets that are open round it.
  rest_of : (most goal : ℕ) → List Class → (Part → Form) → Form
  -- The rest of a list behind its items so far: items of a form, each behind this word or symbol, and what is to
  -- follow the list.
  more_of : Form → List ℕ → List Given → (List Given → Form) → Form
  -- a form that cannot be of no tokens, or else another one
  one_of : Form → Form → Form
  -- a form whose first token passes the bound on the nest: tokens can go on so, but none of them is read
  too_deep : Form → Form

-- a form, and what is to follow what it gives
abbrev pub followed : Form → (Given → Form) → Form
followed (gives g) j = j g
followed (takes s k) j = takes s (λ x. followed (k x) j)
followed (either w f g) j = either w (followed f j) (followed g j)
followed (rest_of most goal done k) j = rest_of most goal done (λ v. followed (k v) j)
followed (more_of item sep done k) j = more_of item sep done (λ gs. followed (k gs) j)
followed (one_of f g) j = one_of (followed f j) (followed g j)
followed (too_deep f) j = too_deep (followed f j)

-- one item or more, with a word or a symbol between them
abbrev pub many : Form → List ℕ → (List Given → Form) → Form
many item sep k = followed item (λ g. more_of item sep (g ∷ []) k)

-- one less
abbrev pub fewer : ℕ → ℕ
fewer zero = zero
fewer (suc n) = n

-- what is left of a number behind so many tokens
abbrev pub behind : ℕ → List Token → ℕ
behind n [] = n
behind n (t ∷ ts) = behind (fewer n) ts

-- a token and what follows it
pub record Follows (s : Slot) (Rest : Filled s → ℕ → List Token → Given → Type 0) (n : ℕ) (ts : List Token) (v : Given) : Type 0 where
  pub first : Token
  pub rest : List Token
  pub filling : Filled s
  pub tokens_are : ts ≡ first ∷ rest
  pub fills : filled s first ≡ Some filling
  pub more : Rest filling (fewer n) rest v

-- the rest of a value and what follows it
pub record Spans (most goal : ℕ) (done : List Class) (Rest : Part → ℕ → List Token → Given → Type 0) (n : ℕ) (ts : List Token) (v : Given) : Type 0 where
  pub own : List Token
  pub rest : List Token
  pub classes : List Class
  pub tree : Tree
  pub tokens_are : ts ≡ own ++ rest
  pub are : AreClasses own classes
  pub formed : IsFormed [] tree
  pub fit : IsTrue (fits goal (level tree))
  pub written : tree_text tree ≡ done ++ classes
  pub within : AreWithin most (take (length done + n) (nests 0 tree))
  pub more : Rest (part [] tree) (behind n own) rest v

-- items of a list, each behind the separator
abbrev pub AreItems : (ℕ → List Token → Given → Type 0) → List ℕ → ℕ → List Given → List Token → Type 0
AreItems Item sep n [] ts = ts ≡ []
AreItems Item sep n (g ∷ gs) ts = (own : List Token) × (rest : List Token) × (ts ≡ text sep ∷ (own ++ rest)) × Item (fewer n) own g × AreItems Item sep (behind (fewer n) own) gs rest

-- the rest of a list and what follows it
pub record Lists (Item : ℕ → List Token → Given → Type 0) (sep : List ℕ) (Rest : List Given → ℕ → List Token → Given → Type 0) (n : ℕ) (ts : List Token) (v : Given) : Type 0 where
  pub items : List Given
  pub own : List Token
  pub rest : List Token
  pub tokens_are : ts ≡ own ++ rest
  pub are : AreItems Item sep n items own
  pub more : Rest items (behind n own) rest v

-- Tokens are of a form, and give this. The nest is within its bound at the first n of them.
abbrev pub IsOf : Form → ℕ → List Token → Given → Type 0
IsOf (gives g) n ts v = (ts ≡ []) × (v ≡ g)
IsOf (takes s k) n ts v = Follows s (λ x. IsOf (k x)) n ts v
IsOf (either w f g) n ts v = ((rest : List Token) × (ts ≡ text w ∷ rest) × IsOf f (fewer n) rest v) ⊎ IsOf g n ts v
IsOf (rest_of most goal done k) n ts v = Spans most goal done (λ w. IsOf (k w)) n ts v
IsOf (more_of item sep done k) n ts v = Lists (IsOf item) sep (λ gs. IsOf (k (done ++ gs))) n ts v
IsOf (one_of f g) n ts v = IsOf f n ts v ⊎ IsOf g n ts v
IsOf (too_deep f) n ts v = (n ≡ 0) × IsOf f 0 ts v
