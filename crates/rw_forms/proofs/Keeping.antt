-- The parts of requests keep their choices apart.
use Rattle.std.proofs.Common.{◌≡◌, ℕ, Bool, true, false, cond, List, [], ◌∷◌, map, Option, Some, None, refl, sym, ap, ◌∙◌, arith, true≢false}
use Rattle.std.specs.Prelude.{codes, is_some, ◌||◌}
use Rattle.rw_terms.specs.Names.{is_name, is_reserved, reserved}
use Rattle.rw_terms.specs.declared.term.Sort.{Sort}
use Rattle.rw_terms.specs.declared.term.Sort.TheVariants as sorts
use Rattle.rw_terms.specs.declared.term.Term.{Term}
use Rattle.rw_terms.specs.declared.term.Formula.{Formula}
use Rattle.rw_terms.specs.Named.{Named}
use Rattle.rw_programs.specs.declared.prog.Spec.{Spec}
use Rattle.rw_nodes.specs.declared.edit.Place.{Place}
use Rattle.rw_syntax.specs.Machine.{run_within}
use Rattle.rw_syntax.specs.declared.state.State.TheVariants.{Wants as wants}
use Rattle.rw_syntax.specs.Grammar.{as_term, as_formula}
use Rattle.rw_tokens.specs.Tokens.{Token, text}
use Rattle.rw_tokens.specs.Classes.{mark_texts, text_class, class_of}
use Rattle.rw_forms.specs.Forms.{is_text, Given, a_term, a_formula, a_parameter, Form, gives, more_of, many}
use Rattle.rw_forms.specs.Phrases.{formula, term, mark, sort, name_form, name_in, names, constant_form, constants, frame, bracketed, spec, kid_form, kid_in, kids, place, place_at, term_form, term_in, terms, closed_terms, formula_form, formula_in, formulas, left_side, right_side, parameter, parameter_form, parameter_in, parameters, closed_parameters, some_parameters}
use Rattle.rw_forms.specs.Reading.{ends_value}
use Rattle.rw_forms.proofs.Grammar.{text_is, starts, Keeps, keeps_followed}

-- what a word's slot says
abbrev there : Option (Unit {0})
there = Some tt

-- a word or symbol that ends a value
pub marked : (w : List ℕ) (t : Token) → ends_value (text w) ≡ true → (b : Bool) → is_text w t ≡ b → is_some (cond b there None) ≡ true → ends_value t ≡ true
marked w t e true z s = ap ends_value (text_is w t z) ∙ e
marked w t e false z s = absurd (true≢false (sym s))

pub mark_ends : (F : Token → Bool) (w : List ℕ) (f : Form) (t : Token) → ends_value (text w) ≡ true → starts (mark w f) F t ≡ true → ends_value t ≡ true
mark_ends F w f t e s = marked w t e (is_text w t) refl s

pub comma_ends : ends_value (text (codes ",")) ≡ true
unfolding mark_texts text_class class_of
comma_ends = refl

pub square_ends : ends_value (text (codes "]")) ≡ true
unfolding mark_texts text_class class_of
square_ends = refl

pub semicolon_ends : ends_value (text (codes ";")) ≡ true
unfolding mark_texts text_class class_of is_name is_reserved reserved Rattle.rw_tokens.specs.Classes.name_class
semicolon_ends = refl

pub sort_keeps : (P : Given → Type 0) (F : Token → Bool) (k : Sort → Form) → ((s : Sort) → Keeps P F (k s)) → Keeps P F (sort k)
unfolding sort
sort_keeps P F k h = (refl, h sorts.Int, (refl, λ x. (refl, λ n. h (sorts.Array n))))

pub formula_keeps : (P : Given → Type 0) (F : Token → Bool) (most : ℕ) (k : Formula → Form) → ((f : Formula) (t : Token) → starts (k f) F t ≡ true → ends_value t ≡ true) → ((f : Formula) → Keeps P F (k f)) → Keeps P F (formula most k)
unfolding run_within formula
formula_keeps P F most k e h = (omega arith, (wants [], refl), (λ v t. e (as_formula v) t), (λ v. h (as_formula v)))

pub names_keep : (P : Given → Type 0) (F : Token → Bool) (k : List (List ℕ) → Form) → ((xs : List (List ℕ)) → starts (k xs) F (text (codes ",")) ≡ false) → ((xs : List (List ℕ)) → Keeps P F (k xs)) → Keeps P F (names k)
unfolding names name_form
names_keep P F k e h = (refl, λ x. ((λ t. true), refl, (λ gs t z. refl), (λ gs. e (map name_in gs)), (refl, λ y. tt), (λ gs. h (map name_in gs))))

pub frame_keeps : (P : Given → Type 0) (F : Token → Bool) (k : List (List ℕ) → Form) → ((xs : List (List ℕ)) → Keeps P F (k xs)) → Keeps P F (frame k)
unfolding frame names name_form Rattle.rw_forms.specs.Forms.is_variable is_name is_reserved reserved
frame_keeps P F k h = (refl, h [], names_keep P F (λ xs. mark (codes ":") (k xs)) (λ xs. refl) (λ xs. (refl, λ x. h xs)))

pub second_keeps : (P : Given → Type 0) (F : Token → Bool) (xs : List (List ℕ)) (f : Formula) (k : Spec → Form) → ((s : Spec) → Keeps P F (k s)) → Keeps P F (formula 511 (λ g. mark (codes "]") (k (record { frame = xs; pre = f; post = g }))))
second_keeps P F xs f k h = formula_keeps P F 511 (λ g. mark (codes "]") (k (record { frame = xs; pre = f; post = g }))) (λ g t. mark_ends F (codes "]") (k (record { frame = xs; pre = f; post = g })) t square_ends) (λ g. (refl, λ z. h (record { frame = xs; pre = f; post = g })))

pub bracketed_keeps : (P : Given → Type 0) (F : Token → Bool) (xs : List (List ℕ)) (k : Spec → Form) → ((s : Spec) → Keeps P F (k s)) → Keeps P F (bracketed xs k)
bracketed_keeps P F xs k h = (
  refl,
  λ x. formula_keeps P F 511 (λ f. mark (codes ",") (formula 511 (λ g. mark (codes "]") (k (record { frame = xs; pre = f; post = g })))))
      (λ f t. mark_ends F (codes ",") (formula 511 (λ g. mark (codes "]") (k (record { frame = xs; pre = f; post = g })))) t comma_ends) (λ f. (refl, λ y. second_keeps P F xs f k h)),
)

pub spec_keeps : (P : Given → Type 0) (F : Token → Bool) (k : Spec → Form) → ((s : Spec) → Keeps P F (k s)) → Keeps P F (spec k)
unfolding spec
spec_keeps P F k h = frame_keeps P F (λ xs. bracketed xs k) (λ xs. bracketed_keeps P F xs k h)

pub term_keeps : (P : Given → Type 0) (F : Token → Bool) (most : ℕ) (k : Term → Form) → ((t : Term) (u : Token) → starts (k t) F u ≡ true → ends_value u ≡ true) → ((t : Term) → Keeps P F (k t)) → Keeps P F (term most k)
unfolding run_within term
term_keeps P F most k e h = (omega arith, (wants [], refl), (λ v u. e (as_term v) u), (λ v. h (as_term v)))

pub constants_keep : (P : Given → Type 0) (F : Token → Bool) (k : List (List ℕ) → Form) → ((xs : List (List ℕ)) → starts (k xs) F (text (codes ",")) ≡ false) → ((xs : List (List ℕ)) → Keeps P F (k xs)) → Keeps P F (constants k)
unfolding constants constant_form
constants_keep P F k e h = (refl, λ x. ((λ t. true), refl, (λ gs t z. refl), (λ gs. e (map name_in gs)), (refl, λ y. tt), (λ gs. h (map name_in gs))))

pub kids_keep : (P : Given → Type 0) (F : Token → Bool) (k : Place → Form) → ((p : Place) → starts (k p) F (text (codes "/")) ≡ false) → ((p : Place) → Keeps P F (k p)) → Keeps P F (kids k)
unfolding kids kid_form
kids_keep P F k e h = ((λ t. true), refl, (λ gs t z. refl), (λ gs. e (place_at (map kid_in gs))), (refl, λ y. tt), (λ gs. h (place_at (map kid_in gs))))

pub place_keeps : (P : Given → Type 0) (F : Token → Bool) (k : Place → Form) → ((p : Place) → starts (k p) F (text (codes "/")) ≡ false) → ((p : Place) → Keeps P F (k p)) → Keeps P F (place k)
unfolding place
place_keeps P F k e h = (refl, λ x. kids_keep P F k e h)

-- what stands behind an item that ends with a value: the separator, or what follows the list
separated : (sep : List ℕ) (F : Token → Bool) (f : Form) (t : Token) (b : Bool) → ends_value (text sep) ≡ true → is_text sep t ≡ b → (b || starts f F t) ≡ true → (starts f F t ≡ true → ends_value t ≡ true) → ends_value t ≡ true
separated sep F f t true m z s d = ap ends_value (text_is sep t z) ∙ m
separated sep F f t false m z s d = d s

-- a list of items that end with a value
pub values_keep : (P : Given → Type 0) (F : Token → Bool) (item : Form) (sep : List ℕ) (k : List Given → Form) → ends_value (text sep) ≡ true → ((gs : List Given) (t : Token) → starts (k gs) F t ≡ true → ends_value t ≡ true) → ((gs : List Given) → starts (k gs) F (text sep) ≡ false) → ((gs : List Given) → Keeps P F (k gs)) → Keeps (λ g. Unit {0}) ends_value item → Keeps P F (many item sep k)
values_keep P F item sep k m d e h i =
    keeps_followed item (λ g. more_of item sep (g ∷ []) k) (λ g. Unit {0}) P ends_value F
    (λ g t s. separated sep F (k (g ∷ [])) t (is_text sep t) m refl s (d (g ∷ []) t))
    (λ g. (ends_value, m, d, e, i, h)) i

term_item_keeps : (most : ℕ) → Keeps (λ g. Unit {0}) ends_value (term_form most)
unfolding term_form
term_item_keeps most = term_keeps (λ g. Unit {0}) ends_value most (λ t. gives (a_term t)) (λ t u s. s) (λ t. tt)

pub terms_keep : (P : Given → Type 0) (F : Token → Bool) (most : ℕ) (k : List Term → Form) → ((ts : List Term) (t : Token) → starts (k ts) F t ≡ true → ends_value t ≡ true) → ((ts : List Term) → starts (k ts) F (text (codes ",")) ≡ false) → ((ts : List Term) → Keeps P F (k ts)) → Keeps P F (terms most k)
unfolding terms
terms_keep P F most k d e h = values_keep P F (term_form most) (codes ",") (λ gs. k (map term_in gs)) comma_ends (λ gs t. d (map term_in gs) t) (λ gs. e (map term_in gs)) (λ gs. h (map term_in gs)) (term_item_keeps most)

pub bracket_ends : ends_value (text (codes ")")) ≡ true
unfolding mark_texts text_class class_of
bracket_ends = refl

pub closed_terms_keep : (P : Given → Type 0) (F : Token → Bool) (k : List Term → Form) → ((ts : List Term) → Keeps P F (k ts)) → Keeps P F (closed_terms k)
unfolding closed_terms terms term_form term mark_texts text_class class_of
closed_terms_keep P F k h = (refl, h [], terms_keep P F 511 (λ ts. mark (codes ")") (k ts)) (λ ts t. mark_ends F (codes ")") (k ts) t bracket_ends) (λ ts. refl) (λ ts. (refl, λ x. h ts)))

formula_item_keeps : (most : ℕ) → Keeps (λ g. Unit {0}) ends_value (formula_form most)
unfolding formula_form
formula_item_keeps most = formula_keeps (λ g. Unit {0}) ends_value most (λ f. gives (a_formula f)) (λ f u s. s) (λ f. tt)

pub formulas_keep : (P : Given → Type 0) (F : Token → Bool) (most : ℕ) (sep : List ℕ) (k : List Formula → Form) → ends_value (text sep) ≡ true → ((fs : List Formula) (t : Token) → starts (k fs) F t ≡ true → ends_value t ≡ true) → ((fs : List Formula) → starts (k fs) F (text sep) ≡ false) → ((fs : List Formula) → Keeps P F (k fs)) → Keeps P F (formulas most sep k)
unfolding formulas
formulas_keep P F most sep k m d e h = values_keep P F (formula_form most) sep (λ gs. k (map formula_in gs)) m (λ gs t. d (map formula_in gs) t) (λ gs. e (map formula_in gs)) (λ gs. h (map formula_in gs)) (formula_item_keeps most)

turnstile_ends : ends_value (text (codes "|-")) ≡ true
unfolding mark_texts text_class class_of is_name is_reserved reserved Rattle.rw_tokens.specs.Classes.name_class
turnstile_ends = refl

pub left_side_keeps : (P : Given → Type 0) (F : Token → Bool) (k : List Formula → Form) → ((fs : List Formula) → Keeps P F (k fs)) → Keeps P F (left_side k)
unfolding left_side formulas formula_form formula mark_texts text_class class_of is_name is_reserved reserved Rattle.rw_tokens.specs.Classes.name_class
left_side_keeps P F k h = (refl, h [], formulas_keep P F 512 (codes ",") (λ fs. mark (codes "|-") (k fs)) comma_ends (λ fs t. mark_ends F (codes "|-") (k fs) t turnstile_ends) (λ fs. refl) (λ fs. (refl, λ x. h fs)))

-- what nothing follows
pub right_side_keeps : (P : Given → Type 0) (F : Token → Bool) (make : List Formula → Given) → ((t : Token) → F t ≡ false) → ((fs : List Formula) → P (make fs)) → Keeps P F (right_side (λ fs. gives (make fs)))
unfolding right_side formulas formula_form formula run_within
right_side_keeps P F make n h = ((λ t s. n t), refl, formulas_keep P F 512 (codes ",") (λ fs. gives (make fs)) comma_ends (λ fs t s. absurd (true≢false (sym s ∙ n t))) (λ fs. n (text (codes ","))) h, h [])

parameter_keeps : (P : Given → Type 0) (F : Token → Bool) (k : Named → Form) → ((p : Named) → Keeps P F (k p)) → Keeps P F (parameter k)
unfolding parameter
parameter_keeps P F k h = (refl, λ x. (refl, λ y. sort_keeps P F (λ s. k (x, s)) (λ s. h (x, s))))

pub closed_parameters_keep : (P : Given → Type 0) (F : Token → Bool) (k : List Named → Form) → ((ps : List Named) → Keeps P F (k ps)) → Keeps P F (closed_parameters k)
unfolding closed_parameters parameters parameter_form
closed_parameters_keep P F k h =
    keeps_followed (parameter (λ p. gives (a_parameter p))) (λ g. more_of (parameter (λ p. gives (a_parameter p))) (codes ",") (g ∷ []) (λ gs. mark (codes ")") (k (map parameter_in gs)))) (λ g. Unit {0}) P (λ t. true) F (λ g t s. refl)
    (λ g. ((λ t. true), refl, (λ gs t z. refl), (λ gs. refl), parameter_keeps (λ g. Unit {0}) (λ t. true) (λ p. gives (a_parameter p)) (λ p. tt), (λ gs. (refl, λ x. h (map parameter_in gs)))))
    (parameter_keeps (λ g. Unit {0}) (λ t. true) (λ p. gives (a_parameter p)) (λ p. tt))

pub some_parameters_keep : (P : Given → Type 0) (F : Token → Bool) (k : List Named → Form) → ((ps : List Named) → Keeps P F (k ps)) → Keeps P F (some_parameters k)
unfolding some_parameters closed_parameters parameters parameter_form parameter Rattle.rw_forms.specs.Forms.is_variable is_name is_reserved reserved
some_parameters_keep P F k h = (refl, h [], closed_parameters_keep P F k h)
