-- The items of the lists in forms.
use Rattle.std.proofs.Common.{◌≡◌, List, [], ◌∷◌, map, ℕ, refl}
use Rattle.std.specs.Prelude.{codes}
use Rattle.rw_terms.specs.declared.term.Term.{Term}
use Rattle.rw_terms.specs.declared.term.Formula.{Formula}
use Rattle.rw_terms.specs.Named.{Named}
use Rattle.rw_forms.specs.Forms.{Given, Form, gives, takes, rest_of, more_of, one_of, too_deep, followed, either, a_name, a_parameter, a_kid, a_term, a_formula, a_variable, a_constant, a_number}
use Rattle.rw_forms.specs.Phrases.{sort, name_form, constant_form, kid_form, formula, term, term_form, term_in, terms, formula_form, parameter, parameter_form}
use Rattle.rw_forms.proofs.Listing.{IsItem}

pub name_item : IsItem {A = List ℕ} name_form (takes a_variable) a_name
unfolding name_form
name_item = λ j. refl

pub constant_item : IsItem {A = List ℕ} constant_form (takes a_constant) a_name
unfolding constant_form
constant_item = λ j. refl

pub kid_item : IsItem {A = ℕ} kid_form (takes (a_number 1 4294967295)) a_kid
unfolding kid_form
kid_item = λ j. refl

pub term_item : (most : ℕ) → IsItem {A = Term} (term_form most) (term most) a_term
unfolding term_form term
term_item most = λ j. refl

pub formula_item : (most : ℕ) → IsItem {A = Formula} (formula_form most) (formula most) a_formula
unfolding formula_form formula
formula_item most = λ j. refl

pub parameter_item : IsItem {A = Named} parameter_form parameter a_parameter
unfolding parameter_form parameter sort
parameter_item = λ j. refl

-- what follows a form that is followed is followed in one
pub followed_twice : (f : Form) (h j : Given → Form) → followed (followed f h) j ≡ followed f (λ g. followed (h g) j)
followed_twice (gives g) h j = refl
followed_twice (takes s k) h j = λ i. takes s (λ x. followed_twice (k x) h j i)
followed_twice (either w f g) h j = λ i. either w (followed_twice f h j i) (followed_twice g h j i)
followed_twice (rest_of most goal done k) h j = λ i. rest_of most goal done (λ v. followed_twice (k v) h j i)
followed_twice (more_of item sep done k) h j = λ i. more_of item sep done (λ gs. followed_twice (k gs) h j i)
followed_twice (one_of f g) h j = λ i. one_of (followed_twice f h j i) (followed_twice g h j i)
followed_twice (too_deep f) h j = λ i. too_deep (followed_twice f h j i)

pub terms_followed : (most : ℕ) (k : List Term → Form) (j : Given → Form) → followed (terms most k) j ≡ terms most (λ ts. followed (k ts) j)
unfolding terms
terms_followed most k j = followed_twice (term_form most) (λ g. more_of (term_form most) (codes ",") (g ∷ []) (λ gs. k (map term_in gs))) j
