-- The grammar of requests.
use Rattle.std.specs.Prelude.{ℕ, List, codes}
use Rattle.rw_terms.specs.declared.term.Formula.{Formula}
use Rattle.rw_terms.specs.Named.{Named}
use Rattle.rw_terms.specs.Naming.{names_of}
use Rattle.rw_goals.specs.declared.library.Lemma.{Lemma}
use Rattle.rw_citations.specs.Goal.{scope_of_parameters}
use Rattle.rw_nodes.specs.declared.edit.Edit.TheVariants as edits
use Rattle.rw_forms.specs.declared.request.Request.{Request}
use Rattle.rw_forms.specs.declared.request.Request.TheVariants as requests
use Rattle.rw_forms.specs.Forms.{a_variable, a_constant, any_name, a_number, a_request, Form, gives, takes, either}
use Rattle.rw_forms.specs.Phrases.{mark, sort, formula, spec, kids, place, left_side, right_side, closed_parameters, some_parameters}
use Rattle.rw_forms.specs.Certificates.{cert}
use Rattle.rw_reader.specs.Steps.{step}

-- a request and nothing behind it
abbrev pub asks : Request → Form
asks r = gives (a_request r)

-- NAME : SORT
unfoldable pub var_form : Form
var_form = takes a_variable (λ x. mark (codes ":") (sort (λ s. asks (requests.Edit (edits.Var (record { name = x; sort = s }))))))

-- SPEC
unfoldable pub root_form : Form
root_form = spec (λ s. asks (requests.Edit (edits.Root s)))

-- PLACE STEP, or PLACE open
unfoldable pub step_form : Form
step_form = place (λ p. either (codes "open") (asks (requests.Edit (edits.Clear p))) (step (λ s. asks (requests.Edit (edits.Step p s)))))

-- PLACE NUMBER CERT, or `lemma` NAME CERT
unfoldable pub prove_form : Form
prove_form =
    either (codes "lemma") (takes any_name (λ n. cert (λ ls. asks (requests.Edit (edits.ProveLemma n (record { lines = ls }))))))
    (place (λ p. takes (a_number 0 4294967295) (λ n. cert (λ ls. asks (requests.Edit (edits.Prove p n (record { lines = ls })))))))

-- PREDICATE ( PARAMS ) = FORM
unfoldable pub define_form : Form
define_form =
    takes a_constant (λ p. mark (codes "(") (closed_parameters (λ ps. mark (codes "=") (formula 512 (λ f. asks (requests.Edit (edits.Define (record { name = p; params = ps; body = f }))))))))

-- A lemma of formulas. Its sequent has the parameters that are free in them.
abbrev pub lemma_of : List ℕ → List Named → List Formula → List Formula → Lemma
lemma_of n ps left right = record { name = n; params = ps; sequent = record { names = names_of (scope_of_parameters ps) left right; left = left; right = right } }

-- : SEQ
unfoldable pub statement : List ℕ → List Named → Form
statement n ps = mark (codes ":") (left_side (λ left. right_side (λ right. asks (requests.Edit (edits.Lemma (lemma_of n ps left right))))))

-- NAME ( [ PARAMS ] ) : SEQ
unfoldable pub lemma_form : Form
lemma_form = takes any_name (λ n. mark (codes "(") (some_parameters (statement n)))

-- NAME
unfoldable pub drop_form : Form
drop_form = takes any_name (λ n. asks (requests.Edit (edits.Drop n)))

-- nothing, `all`, PLACE or `lemma` NAME
unfoldable pub status_form : Form
status_form = either (codes "all") (asks requests.StatusAll) (either (codes "main") (kids (λ p. asks (requests.StatusAt p))) (either (codes "lemma") (takes any_name (λ n. asks (requests.StatusLemma n))) (asks requests.Status)))

-- PLACE
unfoldable pub goal_form : Form
goal_form = place (λ p. asks (requests.Goal p))

-- PLACE NUMBER
unfoldable pub find_form : Form
find_form = place (λ p. takes (a_number 0 4294967295) (λ n. asks (requests.Find p n)))

-- every request
unfoldable pub request_form : Form
request_form =
    either (codes "var") var_form (either (codes "root") root_form (either (codes "step") step_form (either (codes "prove") prove_form
    (either (codes "status") status_form (either (codes "define") define_form (either (codes "lemma") lemma_form (either (codes "drop") drop_form
    (either (codes "find") find_form (mark (codes "goal") goal_form)))))))))
