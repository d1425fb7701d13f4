-- The forms of requests keep their choices apart.
use Rattle.std.proofs.Common.{◌≡◌, ℕ, List, refl, sym, true≢false}
use Rattle.std.specs.Prelude.{codes}
use Rattle.rw_terms.specs.Named.{Named}
use Rattle.rw_sequents.specs.declared.line.Cert.{Cert}
use Rattle.rw_nodes.specs.declared.edit.Place.{Place}
use Rattle.rw_nodes.specs.declared.edit.Edit.TheVariants as edits
use Rattle.rw_forms.specs.declared.request.Request.{Request}
use Rattle.rw_forms.specs.declared.request.Request.TheVariants as requests
use Rattle.rw_forms.specs.Forms.{Given, a_request, a_cert, gives, takes, either, a_number}
use Rattle.rw_forms.specs.Phrases.{mark, formula, place, right_side}
use Rattle.rw_forms.specs.Certificates.{cert, cert_form}
use Rattle.rw_reader.specs.Steps.{step, named_step, constant_step, loop_step}
use Rattle.rw_reader.specs.Requests.{asks, var_form, root_form, step_form, prove_form, define_form, lemma_of, statement, lemma_form, drop_form, status_form, goal_form, find_form, request_form}
use Rattle.rw_forms.proofs.Grammar.{Keeps}
use Rattle.rw_forms.proofs.Texts.{nothing}
use Rattle.rw_forms.proofs.Keeping.{sort_keeps, formula_keeps, spec_keeps, kids_keep, place_keeps, left_side_keeps, right_side_keeps, closed_parameters_keep, some_parameters_keep}
use Rattle.rw_reader.proofs.KeepingRules.{cert_keeps}
use Rattle.rw_reader.proofs.KeepingSteps.{step_keeps}

abbrev pub IsRequest : Given → Type 0
IsRequest v = (r : Request) × (v ≡ a_request r)

abbrev pub IsCert : Given → Type 0
IsCert v = (c : Cert) × (v ≡ a_cert c)

var_keeps : Keeps IsRequest nothing var_form
unfolding var_form
var_keeps = (refl, λ x. (refl, λ y. sort_keeps IsRequest nothing (λ s. asks (requests.Edit (edits.Var (record { name = x; sort = s })))) (λ s. (_, refl))))

root_keeps : Keeps IsRequest nothing root_form
unfolding root_form
root_keeps = spec_keeps IsRequest nothing (λ s. asks (requests.Edit (edits.Root s))) (λ s. (_, refl))

step_set_keeps : (p : Place) → Keeps IsRequest nothing (step (λ s. asks (requests.Edit (edits.Step p s))))
step_set_keeps p = step_keeps IsRequest nothing (λ s. asks (requests.Edit (edits.Step p s))) (record { ends = λ s t e. absurd (true≢false (sym e)); bar = λ s. refl; comma = λ s. refl }) (λ s. (_, refl))

step_form_keeps : Keeps IsRequest nothing step_form
unfolding step_form step named_step constant_step loop_step
step_form_keeps = place_keeps IsRequest nothing (λ p. either (codes "open") (asks (requests.Edit (edits.Clear p))) (step (λ s. asks (requests.Edit (edits.Step p s))))) (λ p. refl) (λ p. (refl, (_, refl), step_set_keeps p))

prove_keeps : Keeps IsRequest nothing prove_form
unfolding prove_form place
prove_keeps = (
  refl,
  (refl, λ n. cert_keeps IsRequest nothing (λ ls. asks (requests.Edit (edits.ProveLemma n (record { lines = ls })))) (λ ls t e. absurd (true≢false (sym e))) (λ ls. refl) (λ ls. (_, refl))),
  place_keeps IsRequest nothing (λ p. takes (a_number 0 4294967295) (λ n. cert (λ ls. asks (requests.Edit (edits.Prove p n (record { lines = ls })))))) (λ p. refl)
      (λ p. (refl, λ n. cert_keeps IsRequest nothing (λ ls. asks (requests.Edit (edits.Prove p n (record { lines = ls })))) (λ ls t e. absurd (true≢false (sym e))) (λ ls. refl) (λ ls. (_, refl)))),
)

pub cert_form_keeps : Keeps IsCert nothing cert_form
unfolding cert_form
cert_form_keeps = cert_keeps IsCert nothing (λ ls. gives (a_cert (record { lines = ls }))) (λ ls t e. absurd (true≢false (sym e))) (λ ls. refl) (λ ls. (_, refl))

define_keeps : Keeps IsRequest nothing define_form
unfolding define_form
define_keeps = (
  refl,
  λ p. (
    refl,
    λ x. closed_parameters_keep IsRequest nothing (λ ps. mark (codes "=") (formula 512 (λ f. asks (requests.Edit (edits.Define (record { name = p; params = ps; body = f }))))))
        (λ ps. (refl, λ y. formula_keeps IsRequest nothing 512 (λ f. asks (requests.Edit (edits.Define (record { name = p; params = ps; body = f })))) (λ f t e. absurd (true≢false (sym e))) (λ f. (_, refl)))),
  ),
)

statement_keeps : (n : List ℕ) (ps : List Named) → Keeps IsRequest nothing (statement n ps)
unfolding statement
statement_keeps n ps = (
  refl,
  λ x. left_side_keeps IsRequest nothing (λ left. right_side (λ right. asks (requests.Edit (edits.Lemma (lemma_of n ps left right)))))
      (λ left. right_side_keeps IsRequest nothing (λ right. a_request (requests.Edit (edits.Lemma (lemma_of n ps left right)))) (λ t. refl) (λ right. (_, refl))),
)

lemma_form_keeps : Keeps IsRequest nothing lemma_form
unfolding lemma_form
lemma_form_keeps = (refl, λ n. (refl, λ x. some_parameters_keep IsRequest nothing (statement n) (statement_keeps n)))

drop_keeps : Keeps IsRequest nothing drop_form
unfolding drop_form
drop_keeps = (refl, λ n. (_, refl))

status_keeps : Keeps IsRequest nothing status_form
unfolding status_form
status_keeps = (refl, (_, refl), (refl, kids_keep IsRequest nothing (λ p. asks (requests.StatusAt p)) (λ p. refl) (λ p. (_, refl)), (refl, (refl, λ n. (_, refl)), (_, refl))))

goal_keeps : Keeps IsRequest nothing goal_form
unfolding goal_form
goal_keeps = place_keeps IsRequest nothing (λ p. asks (requests.Goal p)) (λ p. refl) (λ p. (_, refl))

find_keeps : Keeps IsRequest nothing find_form
unfolding find_form
find_keeps = place_keeps IsRequest nothing (λ p. takes (a_number 0 4294967295) (λ n. asks (requests.Find p n))) (λ p. refl) (λ p. (refl, λ n. (_, refl)))

pub requests_keep : Keeps IsRequest nothing request_form
unfolding request_form
requests_keep = (refl, var_keeps, (refl, root_keeps, (refl, step_form_keeps, (refl, prove_keeps, (refl, status_keeps, (refl, define_keeps, (refl, lemma_form_keeps, (refl, drop_keeps, (refl, find_keeps, (refl, λ x. goal_keeps))))))))))
