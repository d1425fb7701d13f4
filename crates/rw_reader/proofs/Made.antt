-- Requests that are made of equal parts.
use Rattle.std.proofs.Common.{◌≡◌, ℕ, List, sym, ap}
use Rattle.rw_terms.specs.declared.term.Formula.{Formula}
use Rattle.rw_terms.specs.Named.{Named}
use Rattle.rw_goals.specs.declared.library.Lemma.{Lemma}
use Rattle.rw_programs.specs.declared.prog.Spec.{Spec}
use Rattle.rw_nodes.specs.declared.edit.Place.{Place}
use Rattle.rw_nodes.specs.declared.edit.Step.{Step}
use Rattle.rw_nodes.specs.declared.edit.Edit.TheVariants as edits
use Rattle.rw_forms.specs.declared.request.Request.TheVariants as requests
use Rattle.rw_forms.specs.Forms.{a_request}
use Rattle.rw_forms.specs.Reading.{whole}

pub made_root : (s r : Spec) → r ≡ s → whole (a_request (requests.Edit (edits.Root s))) ≡ whole (a_request (requests.Edit (edits.Root r)))
made_root s r e = ap (λ x. whole (a_request (requests.Edit (edits.Root x)))) (sym e)

pub made_step : (p : Place) (s r : Step) → r ≡ s → whole (a_request (requests.Edit (edits.Step p s))) ≡ whole (a_request (requests.Edit (edits.Step p r)))
made_step p s r e = ap (λ x. whole (a_request (requests.Edit (edits.Step p x)))) (sym e)

pub made_definition : (p : List ℕ) (ps : List Named) (f g : Formula) → g ≡ f → whole (a_request (requests.Edit (edits.Define (record { name = p; params = ps; body = f })))) ≡ whole (a_request (requests.Edit (edits.Define (record { name = p; params = ps; body = g }))))
made_definition p ps f g e = ap (λ x. whole (a_request (requests.Edit (edits.Define (record { name = p; params = ps; body = x }))))) (sym e)

pub made_lemma : (l m : Lemma) → m ≡ l → whole (a_request (requests.Edit (edits.Lemma l))) ≡ whole (a_request (requests.Edit (edits.Lemma m)))
made_lemma l m e = ap (λ x. whole (a_request (requests.Edit (edits.Lemma x)))) (sym e)
