use Rattle.std.proofs.Common.{◌≡◌, ◌++◌, sym, ap, ◌∙◌}
use Rattle.rw_terms.specs.declared.term.Formula.TheVariants as formula
use Rattle.rw_terms.specs.declared.term.Formula.TheOpen.{Formula-F}
use Rattle.rw_lemmas.specs.Citing.{predicates, with_names}
use Rattle.rw_lemmas.proofs.Names.{names_of_two}
use Rattle.rw_lemmas.proofs.Predicates.{of_parts}
use Rattle.rw_lemmas.proofs.citing.+add_predicates.Goals as goal

pub returns-in_ok-add_predicates-in-And-2 : goal.returns-in_ok-add_predicates-in-And-2
returns-in_ok-add_predicates-in-And-2 t c =
    let both : predicates c.args.formula.now ≡ predicates c.in-And.f ++ predicates c.in-And.g =
    ap predicates c.in-And.is ∙ of_parts (Formula-F.And c.in-And.f c.in-And.g) _ (formula.rolls-And _ _) in
    c.in_ok-add_predicates-in-And-2.ensures
    ∙ ap (λ s. with_names s (predicates c.get-in-And.result.now)) c.in_ok-add_predicates-in-And.ensures
    ∙ ap (λ f. with_names (with_names c.args.names.now (predicates f)) (predicates c.get-in-And.result.now)) c.get.ensures
    ∙ ap (λ g. with_names (with_names c.args.names.now (predicates c.in-And.f)) (predicates g)) c.get-in-And.ensures
    ∙ sym (names_of_two c.args.names.now (predicates c.in-And.f) (predicates c.in-And.g))
    ∙ ap (with_names c.args.names.now) (sym both)

pub returns-in_ok-add_predicates-in-Or-2 : goal.returns-in_ok-add_predicates-in-Or-2
returns-in_ok-add_predicates-in-Or-2 t c =
    let both : predicates c.args.formula.now ≡ predicates c.in-Or.f ++ predicates c.in-Or.g =
    ap predicates c.in-Or.is ∙ of_parts (Formula-F.Or c.in-Or.f c.in-Or.g) _ (formula.rolls-Or _ _) in
    c.in_ok-add_predicates-in-Or-2.ensures
    ∙ ap (λ s. with_names s (predicates c.get-in-Or-2.result.now)) c.in_ok-add_predicates-in-Or.ensures
    ∙ ap (λ f. with_names (with_names c.args.names.now (predicates f)) (predicates c.get-in-Or-2.result.now)) c.get-in-Or.ensures
    ∙ ap (λ g. with_names (with_names c.args.names.now (predicates c.in-Or.f)) (predicates g)) c.get-in-Or-2.ensures
    ∙ sym (names_of_two c.args.names.now (predicates c.in-Or.f) (predicates c.in-Or.g))
    ∙ ap (with_names c.args.names.now) (sym both)

pub returns-in_ok-add_predicates-in-Imp-2 : goal.returns-in_ok-add_predicates-in-Imp-2
returns-in_ok-add_predicates-in-Imp-2 t c =
    let both : predicates c.args.formula.now ≡ predicates c.in-Imp.f ++ predicates c.in-Imp.g =
    ap predicates c.in-Imp.is ∙ of_parts (Formula-F.Imp c.in-Imp.f c.in-Imp.g) _ (formula.rolls-Imp _ _) in
    c.in_ok-add_predicates-in-Imp-2.ensures
    ∙ ap (λ s. with_names s (predicates c.get-in-Imp-2.result.now)) c.in_ok-add_predicates-in-Imp.ensures
    ∙ ap (λ f. with_names (with_names c.args.names.now (predicates f)) (predicates c.get-in-Imp-2.result.now)) c.get-in-Imp.ensures
    ∙ ap (λ g. with_names (with_names c.args.names.now (predicates c.in-Imp.f)) (predicates g)) c.get-in-Imp-2.ensures
    ∙ sym (names_of_two c.args.names.now (predicates c.in-Imp.f) (predicates c.in-Imp.g))
    ∙ ap (with_names c.args.names.now) (sym both)
