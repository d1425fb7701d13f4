-- What is printed reads back.
use Rattle.std.proofs.Common.{◌≡◌, ℕ, [], true, refl, sym, ◌∙◌, arith, append-nil}
use Rattle.rw_terms.specs.declared.term.Term.{Term}
use Rattle.rw_terms.specs.declared.term.Formula.{Formula}
use Rattle.rw_syntax.specs.declared.frame.Part.{Part}
use Rattle.rw_syntax.specs.declared.frame.Part.TheVariants as parts
use Rattle.rw_syntax.specs.Grammar.{Tree, level, fits, nests}
use Rattle.rw_syntax.proofs.Choices.{fits_to}
use Rattle.rw_tokens.specs.Tokens.{skip}
use Rattle.rw_tokens.specs.Expressions.{TextSpells}
use Rattle.rw_printer.specs.Trees.{term_tree, formula_tree}
use Rattle.rw_printer.specs.Layout.{laid, printed_term, printed_formula}
use Rattle.rw_printer.specs.ReadsBack.{StaysWithin}
use Rattle.rw_printer.specs.Readable.{readable_term, named_term, readable_formula, named_formula}
use Rattle.rw_printer.proofs.Fits.{Shown}
use Rattle.rw_printer.proofs.Leading.{from, to}
use Rattle.rw_printer.proofs.Lexed.{lexed, starts, skip_start}
use Rattle.rw_printer.proofs.ShownTerms.{prints as term_prints}
use Rattle.rw_printer.proofs.ShownFormulas.{prints as formula_prints}
use Rattle.std.specs.Prelude.{IsTrue}

skip_end : skip [] ≡ []
unfolding skip
skip_end = refl

spelled : (goal : ℕ) (t : Tree) (v : Part) → IsTrue (fits goal (level t)) → Shown 0 t v → StaysWithin (nests 0 t) → TextSpells goal (laid t) v
spelled goal t v f s w =
    let l = from (skip_start (laid t) (starts t 0 s.plain) ∙ sym (append-nil (laid t))) (to skip_end (lexed t 0 0 s.plain (omega arith) w [] refl)) in
    (l.tokens, l.leads, (_, l.classes, record { tree = t; formed = s.formed; fit = f; written = refl; value = s.value; within = w }))

pub term_reads_back : (t : Term) → readable_term t 0 ≡ true → named_term t ≡ true → StaysWithin (nests 0 (term_tree t 0)) → TextSpells 6 (printed_term t) (parts.Term t)
term_reads_back t p n w =
    let s = term_prints t 0 p n in
    spelled 6 (term_tree t 0) (parts.Term t) (fits_to 6 (level (term_tree t 0)) s.kind (λ x. absurd (omega arith))) s w

pub formula_reads_back : (f : Formula) → readable_formula f 0 ≡ true → named_formula f ≡ true → StaysWithin (nests 0 (formula_tree f 0)) → TextSpells 1 (printed_formula f) (parts.Formula f)
formula_reads_back f p n w =
    let s = formula_prints f 0 p n in
    let k = s.kind in
    spelled 1 (formula_tree f 0) (parts.Formula f) (fits_to 1 (level (formula_tree f 0)) k.0 (λ x. k.1)) s w
