-- What a line of a certificate makes of the goal on top.
use Rattle.std.specs.Prelude.{ℕ}
use Rattle.rw_terms.specs.declared.sequent.Sequent.{Sequent}
use Rattle.rw_goals.specs.declared.closing.Closing.TheVariants as closing
use Rattle.rw_goals.specs.declared.connectives.Connective.TheVariants as connective
use Rattle.rw_goals.specs.declared.library.Library.{Library}
use Rattle.rw_goals.specs.Premises.{Effect, effect, at_left, at_right}
use Rattle.rw_goals.specs.Closing.{closed_by}
use Rattle.rw_goals.specs.Connectives.{left_rule, right_rule}
use Rattle.rw_goals.specs.Cut.{cut, leave_out}
use Rattle.rw_axioms.specs.Axioms.{axiom_parts, put_same_axiom, put_other_axiom, extension_axiom, division_axiom}
use Rattle.rw_equations.specs.Equality.{equation_right, flip, rewrite_left, rewrite_right}
use Rattle.rw_citations.specs.Cited.{unfold_at_left, unfold_at_right, cite}
use Rattle.rw_quantifiers.specs.Quantified.{all_at_left, any_at_right, all_at_right, any_at_left}
use Rattle.rw_sequents.specs.Refuted.{refuted_by}
use Rattle.rw_sequents.specs.declared.line.CertLine.{CertLine}
use Rattle.rw_sequents.specs.declared.line.CertLine.TheVariants as line

-- by a library, of which lemmas may be cited below a table place
abbrev pub after_line : Library → ℕ → Sequent → CertLine → Effect
after_line library before q line.Ax = closed_by closing.Common q
after_line library before q line.FalseL = closed_by closing.False q
after_line library before q line.TrueR = closed_by closing.True q
after_line library before q line.Refl = closed_by closing.Reflexive q
after_line library before q (line.Cut f) = cut library f q
after_line library before q (line.DropL i) = at_left q i leave_out
after_line library before q (line.DropR j) = at_right q j leave_out
after_line library before q (line.NotL i) = at_left q i (left_rule connective.Not)
after_line library before q (line.NotR j) = at_right q j (right_rule connective.Not)
after_line library before q (line.AndL i) = at_left q i (left_rule connective.And)
after_line library before q (line.AndR j) = at_right q j (right_rule connective.And)
after_line library before q (line.OrL i) = at_left q i (left_rule connective.Or)
after_line library before q (line.OrR j) = at_right q j (right_rule connective.Or)
after_line library before q (line.ImpL i) = at_left q i (left_rule connective.Imp)
after_line library before q (line.ImpR j) = at_right q j (right_rule connective.Imp)
after_line library before q (line.AllL i t) = all_at_left q i t
after_line library before q (line.ExR j t) = any_at_right q j t
after_line library before q (line.AllR j y) = all_at_right q j y
after_line library before q (line.ExL i y) = any_at_left q i y
after_line library before q (line.EqR j) = equation_right q j
after_line library before q (line.Flip i) = flip q i
after_line library before q (line.RwL i m) = rewrite_left q i m
after_line library before q (line.RwR i j) = rewrite_right q i j
after_line library before q (line.PutSame a i e) = effect (axiom_parts (put_same_axiom q.names a i e)) q
after_line library before q (line.PutOther a i e j) = effect (axiom_parts (put_other_axiom q.names a i e j)) q
after_line library before q (line.ArrExt a b) = effect (axiom_parts (extension_axiom q.names a b)) q
after_line library before q (line.DivMod t u) = effect (axiom_parts (division_axiom q.names t u)) q
after_line library before q (line.UnfoldL i) = unfold_at_left library q i
after_line library before q (line.UnfoldR j) = unfold_at_right library q j
after_line library before q (line.Lemma name ts) = cite library before q name ts
after_line library before q (line.Lin lines) = refuted_by lines q
