-- Each line is sound: where its premises are valid, so is the goal.
use Rattle.std.proofs.Common.{◌≡◌, ℕ, List, Option, Some, None, refl}
use Rattle.rw_arith.specs.declared.line.LinLine.{LinLine}
use Rattle.rw_arith.specs.declared.error.LinError.{LinError}
use Rattle.rw_arith.specs.declared.error.LinError.TheVariants as fault
use Rattle.rw_arith.specs.Lines.{lines_fault}
use Rattle.rw_arith.proofs.Refuting.{refuted}
use Rattle.rw_sequents.specs.Refuted.{by_fault}
use Rattle.rw_terms.specs.declared.sequent.Sequent.{Sequent}
use Rattle.rw_terms.specs.Validity.{Valid}
use Rattle.rw_goals.specs.declared.closing.Closing.TheVariants as closing
use Rattle.rw_goals.specs.declared.connectives.Connective.TheVariants as connective
use Rattle.rw_goals.specs.declared.library.Library.{Library}
use Rattle.rw_goals.specs.Library.{definitions_of}
use Rattle.rw_goals.proofs.Sound.{AllValid}
use Rattle.rw_goals.proofs.Closes.{closing_sound}
use Rattle.rw_goals.proofs.Parted.{parted_left, parted_right, dropped_left, dropped_right, cut_sound}
use Rattle.rw_axioms.specs.Axioms.{put_same_axiom, put_other_axiom, extension_axiom, division_axiom}
use Rattle.rw_axioms.proofs.True.{put_same_true, put_other_true, extension_true, division_true, axiom_sound}
use Rattle.rw_equations.proofs.Equal.{equation_right_sound, flip_sound, rewrite_left_sound, rewrite_right_sound}
use Rattle.rw_citations.specs.WellMade.{WellMade, NamedValid}
use Rattle.rw_citations.proofs.Cites.{unfold_left_sound, unfold_right_sound, cite_sound}
use Rattle.rw_quantifiers.proofs.Quantifiers.{all_at_left_sound, any_at_right_sound, all_at_right_sound, any_at_left_sound}
use Rattle.rw_sequents.specs.declared.line.CertLine.{CertLine}
use Rattle.rw_sequents.specs.declared.line.CertLine.TheVariants as line
use Rattle.rw_sequents.specs.Rules.{after_line}
use Rattle.rw_sequents.specs.Cited.{OfCited}

-- lines that close a goal show that it is valid
closed_valid : (library : Library) (q : Sequent) (lines : List LinLine) (o : Option LinError) → lines_fault q.left q.right lines ≡ o → AllValid (definitions_of library) (by_fault o) → Valid (definitions_of library) q
closed_valid library q lines None e v = λ s0 s fits0 fits h k. refuted q.left q.right lines e (definitions_of library) s0 s h k
closed_valid library q lines (Some (fault.BadLine k)) e v = absurd v
closed_valid library q lines (Some (fault.Wide k)) e v = absurd v
closed_valid library q lines (Some (fault.NotContradiction k)) e v = absurd v
closed_valid library q lines (Some fault.Memory) e v = absurd v

module _ (library : Library) (before : ℕ) (made : WellMade library) where
  pub line_sound : (q : Sequent) (l : CertLine) → OfCited (NamedValid library before) l → AllValid (definitions_of library) (after_line library before q l) → Valid (definitions_of library) q
  line_sound q line.Ax cited v = closing_sound (definitions_of library) closing.Common q v
  line_sound q line.FalseL cited v = closing_sound (definitions_of library) closing.False q v
  line_sound q line.TrueR cited v = closing_sound (definitions_of library) closing.True q v
  line_sound q line.Refl cited v = closing_sound (definitions_of library) closing.Reflexive q v
  line_sound q (line.Cut f) cited v = cut_sound (definitions_of library) library f q v
  line_sound q (line.DropL i) cited v = dropped_left (definitions_of library) q i v
  line_sound q (line.DropR j) cited v = dropped_right (definitions_of library) q j v
  line_sound q (line.NotL i) cited v = parted_left (definitions_of library) connective.Not q i v
  line_sound q (line.NotR j) cited v = parted_right (definitions_of library) connective.Not q j v
  line_sound q (line.AndL i) cited v = parted_left (definitions_of library) connective.And q i v
  line_sound q (line.AndR j) cited v = parted_right (definitions_of library) connective.And q j v
  line_sound q (line.OrL i) cited v = parted_left (definitions_of library) connective.Or q i v
  line_sound q (line.OrR j) cited v = parted_right (definitions_of library) connective.Or q j v
  line_sound q (line.ImpL i) cited v = parted_left (definitions_of library) connective.Imp q i v
  line_sound q (line.ImpR j) cited v = parted_right (definitions_of library) connective.Imp q j v
  line_sound q (line.AllL i t) cited v = all_at_left_sound (definitions_of library) q i t v
  line_sound q (line.ExR j t) cited v = any_at_right_sound (definitions_of library) q j t v
  line_sound q (line.AllR j y) cited v = all_at_right_sound (definitions_of library) q j y v
  line_sound q (line.ExL i y) cited v = any_at_left_sound (definitions_of library) q i y v
  line_sound q (line.EqR j) cited v = equation_right_sound (definitions_of library) q j v
  line_sound q (line.Flip i) cited v = flip_sound (definitions_of library) q i v
  line_sound q (line.RwL i m) cited v = rewrite_left_sound (definitions_of library) q i m v
  line_sound q (line.RwR i j) cited v = rewrite_right_sound (definitions_of library) q i j v
  line_sound q (line.PutSame a i e) cited v =
      axiom_sound (definitions_of library) q (put_same_axiom q.names a i e) (λ s0 s fits0 fits. put_same_true (definitions_of library) q.names s0 s fits0 fits a i e) v
  line_sound q (line.PutOther a i e j) cited v =
      axiom_sound (definitions_of library) q (put_other_axiom q.names a i e j) (λ s0 s fits0 fits. put_other_true (definitions_of library) q.names s0 s fits0 fits a i e j) v
  line_sound q (line.ArrExt a b) cited v =
      axiom_sound (definitions_of library) q (extension_axiom q.names a b) (λ s0 s fits0 fits. extension_true (definitions_of library) q.names s0 s fits0 fits a b) v
  line_sound q (line.DivMod t u) cited v =
      axiom_sound (definitions_of library) q (division_axiom q.names t u) (λ s0 s fits0 fits. division_true (definitions_of library) q.names s0 s fits0 fits t u) v
  line_sound q (line.UnfoldL i) cited v = unfold_left_sound library made q i v
  line_sound q (line.UnfoldR j) cited v = unfold_right_sound library made q j v
  line_sound q (line.Lemma name ts) cited v = cite_sound library made before q name cited ts v
  line_sound q (line.Lin lines) cited v = closed_valid library q lines (lines_fault q.left q.right lines) refl v
