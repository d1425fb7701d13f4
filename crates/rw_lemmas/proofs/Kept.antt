-- A verdict stays where the library that changes says the same of what the lines read.
use Rattle.std.proofs.Common.{◌≡◌, ℕ, ◌+◌, ◌-◌, Bool, true, false, List, [], ◌∷◌, ◌++◌, length, take, remove, Option, Some, None, refl, sym, ap, ◌∙◌}
use Rattle.std.specs.Prelude.{is_some}
use Rattle.std.proofs.Math.Seq.{take-length}
use Rattle.rw_terms.specs.declared.term.Term.{Term}
use Rattle.rw_terms.specs.declared.term.Formula.{Formula}
use Rattle.rw_terms.specs.declared.term.Formula.TheOpen.{Formula-F}
use Rattle.rw_terms.specs.declared.term.Formula.TheViews.{out-Formula}
use Rattle.rw_terms.specs.declared.sequent.Sequent.{Sequent}
use Rattle.rw_terms.specs.Named.{Named}
use Rattle.rw_terms.specs.Validity.{Each}
use Rattle.rw_goals.specs.declared.added.Parts.{Parts}
use Rattle.rw_goals.specs.declared.library.Lemma.{Lemma}
use Rattle.rw_goals.specs.declared.library.Library.{Library}
use Rattle.rw_goals.specs.Premises.{Effect, Fails, Premises, effect, numbered, principal}
use Rattle.rw_goals.specs.Cut.{is_large, cut_parts}
use Rattle.rw_goals.specs.Sorting.{keeps_rules}
use Rattle.rw_goals.proofs.Sound.{joined}
use Rattle.rw_goals.proofs.Places.{at_number}
use Rattle.rw_citations.specs.Cited.{definition_of, lemma_of, unfolded_left, unfolded_right, unfold_left, unfold_right, cited_left}
use Rattle.rw_sequents.specs.declared.line.CertLine.{CertLine}
use Rattle.rw_sequents.specs.declared.line.CertLine.TheVariants as line
use Rattle.rw_sequents.specs.declared.line.Cert.{Cert}
use Rattle.rw_sequents.specs.Rules.{after_line}
use Rattle.rw_sequents.specs.After.{Open, Failed, capped, replaced, after_lines, told, verdict}
use Rattle.rw_sequents.proofs.Runs.{stays}
use Rattle.rw_lemmas.proofs.Within.{Within, LayerWithin, GoalWithin, EffectWithin, opened}
use Rattle.rw_lemmas.proofs.Lines.{Closed, LineWithin, line_within}

any_alike : (names : List Named) (o p p' : Option Lemma) (ts : List Term) → is_some p ≡ is_some p' → cited_left names o p ts ≡ cited_left names o p' ts
any_alike names (Some l) p p' ts e = refl
any_alike names None None None ts e = refl
any_alike names None (Some l) (Some m) ts e = refl
any_alike names None None (Some m) ts e = absurd (cc)
any_alike names None (Some l) None ts e = absurd (cc)

-- rules that are alike at the principal formula
alike : (rule rule' : Formula → Parts) (rest : Sequent) (o : Option Formula) → ((f : Formula) → o ≡ Some f → rule f ≡ rule' f) → principal o rest rule ≡ principal o rest rule'
alike rule rule' rest None k = refl
alike rule rule' rest (Some f) k = ap (λ p. effect p rest) (k f refl)

module _ (S : List ℕ → Type 0) (library library' : Library) (before before' : ℕ) where
  -- the libraries have the same definitions of these predicates
  abbrev pub SameDefinitions : Type 0
  SameDefinitions = (p : List ℕ) → S p → definition_of library.entries p ≡ definition_of library'.entries p

  -- they say the same of the formula of a cut, of a cited lemma and, where a line unfolds one, of the definitions
  abbrev pub SameLine : CertLine → Type 0
  SameLine (line.Cut f) = (names : List Named) → keeps_rules names library.entries f [] ≡ keeps_rules names library'.entries f []
  SameLine (line.Lemma n ts) =
      (lemma_of (take before library.entries) n ≡ lemma_of (take before' library'.entries) n) × (is_some (lemma_of library.entries n) ≡ is_some (lemma_of library'.entries n))
  SameLine (line.UnfoldL i) = SameDefinitions
  SameLine (line.UnfoldR j) = SameDefinitions
  SameLine _ = Unit {0}

  module _ (bodies : Closed S library.entries) where
    left_alike : SameDefinitions → (names : List Named) (x : Formula-F Formula) → LayerWithin S x → unfold_left names library.entries x ≡ unfold_left names library'.entries x
    left_alike same names (Formula-F.App p ts) h = ap (λ o. unfolded_left names o ts) (same p h.0)
    left_alike same names _ h = refl

    right_alike : SameDefinitions → (names : List Named) (x : Formula-F Formula) → LayerWithin S x → unfold_right names library.entries x ≡ unfold_right names library'.entries x
    right_alike same names (Formula-F.App p ts) h = ap (λ o. unfolded_right names o ts) (same p h.0)
    right_alike same names _ h = refl

    pub line_alike : (q : Sequent) (l : CertLine) → GoalWithin S q → SameLine l → after_line library before q l ≡ after_line library' before' q l
    line_alike q (line.Cut f) h k = ap (λ b. effect (cut_parts b (is_large f) f) q) (k q.names)
    line_alike q (line.UnfoldL i) h k =
        alike (λ f. unfold_left q.names library.entries (out-Formula f)) (λ f. unfold_left q.names library'.entries (out-Formula f))
        (record { names = q.names; left = remove q.left (i - 1); right = q.right }) (numbered q.left i)
        (λ f e. left_alike k q.names (out-Formula f) (opened S f (at_number (Within S) q.left i f e h.0)))
    line_alike q (line.UnfoldR j) h k =
        alike (λ f. unfold_right q.names library.entries (out-Formula f)) (λ f. unfold_right q.names library'.entries (out-Formula f))
        (record { names = q.names; left = q.left; right = remove q.right (j - 1) }) (numbered q.right j)
        (λ f e. right_alike k q.names (out-Formula f) (opened S f (at_number (Within S) q.right j f e h.1)))
    line_alike q (line.Lemma n ts) h k =
        ap (λ o. effect (cited_left q.names o (lemma_of library.entries n) ts) q) k.0
        ∙ ap (λ p. effect p q) (any_alike q.names (lemma_of (take before' library'.entries) n) _ _ ts k.1)
    line_alike q _ h k = refl

    both_stay : (ls : List CertLine) (a b c n : ℕ) → after_lines library before (Failed a b c) ls n ≡ after_lines library' before' (Failed a b c) ls n
    both_stay ls a b c n = stays library before ls a b c n ∙ sym (stays library' before' ls a b c n)

    abbrev LinesAlike : List CertLine → Type 0
    LinesAlike ls = (gs : List Sequent) (n : ℕ) → Each (GoalWithin S) gs → after_lines library before (Open gs) ls n ≡ after_lines library' before' (Open gs) ls n

    capped_alike : (b : Bool) (gs : List Sequent) (ls : List CertLine) (n m : ℕ) → LinesAlike ls → Each (GoalWithin S) gs →
        after_lines library before (capped b gs n) ls m ≡ after_lines library' before' (capped b gs n) ls m
    capped_alike true gs ls n m ih h = both_stay ls n 0 7 m
    capped_alike false gs ls n m ih h = ih gs m h

    replaced_alike : (x : Effect) (rest : List Sequent) (ls : List CertLine) (n m : ℕ) → LinesAlike ls → EffectWithin S x → Each (GoalWithin S) rest →
        after_lines library before (replaced x rest n) ls m ≡ after_lines library' before' (replaced x rest n) ls m
    replaced_alike (Fails sub cause) rest ls n m ih h k = both_stay ls n sub cause m
    replaced_alike (Premises ps) rest ls n m ih h k = capped_alike _ (ps ++ rest) ls n m ih (joined (GoalWithin S) ps rest h k)

    lines_alike : (ls : List CertLine) → Each SameLine ls → Each (LineWithin S library before bodies) ls → LinesAlike ls
    lines_alike [] k w gs n h = refl
    lines_alike (l ∷ ls) k w [] n h = both_stay ls n 0 1 (n + 1)
    lines_alike (l ∷ ls) k w (q ∷ rest) n h =
        replaced_alike (after_line library before q l) rest ls n (n + 1) (lines_alike ls k.1 w.1) (line_within S library before bodies q l h.0 w.0) h.1
        ∙ ap (λ x. after_lines library' before' (replaced x rest n) ls (n + 1)) (line_alike q l h.0 k.0)

    pub verdict_stays : (q : Sequent) (cert : Cert) → GoalWithin S q → Each SameLine cert.lines → Each (LineWithin S library before bodies) cert.lines → verdict library before q cert ≡ verdict library' before' q cert
    verdict_stays q cert h k w =
        ap (λ p. told p (length cert.lines))
        (ap (λ ls. after_lines library before (Open (q ∷ [])) ls 1) (take-length cert.lines)
        ∙ lines_alike cert.lines k w (q ∷ []) 1 (h, tt)
        ∙ sym (ap (λ ls. after_lines library' before' (Open (q ∷ [])) ls 1) (take-length cert.lines)))
