-- What a line makes of a goal whose predicates are all among some has no others, where the line's formulas have none.
use Rattle.std.proofs.Common.{◌≡◌, ℕ, ◌-◌, Bool, true, false, ◌&&◌, List, [], ◌∷◌, ◌++◌, take, Option, Some, None, refl, sym, ◌∙◌, subst, nat_eq}
use Rattle.std.specs.Option.{option_map}
use Rattle.rw_terms.specs.declared.term.Sort.{Sort}
use Rattle.rw_terms.specs.declared.term.Term.{Term}
use Rattle.rw_terms.specs.declared.term.Formula.{Formula}
use Rattle.rw_terms.specs.declared.term.Formula.TheVariants as formula
use Rattle.rw_terms.specs.declared.term.Formula.TheOpen.{Formula-F}
use Rattle.rw_terms.specs.declared.term.Formula.TheViews.{out-Formula}
use Rattle.rw_terms.specs.declared.sequent.Sequent.{Sequent}
use Rattle.rw_terms.specs.Named.{Named}
use Rattle.rw_terms.specs.Validity.{Each}
use Rattle.rw_terms.specs.InScope.{only_if}
use Rattle.rw_subst.specs.Conj.{conj_with, conj, disj_with, disj}
use Rattle.rw_subst.specs.Replaced.{changed_leaves, opened_leaves, opened}
use Rattle.rw_arith.specs.declared.error.LinError.{LinError}
use Rattle.rw_arith.specs.declared.error.LinError.TheVariants as fault
use Rattle.rw_arith.specs.Lines.{lines_fault}
use Rattle.rw_goals.specs.declared.closing.Closing.{Closing}
use Rattle.rw_goals.specs.declared.closing.Closing.TheVariants as closing
use Rattle.rw_goals.specs.declared.connectives.Connective.TheVariants as connective
use Rattle.rw_goals.specs.declared.library.Definition.{Definition}
use Rattle.rw_goals.specs.declared.library.Lemma.{Lemma}
use Rattle.rw_goals.specs.declared.library.Item.{Item}
use Rattle.rw_goals.specs.declared.library.Library.{Library}
use Rattle.rw_goals.specs.declared.added.Parts.TheVariants as parts
use Rattle.rw_goals.specs.Premises.{nothing, numbered}
use Rattle.rw_goals.specs.Closing.{closes_if, closed_by}
use Rattle.rw_goals.specs.Cut.{cut_parts, leave_out}
use Rattle.rw_goals.specs.Sorting.{sort_of}
use Rattle.rw_goals.proofs.Sound.{joined}
use Rattle.rw_goals.proofs.Places.{at_number, with_place}
use Rattle.rw_axioms.specs.Axioms.{array_length, is_int, same_length, small_axiom, axiom_parts, put_same, put_other, extension, quotient_law, positive_law, negative_law, division, put_same_axiom, put_other_axiom, extension_axiom, division_axiom}
use Rattle.rw_equations.specs.declared.equality.Rewritten.{Rewritten}
use Rattle.rw_equations.specs.declared.equality.Rewritten.TheVariants as rewritten
use Rattle.rw_equations.specs.Equality as equality
use Rattle.rw_equations.specs.Equality.{two_orders, equal_right, flipped, sides, rewritten_by, rewriting, unless_itself, placed, left_with, right_with, rewrite_left, rewrite_right}
use Rattle.rw_quantifiers.specs.Quantified.{if_small, typed_left, typed_right, all_left, any_right, fresh_left, fresh_right, all_right, any_left, is_known}
use Rattle.rw_citations.specs.Conj.{statement}
use Rattle.rw_citations.specs.Cited.{definition_of, lemma_of, changes_for, for_terms, unfolded_left, unfolded_right, unfold_left, unfold_right, cited_left}
use Rattle.rw_sequents.specs.Refuted.{by_fault}
use Rattle.rw_sequents.specs.Rules.{after_line}
use Rattle.rw_sequents.specs.declared.line.CertLine.{CertLine}
use Rattle.rw_sequents.specs.declared.line.CertLine.TheVariants as line
use Rattle.rw_lemmas.specs.Citing.{predicates}
use Rattle.rw_lemmas.proofs.Predicates.{of_parts, rebuilt_predicates, rewritten_predicates}
use Rattle.rw_lemmas.proofs.Within.{Within, GoalWithin, EffectWithin, PartsWithin, LayerRule, effect_within, by_layer, at_left_within, at_right_within, beside_left_within, beside_right_within, left_rule_within, right_rule_within}

-- a formula without predicates
abbrev HasNone : Formula → Type 0
HasNone f = predicates f ≡ []

none_eq : (s t : Term) → HasNone (formula.Eq s t)
none_eq s t = of_parts (Formula-F.Eq s t) _ (formula.rolls-Eq s t)

none_less : (s t : Term) → HasNone (formula.Less s t)
none_less s t = of_parts (Formula-F.Less s t) _ (formula.rolls-Less s t)

none_at_most : (s t : Term) → HasNone (formula.AtMost s t)
none_at_most s t = of_parts (Formula-F.AtMost s t) _ (formula.rolls-AtMost s t)

none_not : (f : Formula) → HasNone f → HasNone (formula.Not f)
none_not f e = of_parts (Formula-F.Not f) _ (formula.rolls-Not f) ∙ e

none_all : (s : Sort) (f : Formula) → HasNone f → HasNone (formula.All s f)
none_all s f e = of_parts (Formula-F.All s f) _ (formula.rolls-All s f) ∙ e

none_and : (f g : Formula) → HasNone f → HasNone g → HasNone (formula.And f g)
none_and f g d e = of_parts (Formula-F.And f g) _ (formula.rolls-And f g) ∙ (λ i. d i ++ e i)

none_imp : (f g : Formula) → HasNone f → HasNone g → HasNone (formula.Imp f g)
none_imp f g d e = of_parts (Formula-F.Imp f g) _ (formula.rolls-Imp f g) ∙ (λ i. d i ++ e i)

none_put_same : (a i e : Term) (n : ℕ) → HasNone (put_same a i e n)
none_put_same a i e n = none_imp _ _ (none_and _ _ (none_at_most _ _) (none_less _ _)) (none_eq _ _)

none_put_other : (a i e j : Term) → HasNone (put_other a i e j)
none_put_other a i e j = none_imp _ _ (none_not _ (none_eq _ _)) (none_eq _ _)

none_extension : (a b : Term) → HasNone (extension a b)
none_extension a b = none_imp _ _ (none_all _ _ (none_eq _ _)) (none_eq _ _)

none_division : (t u : Term) → HasNone (division t u)
none_division t u =
    none_and (formula.And (quotient_law t u) (positive_law t u)) (negative_law t u)
    (none_and (quotient_law t u) (positive_law t u) (none_imp _ _ (none_not _ (none_eq _ _)) (none_eq _ _))
    (none_imp _ _ (none_less _ _) (none_and _ _ (none_at_most _ _) (none_less _ _))))
    (none_imp _ _ (none_less _ _) (none_and _ _ (none_less _ _) (none_at_most _ _)))

module _ (S : List ℕ → Type 0) where
  of_none : (f : Formula) → HasNone f → Within S f
  of_none f e = subst (Each S) (sym e) tt

  -- instances
  small_left : (b large : Bool) (f : Formula) → Within S f → PartsWithin S (typed_left b (if_small large f))
  small_left false large f h = tt
  small_left true true f h = tt
  small_left true false f h = ((h, tt), tt)

  small_right : (b large : Bool) (f : Formula) → Within S f → PartsWithin S (typed_right b (if_small large f))
  small_right false large f h = tt
  small_right true true f h = tt
  small_right true false f h = (tt, (h, tt))

  new_left : (known large : Bool) (y : List ℕ) (s : Sort) (f : Formula) → Within S f → PartsWithin S (fresh_left known y s (if_small large f))
  new_left true large y s f h = tt
  new_left false true y s f h = tt
  new_left false false y s f h = ((h, tt), tt)

  new_right : (known large : Bool) (y : List ℕ) (s : Sort) (f : Formula) → Within S f → PartsWithin S (fresh_right known y s (if_small large f))
  new_right true large y s f h = tt
  new_right false true y s f h = tt
  new_right false false y s f h = (tt, (h, tt))

  opened_within : (t : Term) (f : Formula) → Within S f → Within S (opened t f)
  opened_within t f h = subst (Each S) (sym (rebuilt_predicates (opened_leaves t) f 0)) h

  for_terms_within : (params : List Named) (ts : List Term) (f : Formula) → Within S f → Within S (for_terms params ts f)
  for_terms_within params ts f h = subst (Each S) (sym (rebuilt_predicates (changed_leaves (changes_for params ts)) f 0)) h

  all_left_within : (names : List Named) (t : Term) → LayerRule S (all_left names t)
  all_left_within names t (Formula-F.All s f) h = small_left _ _ (opened t f) (opened_within t f h)
  all_left_within names t _ h = tt

  any_right_within : (names : List Named) (t : Term) → LayerRule S (any_right names t)
  any_right_within names t (Formula-F.Any s f) h = small_right _ _ (opened t f) (opened_within t f h)
  any_right_within names t _ h = tt

  all_right_within : (known : Bool) (y : List ℕ) → LayerRule S (all_right known y)
  all_right_within known y (Formula-F.All s f) h = new_right known _ y s _ (opened_within _ f h)
  all_right_within known y _ h = tt

  any_left_within : (known : Bool) (y : List ℕ) → LayerRule S (any_left known y)
  any_left_within known y (Formula-F.Any s f) h = new_left known _ y s _ (opened_within _ f h)
  any_left_within known y _ h = tt

  -- equality
  orders_within : (b : Bool) (s t : Term) → PartsWithin S (two_orders b s t)
  orders_within true s t = ((tt, (of_none _ (none_at_most s t), tt)), (tt, (of_none _ (none_at_most t s), tt)))
  orders_within false s t = tt

  equal_right_within : (names : List Named) → LayerRule S (equal_right names)
  equal_right_within names (Formula-F.Eq s t) h = orders_within _ s t
  equal_right_within names _ h = tt

  flipped_within : LayerRule S flipped
  flipped_within (Formula-F.Eq s t) h = ((of_none _ (none_eq t s), tt), tt)
  flipped_within _ h = tt

  abbrev RewrittenWithin : Rewritten → Type 0
  RewrittenWithin (rewritten.Fails cause) = Unit {0}
  RewrittenWithin (rewritten.To f) = Within S f

  smaller : (large : Bool) (f : Formula) → Within S f → RewrittenWithin (equality.if_small large f)
  smaller true f h = tt
  smaller false f h = h

  by_sides : (o : Option (Term × Term)) (f : Formula) → Within S f → RewrittenWithin (rewritten_by o f)
  by_sides None f h = tt
  by_sides (Some e) f h = smaller _ _ (subst (Each S) (sym (rewritten_predicates e.0 e.1 f)) h)

  rewriting_within : (names : List Named) (o p : Option Formula) → ((f : Formula) → p ≡ Some f → Within S f) → RewrittenWithin (rewriting names o p)
  rewriting_within names None p h = tt
  rewriting_within names (Some e) None h = tt
  rewriting_within names (Some e) (Some f) h = by_sides (sides names (out-Formula e)) f (h f refl)

  unless_within : (b : Bool) (o : Option Formula) (r : Rewritten) → RewrittenWithin r → RewrittenWithin (unless_itself b o r)
  unless_within true None r h = tt
  unless_within true (Some f) r h = tt
  unless_within false o r h = h

  placed_within : (r : Rewritten) (put : Formula → Sequent) → ((f : Formula) → Within S f → GoalWithin S (put f)) → RewrittenWithin r → EffectWithin S (placed r put)
  placed_within (rewritten.Fails cause) put k h = tt
  placed_within (rewritten.To f) put k h = effect_within S (parts.One nothing) (put f) (tt, tt) (k f h)

  rewrite_left_within : (q : Sequent) (i m : ℕ) → GoalWithin S q → EffectWithin S (rewrite_left q i m)
  rewrite_left_within q i m h =
      placed_within _ (left_with q m) (λ f k. (with_place (Within S) q.left (m - 1) f k h.0, h.1))
      (unless_within (nat_eq i m) (numbered q.left i) _ (rewriting_within q.names (numbered q.left i) (numbered q.left m) (λ f e. at_number (Within S) q.left m f e h.0)))

  rewrite_right_within : (q : Sequent) (i j : ℕ) → GoalWithin S q → EffectWithin S (rewrite_right q i j)
  rewrite_right_within q i j h =
      placed_within _ (right_with q j) (λ f k. (h.0, with_place (Within S) q.right (j - 1) f k h.1))
      (rewriting_within q.names (numbered q.left i) (numbered q.right j) (λ f e. at_number (Within S) q.right j f e h.1))

  -- axioms
  abbrev AxiomWithin : Option Formula → Type 0
  AxiomWithin None = Unit {0}
  AxiomWithin (Some f) = Within S f

  small : (large : Bool) (f : Formula) → Within S f → PartsWithin S (small_axiom large f)
  small true f h = tt
  small false f h = ((h, tt), tt)

  axiom_within : (o : Option Formula) → AxiomWithin o → PartsWithin S (axiom_parts o)
  axiom_within None h = tt
  axiom_within (Some f) h = small _ f h

  only_within : (b : Bool) (o : Option Formula) → AxiomWithin o → AxiomWithin (only_if b o)
  only_within true o h = h
  only_within false o h = tt

  mapped : (g : ℕ → Formula) (o : Option ℕ) → ((n : ℕ) → Within S (g n)) → AxiomWithin (option_map g o)
  mapped g None h = tt
  mapped g (Some n) h = h n

  put_same_in : (names : List Named) (a i e : Term) → AxiomWithin (put_same_axiom names a i e)
  put_same_in names a i e =
      only_within (is_int names i && is_int names e) (option_map (λ n. put_same a i e n) (array_length (sort_of names [] a)))
      (mapped (λ n. put_same a i e n) (array_length (sort_of names [] a)) (λ n. of_none _ (none_put_same a i e n)))

  put_other_in : (names : List Named) (a i e j : Term) → AxiomWithin (put_other_axiom names a i e j)
  put_other_in names a i e j =
      only_within (is_int names i && is_int names e && is_int names j) (option_map (λ n. put_other a i e j) (array_length (sort_of names [] a)))
      (mapped (λ n. put_other a i e j) (array_length (sort_of names [] a)) (λ n. of_none _ (none_put_other a i e j)))

  extension_in : (names : List Named) (a b : Term) → AxiomWithin (extension_axiom names a b)
  extension_in names a b =
      only_within (same_length names (array_length (sort_of names [] a)) (array_length (sort_of names [] b))) (Some (extension a b)) (of_none _ (none_extension a b))

  division_in : (names : List Named) (t u : Term) → AxiomWithin (division_axiom names t u)
  division_in names t u = only_within (is_int names t && is_int names u) (Some (division t u)) (of_none _ (none_division t u))

  -- closing
  closes_within : (b : Bool) → EffectWithin S (closes_if b)
  closes_within true = tt
  closes_within false = tt

  closed_within : (c : Closing) (q : Sequent) → EffectWithin S (closed_by c q)
  closed_within closing.Common q = closes_within _
  closed_within closing.False q = closes_within _
  closed_within closing.True q = closes_within _
  closed_within closing.Reflexive q = closes_within _

  refuted_within : (o : Option LinError) → EffectWithin S (by_fault o)
  refuted_within None = tt
  refuted_within (Some (fault.BadLine k)) = tt
  refuted_within (Some (fault.Wide k)) = tt
  refuted_within (Some (fault.NotContradiction k)) = tt
  refuted_within (Some fault.Memory) = tt

  cut_within : (b large : Bool) (f : Formula) → Within S f → PartsWithin S (cut_parts b large f)
  cut_within false large f h = tt
  cut_within true true f h = tt
  cut_within true false f h = ((tt, (h, tt)), ((h, tt), tt))

  -- what a lemma says
  and_within : (f g : Formula) → Within S f → Within S g → Within S (formula.And f g)
  and_within f g h k = subst (Each S) (sym (of_parts (Formula-F.And f g) _ (formula.rolls-And f g))) (joined S (predicates f) (predicates g) h k)

  or_within : (f g : Formula) → Within S f → Within S g → Within S (formula.Or f g)
  or_within f g h k = subst (Each S) (sym (of_parts (Formula-F.Or f g) _ (formula.rolls-Or f g))) (joined S (predicates f) (predicates g) h k)

  imp_within : (f g : Formula) → Within S f → Within S g → Within S (formula.Imp f g)
  imp_within f g h k = subst (Each S) (sym (of_parts (Formula-F.Imp f g) _ (formula.rolls-Imp f g))) (joined S (predicates f) (predicates g) h k)

  conj_with_within : (f : Formula) (gs : List Formula) → Within S f → Each (Within S) gs → Within S (conj_with f gs)
  conj_with_within f [] h k = h
  conj_with_within f (g ∷ gs) h k = conj_with_within (formula.And f g) gs (and_within f g h k.0) k.1

  conj_within : (fs : List Formula) → Each (Within S) fs → Within S (conj fs)
  conj_within [] h = of_none _ (of_parts Formula-F.True _ formula.rolls-True)
  conj_within (f ∷ fs) h = conj_with_within f fs h.0 h.1

  disj_with_within : (f : Formula) (gs : List Formula) → Within S f → Each (Within S) gs → Within S (disj_with f gs)
  disj_with_within f [] h k = h
  disj_with_within f (g ∷ gs) h k = disj_with_within (formula.Or f g) gs (or_within f g h k.0) k.1

  disj_within : (fs : List Formula) → Each (Within S) fs → Within S (disj fs)
  disj_within [] h = of_none _ (of_parts Formula-F.False _ formula.rolls-False)
  disj_within (f ∷ fs) h = disj_with_within f fs h.0 h.1

  abbrev pub LemmaWithin : Option Lemma → Type 0
  LemmaWithin None = Unit {0}
  LemmaWithin (Some l) = Each (Within S) l.sequent.left × Each (Within S) l.sequent.right

  cited_within : (names : List Named) (o p : Option Lemma) (ts : List Term) → LemmaWithin o → PartsWithin S (cited_left names o p ts)
  cited_within names (Some l) p ts h =
      small_left _ _ (for_terms l.params ts (statement l.sequent))
      (for_terms_within l.params ts (statement l.sequent) (imp_within (conj l.sequent.left) (disj l.sequent.right) (conj_within l.sequent.left h.0) (disj_within l.sequent.right h.1)))
  cited_within names None (Some l) ts h = tt
  cited_within names None None ts h = tt

  -- the definitions of such predicates have no others in their bodies
  abbrev pub Closed : List Item → Type 0
  Closed entries = (p : List ℕ) (d : Definition) → S p → definition_of entries p ≡ Some d → Within S d.body

  module _ (entries : List Item) (bodies : Closed entries) (names : List Named) where
    found_left : (p : List ℕ) (o : Option Definition) (ts : List Term) → S p → definition_of entries p ≡ o → PartsWithin S (unfolded_left names o ts)
    found_left p None ts s e = tt
    found_left p (Some d) ts s e = small_left _ _ (for_terms d.params ts d.body) (for_terms_within d.params ts d.body (bodies p d s e))

    found_right : (p : List ℕ) (o : Option Definition) (ts : List Term) → S p → definition_of entries p ≡ o → PartsWithin S (unfolded_right names o ts)
    found_right p None ts s e = tt
    found_right p (Some d) ts s e = small_right _ _ (for_terms d.params ts d.body) (for_terms_within d.params ts d.body (bodies p d s e))

    unfold_left_within : LayerRule S (unfold_left names entries)
    unfold_left_within (Formula-F.App p ts) h = found_left p (definition_of entries p) ts h.0 refl
    unfold_left_within _ h = tt

    unfold_right_within : LayerRule S (unfold_right names entries)
    unfold_right_within (Formula-F.App p ts) h = found_right p (definition_of entries p) ts h.0 refl
    unfold_right_within _ h = tt

  module _ (library : Library) (before : ℕ) (bodies : Closed library.entries) where
    -- the formulas that a line brings have no other predicates
    abbrev pub LineWithin : CertLine → Type 0
    LineWithin (line.Cut f) = Within S f
    LineWithin (line.Lemma n ts) = LemmaWithin (lemma_of (take before library.entries) n)
    LineWithin _ = Unit {0}

    pub line_within : (q : Sequent) (l : CertLine) → GoalWithin S q → LineWithin l → EffectWithin S (after_line library before q l)
    line_within q line.Ax h k = closed_within closing.Common q
    line_within q line.FalseL h k = closed_within closing.False q
    line_within q line.TrueR h k = closed_within closing.True q
    line_within q line.Refl h k = closed_within closing.Reflexive q
    line_within q (line.Cut f) h k = effect_within S _ q (cut_within _ _ f k) h
    line_within q (line.DropL i) h k = at_left_within S leave_out (λ f w. (tt, tt)) q i h
    line_within q (line.DropR j) h k = at_right_within S leave_out (λ f w. (tt, tt)) q j h
    line_within q (line.NotL i) h k = at_left_within S _ (left_rule_within S connective.Not) q i h
    line_within q (line.NotR j) h k = at_right_within S _ (right_rule_within S connective.Not) q j h
    line_within q (line.AndL i) h k = at_left_within S _ (left_rule_within S connective.And) q i h
    line_within q (line.AndR j) h k = at_right_within S _ (right_rule_within S connective.And) q j h
    line_within q (line.OrL i) h k = at_left_within S _ (left_rule_within S connective.Or) q i h
    line_within q (line.OrR j) h k = at_right_within S _ (right_rule_within S connective.Or) q j h
    line_within q (line.ImpL i) h k = at_left_within S _ (left_rule_within S connective.Imp) q i h
    line_within q (line.ImpR j) h k = at_right_within S _ (right_rule_within S connective.Imp) q j h
    line_within q (line.AllL i t) h k = beside_left_within S _ (by_layer S (all_left q.names t) (all_left_within q.names t)) q i h
    line_within q (line.ExR j t) h k = beside_right_within S _ (by_layer S (any_right q.names t) (any_right_within q.names t)) q j h
    line_within q (line.AllR j y) h k = at_right_within S _ (by_layer S (all_right (is_known y q) y) (all_right_within (is_known y q) y)) q j h
    line_within q (line.ExL i y) h k = at_left_within S _ (by_layer S (any_left (is_known y q) y) (any_left_within (is_known y q) y)) q i h
    line_within q (line.EqR j) h k = at_right_within S _ (by_layer S (equal_right q.names) (equal_right_within q.names)) q j h
    line_within q (line.Flip i) h k = beside_left_within S _ (by_layer S flipped flipped_within) q i h
    line_within q (line.RwL i m) h k = rewrite_left_within q i m h
    line_within q (line.RwR i j) h k = rewrite_right_within q i j h
    line_within q (line.PutSame a i e) h k = effect_within S (axiom_parts (put_same_axiom q.names a i e)) q (axiom_within (put_same_axiom q.names a i e) (put_same_in q.names a i e)) h
    line_within q (line.PutOther a i e j) h k =
        effect_within S (axiom_parts (put_other_axiom q.names a i e j)) q (axiom_within (put_other_axiom q.names a i e j) (put_other_in q.names a i e j)) h
    line_within q (line.ArrExt a b) h k = effect_within S (axiom_parts (extension_axiom q.names a b)) q (axiom_within (extension_axiom q.names a b) (extension_in q.names a b)) h
    line_within q (line.DivMod t u) h k = effect_within S (axiom_parts (division_axiom q.names t u)) q (axiom_within (division_axiom q.names t u) (division_in q.names t u)) h
    line_within q (line.UnfoldL i) h k = at_left_within S _ (by_layer S (unfold_left q.names library.entries) (unfold_left_within library.entries bodies q.names)) q i h
    line_within q (line.UnfoldR j) h k = at_right_within S _ (by_layer S (unfold_right q.names library.entries) (unfold_right_within library.entries bodies q.names)) q j h
    line_within q (line.Lemma n ts) h k = effect_within S _ q (cited_within q.names (lemma_of (take before library.entries) n) _ ts k) h
    line_within q (line.Lin lines) h k = refuted_within (lines_fault q.left q.right lines)
