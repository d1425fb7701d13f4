-- The tree of a readable formula stands for it.
use Rattle.std.proofs.Common.{◌≡◌, ℕ, suc, ◌≤◌, ◌<◌, Bool, true, false, cond, List, [], ◌∷◌, refl, sym, ap, ◌∙◌, subst, arith, true≢false, map}
use Rattle.std.specs.Prelude.{◌&&◌}
use Rattle.std.proofs.lemmas.Bool.{and_parts}
use Rattle.rw_terms.specs.Names.{is_name}
use Rattle.rw_terms.specs.declared.term.Sort.{Sort}
use Rattle.rw_terms.specs.declared.term.Term.{Term}
use Rattle.rw_terms.specs.declared.term.Term.TheOpen.{Term-F}
use Rattle.rw_terms.specs.declared.term.Term.TheViews.{roll-Term}
use Rattle.rw_terms.specs.declared.term.Formula.{Formula}
use Rattle.rw_terms.specs.declared.term.Formula.TheOpen.{Formula-F}
use Rattle.rw_terms.specs.declared.term.Formula.TheViews.{roll-Formula}
use Rattle.rw_terms.specs.declared.term.Formula.TheFolds.{map-Formula, ind-Formula, fold-roll-Formula}
use Rattle.rw_terms.specs.AllOf.{all_of}
use Rattle.rw_syntax.specs.declared.token.Infix.{Infix}
use Rattle.rw_syntax.specs.declared.token.Infix.TheVariants as infixes
use Rattle.rw_syntax.specs.declared.token.Quantifier.{Quantifier}
use Rattle.rw_syntax.specs.declared.token.Quantifier.TheVariants as quantifiers
use Rattle.rw_syntax.specs.declared.frame.Part.TheVariants as parts
use Rattle.rw_syntax.specs.declared.frame.Binder.TheVariants as binders
use Rattle.rw_syntax.specs.declared.frame.Prefix.TheVariants as prefixes
use Rattle.rw_syntax.specs.Grammar.{none, level, level_of, left_of, right_of, is_upper, is_sort, joined, prefixed, Tree, binary}
use Rattle.rw_printer.specs.Trees.{wrap, is_quantified, conclusion_level, infix_tree, quantified_tree, term_tree, formula_tree_step, formula_tree}
use Rattle.rw_printer.specs.Readable.{readable_term, readable_step, readable_formula, named_term, named_terms, named_step, named_formula}
use Rattle.rw_printer.proofs.Fits.{Shown, Fit, term_fits, formula_fits, infix_shown, Called, called}
use Rattle.rw_printer.proofs.ShownTerms.{prints as term_prints, all_fit}
use Rattle.rw_syntax.proofs.Choices.{fits_of, fits_to}

abbrev pub Prints : Formula → Type 0
Prints f = (d : ℕ) → readable_formula f d ≡ true → named_formula f ≡ true → Shown d (formula_tree f d) (parts.Formula f)

abbrev Layer : Type 0
Layer = Formula-F ((f : Formula) × Prints f)

abbrev under : Layer → Formula-F Formula
under = map-Formula ((f : Formula) × Prints f) Formula (λ e. e.0)

-- a relation between two terms
relates : (d : ℕ) (op : Infix) (s t : Term) (v : Formula) → joined op (parts.Term s) (parts.Term t) ≡ parts.Formula v → level_of op ≡ 5 → left_of op ≡ 6 → right_of op ≡ 6 → (readable_term s d && readable_term t d) ≡ true → (named_term s && named_term t) ≡ true → Shown d (infix_tree op (term_tree s d) (term_tree t d)) (parts.Formula v)
relates d op s t v e k l r p n =
    let q = and_parts (readable_term s d) (readable_term t d) p in
    let m = and_parts (named_term s) (named_term t) n in
    infix_shown d op (wrap (left_of op) (term_tree s d)) (wrap (right_of op) (term_tree t d)) (parts.Term s) (parts.Term t) (parts.Formula v) e (omega arith, omega arith)
    (term_fits (left_of op) d (term_tree s d) s (omega arith) (omega arith) (term_prints s d q.0 m.0))
    (term_fits (right_of op) d (term_tree t d) t (omega arith) (omega arith) (term_prints t d q.1 m.1))

operand : (wanted d : ℕ) (a : (f : Formula) × Prints f) → wanted ≤ 5 → readable_formula a.0 d ≡ true → named_formula a.0 ≡ true → Fit wanted d (wrap wanted (formula_tree a.0 d)) (parts.Formula a.0)
operand wanted d a high p n = formula_fits wanted d (formula_tree a.0 d) a.0 high (a.1 d p n)

-- a connective between two formulas, of which the right one is wanted at a level
joins : (d : ℕ) (op : Infix) (least : ℕ) (a b : (f : Formula) × Prints f) (v : Formula) → joined op (parts.Formula a.0) (parts.Formula b.0) ≡ parts.Formula v → 1 ≤ level_of op → level_of op < 6 → left_of op ≤ 5 → right_of op ≤ least → least ≤ 5 → (readable_formula a.0 d && readable_formula b.0 d) ≡ true → (named_formula a.0 && named_formula b.0) ≡ true → Shown d (binary op (wrap (left_of op) (formula_tree a.0 d)) (wrap least (formula_tree b.0 d))) (parts.Formula v)
joins d op least a b v e k1 k2 l r1 r2 p n =
    let q = and_parts (readable_formula a.0 d) (readable_formula b.0 d) p in
    let m = and_parts (named_formula a.0) (named_formula b.0) n in
    infix_shown d op (wrap (left_of op) (formula_tree a.0 d)) (wrap least (formula_tree b.0 d)) (parts.Formula a.0) (parts.Formula b.0) (parts.Formula v) e (k1, k2) (operand (left_of op) d a l q.0 m.0) (looser least (right_of op) (operand least d b r2 q.1 m.1) r1 r2)
  where
    looser : (least more : ℕ) → Fit least d (wrap least (formula_tree b.0 d)) (parts.Formula b.0) → more ≤ least → least ≤ 5 → Fit more d (wrap least (formula_tree b.0 d)) (parts.Formula b.0)
    looser least more x h k =
        let y = fits_of least (level (wrap least (formula_tree b.0 d))) x.fit in
        record { fit = fits_to more (level (wrap least (formula_tree b.0 d))) (let z = y.0 in omega arith) (λ w. y.1 (omega arith)); formed = x.formed; value = x.value; plain = x.plain }

conclusion_within : (t : Tree) → (1 ≤ conclusion_level t) × (conclusion_level t ≤ 5)
conclusion_within t = go (is_quantified t)
  where
    go : (b : Bool) → (1 ≤ cond b 2 1) × (cond b 2 1 ≤ 5)
    go true = (omega arith, omega arith)
    go false = (omega arith, omega arith)

-- a quantifier, whose binder has the number of those around it and one more
quantifies : (d : ℕ) (q : Quantifier) (s : Sort) (a : (f : Formula) × Prints f) (v : Formula) → prefixed (prefixes.Bind q (binders.Numbered (suc d)) s) (parts.Formula a.0) ≡ parts.Formula v → (is_sort s && readable_formula a.0 (suc d)) ≡ true → named_formula a.0 ≡ true → Shown d (quantified_tree q s d (formula_tree a.0 (suc d))) (parts.Formula v)
quantifies d q s a v e p n =
    let r = and_parts (is_sort s) (readable_formula a.0 (suc d)) p in
    let x = operand 1 (suc d) a (omega arith) r.1 n in
    record { formed = (r.0, x.fit, x.formed); value = ap (prefixed (prefixes.Bind q (binders.Numbered (suc d)) s)) x.value ∙ e; plain = ((refl, r.0), x.plain); kind = (omega arith, omega arith) }

-- a predicate of terms
predicate_shown : (d : ℕ) (w : List ℕ) (t : Tree) (vs : List Term) → is_upper w ≡ true → Called d w t vs → Shown d t (parts.Formula (roll-Formula (Formula-F.App w vs)))
predicate_shown d w t vs e c = record {
  formed = c.formed;
  value = c.value ∙ ap (λ b. cond b (parts.Formula (roll-Formula (Formula-F.App w vs))) (parts.Term (roll-Term (Term-F.Fun w vs)))) e;
  plain = c.plain;
  kind = let k : level t ≡ 5 = c.kind ∙ ap (λ b. cond b 5 9) e in (omega arith, omega arith);
}

shown_layer : (y : Layer) (d : ℕ) → readable_step (map-Formula Formula (ℕ → Bool) readable_formula (under y)) d ≡ true → named_step (map-Formula Formula Bool named_formula (under y)) ≡ true → Shown d (formula_tree_step (map-Formula Formula (ℕ → Tree) formula_tree (under y)) d) (parts.Formula (roll-Formula (under y)))
shown_layer Formula-F.True d p m = record { formed = refl; value = refl; plain = tt; kind = (omega arith, omega arith) }
shown_layer Formula-F.False d p m = record { formed = refl; value = refl; plain = tt; kind = (omega arith, omega arith) }
shown_layer (Formula-F.Eq s t) d p m = relates d infixes.Equal s t (roll-Formula (Formula-F.Eq s t)) refl refl refl refl p m
shown_layer (Formula-F.Less s t) d p m = relates d infixes.Less s t (roll-Formula (Formula-F.Less s t)) refl refl refl refl p m
shown_layer (Formula-F.AtMost s t) d p m = relates d infixes.AtMost s t (roll-Formula (Formula-F.AtMost s t)) refl refl refl refl p m
shown_layer (Formula-F.Not f) d p m =
    let x = operand 4 d f (omega arith) p m in
    record { formed = (refl, x.fit, x.formed); value = ap (prefixed prefixes.Not) x.value; plain = (tt, x.plain); kind = (omega arith, omega arith) }
shown_layer (Formula-F.And f g) d p m = joins d infixes.And 4 f g (roll-Formula (Formula-F.And f.0 g.0)) refl (omega arith) (omega arith) (omega arith) (omega arith) (omega arith) p m
shown_layer (Formula-F.Or f g) d p m = joins d infixes.Or 3 f g (roll-Formula (Formula-F.Or f.0 g.0)) refl (omega arith) (omega arith) (omega arith) (omega arith) (omega arith) p m
shown_layer (Formula-F.Imp f g) d p m =
    let c = conclusion_within (formula_tree g.0 d) in
    joins d infixes.Implies (conclusion_level (formula_tree g.0 d)) f g (roll-Formula (Formula-F.Imp f.0 g.0)) refl (omega arith) (omega arith) (omega arith) c.0 c.1 p m
shown_layer (Formula-F.All s f) d p m = quantifies d quantifiers.All s f (roll-Formula (Formula-F.All s f.0)) refl p m
shown_layer (Formula-F.Any s f) d p m = quantifies d quantifiers.Any s f (roll-Formula (Formula-F.Any s f.0)) refl p m
shown_layer (Formula-F.App w []) d p m = absurd (true≢false (sym (and_parts (is_upper w) false p).1))
shown_layer (Formula-F.App w (t ∷ ts)) d p m =
    let q = and_parts (is_upper w) (all_of (map (λ a. a d) (map readable_term (t ∷ ts)))) p in
    let n = and_parts (is_name w) (named_terms (t ∷ ts)) m in
    let y = all_fit (t ∷ ts) d q.1 n.1 in
    predicate_shown d w _ (t ∷ ts) q.0 (called d w none (wrap 6 (term_tree t d)) _ t ts n.0 tt tt y.0 y.1)

shown_at : (y : Layer) → Prints (roll-Formula (under y))
shown_at y d p m =
    let q : readable_step (map-Formula Formula (ℕ → Bool) readable_formula (under y)) d ≡ true = sym (ap (λ f. f d) (fold-roll-Formula (ℕ → Bool) readable_step (under y))) ∙ p in
    let n : named_step (map-Formula Formula Bool named_formula (under y)) ≡ true = sym (fold-roll-Formula Bool named_step (under y)) ∙ m in
    subst (λ f. Shown d (f d) (parts.Formula (roll-Formula (under y)))) (sym (fold-roll-Formula (ℕ → Tree) formula_tree_step (under y))) (shown_layer y d q n)

pub prints : (f : Formula) → Prints f
prints = ind-Formula Prints (λ x y is. subst (λ z. Prints (roll-Formula z)) is (shown_at y))
