-- The tree of a readable term stands for it.
use Rattle.std.proofs.Common.{◌≡◌, ℕ, ◌≤◌, Bool, true, false, cond, List, [], ◌∷◌, refl, sym, ap, ◌∙◌, subst, arith, true≢false, pos, negsuc, map}
use Rattle.std.specs.Prelude.{◌&&◌, not}
use Rattle.std.proofs.lemmas.Bool.{and_parts, not-true, ltb-true}
use Rattle.rw_terms.specs.Names.{is_name}
use Rattle.rw_terms.specs.declared.term.Term.{Term}
use Rattle.rw_terms.specs.declared.term.Term.TheOpen.{Term-F}
use Rattle.rw_terms.specs.declared.term.Term.TheViews.{roll-Term}
use Rattle.rw_terms.specs.declared.term.Term.TheFolds.{map-Term, ind-Term, fold-roll-Term}
use Rattle.rw_terms.specs.declared.term.Formula.TheOpen.{Formula-F}
use Rattle.rw_terms.specs.declared.term.Formula.TheViews.{roll-Formula}
use Rattle.rw_terms.specs.AllOf.{all_of}
use Rattle.rw_syntax.specs.declared.token.Infix.{Infix}
use Rattle.rw_syntax.specs.declared.token.Infix.TheVariants as infixes
use Rattle.rw_syntax.specs.declared.frame.Part.TheVariants as parts
use Rattle.rw_syntax.specs.declared.frame.Prefix.TheVariants as prefixes
use Rattle.rw_syntax.specs.declared.frame.Head.TheVariants as heads
use Rattle.rw_syntax.specs.Grammar.{word, leaf, none, level, level_of, left_of, right_of, is_some, is_upper, bound_or, named, joined, prefixed, read_at, applied, as_term, part, Tree}
use Rattle.rw_printer.specs.Trees.{wrap, term_tree_step, term_tree, argument_trees, infix_tree}
use Rattle.rw_printer.specs.Readable.{readable_term_step, readable_term, named_term_step, named_term, named_terms}
use Rattle.rw_printer.proofs.Fits.{places, Shown, Fit, term_fits, numbered_only, found, infix_shown, AreFit, Called, called}

abbrev pub Prints : Term → Type 0
Prints t = (d : ℕ) → readable_term t d ≡ true → named_term t ≡ true → Shown d (term_tree t d) (parts.Term t)

abbrev Layer : Type 0
Layer = Term-F ((t : Term) × Prints t)

abbrev under : Layer → Term-F Term
under = map-Term ((t : Term) × Prints t) Term (λ e. e.0)

word_shown : (d : ℕ) (x : List ℕ) (v : Term) → named x ≡ v → is_name x ≡ true → Shown d (leaf (word x)) (parts.Term v)
word_shown d x v e n = record { formed = refl; value = ap (bound_or (named x)) (numbered_only x d) ∙ ap parts.Term e; plain = n; kind = omega arith }

operand : (wanted d : ℕ) (a : (t : Term) × Prints t) → 6 ≤ wanted → wanted ≤ 9 → readable_term a.0 d ≡ true → named_term a.0 ≡ true → Fit wanted d (wrap wanted (term_tree a.0 d)) (parts.Term a.0)
operand wanted d a low high p n = term_fits wanted d (term_tree a.0 d) a.0 low high (a.1 d p n)

joins : (d : ℕ) (op : Infix) (a b : (t : Term) × Prints t) (v : Term) → joined op (parts.Term a.0) (parts.Term b.0) ≡ parts.Term v → 6 ≤ level_of op → 6 ≤ left_of op → left_of op ≤ 9 → 6 ≤ right_of op → right_of op ≤ 9 → (readable_term a.0 d && readable_term b.0 d) ≡ true → (named_term a.0 && named_term b.0) ≡ true → Shown d (infix_tree op (term_tree a.0 d) (term_tree b.0 d)) (parts.Term v)
joins d op a b v e k l1 l2 r1 r2 p n =
    let q = and_parts (readable_term a.0 d) (readable_term b.0 d) p in
    let m = and_parts (named_term a.0) (named_term b.0) n in
    infix_shown d op (wrap (left_of op) (term_tree a.0 d)) (wrap (right_of op) (term_tree b.0 d)) (parts.Term a.0) (parts.Term b.0) (parts.Term v) e k (operand (left_of op) d a l1 l2 q.0 m.0) (operand (right_of op) d b r1 r2 q.1 m.1)

-- the trees of terms fit
layer_fits : (xs : List ((t : Term) × Prints t)) (d : ℕ) → all_of (map (λ a. a d) (map readable_term (map (λ e. e.0) xs))) ≡ true → all_of (map named_term (map (λ e. e.0) xs)) ≡ true → AreFit d (map (λ a. wrap 6 (a d)) (map term_tree (map (λ e. e.0) xs))) (map (λ e. e.0) xs)
layer_fits [] d p n = tt
layer_fits (x ∷ xs) d p n =
    let q = and_parts (readable_term x.0 d) (all_of (map (λ a. a d) (map readable_term (map (λ e. e.0) xs)))) p in
    let m = and_parts (named_term x.0) (all_of (map named_term (map (λ e. e.0) xs))) n in
    (operand 6 d x (omega arith) (omega arith) q.0 m.0, layer_fits xs d q.1 m.1)

-- a function of terms
function_shown : (d : ℕ) (w : List ℕ) (t : Tree) (vs : List Term) → is_upper w ≡ false → Called d w t vs → Shown d t (parts.Term (roll-Term (Term-F.Fun w vs)))
function_shown d w t vs e c = record {
  formed = c.formed;
  value = c.value ∙ ap (λ b. cond b (parts.Formula (roll-Formula (Formula-F.App w vs))) (parts.Term (roll-Term (Term-F.Fun w vs)))) e;
  plain = c.plain;
  kind = let k : level t ≡ 9 = c.kind ∙ ap (λ b. cond b 5 9) e in omega arith;
}

shown_layer : (y : Layer) (d : ℕ) → readable_term_step (map-Term Term (ℕ → Bool) readable_term (under y)) d ≡ true → named_term_step (map-Term Term Bool named_term (under y)) ≡ true → Shown d (term_tree_step (map-Term Term (ℕ → Tree) term_tree (under y)) d) (parts.Term (roll-Term (under y)))
shown_layer (Term-F.Lit (pos n)) d p m = record { formed = p; value = refl; plain = p; kind = omega arith }
shown_layer (Term-F.Lit (negsuc n)) d p m = absurd (true≢false (sym p))
shown_layer (Term-F.Var x) d p m = word_shown d x (roll-Term (Term-F.Var x)) (ap (λ b. cond b (roll-Term (Term-F.Const x)) (roll-Term (Term-F.Var x))) (not-true (is_upper x) p)) m
shown_layer (Term-F.Init x) d p m = record { formed = p; value = refl; plain = m; kind = omega arith }
shown_layer (Term-F.Const x) d p m = word_shown d x (roll-Term (Term-F.Const x)) (ap (λ b. cond b (roll-Term (Term-F.Const x)) (roll-Term (Term-F.Var x))) p) m
shown_layer (Term-F.Bound k) d p m =
    let h = ltb-true k d p in
    let f = found k d h in
    record { formed = ap is_some f; value = ap (bound_or (roll-Term (Term-F.Lit (pos 0)))) f; plain = (omega arith, omega arith); kind = omega arith }
shown_layer (Term-F.Neg a) d p m =
    let x = operand 8 d a (omega arith) (omega arith) p m in
    record { formed = (refl, x.fit, x.formed); value = ap (prefixed prefixes.Minus) x.value; plain = (tt, x.plain); kind = omega arith }
shown_layer (Term-F.Add a b) d p m = joins d infixes.Plus a b (roll-Term (Term-F.Add a.0 b.0)) refl (omega arith) (omega arith) (omega arith) (omega arith) (omega arith) p m
shown_layer (Term-F.Sub a b) d p m = joins d infixes.Minus a b (roll-Term (Term-F.Sub a.0 b.0)) refl (omega arith) (omega arith) (omega arith) (omega arith) (omega arith) p m
shown_layer (Term-F.Mul a b) d p m = joins d infixes.Times a b (roll-Term (Term-F.Mul a.0 b.0)) refl (omega arith) (omega arith) (omega arith) (omega arith) (omega arith) p m
shown_layer (Term-F.Div a b) d p m = joins d infixes.Div a b (roll-Term (Term-F.Div a.0 b.0)) refl (omega arith) (omega arith) (omega arith) (omega arith) (omega arith) p m
shown_layer (Term-F.Mod a b) d p m = joins d infixes.Mod a b (roll-Term (Term-F.Mod a.0 b.0)) refl (omega arith) (omega arith) (omega arith) (omega arith) (omega arith) p m
shown_layer (Term-F.Read a i) d p m =
    let q = and_parts (readable_term a.0 d) (readable_term i.0 d) p in
    let n = and_parts (named_term a.0) (named_term i.0) m in
    let x = operand 9 d a (omega arith) (omega arith) q.0 n.0 in
    let y = operand 6 d i (omega arith) (omega arith) q.1 n.1 in
    record { formed = (x.fit, y.fit, x.formed, y.formed); value = ap (λ v. read_at v (part (places d) (wrap 6 (term_tree i.0 d)))) x.value ∙ ap (read_at (parts.Term a.0)) y.value; plain = (x.plain, y.plain); kind = omega arith }
shown_layer (Term-F.Put a i e) d p m =
    let q = and_parts (readable_term a.0 d) (readable_term i.0 d && readable_term e.0 d) p in
    let r = and_parts (readable_term i.0 d) (readable_term e.0 d) q.1 in
    let n = and_parts (named_term a.0) (named_term i.0 && named_term e.0) m in
    let o = and_parts (named_term i.0) (named_term e.0) n.1 in
    let x = operand 6 d a (omega arith) (omega arith) q.0 n.0 in
    let y = operand 6 d i (omega arith) (omega arith) r.0 o.0 in
    let z = operand 6 d e (omega arith) (omega arith) r.1 o.1 in
    record {
      formed = (refl, ((tt, x.fit, x.formed), y.fit, y.formed), z.fit, z.formed);
      value = ap (λ v. applied heads.Put (as_term v ∷ as_term (part (places d) (wrap 6 (term_tree i.0 d))) ∷ []) (part (places d) (wrap 6 (term_tree e.0 d)))) x.value
          ∙ ap (λ v. applied heads.Put (a.0 ∷ as_term v ∷ []) (part (places d) (wrap 6 (term_tree e.0 d)))) y.value
          ∙ ap (λ v. applied heads.Put (a.0 ∷ i.0 ∷ []) v) z.value;
      plain = (tt, ((tt, x.plain), y.plain), z.plain);
      kind = omega arith;
    }
shown_layer (Term-F.Fun f []) d p m = absurd (true≢false (sym (and_parts (not (is_upper f)) false p).1))
shown_layer (Term-F.Fun f (x ∷ xs)) d p m =
    let q = and_parts (not (is_upper f)) (all_of (map (λ a. a d) (map readable_term (map (λ e. e.0) (x ∷ xs))))) p in
    let n = and_parts (is_name f) (all_of (map named_term (map (λ e. e.0) (x ∷ xs)))) m in
    let y = layer_fits (x ∷ xs) d q.1 n.1 in
    function_shown d f _ (x.0 ∷ map (λ e. e.0) xs) (not-true (is_upper f) q.0) (called d f none (wrap 6 (term_tree x.0 d)) _ x.0 (map (λ e. e.0) xs) n.0 tt tt y.0 y.1)

shown_at : (y : Layer) → Prints (roll-Term (under y))
shown_at y d p m =
    let q : readable_term_step (map-Term Term (ℕ → Bool) readable_term (under y)) d ≡ true = sym (ap (λ f. f d) (fold-roll-Term (ℕ → Bool) readable_term_step (under y))) ∙ p in
    let n : named_term_step (map-Term Term Bool named_term (under y)) ≡ true = sym (fold-roll-Term Bool named_term_step (under y)) ∙ m in
    subst (λ f. Shown d (f d) (parts.Term (roll-Term (under y)))) (sym (fold-roll-Term (ℕ → Tree) term_tree_step (under y))) (shown_layer y d q n)

pub prints : (t : Term) → Prints t
prints = ind-Term Prints (λ x y is. subst (λ z. Prints (roll-Term z)) is (shown_at y))

-- the trees of a list of terms fit
pub all_fit : (ts : List Term) (d : ℕ) → all_of (map (λ a. a d) (map readable_term ts)) ≡ true → named_terms ts ≡ true → AreFit d (argument_trees ts d) ts
all_fit [] d p n = tt
all_fit (t ∷ ts) d p n =
    let q = and_parts (readable_term t d) (all_of (map (λ a. a d) (map readable_term ts))) p in
    let m = and_parts (named_term t) (named_terms ts) n in
    (term_fits 6 d (term_tree t d) t (omega arith) (omega arith) (prints t d q.0 m.0), all_fit ts d q.1 m.1)
