-- Trees that stand for a value behind binders that are named by their numbers.
use Rattle.std.proofs.Common.{◌≡◌, ℕ, zero, suc, ◌-◌, ◌≤◌, ◌<◌, Bool, true, false, cond, List, [], ◌∷◌, ◌++◌, Some, None, IsTrue, refl, ap, ◌∙◌, arith, append_assoc}
use Rattle.std.specs.Prelude.{eqb, option_map}
use Rattle.std.proofs.lemmas.Bool.{eq-eqb, ne_eqb}
use Rattle.rw_terms.specs.Names.{is_name}
use Rattle.rw_terms.specs.declared.term.Term.{Term}
use Rattle.rw_terms.specs.declared.term.Term.TheOpen.{Term-F}
use Rattle.rw_terms.specs.declared.term.Term.TheViews.{roll-Term}
use Rattle.rw_terms.specs.declared.term.Formula.TheOpen.{Formula-F}
use Rattle.rw_terms.specs.declared.term.Formula.TheViews.{roll-Formula}
use Rattle.rw_syntax.specs.declared.token.Infix.{Infix}
use Rattle.rw_syntax.specs.declared.frame.Part.{Part}
use Rattle.rw_syntax.specs.declared.frame.Part.TheVariants as parts
use Rattle.rw_syntax.specs.declared.frame.Binder.{Binder}
use Rattle.rw_syntax.specs.declared.frame.Binder.TheVariants as binders
use Rattle.rw_syntax.specs.declared.frame.Head.TheVariants as heads
use Rattle.rw_syntax.specs.Grammar.{Tree, binary, group, Trees, more, level, level_of, left_of, right_of, head_level, shut, fits, find, is_upper, joined, as_term, IsFormed, AreFormed, part, values}
use Rattle.rw_syntax.proofs.Choices.{fits_to, shut_term, shut_formula}
use Rattle.rw_printer.specs.Trees.{wrap, call_onto}
use Rattle.rw_printer.proofs.Plain.{IsPlain, ArePlain}
use Rattle.rw_terms.specs.declared.term.Formula.{Formula}

-- the binders `_1` to `_d`, the innermost first
abbrev pub places : ℕ → List Binder
places zero = []
places (suc d) = binders.Numbered (suc d) ∷ places d

-- the levels of terms, and those of formulas
abbrev pub Kind : Part → ℕ → Type 0
Kind (parts.Term t) n = 6 ≤ n
Kind (parts.Formula f) n = (1 ≤ n) × (n < 6)

pub record Shown (d : ℕ) (t : Tree) (v : Part) : Type 0 where
  pub formed : IsFormed (places d) t
  pub value : part (places d) t ≡ v
  pub plain : IsPlain d t
  pub kind : Kind v (level t)

pub record Fit (wanted d : ℕ) (t : Tree) (v : Part) : Type 0 where
  pub fit : IsTrue (fits wanted (level t))
  pub formed : IsFormed (places d) t
  pub value : part (places d) t ≡ v
  pub plain : IsPlain d t

pub term_fits : (wanted d : ℕ) (t : Tree) (v : Term) → 6 ≤ wanted → wanted ≤ 9 → Shown d t (parts.Term v) → Fit wanted d (wrap wanted t) (parts.Term v)
term_fits wanted d t v low high s = go (fits wanted (level t)) refl
  where
    go : (b : Bool) → fits wanted (level t) ≡ b → Fit wanted d (cond b t (group t)) (parts.Term v)
    go true e = record { fit = e; formed = s.formed; value = s.value; plain = s.plain }
    go false e = record { fit = fits_to wanted (shut (level t)) (let z = shut_term (level t) s.kind in omega arith) (λ x. absurd (omega arith)); formed = s.formed; value = s.value; plain = s.plain }

pub formula_fits : (wanted d : ℕ) (t : Tree) (v : Formula) → wanted ≤ 5 → Shown d t (parts.Formula v) → Fit wanted d (wrap wanted t) (parts.Formula v)
formula_fits wanted d t v high s = go (fits wanted (level t)) refl
  where
    go : (b : Bool) → fits wanted (level t) ≡ b → Fit wanted d (cond b t (group t)) (parts.Formula v)
    go true e = record { fit = e; formed = s.formed; value = s.value; plain = s.plain }
    go false e =
        let z = shut_formula (level t) s.kind.1 in
        record { fit = fits_to wanted (shut (level t)) (omega arith) (λ x. omega arith); formed = s.formed; value = s.value; plain = s.plain }

pub numbered_only : (x : List ℕ) (d : ℕ) → find (binders.Named x) (places d) ≡ None
numbered_only x zero = refl
numbered_only x (suc d) = ap (option_map suc) (numbered_only x d)

-- the binder with k between has the number d - k
pub found : (k d : ℕ) → k < d → find (binders.Numbered (d - k)) (places d) ≡ Some k
found k zero h = absurd (omega arith)
found zero (suc d) h = ap (λ b. cond b (Some 0) (option_map suc (find (binders.Numbered (suc d - 0)) (places d)))) (eq-eqb (suc d - 0) (suc d) (omega arith))
found (suc k) (suc d) h =
    let z : suc d - suc k ≡ d - k = omega arith in
    let n : eqb (suc d - suc k) (suc d) ≡ false = ne_eqb (suc d - suc k) (suc d) (λ e. omega (arith, e)) in
    ap (λ b. cond b (Some 0) (option_map suc (find (binders.Numbered (suc d - suc k)) (places d)))) n ∙ ap (λ m. option_map suc (find (binders.Numbered m) (places d))) z ∙ ap (option_map suc) (found k d (omega arith))

-- both operands fit
pub infix_shown : (d : ℕ) (op : Infix) (l r : Tree) (a b v : Part) → joined op a b ≡ v → Kind v (level_of op) → Fit (left_of op) d l a → Fit (right_of op) d r b → Shown d (binary op l r) v
infix_shown d op l r a b v e k x y = record {
  formed = (x.fit, y.fit, x.formed, y.formed);
  value = ap (λ p. joined op p (part (places d) r)) x.value ∙ ap (λ p. joined op a p) y.value ∙ e;
  plain = (x.plain, y.plain);
  kind = k;
}

-- the trees of a list of terms fit as these
abbrev pub AreFit : ℕ → List Tree → List Term → Type 0
AreFit d [] [] = Unit {0}
AreFit d [] (v ∷ vs) = ⊥
AreFit d (t ∷ ts) [] = ⊥
AreFit d (t ∷ ts) (v ∷ vs) = Fit 6 d t (parts.Term v) × AreFit d ts vs

-- what a name is with a list of terms
abbrev pub call_part : List ℕ → List Term → Part
call_part w ts = cond (is_upper w) (parts.Formula (roll-Formula (Formula-F.App w ts))) (parts.Term (roll-Term (Term-F.Fun w ts)))

-- a call with the terms so far, one more, and those that follow
pub record Called (d : ℕ) (w : List ℕ) (t : Tree) (vs : List Term) : Type 0 where
  pub formed : IsFormed (places d) t
  pub value : part (places d) t ≡ call_part w vs
  pub plain : IsPlain d t
  pub kind : level t ≡ head_level (heads.Named w)

pub called : (d : ℕ) (w : List ℕ) (us : Trees) (t : Tree) (ts : List Tree) (v : Term) (vs : List Term) → IsTrue (is_name w) → AreFormed (places d) us → ArePlain d us → Fit 6 d t (parts.Term v) → AreFit d ts vs → Called d w (call_onto w us t ts) (values (places d) us ++ v ∷ vs)
called d w us t [] v [] n f p x y = record {
  formed = (refl, f, x.fit, x.formed);
  value = ap (λ q. call_part w (values (places d) us ++ as_term q ∷ [])) x.value;
  plain = (n, p, x.plain);
  kind = refl;
}
called d w us t [] v (k ∷ vs) n f p x y = absurd y
called d w us t (u ∷ ts) v [] n f p x y = absurd y
called d w us t (u ∷ ts) v (k ∷ vs) n f p x y =
    let r = called d w (more us t) u ts k vs n (f, x.fit, x.formed) (p, x.plain) y.0 y.1 in
    record {
      formed = r.formed;
      value = r.value ∙ ap (call_part w) (append_assoc (values (places d) us) (as_term (part (places d) t) ∷ []) (k ∷ vs)) ∙ ap (λ q. call_part w (values (places d) us ++ as_term q ∷ k ∷ vs)) x.value;
      plain = r.plain;
      kind = r.kind;
    }
