-- The atoms of each kind of term.
use Rattle.std.proofs.Common.{◌≡◌, ◌⊎◌, inl, inr, ℕ, ℤ, List, [], ◌∷◌, ◌++◌, map, sym, ap, ◌∙◌, refl, subst, Result, OnOk}
use Rattle.std.proofs.lemmas.List.{append-nil, append_assoc}
use Rattle.rw_terms.specs.declared.term.Term.{Term}
use Rattle.rw_terms.specs.declared.term.Term.TheVariants as v
use Rattle.rw_terms.specs.declared.term.Term.TheOpen.{Term-F}
use Rattle.rw_terms.specs.declared.term.Term.TheViews.{roll-Term}
use Rattle.rw_terms.specs.declared.term.Term.TheFolds.{map-Term, para-roll-Term}
use Rattle.rw_elimination.specs.Hypotheses.{occurrences_step, occurrences}

occurs_layer : (x : Term-F Term) → occurrences (roll-Term x) ≡ occurrences_step (map-Term Term (Term × List Term) (λ t. (t, occurrences t)) x)
occurs_layer x = para-roll-Term (List Term) occurrences_step x

itself : (ts : List Term) → map (λ (a : Term × List Term). a.0) (map (λ (t : Term). (t, occurrences t)) ts) ≡ ts
itself [] = refl
itself (t ∷ ts) = ap (λ us. t ∷ us) (itself ts)

-- nothing more
pub none_more : (ts us : List Term) (t : Term) → ts ≡ us → ((n : ℤ) × (t ≡ v.Lit n)) ⊎ (((k : ℕ) × (t ≡ v.Bound k)) ⊎ ((a : Term) × (i : Term) × (e : Term) × (t ≡ v.Put a i e))) → ts ≡ us ++ occurrences t
none_more ts us t e (inl h) = e ∙ sym (append-nil us) ∙ ap (λ o. us ++ o) (sym (ap occurrences (h.1 ∙ sym (v.rolls-Lit h.0)) ∙ occurs_layer (Term-F.Lit h.0)))
none_more ts us t e (inr (inl h)) = e ∙ sym (append-nil us) ∙ ap (λ o. us ++ o) (sym (ap occurrences (h.1 ∙ sym (v.rolls-Bound h.0)) ∙ occurs_layer (Term-F.Bound h.0)))
none_more ts us t e (inr (inr h)) = e ∙ sym (append-nil us) ∙ ap (λ o. us ++ o) (sym (ap occurrences (h.3 ∙ sym (v.rolls-Put h.0 h.1 h.2)) ∙ occurs_layer (Term-F.Put h.0 h.1 h.2)))

pub name_occurs : (t : Term) → ((x : List ℕ) × (t ≡ v.Var x)) ⊎ (((x : List ℕ) × (t ≡ v.Init x)) ⊎ ((x : List ℕ) × (t ≡ v.Const x))) → occurrences t ≡ t ∷ []
name_occurs t (inl h) = ap occurrences (h.1 ∙ sym (v.rolls-Var h.0)) ∙ occurs_layer (Term-F.Var h.0) ∙ ap (λ u. u ∷ []) (sym h.1)
name_occurs t (inr (inl h)) = ap occurrences (h.1 ∙ sym (v.rolls-Init h.0)) ∙ occurs_layer (Term-F.Init h.0) ∙ ap (λ u. u ∷ []) (sym h.1)
name_occurs t (inr (inr h)) = ap occurrences (h.1 ∙ sym (v.rolls-Const h.0)) ∙ occurs_layer (Term-F.Const h.0) ∙ ap (λ u. u ∷ []) (sym h.1)

pub other_occurs : (t : Term) →
    ((a : Term) × (b : Term) × (t ≡ v.Div a b))
    ⊎ (((a : Term) × (b : Term) × (t ≡ v.Mod a b)) ⊎ (((a : Term) × (b : Term) × (t ≡ v.Read a b)) ⊎ ((f : List ℕ) × (args : List Term) × (t ≡ v.Fun f args)))) → occurrences t ≡ t ∷ []
other_occurs t (inl h) = ap occurrences (h.2 ∙ sym (v.rolls-Div h.0 h.1)) ∙ occurs_layer (Term-F.Div h.0 h.1) ∙ ap (λ u. u ∷ []) (sym h.2)
other_occurs t (inr (inl h)) = ap occurrences (h.2 ∙ sym (v.rolls-Mod h.0 h.1)) ∙ occurs_layer (Term-F.Mod h.0 h.1) ∙ ap (λ u. u ∷ []) (sym h.2)
other_occurs t (inr (inr (inl h))) = ap occurrences (h.2 ∙ sym (v.rolls-Read h.0 h.1)) ∙ occurs_layer (Term-F.Read h.0 h.1) ∙ ap (λ u. u ∷ []) (sym h.2)
other_occurs t (inr (inr (inr h))) =
    ap occurrences (h.2 ∙ sym (v.rolls-Fun h.0 h.1)) ∙ occurs_layer (Term-F.Fun h.0 h.1) ∙ ap (λ ts. v.Fun h.0 ts ∷ []) (itself h.1) ∙ ap (λ u. u ∷ []) (sym h.2)

pub neg_occurs : (t a : Term) → t ≡ v.Neg a → occurrences t ≡ occurrences a
neg_occurs t a e = ap occurrences (e ∙ sym (v.rolls-Neg a)) ∙ occurs_layer (Term-F.Neg a)

pub both_occur : (t a b : Term) → (t ≡ v.Add a b) ⊎ ((t ≡ v.Sub a b) ⊎ (t ≡ v.Mul a b)) → occurrences t ≡ occurrences a ++ occurrences b
both_occur t a b (inl e) = ap occurrences (e ∙ sym (v.rolls-Add a b)) ∙ occurs_layer (Term-F.Add a b)
both_occur t a b (inr (inl e)) = ap occurrences (e ∙ sym (v.rolls-Sub a b)) ∙ occurs_layer (Term-F.Sub a b)
both_occur t a b (inr (inr e)) = ap occurrences (e ∙ sym (v.rolls-Mul a b)) ∙ occurs_layer (Term-F.Mul a b)

-- what is behind a list, by another name
pub behind_is : {E : Type 0} (r : Result (Unit {0}) E) (new old ts us : List Term) → ts ≡ us → OnOk r (new ≡ old ++ ts) → OnOk r (new ≡ old ++ us)
behind_is r new old ts us e h = subst (λ o. OnOk r (new ≡ old ++ o)) e h

-- two lists behind one another
pub both_behind : {E : Type 0} (r : Result (Unit {0}) E) (new mid old ts us all : List Term) → mid ≡ old ++ ts → all ≡ ts ++ us → OnOk r (new ≡ mid ++ us) → OnOk r (new ≡ old ++ all)
both_behind r new mid old ts us all m e h = subst (λ o. OnOk r (new ≡ o)) (ap (λ o. o ++ us) m ∙ append_assoc old ts us ∙ ap (λ o. old ++ o) (sym e)) h
