-- Two readings of one text by its tokens.
use Rattle.std.proofs.Common.{◌≡◌, ℕ, List, [], ◌∷◌, ◌++◌, Some, refl, sym, ap, ◌∙◌, subst}
use Rattle.rw_syntax.proofs.Choices.{some_is}
use Rattle.rw_tokens.specs.Tokens.{Token, token_at, front_token, LeadsTo}

-- where no byte is left there is no token
pub none_at_end : (bytes : List ℕ) (t : Token) (there : List ℕ) → bytes ≡ [] → token_at bytes ≡ Some (t, there) → ⊥
unfolding token_at front_token
none_at_end [] t there e h = absurd (cc)
none_at_end (b ∷ bs) t there e h = absurd (cc)

-- one list of tokens begins the other
pub record Aligned (before ts : List Token) (left end : List ℕ) : Type 0 where
  pub more : List Token
  pub is : ts ≡ before ++ more
  pub leads : LeadsTo left more end

-- two readings of one text: one list begins the other
pub data Either (before ts : List Token) (left end : List ℕ) : Type 0 where
  longer : Aligned before ts left end → Either before ts left end
  shorter : Aligned ts before end left → Either before ts left end

grown : (t k : Token) (before ts : List Token) (left end : List ℕ) → t ≡ k → Either before ts left end → Either (t ∷ before) (k ∷ ts) left end
grown t k before ts left end e (longer r) = longer (record { more = r.more; is = ap (λ x. k ∷ x) r.is ∙ ap (λ x. x ∷ (before ++ r.more)) (sym e); leads = r.leads })
grown t k before ts left end e (shorter r) = shorter (record { more = r.more; is = ap (λ x. t ∷ x) r.is ∙ ap (λ x. x ∷ (ts ++ r.more)) e; leads = r.leads })

pub aligned : (bytes : List ℕ) (before ts : List Token) (left end : List ℕ) → LeadsTo bytes before left → LeadsTo bytes ts end → Either before ts left end
aligned bytes [] ts left end a b = longer (record { more = ts; is = refl; leads = subst (λ x. LeadsTo x ts end) a b })
aligned bytes (t ∷ before) [] left end a b = shorter (record { more = t ∷ before; is = refl; leads = subst (λ x. LeadsTo x (t ∷ before) left) b a })
aligned bytes (t ∷ before) (k ∷ ts) left end a b =
    let same = some_is (sym a.1 ∙ b.1) in
    grown t k before ts left end (ap (λ p. p.0) same) (aligned a.0 before ts left end a.2 (subst (λ x. LeadsTo x ts end) (sym (ap (λ p. p.1) same)) b.2))
