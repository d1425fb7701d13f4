-- Bytes that lead through tokens of these classes to other bytes.
use Rattle.std.proofs.Common.{◌≡◌, ℕ, suc, ◌+◌, false, cond, List, [], ◌∷◌, ◌++◌, drop, Some, refl, sym, ap, subst, arith}
use Rattle.std.specs.List.{prefix_len}
use Rattle.rw_syntax.specs.declared.token.Token.{Token as Class}
use Rattle.rw_tokens.specs.Tokens.{Token, is_blank, skip, token_at, LeadsTo}
use Rattle.rw_tokens.specs.Classes.{class_of, AreClasses}

pub record Leads (here : List ℕ) (cs : List Class) (there : List ℕ) : Type 0 where
  pub tokens : List Token
  pub leads : LeadsTo here tokens there
  pub classes : AreClasses tokens cs

pub nothing : (here : List ℕ) → Leads here [] here
nothing here = record { tokens = []; leads = refl; classes = refl }

pub one : (here : List ℕ) (t : Token) (c : Class) (there : List ℕ) → token_at here ≡ Some (t, there) → class_of t ≡ Some c → Leads here (c ∷ []) there
one here t c there e k = record { tokens = t ∷ []; leads = (there, e, refl); classes = (c, [], refl, k, refl) }

pub leads_join : (a : List ℕ) (ts : List Token) (b : List ℕ) (us : List Token) (c : List ℕ) → LeadsTo a ts b → LeadsTo b us c → LeadsTo a (ts ++ us) c
leads_join a [] b us c l m = subst (λ x. LeadsTo x us c) (sym l) m
leads_join a (t ∷ ts) b us c l m = (l.0, l.1, leads_join l.0 ts b us c l.2 m)

classes_join : (ts : List Token) (cs : List Class) (us : List Token) (ds : List Class) → AreClasses ts cs → AreClasses us ds → AreClasses (ts ++ us) (cs ++ ds)
classes_join [] cs us ds a b = subst (λ x. AreClasses us (x ++ ds)) (sym a) b
classes_join (t ∷ ts) cs us ds a b = (a.0, a.1 ++ ds, ap (λ l. l ++ ds) a.2, a.3, classes_join ts a.1 us ds a.4 b)

pub join : {a b c : List ℕ} {cs ds : List Class} → Leads a cs b → Leads b ds c → Leads a (cs ++ ds) c
join {a} {b} {c} {cs} {ds} x y = record { tokens = x.tokens ++ y.tokens; leads = leads_join a x.tokens b y.tokens c x.leads y.leads; classes = classes_join x.tokens cs y.tokens ds x.classes y.classes }

pub from : {a b : List ℕ} {cs : List Class} {c : List ℕ} → a ≡ b → Leads b cs c → Leads a cs c
from {a} {b} {cs} {c} e x = subst (λ z. Leads z cs c) (sym e) x

pub to : {a : List ℕ} {cs : List Class} {b c : List ℕ} → b ≡ c → Leads a cs b → Leads a cs c
to {a} {cs} {b} {c} e x = subst (λ z. Leads a cs z) e x

-- a space is left out
pub skip_space : (x : List ℕ) → skip (32 ∷ x) ≡ skip x
unfolding skip
skip_space x = ap (λ n. drop n (32 ∷ x)) (let e : 1 + prefix_len is_blank x ≡ suc (prefix_len is_blank x) = omega arith in e)

-- what is no white space is not
pub skip_none : (b : ℕ) (bs : List ℕ) → is_blank b ≡ false → skip (b ∷ bs) ≡ b ∷ bs
unfolding skip
skip_none b bs e = ap (λ z. drop (cond z (1 + prefix_len is_blank bs) 0) (b ∷ bs)) e
