-- What differs between two tables, by lists of names.
use Rattle.std.proofs.Common.{◌≡◌, ℕ, suc, ◌+◌, ◌<◌, ◌≤◌, Bool, true, false, if◌then◌else◌, ◌&&◌, ◌||◌, not, List, [], ◌∷◌, ◌++◌, length, take, get_or, Some, None, refl, sym, ap, ◌∙◌, subst, arith, true≢false, bytes_eq}
use Rattle.std.specs.List.{list_any}
use Rattle.std.specs.Option.{option_map}
use Rattle.std.proofs.Math.Seq.{take-suc}
use Rattle.std.proofs.lemmas.Bool.{or_parts, or_left, or_right}
use Rattle.std.proofs.lemmas.List.Folds.{list_any-append}
use Rattle.std.proofs.lemmas.Slice.Eq.{bytes_eq-Decides}
use Rattle.rw_terms.specs.declared.term.Formula.{Formula}
use Rattle.rw_terms.specs.Validity.{Each}
use Rattle.rw_faults.specs.Initial.{is_listed}
use Rattle.rw_goals.specs.declared.library.Item.{Item}
use Rattle.rw_goals.specs.declared.library.Item.TheVariants as item
use Rattle.rw_goals.specs.Library.{parameters_of, if_so, or_else}
use Rattle.rw_goals.proofs.Sound.{joined}
use Rattle.rw_citations.specs.Cited.{definition_of, lemma_of}
use Rattle.rw_library.specs.Entries.{entry_name, is_entry, has_entry, sorts_of}
use Rattle.rw_library.specs.Naming.{applies}
use Rattle.rw_lemmas.specs.declared.differing.Kind.{Kind}
use Rattle.rw_lemmas.specs.declared.differing.Kind.TheVariants as kind
use Rattle.rw_lemmas.specs.Citing.{predicates}
use Rattle.rw_lemmas.specs.Affected.{InFormula, SameLemma, SameSorts, SameDefinition, ReadsSame}
use Rattle.rw_lemmas.specs.Differing.{Same, Tells, Covers, Keeps, meets, next_user, ReachesOne, TellsChanges}
use Rattle.rw_lemmas.proofs.Predicates.{seen_predicates}

-- names that are listed
pub names_itself : (x : List ℕ) → bytes_eq x x ≡ true
names_itself x = (bytes_eq-Decides x x).1 refl

pub keeps_more : (names more : List (List ℕ)) → Keeps names (names ++ more)
keeps_more names more x e = list_any-append (bytes_eq x) names more ∙ or_left _ _ e

pub listed_last : (names : List (List ℕ)) (x : List ℕ) → is_listed (names ++ x ∷ []) x ≡ true
listed_last names x =
    list_any-append (bytes_eq x) names (x ∷ []) ∙ ap (λ b. is_listed names x || (b || false)) (names_itself x) ∙ or_right (is_listed names x) true refl

pub told_last : (S : Type 0) (names : List (List ℕ)) (x : List ℕ) → is_listed (names ++ x ∷ []) x ≡ false → S
told_last S names x e = absurd (true≢false (sym (listed_last names x) ∙ e))

pub each_last : (P : List ℕ → Type 0) (names : List (List ℕ)) (x : List ℕ) → P x → Each P names → Each P (names ++ x ∷ [])
each_last P names x p h = joined P names (x ∷ []) h (p, tt)

unlisted : (names more : List (List ℕ)) → Keeps names more → (x : List ℕ) → is_listed more x ≡ false → is_listed names x ≡ false
unlisted names more k x e = go (is_listed names x) refl
  where
    go : (b : Bool) → is_listed names x ≡ b → b ≡ false
    go true is = absurd (true≢false (sym (k x is) ∙ e))
    go false is = refl

pub listed_each : (P : List ℕ → Type 0) (names : List (List ℕ)) (y : List ℕ) → is_listed names y ≡ true → Each P names → P y
listed_each P [] y e h = absurd (true≢false (sym e))
listed_each P (n ∷ names) y e h = go (bytes_eq y n) refl (listed_each P names y) e
  where
    go : (b : Bool) → bytes_eq y n ≡ b → (is_listed names y ≡ true → Each P names → P y) → (b || is_listed names y) ≡ true → P y
    go true is ih e = subst P (sym ((bytes_eq-Decides y n).0 is)) h.0
    go false is ih e = ih e h.1

pub each_listed : (P : List ℕ → Type 0) (names base : List (List ℕ)) → Keeps names base → ((x : List ℕ) → is_listed base x ≡ true → P x) → Each P names
each_listed P [] base k h = tt
each_listed P (n ∷ names) base k h =
    (h n (k n (or_left (bytes_eq n n) _ (names_itself n))), each_listed P names base (λ x e. k x (ap (λ b. bytes_eq x n || b) e ∙ or_right (bytes_eq x n) true refl)) h)

pub each_map : (P Q : List ℕ → Type 0) (xs : List (List ℕ)) → ((x : List ℕ) → P x → Q x) → Each P xs → Each Q xs
each_map P Q [] h k = tt
each_map P Q (x ∷ xs) h k = (h x k.0, each_map P Q xs h k.1)

-- names of entries
module _ (S : List ℕ → Type 0) where
  pub covers_more : (names more : List (List ℕ)) (es : List Item) → Keeps names more → Covers S names es → Covers S more es
  covers_more names more [] k h = tt
  covers_more names more (e ∷ es) k h = (λ u. h.0 (unlisted names more k (entry_name e) u), covers_more names more es k h.1)

  pub covers_next : (names : List (List ℕ)) (es : List Item) (i : ℕ) (e : Item) → i < length es → e ≡ get_or es i e → Covers S names (take i es) → (is_listed names (entry_name e) ≡ false → S (entry_name e)) →
      Covers S names (take (i + 1) es)
  covers_next names es i e h is k l =
      let one : i + 1 ≡ suc i = omega arith in
      subst (Covers S names) (sym (ap (λ n. take n es) one ∙ take-suc es i e h))
      (joined _ (take i es) (get_or es i e ∷ []) k (subst (λ d. is_listed names (entry_name d) ≡ false → S (entry_name d)) is l, tt))

  covers_at : (names : List (List ℕ)) (es : List Item) (x : List ℕ) → has_entry x es ≡ true → Covers S names es → is_listed names x ≡ false → S x
  covers_at names [] x h c u = absurd (true≢false (sym h))
  covers_at names (e ∷ es) x h c u = go (is_entry x e) refl h (λ k. covers_at names es x k c.1 u)
    where
      go : (b : Bool) → is_entry x e ≡ b → (b || has_entry x es) ≡ true → (has_entry x es ≡ true → S x) → S x
      go true is h ih = let n : entry_name e ≡ x = (bytes_eq-Decides (entry_name e) x).0 is in subst S n (c.0 (ap (is_listed names) n ∙ u))
      go false is h ih = ih h

-- what no entry has the name of
no_lemma : (es : List Item) (x : List ℕ) → has_entry x es ≡ false → lemma_of es x ≡ None
no_lemma [] x h = refl
no_lemma (item.Definition d ∷ es) x h = no_lemma es x (or_parts (bytes_eq d.name x) _ h).1
no_lemma (item.Lemma l ∷ es) x h = let n = or_parts (bytes_eq l.name x) _ h in ap (λ b. or_else (if_so b l) (lemma_of es x)) n.0 ∙ no_lemma es x n.1

no_definition : (es : List Item) (x : List ℕ) → has_entry x es ≡ false → definition_of es x ≡ None
no_definition [] x h = refl
no_definition (item.Lemma l ∷ es) x h = no_definition es x (or_parts (bytes_eq l.name x) _ h).1
no_definition (item.Definition d ∷ es) x h = let n = or_parts (bytes_eq d.name x) _ h in ap (λ b. or_else (if_so b d) (definition_of es x)) n.0 ∙ no_definition es x n.1

no_parameters : (es : List Item) (x : List ℕ) → has_entry x es ≡ false → parameters_of es x ≡ None
no_parameters [] x h = refl
no_parameters (item.Lemma l ∷ es) x h = no_parameters es x (or_parts (bytes_eq l.name x) _ h).1
no_parameters (item.Definition d ∷ es) x h = let n = or_parts (bytes_eq d.name x) _ h in ap (λ b. or_else (if_so b d.params) (parameters_of es x)) n.0 ∙ no_parameters es x n.1

nowhere : (k : Kind) (es es' : List Item) (x : List ℕ) → has_entry x es ≡ false → has_entry x es' ≡ false → Same k es es' x
nowhere kind.Lemma es es' x h h' = no_lemma es x h ∙ sym (no_lemma es' x h')
nowhere kind.Sorts es es' x h h' = ap (option_map sorts_of) (no_parameters es x h ∙ sym (no_parameters es' x h'))
nowhere kind.Definition es es' x h h' = no_definition es x h ∙ sym (no_definition es' x h')

pub tells : (k : Kind) (es es' : List Item) (base names : List (List ℕ)) → Keeps base names → Covers (Same k es es') base es → Covers (Same k es es') names es' → Each (λ x. Same k es es' x → ⊥) names →
    Tells (Same k es es') names
tells k es es' base names keeps old new each = record {
  others = λ x u.
      let c = covers_more (Same k es es') base names es keeps old in look x u (has_entry x es) refl c (has_entry x es') refl;
  each = each;
}
  where
    look : (x : List ℕ) → is_listed names x ≡ false → (b : Bool) → has_entry x es ≡ b → Covers (Same k es es') names es → (c : Bool) → has_entry x es' ≡ c → Same k es es' x
    look x u true is c b' is' = covers_at (Same k es es') names es x is c u
    look x u false is c true is' = covers_at (Same k es es') names es' x is' new u
    look x u false is c false is' = nowhere k es es' x is is'

-- formulas that one of the names stands in
meets_found : (names : List (List ℕ)) (f : Formula) → meets names f ≡ true → (y : List ℕ) × (is_listed names y ≡ true) × (applies y f ≡ true)
meets_found [] f e = absurd (true≢false (sym e))
meets_found (n ∷ names) f e = go (applies n f) refl e (meets_found names f)
  where
    go : (b : Bool) → applies n f ≡ b → (b || meets names f) ≡ true → (meets names f ≡ true → (y : List ℕ) × (is_listed names y ≡ true) × (applies y f ≡ true)) →
        (y : List ℕ) × (is_listed (n ∷ names) y ≡ true) × (applies y f ≡ true)
    go true is e ih = (n, or_left (bytes_eq n n) _ (names_itself n), is)
    go false is e ih = let r = ih e in (r.0, ap (λ b. bytes_eq r.0 n || b) r.1 ∙ or_right (bytes_eq r.0 n) true refl, r.2)

any_is : (P : List ℕ → Type 0) (ps : List (List ℕ)) (y : List ℕ) → list_any (λ p. bytes_eq p y) ps ≡ true → Each P ps → P y
any_is P [] y e h = absurd (true≢false (sym e))
any_is P (p ∷ ps) y e h = go (bytes_eq p y) refl e (λ k. any_is P ps y k h.1)
  where
    go : (b : Bool) → bytes_eq p y ≡ b → (b || list_any (λ p. bytes_eq p y) ps) ≡ true → (list_any (λ p. bytes_eq p y) ps ≡ true → P y) → P y
    go true is e ih = subst P ((bytes_eq-Decides p y).0 is) h.0
    go false is e ih = ih e

pub meets_one : (P : List ℕ → Type 0) (names : List (List ℕ)) (f : Formula) → meets names f ≡ true → InFormula P f → (y : List ℕ) × (is_listed names y ≡ true) × P y
meets_one P names f e h = let r = meets_found names f e in (r.0, r.1, any_is P (predicates f) r.0 (sym (seen_predicates r.0 f) ∙ r.2) h)

-- the definitions that use one of the names
both : (a b : Bool) → (not a && b) ≡ true → (a ≡ false) × (b ≡ true)
both false b e = (refl, e)
both true b e = absurd (true≢false (sym e))

abbrev if_beside : Bool → ℕ
if_beside b = if b then 0 else 1

-- how many definitions are not among the names
abbrev pub count_others : List (List ℕ) → List Item → ℕ
count_others names [] = 0
count_others names (item.Definition d ∷ es) = if_beside (is_listed names d.name) + count_others names es
count_others names (item.Lemma l ∷ es) = count_others names es

no_more : (names : List (List ℕ)) (x n : List ℕ) → if_beside (is_listed (names ++ x ∷ []) n) ≤ if_beside (is_listed names n)
no_more names x n = go (is_listed names n) refl (is_listed (names ++ x ∷ []) n) refl
  where
    go : (b : Bool) → is_listed names n ≡ b → (c : Bool) → is_listed (names ++ x ∷ []) n ≡ c → if_beside c ≤ if_beside b
    go true is true is' = omega arith
    go true is false is' = absurd (true≢false (sym (keeps_more names (x ∷ []) n is) ∙ is'))
    go false is true is' = omega arith
    go false is false is' = omega arith

not_more : (names : List (List ℕ)) (x : List ℕ) (es : List Item) → count_others (names ++ x ∷ []) es ≤ count_others names es
not_more names x [] = at_least_none
  where
    at_least_none : 0 ≤ 0
    at_least_none = omega arith
not_more names x (item.Definition d ∷ es) = sums _ _ _ _ (no_more names x d.name) (not_more names x es)
  where
    sums : (a b c d : ℕ) → a ≤ c → b ≤ d → a + b ≤ c + d
    sums a b c d h k = omega arith
not_more names x (item.Lemma l ∷ es) = not_more names x es

pub fewer : (names : List (List ℕ)) (x : List ℕ) (es : List Item) → next_user names es ≡ Some x → count_others (names ++ x ∷ []) es < count_others names es
fewer names x [] e = absurd (cc)
fewer names x (item.Lemma l ∷ es) e = fewer names x es e
fewer names x (item.Definition d ∷ es) e = go (not (is_listed names d.name) && meets names d.body) refl e (fewer names x es)
  where
    one_less : (m n : ℕ) → m ≤ n → 0 + m < 1 + n
    one_less m n h = omega arith

    still_less : (a b c d : ℕ) → a ≤ c → b < d → a + b < c + d
    still_less a b c d h k = omega arith

    go : (b : Bool) → (not (is_listed names d.name) && meets names d.body) ≡ b → (if b then Some d.name else next_user names es) ≡ Some x →
        (next_user names es ≡ Some x → count_others (names ++ x ∷ []) es < count_others names es) → count_others (names ++ x ∷ []) (item.Definition d ∷ es) < count_others names (item.Definition d ∷ es)
    go true is e ih =
        let n : d.name ≡ x = cc in
        let was : is_listed names d.name ≡ false = (both _ _ is).0 in
        let now : is_listed (names ++ x ∷ []) d.name ≡ true = ap (is_listed (names ++ x ∷ [])) n ∙ listed_last names x in
        subst (λ b. if_beside b + count_others (names ++ x ∷ []) es < if_beside (is_listed names d.name) + count_others names es) (sym now)
        (subst (λ b. 0 + count_others (names ++ x ∷ []) es < if_beside b + count_others names es) (sym was) (one_less _ _ (not_more names x es)))
    go false is e ih = still_less _ _ _ _ (no_more names x d.name) (ih e)

user_reaches : (names : List (List ℕ)) (x : List ℕ) (es : List Item) → next_user names es ≡ Some x → ReachesOne es names x
user_reaches names x [] e = absurd (cc)
user_reaches names x (item.Lemma l ∷ es) e = user_reaches names x es e
user_reaches names x (item.Definition d ∷ es) e = go (not (is_listed names d.name) && meets names d.body) refl e (user_reaches names x es)
  where
    go : (b : Bool) → (not (is_listed names d.name) && meets names d.body) ≡ b → (if b then Some d.name else next_user names es) ≡ Some x → (next_user names es ≡ Some x → ReachesOne es names x) →
        ReachesOne (item.Definition d ∷ es) names x
    go true is e ih =
        let n : d.name ≡ x = cc in
        let m = meets_found names d.body (both _ _ is).1 in
        (m.0, m.1, λ has c h. any_is (λ p. has p ≡ true) (predicates d.body) m.0 (sym (seen_predicates m.0 d.body) ∙ m.2) (c.0 (ap has n ∙ h)))
    go false is e ih = let r = ih e in (r.0, r.1, λ has c h. r.2 has c.1 h)

pub next_reaches : (base names : List (List ℕ)) (x : List ℕ) (es : List Item) → next_user names es ≡ Some x → Each (ReachesOne es base) names → Each (ReachesOne es base) (names ++ x ∷ [])
next_reaches base names x es e h =
    let r = user_reaches names x es e in
    let s = listed_each (ReachesOne es base) names r.0 r.1 h in
    each_last (ReachesOne es base) names x (s.0, s.1, λ has c k. s.2 has c (r.2 has c k)) h

pub reach_themselves : (names : List (List ℕ)) (es : List Item) → Each (ReachesOne es names) names
reach_themselves names es = each_listed (ReachesOne es names) names names (λ x e. e) (λ x e. (x, e, λ has c h. h))

pub all_changes : (es es' : List Item) (lemmas predicates base definitions : List (List ℕ)) → Tells (SameLemma es es') lemmas → Tells (SameSorts es es') predicates → Tells (SameDefinition es es') base →
    Keeps base definitions → next_user definitions es ≡ None → Each (ReachesOne es base) definitions → TellsChanges es es' (record { lemmas = lemmas; predicates = predicates; definitions = definitions })
all_changes es es' lemmas predicates base definitions l p d k c r = record {
  lemmas = l;
  predicates = p;
  definitions = λ x u. d.others x (unlisted base definitions k x u);
  closed = c;
  reasons = each_map (ReachesOne es base) (λ x. ReadsSame es es' x → ⊥) definitions (λ x y same. listed_each (λ x. SameDefinition es es' x → ⊥) base y.0 y.1 d.each (same y.0 y.2)) r;
}
