-- Formulas of a table keep the rules of sorts where an entry is set or taken away that they do not use, or that gives the same head.
use Rattle.std.proofs.Common.{◌≡◌, ℕ, Bool, true, false, if◌then◌else◌, List, [], ◌∷◌, ◌++◌, find, Option, Some, None, refl, sym, ap, ◌∙◌, subst, true≢false, append_assoc, append-nil}
use Rattle.std.specs.Prelude.{bytes_eq, is_some}
use Rattle.std.specs.List.{list_any}
use Rattle.rw_terms.specs.declared.scope.Entry.{Entry}
use Rattle.rw_terms.specs.declared.scope.Head.{Head}
use Rattle.rw_terms.specs.declared.term.Sort.{Sort}
use Rattle.rw_terms.specs.declared.term.Formula.{Formula}
use Rattle.rw_terms.specs.Sorts.{variable_sort, constant_sort}
use Rattle.rw_terms.specs.Formed.{is_head}
use Rattle.rw_terms.specs.Rules.{applies, keeps_rules}
use Rattle.rw_terms.specs.Validity.{Each}
use Rattle.rw_goals.specs.declared.library.Item.{Item}
use Rattle.rw_goals.specs.declared.library.Item.TheVariants.{Definition, Lemma}
use Rattle.rw_goals.specs.Library.{or_else}
use Rattle.rw_citations.specs.Goal.{scope_of_parameters}
use Rattle.rw_library.specs.Entries.{entry_name, is_entry, put_entry, without_entry, before_entry, head_of, heads_of}
use Rattle.rw_library.specs.Naming.{applies as stands, item_names}
use Rattle.rw_meaning.proofs.Tests.{same_bytes, bytes_same}
use Rattle.rw_collect.proofs.Agreeing.{Not, not_left, not_right, Others, take_heads, keeps_otherwise, unused_opens}

-- what a predicate is found to be, in heads before others or else in these
pub find_both : (hs more : List Head) (q : List ℕ) → find (is_head q) (hs ++ more) ≡ or_else (find (is_head q) hs) (find (is_head q) more)
find_both [] more q = refl
find_both (h ∷ hs) more q = go (is_head q h) refl (find_both hs more q)
  where
    go : (b : Bool) → is_head q h ≡ b → find (is_head q) (hs ++ more) ≡ or_else (find (is_head q) hs) (find (is_head q) more) → find (is_head q) ((h ∷ hs) ++ more) ≡ or_else (find (is_head q) (h ∷ hs)) (find (is_head q) more)
    go true is rest = rw is refl
    go false is rest = rw is rest

-- the head that an entry gives, if it gives one
abbrev pub heads_in : Item → List Head
heads_in (Definition d) = head_of d ∷ []
heads_in (Lemma l) = []

pub heads_cons : (e : Item) (es : List Item) → heads_of (e ∷ es) ≡ heads_in e ++ heads_of es
heads_cons (Definition d) es = refl
heads_cons (Lemma l) es = refl

pub heads_last : (es : List Item) (e : Item) → heads_of (es ++ e ∷ []) ≡ heads_of es ++ heads_in e
heads_last [] (Definition d) = refl
heads_last [] (Lemma l) = refl
heads_last (Definition d ∷ es) e = ap (λ hs. head_of d ∷ hs) (heads_last es e)
heads_last (Lemma l ∷ es) e = heads_last es e

pub find_cons : (e : Item) (es : List Item) (q : List ℕ) → find (is_head q) (heads_of (e ∷ es)) ≡ or_else (find (is_head q) (heads_in e)) (find (is_head q) (heads_of es))
find_cons e es q = ap (find (is_head q)) (heads_cons e es) ∙ find_both (heads_in e) (heads_of es) q

-- an entry of one name gives no head of another
pub none_in : (e : Item) (x q : List ℕ) → is_entry x e ≡ true → bytes_eq q x ≡ false → find (is_head q) (heads_in e) ≡ None
none_in (Lemma l) x q is other = refl
none_in (Definition d) x q is other = go (bytes_eq d.name q) refl
  where
    go : (b : Bool) → bytes_eq d.name q ≡ b → find (is_head q) (head_of d ∷ []) ≡ None
    go true e = absurd (true≢false (sym (bytes_same q x (sym (same_bytes d.name q e) ∙ same_bytes d.name x is)) ∙ other))
    go false e = rw e refl

-- more heads say what some say of each predicate, but for one if it is asked
abbrev pub Serves : Bool → List ℕ → List Head → List Head → Type 0
Serves asked x hs more = (q : List ℕ) → Not asked (bytes_eq q x) → is_some (find (is_head q) hs) ≡ true → find (is_head q) more ≡ find (is_head q) hs

-- they say just the same of each, but for one
abbrev pub AreSame : Bool → List ℕ → List Head → List Head → Type 0
AreSame asked x hs more = (q : List ℕ) → Not asked (bytes_eq q x) → find (is_head q) more ≡ find (is_head q) hs

pub same_serve : (asked : Bool) (x : List ℕ) (hs more : List Head) → AreSame asked x hs more → Serves asked x hs more
same_serve asked x hs more same q n k = same q n

pub never_asked : (b : Bool) → Not false b
never_asked b on = absurd (true≢false (sym on))

applied_by : (o p : Option Head) (sorts : List (Option Sort)) → (is_some o ≡ true → p ≡ o) → applies o sorts ≡ true → applies p sorts ≡ true
applied_by None p sorts same e = absurd (true≢false (sym e))
applied_by (Some h) p sorts same e = ap (λ o. applies o sorts) (same refl) ∙ e

-- a formula keeps the rules by heads that serve it
pub serves_keep : (scope : List Entry) (asked : Bool) (x : List ℕ) (hs more : List Head) → Serves asked x hs more → (f : Formula) → Not asked (stands x f) → keeps_rules scope hs f [] ≡ true → keeps_rules scope more f [] ≡ true
serves_keep scope asked x hs more serves f n e = keeps_otherwise scope scope hs more false [] (λ q. Not asked (bytes_eq q x)) others (λ g. Not asked (stands x g)) (unused_opens asked x) f (never_asked _) n e
  where
    others : Others scope hs (variable_sort scope) (constant_sort scope) (take_heads scope more) false [] (λ q. Not asked (bytes_eq q x))
    others = record {
      variables = λ y m k. refl;
      constants = λ y m k. refl;
      predicates = λ q sorts m h. applied_by (find (is_head q) hs) (find (is_head q) more) sorts (serves q m) h;
    }

-- the formulas of an entry keep the rules: those of a lemma by all heads, the body of a definition by those before it
abbrev pub IsKept : List Head → List Head → Item → Type 0
IsKept all hs (Definition d) = keeps_rules (scope_of_parameters d.params) hs d.body [] ≡ true
IsKept all hs (Lemma l) =
    Each (λ f. keeps_rules (scope_of_parameters l.params) all f [] ≡ true) l.sequent.left × Each (λ f. keeps_rules (scope_of_parameters l.params) all f [] ≡ true) l.sequent.right

abbrev pub AreKept : List Head → List Head → List Item → Type 0
AreKept all hs [] = Unit {0}
AreKept all hs (e ∷ es) = IsKept all hs e × AreKept all (hs ++ heads_in e) es

-- an entry does not use the name, where it is asked
abbrev pub IsUnused : Bool → List ℕ → Item → Type 0
IsUnused asked x e = Not asked (item_names x e)

module _ (asked : Bool) (x : List ℕ) where
  each_served : (scope : List Entry) (hs more : List Head) → Serves asked x hs more → (fs : List Formula) → Not asked (list_any (stands x) fs) →
      Each (λ f. keeps_rules scope hs f [] ≡ true) fs → Each (λ f. keeps_rules scope more f [] ≡ true) fs
  each_served scope hs more serves [] n e = tt
  each_served scope hs more serves (f ∷ fs) n e =
      (serves_keep scope asked x hs more serves f (not_left asked (stands x f) (list_any (stands x) fs) n) e.0, each_served scope hs more serves fs (not_right asked (stands x f) (list_any (stands x) fs) n) e.1)

  pub item_served : (all more hs ks : List Head) → Serves asked x all more → Serves asked x hs ks → (e : Item) → IsUnused asked x e → IsKept all hs e → IsKept more ks e
  item_served all more hs ks serves same (Definition d) n e = serves_keep (scope_of_parameters d.params) asked x hs ks same d.body n e
  item_served all more hs ks serves same (Lemma l) n e = (
    each_served (scope_of_parameters l.params) all more serves l.sequent.left (not_left asked (list_any (stands x) l.sequent.left) (list_any (stands x) l.sequent.right) n) e.0,
    each_served (scope_of_parameters l.params) all more serves l.sequent.right (not_right asked (list_any (stands x) l.sequent.left) (list_any (stands x) l.sequent.right) n) e.1,
  )

  pub all_served : (all more hs ks : List Head) → Serves asked x all more → AreSame asked x hs ks → (es : List Item) → Each (IsUnused asked x) es → AreKept all hs es → AreKept more ks es
  all_served all more hs ks serves same [] n e = tt
  all_served all more hs ks serves same (d ∷ es) n e = (
    item_served all more hs ks serves (same_serve asked x hs ks same) d n.0 e.0,
    all_served all more (hs ++ heads_in d) (ks ++ heads_in d) serves
        (λ q m. find_both ks (heads_in d) q ∙ ap (λ o. or_else o (find (is_head q) (heads_in d))) (same q m) ∙ sym (find_both hs (heads_in d) q)) es n.1 e.1,
  )

  -- two entries of the name say the same of other predicates
  either_same : (hs : List Head) (d e : Item) → is_entry x d ≡ true → is_entry x e ≡ true → AreSame true x (hs ++ heads_in d) (hs ++ heads_in e)
  either_same hs d e is it q m =
      find_both hs (heads_in e) q ∙ ap (or_else (find (is_head q) hs)) (none_in e x q it (m refl) ∙ sym (none_in d x q is (m refl))) ∙ sym (find_both hs (heads_in d) q)

  step_same : (o one two : Option Head) → (is_some one ≡ true → two ≡ one) → is_some (or_else o one) ≡ true → or_else o two ≡ or_else o one
  step_same None one two same k = same k
  step_same (Some h) one two same k = refl

-- what comes in the place of an entry gives the same head, unless the name is asked for
abbrev pub Fitting : Bool → Item → List Item → Type 0
Fitting asked n es = asked ≡ false → Each (λ e. is_entry (entry_name n) e ≡ true → heads_in e ≡ heads_in n) es

named_itself : (n : Item) → is_entry (entry_name n) n ≡ true
named_itself n = bytes_same (entry_name n) (entry_name n) refl

in_place : (asked : Bool) (n e : Item) (hs : List Head) → is_entry (entry_name n) e ≡ true → (asked ≡ false → heads_in e ≡ heads_in n) → AreSame asked (entry_name n) (hs ++ heads_in e) (hs ++ heads_in n)
in_place true n e hs is fit = either_same true (entry_name n) hs e n is (named_itself n)
in_place false n e hs is fit = λ q m. ap (λ h. find (is_head q) (hs ++ h)) (sym (fit refl))

fitting_rest : (asked : Bool) (n e : Item) (es : List Item) → Fitting asked n (e ∷ es) → Fitting asked n es
fitting_rest asked n e es fit off = (fit off).1

-- the heads of a table in which an entry is set
pub put_serves : (asked : Bool) (n : Item) (es : List Item) → Fitting asked n es → Serves asked (entry_name n) (heads_of es) (heads_of (put_entry es n))
put_serves asked n [] fit q m k = absurd (true≢false (sym k))
put_serves asked n (e ∷ es) fit q m k = go (is_entry (entry_name n) e) refl (put_serves asked n es (fitting_rest asked n e es fit) q m)
  where
    go : (b : Bool) → is_entry (entry_name n) e ≡ b → (is_some (find (is_head q) (heads_of es)) ≡ true → find (is_head q) (heads_of (put_entry es n)) ≡ find (is_head q) (heads_of es)) →
        find (is_head q) (heads_of (if b then n ∷ es else e ∷ put_entry es n)) ≡ find (is_head q) (heads_of (e ∷ es))
    go true is rest =
        find_cons n es q
        ∙ ap (λ o. or_else o (find (is_head q) (heads_of es))) (in_place asked n e [] is (λ off. (fit off).0 is) q m)
        ∙ sym (find_cons e es q)
    go false is rest =
        find_cons e (put_entry es n) q
        ∙ step_same asked (entry_name n) (find (is_head q) (heads_in e)) (find (is_head q) (heads_of es)) (find (is_head q) (heads_of (put_entry es n))) rest (sym (ap is_some (find_cons e es q)) ∙ k)
        ∙ sym (find_cons e es q)

-- and of one from which an entry is taken away
pub without_serves : (x : List ℕ) (es : List Item) → AreSame true x (heads_of es) (heads_of (without_entry es x))
without_serves x [] q m = refl
without_serves x (e ∷ es) q m = go (is_entry x e) refl (without_serves x es q m)
  where
    go : (b : Bool) → is_entry x e ≡ b → find (is_head q) (heads_of (without_entry es x)) ≡ find (is_head q) (heads_of es) → find (is_head q) (heads_of (if b then es else e ∷ without_entry es x)) ≡ find (is_head q) (heads_of (e ∷ es))
    go true is rest = sym (find_cons e es q ∙ ap (λ o. or_else o (find (is_head q) (heads_of es))) (none_in e x q is (m refl)))
    go false is rest = find_cons e (without_entry es x) q ∙ ap (or_else (find (is_head q) (heads_in e))) rest ∙ sym (find_cons e es q)

refl_serves : (asked : Bool) (x : List ℕ) (hs : List Head) → Serves asked x hs hs
refl_serves asked x hs q m k = refl

-- where an entry is set whose formulas keep the rules, all others do so
pub put_kept : (asked : Bool) (n : Item) (all more hs : List Head) → Serves asked (entry_name n) all more → (es : List Item) → Fitting asked n es → Each (IsUnused asked (entry_name n)) es →
    IsKept more (hs ++ heads_of (before_entry es (entry_name n))) n → AreKept all hs es → AreKept more hs (put_entry es n)
put_kept asked n all more hs serves [] fit unused own kept = (subst (λ ks. IsKept more ks n) (append-nil hs) own, tt)
put_kept asked n all more hs serves (e ∷ es) fit unused own kept = go (is_entry (entry_name n) e) refl own (put_kept asked n all more (hs ++ heads_in e) serves es (fitting_rest asked n e es fit) unused.1)
  where
    go : (b : Bool) → is_entry (entry_name n) e ≡ b → IsKept more (hs ++ heads_of (if b then [] else e ∷ before_entry es (entry_name n))) n →
        (IsKept more ((hs ++ heads_in e) ++ heads_of (before_entry es (entry_name n))) n → AreKept all (hs ++ heads_in e) es → AreKept more (hs ++ heads_in e) (put_entry es n)) →
        AreKept more hs (if b then n ∷ es else e ∷ put_entry es n)
    go true is own rest = (
      subst (λ ks. IsKept more ks n) (append-nil hs) own,
      all_served asked (entry_name n) all more (hs ++ heads_in e) (hs ++ heads_in n) serves (in_place asked n e hs is (λ off. (fit off).0 is)) es unused.1 kept.1,
    )
    go false is own rest =
        let longer : hs ++ heads_of (e ∷ before_entry es (entry_name n)) ≡ (hs ++ heads_in e) ++ heads_of (before_entry es (entry_name n)) =
        ap (λ ks. hs ++ ks) (heads_cons e (before_entry es (entry_name n))) ∙ sym (append_assoc hs (heads_in e) (heads_of (before_entry es (entry_name n)))) in (
          item_served asked (entry_name n) all more hs hs serves (refl_serves asked (entry_name n) hs) e unused.0 kept.0,
          rest (subst (λ ks. IsKept more ks n) longer own) kept.1,
        )

-- so they do where an entry is taken away
pub without_kept : (x : List ℕ) (all more hs : List Head) → Serves true x all more → (es : List Item) → Each (IsUnused true x) es → AreKept all hs es → AreKept more hs (without_entry es x)
without_kept x all more hs serves [] unused kept = tt
without_kept x all more hs serves (e ∷ es) unused kept = go (is_entry x e) refl (without_kept x all more (hs ++ heads_in e) serves es unused.1 kept.1)
  where
    less : is_entry x e ≡ true → AreSame true x (hs ++ heads_in e) hs
    less is q m = sym (find_both hs (heads_in e) q ∙ ap (or_else (find (is_head q) hs)) (none_in e x q is (m refl)) ∙ or_none (find (is_head q) hs))
      where
        or_none : (o : Option Head) → or_else o None ≡ o
        or_none None = refl
        or_none (Some h) = refl

    go : (b : Bool) → is_entry x e ≡ b → AreKept more (hs ++ heads_in e) (without_entry es x) → AreKept more hs (if b then es else e ∷ without_entry es x)
    go true is rest = all_served true x all more (hs ++ heads_in e) hs serves (less is) es unused.1 kept.1
    go false is rest = (item_served true x all more hs hs serves (refl_serves true x hs) e unused.0 kept.0, rest)
