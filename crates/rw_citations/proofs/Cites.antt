-- The rules that cite a well made library are sound.
use Rattle.std.proofs.Common.{◌≡◌, ◌↔◌, ℕ, zero, suc, Bool, true, false, List, [], ◌∷◌, ◌++◌, map, take, reverse, Option, Some, None, refl, sym, subst, bytes_eq}
use Rattle.rw_terms.specs.declared.term.Term.{Term}
use Rattle.rw_terms.specs.declared.term.Formula.{Formula}
use Rattle.rw_terms.specs.declared.term.Formula.TheVariants as formula
use Rattle.rw_terms.specs.declared.term.Formula.TheOpen.{Formula-F}
use Rattle.rw_terms.specs.declared.term.Formula.TheViews.{out-Formula}
use Rattle.rw_terms.specs.declared.sequent.Sequent.{Sequent}
use Rattle.rw_terms.specs.Named.{Named}
use Rattle.rw_terms.specs.Rules.{are_of}
use Rattle.rw_terms.specs.State.{State, value_in}
use Rattle.rw_terms.specs.Truth as truth
use Rattle.rw_terms.specs.Truth.{Predicates, predicates_of, holds_by, holds}
use Rattle.rw_terms.specs.Validity.{Each, FitsNames, Valid}
use Rattle.rw_terms.proofs.Truths.{holds_stable, predicates_stable}
use Rattle.rw_subst.specs.declared.slot.Form.TheVariants as form
use Rattle.rw_subst.specs.Looks.{Looks, in_states, changed_looks}
use Rattle.rw_subst.specs.Conj.{conj, disj}
use Rattle.rw_subst.proofs.Replacing.{replacement_keeps_truth}
use Rattle.rw_goals.specs.declared.library.Definition.{Definition}
use Rattle.rw_goals.specs.declared.library.Lemma.{Lemma}
use Rattle.rw_goals.specs.declared.library.Item.{Item}
use Rattle.rw_goals.specs.declared.library.Item.TheVariants as item
use Rattle.rw_goals.specs.declared.library.Library.{Library}
use Rattle.rw_goals.specs.Library.{definitions_of, if_so, or_else}
use Rattle.rw_goals.specs.Premises.{effect}
use Rattle.rw_goals.specs.Sorting.{sort_of, keeps_rules}
use Rattle.rw_goals.proofs.Sound as sound
use Rattle.rw_goals.proofs.Sound.{Holds, Denies, HoldsAt, AllValid, one_refuted}
use Rattle.rw_goals.proofs.Places.{without_left, without_right, left_sound, right_sound}
use Rattle.rw_quantifiers.specs.Quantified.{if_small, typed_left, typed_right}
use Rattle.rw_quantifiers.proofs.Fresh.{each_kept}
use Rattle.rw_citations.specs.Conj.{statement}
use Rattle.rw_citations.specs.Cited.{definition_of, lemma_of, changes_for, for_terms, unfolded_left, unfolded_right, unfold_left, unfold_right, cited_left, unfold_at_left, unfold_at_right, cite}
use Rattle.rw_citations.specs.WellMade.{IsMade, AreMade, WellMade, over_parameters, IsValid, NamedValid}
use Rattle.rw_citations.proofs.Goals.{goal_valid}
use Rattle.rw_citations.proofs.Keeps.{SayTheSame, one_iff, same_truth}
use Rattle.rw_citations.proofs.Defined.{by_entries, stands}
use Rattle.rw_citations.proofs.Instances.{val, Sorted, arguments, changes_are_closed, changed_value, arguments_fit}
use Rattle.rw_citations.proofs.Joined.{rolled, conj_each, disj_none}

both_ways : {A B : Type 0} → A ≡ B → A ↔ B
both_ways e = (λ a. subst (λ X. X) e a, λ b. subst (λ X. X) (sym e) b)

-- a lemma's formulas keep the rules over its parameters
abbrev KeepsRules : List Item → Lemma → Type 0
KeepsRules all l = IsMade all [] (item.Lemma l)

-- so do those of the lemmas before a place
lemmas_made : (all before es : List Item) (k : ℕ) (n : List ℕ) (l : Lemma) → AreMade all before es → lemma_of (take k es) n ≡ Some l → KeepsRules all l
lemmas_made all before es zero n l h e = absurd (cc)
lemmas_made all before [] (suc k) n l h e = absurd (cc)
lemmas_made all before (item.Definition d ∷ es) (suc k) n l h e = lemmas_made all (before ++ item.Definition d ∷ []) es k n l h.1 e
lemmas_made all before (item.Lemma m ∷ es) (suc k) n l h e = first (bytes_eq m.name n) (lemmas_made all (before ++ item.Lemma m ∷ []) es k n l h.1) e
  where
    first : (b : Bool) → ((lemma_of (take k es) n ≡ Some l) → KeepsRules all l) → or_else (if_so b m) (lemma_of (take k es) n) ≡ Some l → KeepsRules all l
    first true ih e = let same : m ≡ l = cc in subst (KeepsRules all) same h.0
    first false ih e = ih e

module _ (library : Library) where
  abbrev definitions : List truth.Definition
  definitions = definitions_of library

  abbrev says : Predicates
  says = by_entries library.entries

  module _ (names : List Named) (s0 s : State) where
    -- a formula for terms of its parameters' sorts says what it says of their values
    of_terms : (params : List Named) (ts : List Term) → Sorted names s0 s params ts → (es : List Item) (says' : Predicates) → SayTheSame es says says' →
        (f : Formula) → keeps_rules params es f [] ≡ true →
        Holds definitions s0 s (for_terms params ts f) ↔ (let v = value_in (arguments names s0 s params ts) in holds_by says' v v v f [])
    of_terms params ts e es says' say f keeps =
        let changed = changed_looks (changes_for params ts) (in_states s0 s) in
        let v = value_in (arguments names s0 s params ts) in
        one_iff (replacement_keeps_truth (changes_for params ts) f (changes_are_closed names s0 s params ts e) (reverse definitions) (in_states s0 s) [])
        (same_truth params es says says' (changed form.Variable) (changed form.Initial) (changed form.Constant) v v v
        (λ x k. (changed_value names s0 s params ts e form.Variable x k, changed_value names s0 s params ts e form.Initial x k, changed_value names s0 s params ts e form.Constant x k))
        say f [] keeps [])

    -- an unfolded predicate says what it says as it stands
    body_for_terms : WellMade library → (p : List ℕ) (d : Definition) (ts : List Term) → definition_of library.entries p ≡ Some d → Sorted names s0 s d.params ts →
        Holds definitions s0 s (for_terms d.params ts d.body) ↔ says p (map (val names s0 s) ts)
    body_for_terms made p d ts e sorted =
        let st = stands library.entries [] library.entries made p d e in
        one_iff (of_terms d.params ts sorted st.before (by_entries st.before) (λ q some vs. both_ways (st.rest q some vs)) d.body st.keeps)
        (both_ways (sym (st.says (map (val names s0 s) ts))))

  module _ (made : WellMade library) where
    unfolded_left_typed : (names : List Named) (q : Sequent) → q.names ≡ names → (p : List ℕ) (d : Definition) (ts : List Term) → definition_of library.entries p ≡ Some d → (b large : Bool) →
        are_of (map (λ p. p.1) d.params) (map (sort_of names []) ts) ≡ b →
        AllValid definitions (effect (typed_left b (if_small large (for_terms d.params ts d.body))) q) → (s0 s : State) → FitsNames q.names s0 → FitsNames q.names s →
        says p (map (val names s0 s) ts) → Each (Holds definitions s0 s) q.left → ¬ (Each (Denies definitions s0 s) q.right)
    unfolded_left_typed names q is p d ts e false large k v s0 s i j h left right = absurd v
    unfolded_left_typed names q is p d ts e true true k v s0 s i j h left right = absurd v
    unfolded_left_typed names q is p d ts e true false k v s0 s i j h left right =
        one_refuted definitions q (for_terms d.params ts d.body ∷ []) [] v s0 s i j left right ((body_for_terms names s0 s made p d ts e k).1 h, tt) tt

    unfolded_left_found : (q rest : Sequent) → rest.names ≡ q.names → (p : List ℕ) (o : Option Definition) (ts : List Term) → definition_of library.entries p ≡ o →
        AllValid definitions (effect (unfolded_left q.names o ts) rest) → (s0 s : State) → FitsNames q.names s0 → FitsNames q.names s →
        says p (map (val q.names s0 s) ts) → Each (Holds definitions s0 s) rest.left → ¬ (Each (Denies definitions s0 s) rest.right)
    unfolded_left_found q rest is p None ts e v s0 s i j h left right = absurd v
    unfolded_left_found q rest is p (Some d) ts e v s0 s i j h left right =
        unfolded_left_typed q.names rest is p d ts e _ _ refl v s0 s (subst (λ n. FitsNames n s0) (sym is) i) (subst (λ n. FitsNames n s) (sym is) j) h left right

    unfold_left_layer : (q rest : Sequent) → rest.names ≡ q.names → (x : Formula-F Formula) → AllValid definitions (effect (unfold_left q.names library.entries x) rest) →
        (s0 s : State) → FitsNames q.names s0 → FitsNames q.names s → HoldsAt definitions s0 s x → Each (Holds definitions s0 s) rest.left → ¬ (Each (Denies definitions s0 s) rest.right)
    unfold_left_layer q rest is (Formula-F.App p ts) v s0 s i j h left right = unfolded_left_found q rest is p (definition_of library.entries p) ts refl v s0 s i j h left right
    unfold_left_layer q rest is _ v s0 s i j h left right = absurd v

    pub unfold_left_sound : (q : Sequent) (n : ℕ) → AllValid definitions (unfold_at_left library q n) → Valid definitions q
    unfold_left_sound q n = left_sound definitions q (λ f. unfold_left q.names library.entries (out-Formula f)) n
        (λ f e v s0 s i j h. unfold_left_layer q (without_left definitions q n) refl (out-Formula f) v s0 s i j (sound.opened definitions s0 s f h))

    unfolded_right_typed : (names : List Named) (q : Sequent) → q.names ≡ names → (p : List ℕ) (d : Definition) (ts : List Term) → definition_of library.entries p ≡ Some d → (b large : Bool) →
        are_of (map (λ p. p.1) d.params) (map (sort_of names []) ts) ≡ b →
        AllValid definitions (effect (typed_right b (if_small large (for_terms d.params ts d.body))) q) → (s0 s : State) → FitsNames q.names s0 → FitsNames q.names s →
        ¬ (says p (map (val names s0 s) ts)) → Each (Holds definitions s0 s) q.left → ¬ (Each (Denies definitions s0 s) q.right)
    unfolded_right_typed names q is p d ts e false large k v s0 s i j deny left right = absurd v
    unfolded_right_typed names q is p d ts e true true k v s0 s i j deny left right = absurd v
    unfolded_right_typed names q is p d ts e true false k v s0 s i j deny left right =
        one_refuted definitions q [] (for_terms d.params ts d.body ∷ []) v s0 s i j left right tt (λ h. deny ((body_for_terms names s0 s made p d ts e k).0 h), tt)

    unfolded_right_found : (q rest : Sequent) → rest.names ≡ q.names → (p : List ℕ) (o : Option Definition) (ts : List Term) → definition_of library.entries p ≡ o →
        AllValid definitions (effect (unfolded_right q.names o ts) rest) → (s0 s : State) → FitsNames q.names s0 → FitsNames q.names s →
        ¬ (says p (map (val q.names s0 s) ts)) → Each (Holds definitions s0 s) rest.left → ¬ (Each (Denies definitions s0 s) rest.right)
    unfolded_right_found q rest is p None ts e v s0 s i j deny left right = absurd v
    unfolded_right_found q rest is p (Some d) ts e v s0 s i j deny left right =
        unfolded_right_typed q.names rest is p d ts e _ _ refl v s0 s (subst (λ n. FitsNames n s0) (sym is) i) (subst (λ n. FitsNames n s) (sym is) j) deny left right

    unfold_right_layer : (q rest : Sequent) → rest.names ≡ q.names → (x : Formula-F Formula) → AllValid definitions (effect (unfold_right q.names library.entries x) rest) →
        (s0 s : State) → FitsNames q.names s0 → FitsNames q.names s → ¬ (HoldsAt definitions s0 s x) → Each (Holds definitions s0 s) rest.left → ¬ (Each (Denies definitions s0 s) rest.right)
    unfold_right_layer q rest is (Formula-F.App p ts) v s0 s i j deny left right = unfolded_right_found q rest is p (definition_of library.entries p) ts refl v s0 s i j deny left right
    unfold_right_layer q rest is _ v s0 s i j deny left right = absurd v

    pub unfold_right_sound : (q : Sequent) (n : ℕ) → AllValid definitions (unfold_at_right library q n) → Valid definitions q
    unfold_right_sound q n = right_sound definitions q (λ f. unfold_right q.names library.entries (out-Formula f)) n
        (λ f e v s0 s i j deny. unfold_right_layer q (without_right definitions q n) refl (out-Formula f) v s0 s i j (λ h. deny (sound.closed definitions s0 s f h)))

    -- what a valid lemma says of terms
    module _ (q : Sequent) (s0 s : State) (i : FitsNames q.names s0) (j : FitsNames q.names s) (l : Lemma) (ts : List Term) (e : Sorted q.names s0 s l.params ts)
        (keeps : KeepsRules library.entries l) (valid : Valid definitions (over_parameters l)) where
      abbrev changed : Looks
      changed = changed_looks (changes_for l.params ts) (in_states s0 s)

      abbrev state : State
      state = arguments q.names s0 s l.params ts

      -- in the states that the terms give
      abbrev There : Formula → Type 0
      There f = holds_by says (changed form.Variable) (changed form.Initial) (changed form.Constant) f []

      same_there : (f : Formula) → keeps_rules l.params library.entries f [] ≡ true → There f ↔ Holds definitions state state f
      same_there f k =
          same_truth l.params library.entries says says (changed form.Variable) (changed form.Initial) (changed form.Constant) (value_in state) (value_in state) (value_in state)
          (λ x k. (changed_value q.names s0 s l.params ts e form.Variable x k, changed_value q.names s0 s l.params ts e form.Initial x k, changed_value q.names s0 s l.params ts e form.Constant x k))
          (λ p some vs. (λ h. h, λ h. h)) f [] k []

      right_there : There (conj l.sequent.left) → ¬ (¬ (There (disj l.sequent.right)))
      right_there h deny =
          let fit = arguments_fit q.names s0 s i j l.params ts e in
          valid state state fit fit
          (each_kept (λ f. keeps_rules l.params library.entries f [] ≡ true) There (Holds definitions state state) (λ f k h. (same_there f k).0 h) l.sequent.left keeps.0
          (conj_each says (changed form.Variable) (changed form.Initial) (changed form.Constant) l.sequent.left h))
          (each_kept (λ f. keeps_rules l.params library.entries f [] ≡ true) (λ f. ¬ (There f)) (Denies definitions state state) (λ f k n h. n ((same_there f k).1 h)) l.sequent.right keeps.1
          (disj_none says (changed form.Variable) (changed form.Initial) (changed form.Constant) l.sequent.right deny))

      stated : Holds definitions s0 s (for_terms l.params ts (statement l.sequent))
      stated =
          (replacement_keeps_truth (changes_for l.params ts) (statement l.sequent) (changes_are_closed q.names s0 s l.params ts e) (reverse definitions) (in_states s0 s) []).1
          (rolled says (changed form.Variable) (changed form.Initial) (changed form.Constant) (Formula-F.Imp (conj l.sequent.left) (disj l.sequent.right)) _ (formula.rolls-Imp _ _)
          (λ h. holds_stable says (changed form.Variable) (changed form.Initial) (changed form.Constant) (predicates_stable (reverse definitions)) (disj l.sequent.right) [] (right_there h)))

    lemma_typed : (q : Sequent) (l : Lemma) (ts : List Term) (b large : Bool) → are_of (map (λ p. p.1) l.params) (map (sort_of q.names []) ts) ≡ b → KeepsRules library.entries l → Valid definitions (over_parameters l) →
        AllValid definitions (effect (typed_left b (if_small large (for_terms l.params ts (statement l.sequent)))) q) → Valid definitions q
    lemma_typed q l ts false large e keeps valid v = absurd v
    lemma_typed q l ts true true e keeps valid v = absurd v
    lemma_typed q l ts true false e keeps valid v =
        λ s0 s i j left right.
        one_refuted definitions q (for_terms l.params ts (statement l.sequent) ∷ []) [] v s0 s i j left right (stated q s0 s i j l ts e keeps valid, tt) tt

    cited_found : (q : Sequent) (o p : Option Lemma) (ts : List Term) → ((l : Lemma) → o ≡ Some l → KeepsRules library.entries l × Valid definitions (over_parameters l)) →
        AllValid definitions (effect (cited_left q.names o p ts) q) → Valid definitions q
    cited_found q (Some l) p ts good v = let g = good l refl in lemma_typed q l ts _ _ refl g.0 g.1 v
    cited_found q None (Some l) ts good v = absurd v
    cited_found q None None ts good v = absurd v

    pub cite_sound : (before : ℕ) (q : Sequent) (n : List ℕ) → NamedValid library before n → (ts : List Term) → AllValid definitions (cite library before q n ts) → Valid definitions q
    cite_sound before q n valid ts v =
        cited_found q (lemma_of (take before library.entries) n) _ ts
        (λ l e. (lemmas_made library.entries [] library.entries before n l made e, goal_valid definitions l (subst (IsValid definitions) e valid))) v
