-- A certificate that reads nothing that differs keeps its verdict, and one that reads what differs is affected.
use Rattle.std.proofs.Common.{◌≡◌, ℕ, zero, suc, ◌+◌, ◌<◌, ◌≤◌, inl, inr, Bool, true, false, IfSome, if◌then◌else◌, ◌&&◌, ◌||◌, not, List, [], ◌∷◌, length, take, drop, get_or, add-one, drop-cons, Option, Some, None, refl, sym, ap, ◌∙◌, subst, arith, true≢false, bytes_eq}
use Rattle.std.specs.Prelude.{is_some, slice_get}
use Rattle.std.specs.List.{list_any}
use Rattle.std.proofs.lemmas.Bool.{or_parts, or_left, or_right}
use Rattle.std.proofs.lemmas.Slice.Eq.{bytes_eq-Decides}
use Rattle.rw_terms.specs.declared.term.Formula.{Formula}
use Rattle.rw_terms.specs.declared.sequent.Sequent.{Sequent}
use Rattle.rw_terms.specs.Validity.{Each}
use Rattle.rw_faults.specs.Initial.{is_listed}
use Rattle.rw_goals.specs.declared.library.Lemma.{Lemma}
use Rattle.rw_goals.specs.declared.library.Item.{Item}
use Rattle.rw_goals.specs.declared.library.Item.TheVariants as item
use Rattle.rw_goals.specs.declared.library.Library.{Library}
use Rattle.rw_goals.specs.Library.{if_so, or_else}
use Rattle.rw_citations.specs.Cited.{definition_of, lemma_of}
use Rattle.rw_citations.specs.Goal.{goal_of}
use Rattle.rw_sequents.specs.declared.line.CertLine.{CertLine}
use Rattle.rw_sequents.specs.declared.line.CertLine.TheVariants as line
use Rattle.rw_sequents.specs.declared.line.Cert.{Cert}
use Rattle.rw_sequents.specs.After.{verdict, checked}
use Rattle.rw_library.specs.Entries.{place_of}
use Rattle.rw_lemmas.specs.declared.differing.Changes.{Changes}
use Rattle.rw_lemmas.specs.declared.status.LemmaStatus.{LemmaStatus}
use Rattle.rw_lemmas.specs.States.{by_verdict, proof_at, status_at}
use Rattle.rw_lemmas.specs.Table.{Table, anew}
use Rattle.rw_lemmas.specs.Citing.{predicates, is_unfolding}
use Rattle.rw_lemmas.specs.Affected.{InFormula, InSequent, InLemma, SameLemma, SameSorts, ReadsSame, LineStays, LineReadsSame, ReadsNoChange, goal_there, IsAffected, Costs, CostsAtMost, CostsFrom, AtMostAffected}
use Rattle.rw_lemmas.specs.Differing.{TellsChanges, meets, sequent_meets, lemma_meets, next_user, is_one_alone, line_changes, line_reads, reads, reads_change}
use Rattle.rw_lemmas.proofs.Changed.{each_map, listed_each, meets_one}
use Rattle.rw_lemmas.proofs.Within.{Within}
use Rattle.rw_lemmas.proofs.Lines.{Closed, LemmaWithin, LineWithin}
use Rattle.rw_lemmas.proofs.Rules.{rules_alike}
use Rattle.rw_lemmas.proofs.Kept.{SameDefinitions, SameLine, verdict_stays}
use Rattle.rw_lemmas.proofs.Removing.{within}
use Rattle.rw_lemmas.proofs.Sound.{in_its_place, some_inside}

-- a predicate that is not among the names
abbrev Outside : List (List ℕ) → List ℕ → Type 0
Outside names p = is_listed names p ≡ false

abbrev Anything : List ℕ → Type 0
Anything p = Unit {0}

each_so : {X : Type 0} (P : X → Type 0) (xs : List X) → ((x : X) → P x) → Each P xs
each_so P [] h = tt
each_so P (x ∷ xs) h = (h x, each_so P xs h)

any_within : (f : Formula) → Within Anything f
any_within f = each_so Anything (predicates f) (λ p. tt)

-- formulas in which none of the names stands
more_outside : (x : List ℕ) (names ps : List (List ℕ)) → Each (λ p. bytes_eq p x ≡ false) ps → Each (Outside names) ps → Each (Outside (x ∷ names)) ps
more_outside x names [] h k = tt
more_outside x names (p ∷ ps) h k = (ap (λ b. b || is_listed names p) h.0 ∙ k.0, more_outside x names ps h.1 k.1)

outside : (names : List (List ℕ)) (f : Formula) → meets names f ≡ false → Within (Outside names) f
outside [] f e = each_so (Outside []) (predicates f) (λ p. refl)
outside (x ∷ names) f e = let r = or_parts _ _ e in more_outside x names (predicates f) (within x f r.0) (outside names f r.1)

all_outside : (names : List (List ℕ)) (fs : List Formula) → list_any (meets names) fs ≡ false → Each (Within (Outside names)) fs
all_outside names [] e = tt
all_outside names (f ∷ fs) e = let r = or_parts (meets names f) _ e in (outside names f r.0, all_outside names fs r.1)

sequent_outside : (names : List (List ℕ)) (q : Sequent) → sequent_meets names q ≡ false → Each (Within (Outside names)) q.left × Each (Within (Outside names)) q.right
sequent_outside names q e = let r = or_parts (list_any (meets names) q.left) _ e in (all_outside names q.left r.0, all_outside names q.right r.1)

lemma_outside : (names : List (List ℕ)) (o : Option Lemma) → lemma_meets names o ≡ false → LemmaWithin (Outside names) o
lemma_outside names None e = tt
lemma_outside names (Some l) e = sequent_outside names l.sequent e

lemma_anything : (o : Option Lemma) → LemmaWithin Anything o
lemma_anything None = tt
lemma_anything (Some l) = (each_so (Within Anything) l.sequent.left any_within, each_so (Within Anything) l.sequent.right any_within)

-- where no other definition uses one of the names
beside : (a b : Bool) → a ≡ false → (not a && b) ≡ false → b ≡ false
beside false b e h = h
beside true b e h = absurd (true≢false e)

closed : (names : List (List ℕ)) (es : List Item) → next_user names es ≡ None → Closed (Outside names) es
closed names [] e p d s h = absurd (cc)
closed names (item.Lemma l ∷ es) e p d s h = closed names es e p d s h
closed names (item.Definition c ∷ es) e p d s h = used (not (is_listed names c.name) && meets names c.body) refl e (λ k. closed names es k p d s)
  where
    found : (b : Bool) → bytes_eq c.name p ≡ b → (not (is_listed names c.name) && meets names c.body) ≡ false → or_else (if_so b c) (definition_of es p) ≡ Some d →
        (definition_of es p ≡ Some d → Within (Outside names) d.body) → Within (Outside names) d.body
    found true is n h ih =
        let same : c ≡ d = cc in
        let name : c.name ≡ p = (bytes_eq-Decides c.name p).0 is in
        subst (λ d. Within (Outside names) d.body) same (outside names c.body (beside (is_listed names c.name) (meets names c.body) (ap (is_listed names) name ∙ s) n))
    found false is n h ih = ih h

    used : (b : Bool) → (not (is_listed names c.name) && meets names c.body) ≡ b → (if b then Some c.name else next_user names es) ≡ None →
        (next_user names es ≡ None → definition_of es p ≡ Some d → Within (Outside names) d.body) → Within (Outside names) d.body
    used true is e ih = absurd (cc)
    used false is e ih = found (bytes_eq c.name p) refl is h (ih e)

-- a lemma before a place
among_all : (es : List Item) (k : ℕ) (n : List ℕ) (l : Lemma) → lemma_of (take k es) n ≡ Some l → lemma_of es n ≡ Some l
among_all es zero n l e = absurd (cc)
among_all [] (suc k) n l e = absurd (cc)
among_all (item.Definition d ∷ es) (suc k) n l e = among_all es k n l e
among_all (item.Lemma m ∷ es) (suc k) n l e = go (bytes_eq m.name n) refl e (among_all es k n l)
  where
    go : (b : Bool) → bytes_eq m.name n ≡ b → or_else (if_so b m) (lemma_of (take k es) n) ≡ Some l → (lemma_of (take k es) n ≡ Some l → lemma_of es n ≡ Some l) →
        or_else (if_so (bytes_eq m.name n) m) (lemma_of es n) ≡ Some l
    go true is e ih = ap (λ b. or_else (if_so b m) (lemma_of es n)) is ∙ e
    go false is e ih = ap (λ b. or_else (if_so b m) (lemma_of es n)) is ∙ ih e

one_differs : (o p : Option Lemma) → is_one_alone o p ≡ true → is_some o ≡ is_some p → ⊥
one_differs None None e h = true≢false (sym e)
one_differs None (Some l) e h = true≢false (sym h)
one_differs (Some l) None e h = true≢false h
one_differs (Some l) (Some m) e h = true≢false (sym e)

module _ (es es' : List Item) (c : Changes) (told : TellsChanges es es' c) (before before' : ℕ) where
  abbrev library : Library
  library = record { entries = es }

  abbrev library' : Library
  library' = record { entries = es' }

  citable : (n : List ℕ) → is_listed c.lemmas n ≡ false → is_one_alone (lemma_of (take before es) n) (lemma_of (take before' es') n) ≡ false → lemma_of (take before es) n ≡ lemma_of (take before' es') n
  citable n u e = go (lemma_of (take before es) n) refl (lemma_of (take before' es') n) refl e
    where
      go : (o : Option Lemma) → lemma_of (take before es) n ≡ o → (p : Option Lemma) → lemma_of (take before' es') n ≡ p → is_one_alone o p ≡ false → o ≡ p
      go None is None is' e = refl
      go None is (Some m) is' e = absurd (true≢false e)
      go (Some l) is None is' e = absurd (true≢false e)
      go (Some l) is (Some m) is' e = sym (among_all es before n l is) ∙ told.lemmas.others n u ∙ among_all es' before' n m is'

  module _ (S : List ℕ → Type 0) where
    line_same : (l : CertLine) → (is_unfolding l ≡ true → SameDefinitions S library library' before before') → line_changes c (take before es) (take before' es') l ≡ false → SameLine S library library' before before' l
    line_same (line.Cut f) d e = λ names. rules_alike names es es' f (each_map (Outside c.predicates) (SameSorts es es') (predicates f) told.predicates.others (outside c.predicates f e)) []
    line_same (line.Lemma n ts) d e = let r = or_parts (is_listed c.lemmas n) _ e in (citable n r.0 r.1, ap is_some (told.lemmas.others n r.0))
    line_same (line.UnfoldL i) d e = d refl
    line_same (line.UnfoldR j) d e = d refl
    line_same _ d e = tt

    lines_same : (ls : List CertLine) → (list_any is_unfolding ls ≡ true → SameDefinitions S library library' before before') → list_any (line_changes c (take before es) (take before' es')) ls ≡ false →
        Each (SameLine S library library' before before') ls
    lines_same [] d e = tt
    lines_same (l ∷ ls) d e =
        let r = or_parts (line_changes c (take before es) (take before' es') l) _ e in
        (line_same l (λ u. d (or_left (is_unfolding l) _ u)) r.0, lines_same ls (λ u. d (ap (λ b. is_unfolding l || b) u ∙ or_right (is_unfolding l) true refl)) r.1)

  line_outside : (bodies : Closed (Outside c.definitions) es) (l : CertLine) → line_reads c.definitions (take before es) l ≡ false → LineWithin (Outside c.definitions) library before bodies l
  line_outside bodies (line.Cut f) e = outside c.definitions f e
  line_outside bodies (line.Lemma n ts) e = lemma_outside c.definitions (lemma_of (take before es) n) e
  line_outside bodies _ e = tt

  lines_outside : (bodies : Closed (Outside c.definitions) es) (ls : List CertLine) → list_any (line_reads c.definitions (take before es)) ls ≡ false → Each (LineWithin (Outside c.definitions) library before bodies) ls
  lines_outside bodies [] e = tt
  lines_outside bodies (l ∷ ls) e = let r = or_parts (line_reads c.definitions (take before es) l) _ e in (line_outside bodies l r.0, lines_outside bodies ls r.1)

  line_anything : (bodies : Closed Anything es) (l : CertLine) → LineWithin Anything library before bodies l
  line_anything bodies (line.Cut f) = any_within f
  line_anything bodies (line.Lemma n ts) = lemma_anything (lemma_of (take before es) n)
  line_anything bodies _ = tt

  pub keeps_verdict : (l : Lemma) (cert : Cert) → reads_change c (take before es) (take before' es') l cert ≡ false → verdict library before (goal_of l) cert ≡ verdict library' before' (goal_of l) cert
  keeps_verdict l cert e =
      let r = or_parts (list_any (line_changes c (take before es) (take before' es')) cert.lines) _ e in go (list_any is_unfolding cert.lines) refl r.0 r.1
    where
      go : (b : Bool) → list_any is_unfolding cert.lines ≡ b → list_any (line_changes c (take before es) (take before' es')) cert.lines ≡ false → (b && reads c.definitions (take before es) l cert) ≡ false →
          verdict library before (goal_of l) cert ≡ verdict library' before' (goal_of l) cert
      go true is n e =
          let r = or_parts (sequent_meets c.definitions l.sequent) _ e in
          let bodies = closed c.definitions es told.closed in
          verdict_stays (Outside c.definitions) library library' before before' bodies (goal_of l) cert (sequent_outside c.definitions l.sequent r.0)
          (lines_same (Outside c.definitions) cert.lines (λ u. told.definitions) n) (lines_outside bodies cert.lines r.1)
      go false is n e =
          let bodies : Closed Anything es = λ p d s h. any_within d.body in
          verdict_stays Anything library library' before before' bodies (goal_of l) cert (lemma_anything (Some l)) (lines_same Anything cert.lines (λ u. absurd (true≢false (sym u ∙ is))) n)
          (each_so (LineWithin Anything library before bodies) cert.lines (line_anything bodies))

  -- what reads something that differs
  formula_differs : (f : Formula) → meets c.definitions f ≡ true → InFormula (ReadsSame es es') f → ⊥
  formula_differs f e h = let r = meets_one (ReadsSame es es') c.definitions f e h in listed_each (λ x. ReadsSame es es' x → ⊥) c.definitions r.0 r.1 told.reasons r.2

  some_differs : {X : Type 0} (P : X → Type 0) (test : X → Bool) → ((x : X) → test x ≡ true → P x → ⊥) → (xs : List X) → list_any test xs ≡ true → Each P xs → ⊥
  some_differs P test d [] e h = true≢false (sym e)
  some_differs P test d (x ∷ xs) e h = go (test x) refl e (some_differs P test d xs)
    where
      go : (b : Bool) → test x ≡ b → (b || list_any test xs) ≡ true → (list_any test xs ≡ true → Each P xs → ⊥) → ⊥
      go true is e ih = d x is h.0
      go false is e ih = ih e h.1

  sequent_differs : (q : Sequent) → sequent_meets c.definitions q ≡ true → InSequent (ReadsSame es es') q → ⊥
  sequent_differs q e h = go (list_any (meets c.definitions) q.left) refl e
    where
      go : (b : Bool) → list_any (meets c.definitions) q.left ≡ b → (b || list_any (meets c.definitions) q.right) ≡ true → ⊥
      go true is e = some_differs (InFormula (ReadsSame es es')) (meets c.definitions) formula_differs q.left is h.0
      go false is e = some_differs (InFormula (ReadsSame es es')) (meets c.definitions) formula_differs q.right e h.1

  lemma_differs : (o : Option Lemma) → lemma_meets c.definitions o ≡ true → InLemma (ReadsSame es es') o → ⊥
  lemma_differs None e h = true≢false (sym e)
  lemma_differs (Some l) e h = sequent_differs l.sequent e h

  reading_differs : (l : CertLine) → line_reads c.definitions (take before es) l ≡ true → LineReadsSame es es' before before' l → ⊥
  reading_differs (line.Cut f) e h = formula_differs f e h
  reading_differs (line.Lemma n ts) e h = lemma_differs (lemma_of (take before es) n) e h
  reading_differs _ e h = true≢false (sym e)

  line_differs : (l : CertLine) → line_changes c (take before es) (take before' es') l ≡ true → LineStays es es' before before' l → ⊥
  line_differs (line.Cut f) e h = let r = meets_one (SameSorts es es') c.predicates f e h in listed_each (λ x. SameSorts es es' x → ⊥) c.predicates r.0 r.1 told.predicates.each r.2
  line_differs (line.Lemma n ts) e h = go (is_listed c.lemmas n) refl e
    where
      go : (b : Bool) → is_listed c.lemmas n ≡ b → (b || is_one_alone (lemma_of (take before es) n) (lemma_of (take before' es') n)) ≡ true → ⊥
      go true is e = listed_each (λ x. SameLemma es es' x → ⊥) c.lemmas n is told.lemmas.each h.0
      go false is e = one_differs _ _ e h.1
  line_differs _ e h = true≢false (sym e)

  pub is_affected : (l : Lemma) (cert : Cert) → reads_change c (take before es) (take before' es') l cert ≡ true → ReadsNoChange es es' before before' l cert → ⊥
  is_affected l cert e h = go (list_any (line_changes c (take before es) (take before' es')) cert.lines) refl e (list_any is_unfolding cert.lines) refl
    where
      read : (b : Bool) → sequent_meets c.definitions l.sequent ≡ b → (b || list_any (line_reads c.definitions (take before es)) cert.lines) ≡ true →
          InSequent (ReadsSame es es') l.sequent × Each (LineReadsSame es es' before before') cert.lines → ⊥
      read true is e d = sequent_differs l.sequent is d.0
      read false is e d = some_differs (LineReadsSame es es' before before') (line_reads c.definitions (take before es)) reading_differs cert.lines e d.1

      go : (b : Bool) → list_any (line_changes c (take before es) (take before' es')) cert.lines ≡ b → (b || (list_any is_unfolding cert.lines && reads c.definitions (take before es) l cert)) ≡ true →
          (u : Bool) → list_any is_unfolding cert.lines ≡ u → ⊥
      go true is e u is' = some_differs (LineStays es es' before before') (line_changes c (take before es) (take before' es')) line_differs cert.lines is h.lines
      go false is e true is' = read (sequent_meets c.definitions l.sequent) refl (ap (λ u. u && reads c.definitions (take before es) l cert) (sym is') ∙ e) (h.definitions is')
      go false is e false is' = true≢false (sym e ∙ ap (λ u. u && reads c.definitions (take before es) l cert) is')

-- the statuses that a table has
pub told_there : (t : Table) (k : ℕ) (e : Item) → slice_get t.library.entries k ≡ Some e → slice_get (anew t) k ≡ Some (status_at t.library k e (proof_at t.proofs k))
told_there t k e h = let z : 0 + k ≡ k = omega arith in in_its_place t.library t.proofs 0 t.library.entries k e h ∙ ap (λ n. Some (status_at t.library n e (proof_at t.proofs n))) z

pub no_gap : (library : Library) (ps : List (Option Cert)) (ss : List LemmaStatus) (k : ℕ) (q : Sequent) → ss ≡ anew (record { library = library; proofs = ps }) →
    goal_there (slice_get library.entries k) ≡ Some q → slice_get ss k ≡ None → ⊥
no_gap library ps ss k q s h n = go (slice_get library.entries k) refl h
  where
    none : {X : Type 0} {x : X} → Some x ≡ None → ⊥
    none e = cc

    go : (o : Option Item) → slice_get library.entries k ≡ o → goal_there o ≡ Some q → ⊥
    go None is h = absurd (cc)
    go (Some e) is h = none (sym (told_there (record { library = library; proofs = ps }) k e is) ∙ ap (λ l. slice_get l k) (sym s) ∙ n)

kept_status : (t : Table) (library : Library) (c : Changes) → TellsChanges t.library.entries library.entries c → (before before' : ℕ) (l : Lemma) (cert : Cert) (s : LemmaStatus) → slice_get (anew t) before ≡ Some s →
    goal_there (slice_get t.library.entries before) ≡ Some (goal_of l) → proof_at t.proofs before ≡ Some cert → reads_change c (take before t.library.entries) (take before' library.entries) l cert ≡ false →
    s ≡ status_at library before' (item.Lemma l) (Some cert)
kept_status t library c told before before' l cert s h there held n = go (slice_get t.library.entries before) refl there
  where
    go : (o : Option Item) → slice_get t.library.entries before ≡ o → goal_there o ≡ Some (goal_of l) → s ≡ status_at library before' (item.Lemma l) (Some cert)
    go None is e = absurd (cc)
    go (Some (item.Definition d)) is e = absurd (cc)
    go (Some (item.Lemma m)) is e =
        some_inside (sym h ∙ told_there t before (item.Lemma m) is)
        ∙ ap (status_at t.library before (item.Lemma m)) held
        ∙ ap (λ q. by_verdict (verdict t.library before q cert)) (some_inside e)
        ∙ ap by_verdict (keeps_verdict t.library.entries library.entries c told before before' l cert n)

-- a status that is kept is that of checking anew
pub kept_if_some : (t : Table) (library : Library) (c : Changes) → TellsChanges t.library.entries library.entries c → (before before' : ℕ) (l : Lemma) (cert : Cert) (o : Option LemmaStatus) →
    IfSome o (λ s. slice_get (anew t) before ≡ Some s) → IfSome o (λ _. goal_there (slice_get t.library.entries before) ≡ Some (goal_of l)) → IfSome o (λ _. proof_at t.proofs before ≡ Some cert) →
    reads_change c (take before t.library.entries) (take before' library.entries) l cert ≡ false → IfSome o (λ s. s ≡ status_at library before' (item.Lemma l) (Some cert))
kept_if_some t _ c told before before' l cert None h there held n = tt
kept_if_some t library c told before before' l cert (Some s) h there held n = kept_status t library c told before before' l cert s h there held n

-- a lemma that is not there with its goal and its certificate is affected
pub none_there : (t : Table) (library : Library) (before before' : ℕ) (l : Lemma) (cert : Cert) → before ≡ place_of t.library.entries l.name →
    (goal_there (slice_get t.library.entries before) ≡ Some (goal_of l) → proof_at t.proofs before ≡ Some cert → ⊥) → IsAffected t library before' l cert
none_there t _ before before' l cert is none there held reads =
    subst (λ k. goal_there (slice_get t.library.entries k) ≡ Some (goal_of l) → proof_at t.proofs k ≡ Some cert → ⊥) is none there held

pub costs_step : (t : Table) (library : Library) (ps : List (Option Cert)) (es : List Item) (i : ℕ) (e : Item) (a b m : ℕ) → i < length es → e ≡ get_or es i e → Costs t library i e (proof_at ps i) a b →
    CostsFrom t library ps (i + 1) (drop (i + 1) es) b m → CostsFrom t library ps i (drop i es) a m
costs_step t library ps es i e a b m h is one rest =
    let here : drop i es ≡ e ∷ drop (i + 1) es = drop-cons es i e h ∙ (λ j. sym is j ∷ drop (sym (add-one i) j) es) in
    subst (λ ds. CostsFrom t library ps i ds a m) (sym here) (b, one, rest)

costs_none : (t : Table) (library : Library) (k : ℕ) (l : Lemma) (o : Option Cert) (a : ℕ) → Costs t library k (item.Lemma l) o a a
costs_none t _ k l None a = refl
costs_none t _ k l (Some cert) a = inl refl

all_cost_none : (t : Table) (library : Library) (ps : List (Option Cert)) (k : ℕ) (es : List Item) (a : ℕ) → CostsFrom t library ps k es a a
all_cost_none t _ ps k [] a = refl
all_cost_none t library ps k (item.Definition d ∷ es) a = (a, refl, all_cost_none t library ps (k + 1) es a)
all_cost_none t library ps k (item.Lemma l ∷ es) a = (a, costs_none t library k l (proof_at ps k) a, all_cost_none t library ps (k + 1) es a)

-- no step at all is among what a change may cost
pub none_more : (t t' : Table) (a : ℕ) → AtMostAffected t t' a a
none_more t t' a = (a, all_cost_none t t'.library t'.proofs 0 t'.library.entries a, omega arith)

pub none_for : (t : Table) (library : Library) (k : ℕ) (l : Lemma) (cert : Cert) (a : ℕ) → CostsAtMost t library k (item.Lemma l) (Some cert) a a
none_for t library k l cert a = (a, inl refl, omega arith)

pub some_for : (t : Table) (library : Library) (k : ℕ) (l : Lemma) (cert : Cert) (a b : ℕ) → IsAffected t library k l cert → b ≤ a + checked library k (goal_of l) cert → CostsAtMost t library k (item.Lemma l) (Some cert) a b
some_for t library k l cert a b affected h = (a + checked library k (goal_of l) cert, inr (affected, refl), h)

-- where there is no memory for the entry in a place, the later ones cost nothing
pub stops_at : (t : Table) (library : Library) (ps : List (Option Cert)) (es all : List Item) (i : ℕ) (e : Item) (o : Option Cert) (a b c : ℕ) →
    ((m : ℕ) → CostsFrom t library ps i (drop i es) b m → CostsFrom t library ps 0 all a m) → i < length es → e ≡ get_or es i e → o ≡ proof_at ps i → CostsAtMost t library i e o b c →
    (m : ℕ) × CostsFrom t library ps 0 all a m × (c ≤ m)
stops_at t library ps es all i e o a b c before h is held one =
    let here : Costs t library i e (proof_at ps i) b one.0 = subst (λ p. Costs t library i e p b one.0) held one.1 in
    (one.0, before one.0 (costs_step t library ps es i e b one.0 one.0 h is here (all_cost_none t library ps (i + 1) (drop (i + 1) es) one.0)), one.2)

-- a table by its entries and its certificates
pub table_is : {es es' : List Item} {ps ps' : List (Option Cert)} → es ≡ es' → ps ≡ ps' → (let t : Table = record { library = record { entries = es }; proofs = ps } in t) ≡ record { library = record { entries = es' }; proofs = ps' }
table_is e p = λ i. record { library = record { entries = e i }; proofs = p i }

-- by what the call was handed
pub read_here : (c : Changes) (xs ys es es' : List Item) (before before' : ℕ) (l : Lemma) (cert : Cert) (r v : Bool) → xs ≡ es → ys ≡ es' → r ≡ reads_change c (take before xs) (take before' ys) l cert → r ≡ v →
    reads_change c (take before es) (take before' es') l cert ≡ v
read_here c xs ys es es' before before' l cert r v x y is e = (λ i. reads_change c (take before (sym x i)) (take before' (sym y i)) l cert) ∙ sym is ∙ e

pub affected_here : (t : Table) (library : Library) (c : Changes) → TellsChanges t.library.entries library.entries c → (before before' : ℕ) (l : Lemma) (cert : Cert) → before ≡ place_of t.library.entries l.name →
    reads_change c (take before t.library.entries) (take before' library.entries) l cert ≡ true → IsAffected t library before' l cert
affected_here t library c told before before' l cert is e there held =
    is_affected t.library.entries library.entries c told (place_of t.library.entries l.name) before' l cert (subst (λ k. reads_change c (take k t.library.entries) (take before' library.entries) l cert ≡ true) is e)
