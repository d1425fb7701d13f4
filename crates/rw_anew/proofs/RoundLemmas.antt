-- Marks after rounds.
use Rattle.std.proofs.Common.{◌≡◌, ℕ, zero, suc, ◌+◌, ◌-◌, ◌<◌, ◌≤◌, ◌==◌, ◌||◌, length, drop, List, [], ◌∷◌, map, refl, sym, ap, ◌∙◌, arith, Bool, true, false, Option, Some, None}
use Rattle.std.specs.List.{slice_get, filter}
use Rattle.std.proofs.lemmas.Bool.{eqb-false}
use Rattle.rw_sequents.specs.declared.line.Cert.{Cert}
use Rattle.rw_goals.specs.declared.library.Item.{Item}
use Rattle.rw_library.specs.Entries.{entry_name}
use Rattle.rw_nodes.specs.declared.node.Node.{Node}
use Rattle.rw_nodes.specs.declared.edit.Edit.{Edit}
use Rattle.rw_nodes.specs.declared.parts.Parts.{Parts}
use Rattle.rw_nodes.specs.Table.{entries_of, proofs_of}
use Rattle.rw_nodes.specs.Parts.{Makes, tree_of}
use Rattle.rw_anew.specs.declared.status.LemmaMark.{LemmaMark}
use Rattle.rw_tree.specs.Accepting.{IsGood}
use Rattle.rw_anew.specs.Anew.{anew}
use Rattle.rw_tree.proofs.Same.{parts_same}
use Rattle.rw_anew.specs.Marks.{same_marks, marks_and_cites}
use Rattle.rw_anew.specs.Uses.{marked_cites, is_cited, marks_after, is_used, used_lemmas}

module _ (main : Node) (entries : List Item) (proofs : List (Option Cert)) where
  abbrev rounds : ℕ → List Bool
  rounds = marks_after main entries proofs

  -- marks that a round leaves are left by all further rounds
  settled_from : (k j : ℕ) → rounds (suc k) ≡ rounds k → rounds (j + k) ≡ rounds k
  settled_from k zero same = let e : 0 + k ≡ k = omega arith in ap rounds e
  settled_from k (suc j) same =
      let e : suc j + k ≡ suc (j + k) = omega arith in ap rounds e ∙ ap (λ ms. map (λ e. is_cited main proofs ms (entry_name e)) entries) (settled_from k j same) ∙ same

  settled : (k n : ℕ) → k ≤ n → rounds (suc k) ≡ rounds k → rounds k ≡ rounds n
  settled k n few same = let all : n - k + k ≡ n = omega (arith, few) in sym (settled_from k (n - k) same) ∙ ap rounds all

-- marks that are the same are equal
marks_equal : (bs cs : List Bool) → same_marks bs cs ≡ true → bs ≡ cs
marks_equal [] [] e = refl
marks_equal [] (c ∷ cs) e = absurd (cc)
marks_equal (b ∷ bs) [] e = absurd (cc)
marks_equal (true ∷ bs) (true ∷ cs) e = ap (λ ms. true ∷ ms) (marks_equal bs cs e)
marks_equal (false ∷ bs) (false ∷ cs) e = ap (λ ms. false ∷ ms) (marks_equal bs cs e)
marks_equal (true ∷ bs) (false ∷ cs) e = absurd (cc)
marks_equal (false ∷ bs) (true ∷ cs) e = absurd (cc)

-- whether the marked entries from a place on cite a lemma
marked_none : (x : List ℕ) (marks : List Bool) → marked_cites x marks [] ≡ false
marked_none x [] = refl
marked_none x (b ∷ marks) = refl

pub marked_next : (x : List ℕ) (marks : List Bool) (proofs : List (Option Cert)) (i : ℕ) → i < length marks →
    marked_cites x (drop i marks) (drop i proofs) ≡ marks_and_cites x (slice_get marks i) (slice_get proofs i) || marked_cites x (drop (suc i) marks) (drop (suc i) proofs)
marked_next x [] proofs i h = absurd (omega (arith, h))
marked_next x (b ∷ marks) [] zero h = sym (marked_none x marks)
marked_next x (b ∷ marks) [] (suc i) h = marked_none x (drop i marks) ∙ sym (ap (λ c. c || marked_cites x (drop (suc i) marks) []) (no_proof (slice_get marks i)) ∙ marked_none x (drop (suc i) marks))
  where
    no_proof : (o : Option Bool) → marks_and_cites x o None ≡ false
    no_proof None = refl
    no_proof (Some b) = refl
marked_next x (b ∷ marks) (p ∷ proofs) zero h = refl
marked_next x (b ∷ marks) (p ∷ proofs) (suc i) h = marked_next x marks proofs i (omega (arith, h))

-- where a round leaves the marks, all rounds that are left do
pub early_stop : (main : Node) (entries : List Item) (proofs : List (Option Cert)) (k n : ℕ) (marks next : List Bool) → marks ≡ marks_after main entries proofs k →
    next ≡ map (λ e. is_cited main proofs marks (entry_name e)) entries → same_marks next marks ≡ true → k < n → marks ≡ marks_after main entries proofs n
early_stop main entries proofs k n marks next is made same less =
    let again : marks_after main entries proofs (suc k) ≡ marks_after main entries proofs k =
    sym (ap (λ ms. map (λ e. is_cited main proofs ms (entry_name e)) entries) is) ∙ sym made ∙ marks_equal next marks same ∙ is in
    is ∙ settled main entries proofs k n (omega (arith, less)) again

marks_differ : (bs cs : List Bool) → (length bs ≡ length cs → ⊥) → same_marks bs cs ≡ false
marks_differ [] [] h = absurd (h refl)
marks_differ [] (c ∷ cs) h = refl
marks_differ (b ∷ bs) [] h = refl
marks_differ (true ∷ bs) (true ∷ cs) h = marks_differ bs cs (λ e. h (ap suc e))
marks_differ (false ∷ bs) (false ∷ cs) h = marks_differ bs cs (λ e. h (ap suc e))
marks_differ (true ∷ bs) (false ∷ cs) h = refl
marks_differ (false ∷ bs) (true ∷ cs) h = refl

-- lists of different lengths are not the same
pub lengths_differ : (bs cs : List Bool) → (length bs == length cs) ≡ false → same_marks bs cs ≡ false
lengths_differ bs cs e = marks_differ bs cs (eqb-false (length bs) (length cs) e)

-- an entry that does not cite the lemma is passed
pub marked_skip : (x : List ℕ) (marks : List Bool) (proofs : List (Option Cert)) (i : ℕ) (c : Bool) → i < length marks → c ≡ marks_and_cites x (slice_get marks i) (slice_get proofs i) → c ≡ false →
    marked_cites x (drop (i + 1) marks) (drop (i + 1) proofs) ≡ marked_cites x (drop i marks) (drop i proofs)
marked_skip x marks proofs i c h is none =
    let e : i + 1 ≡ suc i = omega arith in
    ap (λ n. marked_cites x (drop n marks) (drop n proofs)) e ∙ sym (marked_next x marks proofs i h ∙ ap (λ d. d || marked_cites x (drop (suc i) marks) (drop (suc i) proofs)) (sym is ∙ none))

-- one that does is found
pub marked_found : (x : List ℕ) (marks : List Bool) (proofs : List (Option Cert)) (i : ℕ) (c : Bool) → i < length marks → c ≡ marks_and_cites x (slice_get marks i) (slice_get proofs i) → c ≡ true →
    marked_cites x (drop i marks) (drop i proofs) ≡ true
marked_found x marks proofs i c h is there = marked_next x marks proofs i h ∙ ap (λ d. d || marked_cites x (drop (suc i) marks) (drop (suc i) proofs)) (sym is ∙ there)

-- the lemmas that are cited at last are those that the project uses
pub used_told : (most : ℕ) (l : List Edit) (parts : Parts) → IsGood most l → Makes most l parts → (es : List Item) (ps : List (Option Cert)) (marks ms : List Bool) (lemmas used : List LemmaMark) →
    es ≡ parts.library.entries → ps ≡ parts.proofs → ms ≡ marks → marks ≡ marks_after parts.main es ps (length es) →
    used ≡ filter (λ m. is_cited parts.main ps ms m.name) lemmas → lemmas ≡ (anew l).lemmas → used ≡ used_lemmas l
unfolding is_used
used_told most l parts good made es ps marks ms lemmas used ees eps ems emk eu el =
    eu
    ∙ ap (λ x. filter (λ m. is_cited parts.main ps x m.name) lemmas) (ems ∙ emk)
    ∙ ap (λ x. filter (λ m. is_cited parts.main x (marks_after parts.main es x (length es)) m.name) lemmas) eps
    ∙ ap (λ x. filter (λ m. is_cited parts.main parts.proofs (marks_after parts.main x parts.proofs (length x)) m.name) lemmas) ees
    ∙ ap (λ (q : Parts). filter (λ m. is_used q.main q.library.entries q.proofs m.name) lemmas) (parts_same most l parts good made)
    ∙ ap (filter (λ m. is_used (tree_of l) (entries_of l) (proofs_of l) m.name)) el
