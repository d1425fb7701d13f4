-- The lemmas that a closed derivation cites are valid.
use Rattle.std.proofs.Common.{◌≡◌, ℕ, zero, suc, ◌+◌, ◌-◌, ◌≤◌, Bool, true, false, ◌||◌, ◌&&◌, List, [], ◌∷◌, length, map, filter, take, Option, Some, None, refl, sym, ap, ◌∙◌, subst, true≢false, arith}
use Rattle.std.proofs.lemmas.Bool.{or_left, or_right}
use Rattle.std.specs.Prelude.{slice_get, if◌then◌else◌}
use Rattle.std.specs.Option.{option_and_then}
use Rattle.std.specs.List.{list_any}
use Rattle.rw_terms.specs.Mentions.{any_of}
use Rattle.rw_terms.specs.Validity.{Each}
use Rattle.rw_meaning.proofs.Tests.{bytes_same}
use Rattle.rw_goals.specs.declared.library.Lemma.{Lemma}
use Rattle.rw_goals.specs.declared.library.Item.{Item}
use Rattle.rw_goals.specs.declared.library.Item.TheVariants as item
use Rattle.rw_goals.specs.declared.library.Library.{Library}
use Rattle.rw_goals.specs.Library.{definitions_of}
use Rattle.rw_citations.specs.Cited.{lemma_of}
use Rattle.rw_citations.specs.Goal.{goal_of}
use Rattle.rw_citations.specs.WellMade.{WellMade, IsValid, NamedValid}
use Rattle.rw_sequents.specs.declared.line.CertLine.{CertLine}
use Rattle.rw_sequents.specs.declared.line.CertLine.TheVariants as line
use Rattle.rw_sequents.specs.declared.line.Cert.{Cert}
use Rattle.rw_sequents.specs.Cited.{OfCited, AllCited}
use Rattle.rw_sequents.specs.Table.{GoodAt, UsedValid}
use Rattle.rw_sequents.proofs.Table.{stands, rounds_are_valid}
use Rattle.rw_library.specs.Entries.{entry_name}
use Rattle.rw_library.specs.Naming.{line_cites, cites}
use Rattle.rw_nodes.specs.declared.edit.Edit.{Edit}
use Rattle.rw_nodes.specs.declared.node.Node.{Node, out-Node, fold_out-Node}
use Rattle.rw_nodes.specs.Table.{entries_of, proofs_of}
use Rattle.rw_nodes.specs.Parts.{tree_of}
use Rattle.rw_anew.specs.declared.status.NeedState.TheVariants as need
use Rattle.rw_anew.specs.declared.status.LemmaMark.{LemmaMark}
use Rattle.rw_anew.specs.Anew.{state_of, lemma_marks, library_of, anew}
use Rattle.rw_nodes.specs.Table.{proof_at}
use Rattle.rw_nodes.specs.Nodes.{certified}
use Rattle.rw_anew.specs.Uses.{proof_cites, node_cites_step, node_cites, marked_cites, is_cited, marks_after, is_used, IsClosed}
use Rattle.rw_collect.proofs.Needs.{certified_good}

-- P of the names that lines cite, where it is so of each name that is cited
of_line : (P : List ℕ → Type 0) (l : CertLine) → ((n : List ℕ) → line_cites n l ≡ true → P n) → OfCited P l
of_line P (line.Lemma n ts) h = h n (bytes_same n n refl)
of_line P _ h = tt

all_lines : (P : List ℕ → Type 0) (ls : List CertLine) → ((n : List ℕ) → list_any (line_cites n) ls ≡ true → P n) → Each (OfCited P) ls
all_lines P [] h = tt
all_lines P (l ∷ ls) h =
    (of_line P l (λ n e. h n (or_left (line_cites n l) (list_any (line_cites n) ls) e)), all_lines P ls (λ n e. h n (or_right (line_cites n l) (list_any (line_cites n) ls) e)))

pub all_cited : (P : List ℕ → Type 0) (c : Cert) → ((n : List ℕ) → cites n c ≡ true → P n) → AllCited P c
all_cited P c h = all_lines P c.lines h

-- a name that the certificate of a marked entry cites
marked_there : (x : List ℕ) (marks : List Bool) (proofs : List (Option Cert)) (p : ℕ) (c : Cert) → slice_get marks p ≡ Some true → slice_get proofs p ≡ Some (Some c) → cites x c ≡ true → marked_cites x marks proofs ≡ true
marked_there x [] proofs p c m e h = absurd (cc)
marked_there x (b ∷ marks) [] p c m e h = absurd (cc)
marked_there x (b ∷ marks) (o ∷ proofs) zero c m e h =
    let marked : b ≡ true = cc in
    let proof : o ≡ Some c = cc in
    or_left (b && proof_cites x o) (marked_cites x marks proofs) ((λ i. marked i && proof_cites x (proof i)) ∙ h)
marked_there x (b ∷ marks) (o ∷ proofs) (suc p) c m e h = or_right (b && proof_cites x o) (marked_cites x marks proofs) (marked_there x marks proofs p c m e h)

get_map : {A B : Type 0} (f : A → B) (xs : List A) (p : ℕ) (x : A) → slice_get xs p ≡ Some x → slice_get (map f xs) p ≡ Some (f x)
get_map f [] p x e = absurd (cc)
get_map f (y ∷ xs) zero x e = let is : y ≡ x = cc in ap (λ z. Some (f z)) is
get_map f (y ∷ xs) (suc p) x e = get_map f xs p x e

-- more marks: each that is marked stays so
abbrev Below : List Bool → List Bool → Type 0
Below [] [] = Unit {0}
Below [] (c ∷ more) = ⊥
Below (b ∷ marks) [] = ⊥
Below (b ∷ marks) (c ∷ more) = (b ≡ true → c ≡ true) × Below marks more

still_cited : (x : List ℕ) (marks more : List Bool) (proofs : List (Option Cert)) → Below marks more → marked_cites x marks proofs ≡ true → marked_cites x more proofs ≡ true
still_cited x [] [] proofs below e = e
still_cited x [] (c ∷ more) proofs below e = absurd below
still_cited x (b ∷ marks) [] proofs below e = absurd below
still_cited x (b ∷ marks) (c ∷ more) [] below e = e
still_cited x (b ∷ marks) (c ∷ more) (p ∷ proofs) below e = go b below.0 (proof_cites x p) e (still_cited x marks more proofs below.1)
  where
    go : (b : Bool) → (b ≡ true → c ≡ true) → (d : Bool) → ((b && d) || marked_cites x marks proofs) ≡ true → (marked_cites x marks proofs ≡ true → marked_cites x more proofs ≡ true) → ((c && d) || marked_cites x more proofs) ≡ true
    go true to true e rest = or_left (c && true) (marked_cites x more proofs) (ap (λ a. a && true) (to refl))
    go true to false e rest = or_right (c && false) (marked_cites x more proofs) (rest e)
    go false to d e rest = or_right (c && d) (marked_cites x more proofs) (rest e)

module _ (main : Node) (entries : List Item) (proofs : List (Option Cert)) where
  abbrev cited_by : List Bool → List ℕ → Bool
  cited_by = is_cited main proofs

  -- cited so far, after so many rounds
  abbrev pub cited : ℕ → List ℕ → Bool
  cited r x = is_cited main proofs (marks_after main entries proofs r) x

  cited_below : (marks more : List Bool) → Below marks more → (x : List ℕ) → cited_by marks x ≡ true → cited_by more x ≡ true
  cited_below marks more below x e = go (node_cites x main) e
    where
      go : (b : Bool) → (b || marked_cites x marks proofs) ≡ true → (b || marked_cites x more proofs) ≡ true
      go true e = refl
      go false e = still_cited x marks more proofs below e

  none_below : (f : Item → Bool) (es : List Item) → Below (map (λ e. false) es) (map f es)
  none_below f [] = tt
  none_below f (e ∷ es) = (λ t. absurd (true≢false (sym t)), none_below f es)

  all_below : (f g : Item → Bool) → ((e : Item) → f e ≡ true → g e ≡ true) → (es : List Item) → Below (map f es) (map g es)
  all_below f g to [] = tt
  all_below f g to (e ∷ es) = (to e, all_below f g to es)

  rise : (r : ℕ) → Below (marks_after main entries proofs r) (marks_after main entries proofs (suc r))
  rise zero = none_below (λ e. cited_by (marks_after main entries proofs zero) (entry_name e)) entries
  rise (suc r) = all_below _ _ (λ e h. cited_below (marks_after main entries proofs r) (marks_after main entries proofs (suc r)) (rise r) (entry_name e) h) entries

  cited_later : (d r : ℕ) (x : List ℕ) → cited r x ≡ true → cited (d + r) x ≡ true
  cited_later zero r x e = let same : r ≡ 0 + r = omega arith in subst (λ k. cited k x ≡ true) same e
  cited_later (suc d) r x e = let next : suc (d + r) ≡ suc d + r = omega arith in subst (λ k. cited k x ≡ true) next (cited_below (marks_after main entries proofs (d + r)) (marks_after main entries proofs (suc (d + r))) (rise (d + r)) x (cited_later d r x e))

  -- what is cited in a round is used
  pub cited_used : (r : ℕ) → r ≤ length entries → (x : List ℕ) → cited r x ≡ true → is_used main entries proofs x ≡ true
  unfolding is_used
  cited_used r few x e = let all : length entries - r + r ≡ length entries = omega (arith, few) in subst (λ k. cited k x ≡ true) all (cited_later (length entries - r) r x e)

  -- what the tree cites is cited in the first round
  pub cited_first : (x : List ℕ) → node_cites x main ≡ true → cited 0 x ≡ true
  cited_first x e = or_left (node_cites x main) (marked_cites x (marks_after main entries proofs 0) proofs) e

  -- what the certificate of a lemma of a round cites is cited in the next one
  pub cited_next : (r p : ℕ) (l : Lemma) (c : Cert) → slice_get entries p ≡ Some (item.Lemma l) → slice_get proofs p ≡ Some (Some c) → cited r l.name ≡ true → AllCited (λ n. cited (suc r) n ≡ true) c
  cited_next r p l c there beside e =
      let marked : slice_get (marks_after main entries proofs (suc r)) p ≡ Some true = get_map (λ e. cited_by (marks_after main entries proofs r) (entry_name e)) entries p (item.Lemma l) there ∙ ap Some e in
      all_cited (λ n. cited (suc r) n ≡ true) c
      (λ n h. or_right (node_cites n main) (marked_cites n (marks_after main entries proofs (suc r)) proofs) (marked_there n (marks_after main entries proofs (suc r)) proofs p c marked beside h))

abbrev IsGoodLemma : LemmaMark → Type 0
IsGoodLemma m = m.state ≡ need.Good

-- the first of some marks, and those behind it, among those that pass a test
filter_first : (f : LemmaMark → Bool) (m : LemmaMark) (ms : List LemmaMark) → Each IsGoodLemma (filter f (m ∷ ms)) → (f m ≡ true → IsGoodLemma m) × Each IsGoodLemma (filter f ms)
filter_first f m ms h = go (f m) refl
  where
    go : (b : Bool) → f m ≡ b → (f m ≡ true → IsGoodLemma m) × Each IsGoodLemma (filter f ms)
    go true is = let both : Each IsGoodLemma (m ∷ filter f ms) = subst (λ b. Each IsGoodLemma (if b then m ∷ filter f ms else filter f ms)) is h in (λ t. both.0, both.1)
    go false is = (λ t. absurd (true≢false (sym t ∙ is)), subst (λ b. Each IsGoodLemma (if b then m ∷ filter f ms else filter f ms)) is h)

module _ (library : Library) (proofs : List (Option Cert)) (f : LemmaMark → Bool) where
  -- the state of a lemma among the marks
  state_there : (es : List Item) (k p : ℕ) (l : Lemma) → slice_get es p ≡ Some (item.Lemma l) → Each IsGoodLemma (filter f (lemma_marks library proofs k es)) →
      ((state : _) → f (record { name = l.name; state = state }) ≡ true) → state_of library (p + k) (goal_of l) (proof_at proofs (p + k)) ≡ need.Good
  state_there [] k p l there good used = absurd (cc)
  state_there (item.Definition d ∷ es) k zero l there good used = absurd (cc)
  state_there (item.Definition d ∷ es) k (suc p) l there good used = let next : p + (k + 1) ≡ suc p + k = omega arith in
      subst (λ j. state_of library j (goal_of l) (proof_at proofs j) ≡ need.Good) next (state_there es (k + 1) p l there good used)
  state_there (item.Lemma m ∷ es) k zero l there good used =
      let is : m ≡ l = cc in
      let first = filter_first f (record { name = m.name; state = state_of library k (goal_of m) (proof_at proofs k) }) (lemma_marks library proofs (k + 1) es) good in
      let same : k ≡ 0 + k = omega arith in
      subst (λ j. state_of library j (goal_of l) (proof_at proofs j) ≡ need.Good) same (subst (λ x. state_of library k (goal_of x) (proof_at proofs k) ≡ need.Good) is (first.0 (ap (λ x. f (record { name = x.name; state = state_of library k (goal_of m) (proof_at proofs k) })) is ∙ used (state_of library k (goal_of m) (proof_at proofs k)))))
  state_there (item.Lemma m ∷ es) k (suc p) l there good used =
      let first = filter_first f (record { name = m.name; state = state_of library k (goal_of m) (proof_at proofs k) }) (lemma_marks library proofs (k + 1) es) good in
      let next : p + (k + 1) ≡ suc p + k = omega arith in
      subst (λ j. state_of library j (goal_of l) (proof_at proofs j) ≡ need.Good) next (state_there es (k + 1) p l there first.1 used)

proof_there : (proofs : List (Option Cert)) (p : ℕ) (c : Cert) → proof_at proofs p ≡ Some c → slice_get proofs p ≡ Some (Some c)
proof_there proofs p c e = go (slice_get proofs p) e
  where
    go : (o : Option (Option Cert)) → option_and_then (λ o. o) o ≡ Some c → o ≡ Some (Some c)
    go None e = absurd (cc)
    go (Some o) e = ap Some e

module _ (l : List Edit) (closed : IsClosed l) where
  -- the lemmas of each round are good
  good_lemmas : (r p : ℕ) (m : Lemma) → slice_get (entries_of l) p ≡ Some (item.Lemma m) → r ≤ length (entries_of l) → cited (tree_of l) (entries_of l) (proofs_of l) r m.name ≡ true → GoodAt (library_of l) (proofs_of l) p m
  unfolding anew
  good_lemmas r p m there few used =
      let same : p + 0 ≡ p = omega arith in
      let good : state_of (library_of l) p (goal_of m) (proof_at (proofs_of l) p) ≡ need.Good =
      subst (λ j. state_of (library_of l) j (goal_of m) (proof_at (proofs_of l) j) ≡ need.Good) same
      (state_there (library_of l) (proofs_of l) (λ k. is_used (tree_of l) (entries_of l) (proofs_of l) k.name) (entries_of l) 0 p m there closed.lemmas
      (λ state. cited_used (tree_of l) (entries_of l) (proofs_of l) r few m.name used)) in
      let c = certified_good (library_of l) p (goal_of m) (proof_at (proofs_of l) p) good in
      (c.0, proof_there (proofs_of l) p c.0 c.1, c.2)

  -- those that the tree cites are valid
  used_valid : WellMade (library_of l) → UsedValid (library_of l) (proofs_of l) (λ r n. cited (tree_of l) (entries_of l) (proofs_of l) r n ≡ true)
  used_valid made =
      rounds_are_valid (library_of l) (proofs_of l) (cited (tree_of l) (entries_of l) (proofs_of l)) made
      (λ r p m c there beside within used. cited_next (tree_of l) (entries_of l) (proofs_of l) r p m c there beside used) good_lemmas

  pub named_valid : WellMade (library_of l) → (n : List ℕ) → node_cites n (tree_of l) ≡ true → NamedValid (library_of l) (length (entries_of l)) n
  named_valid made n e = found (lemma_of (take (length (entries_of l)) (entries_of l)) n) refl
    where
      found : (o : Option Lemma) → lemma_of (take (length (entries_of l)) (entries_of l)) n ≡ o → IsValid (definitions_of (library_of l)) o
      found None is = tt
      found (Some m) is =
          let s = stands (entries_of l) (length (entries_of l)) n m is in
          used_valid made s.place m s.there (subst (λ x. cited (tree_of l) (entries_of l) (proofs_of l) 0 x ≡ true) (sym s.named) (cited_first (tree_of l) (entries_of l) (proofs_of l) n e))

-- what a node and those below it cite
pub cites-out : (x : List ℕ) (n : Node) → node_cites x n ≡ (list_any (proof_cites x) (out-Node n).certs || any_of (map (node_cites x) (out-Node n).kids))
cites-out x n = fold_out-Node Bool (node_cites_step x) n

any_there : (x : List ℕ) (kids : List Node) (j : ℕ) (kid : Node) → slice_get kids j ≡ Some kid → node_cites x kid ≡ true → any_of (map (node_cites x) kids) ≡ true
any_there x [] j kid there e = absurd (cc)
any_there x (k ∷ kids) zero kid there e = let is : k ≡ kid = cc in or_left (node_cites x k) (any_of (map (node_cites x) kids)) (ap (node_cites x) is ∙ e)
any_there x (k ∷ kids) (suc j) kid there e = or_right (node_cites x k) (any_of (map (node_cites x) kids)) (any_there x kids j kid there e)

pub kid_cites : (x : List ℕ) (n : Node) (j : ℕ) (kid : Node) → slice_get (out-Node n).kids j ≡ Some kid → node_cites x kid ≡ true → node_cites x n ≡ true
kid_cites x n j kid there e = cites-out x n ∙ or_right (list_any (proof_cites x) (out-Node n).certs) (any_of (map (node_cites x) (out-Node n).kids)) (any_there x (out-Node n).kids j kid there e)

certs_cite : (x : List ℕ) (certs : List (Option Cert)) (j : ℕ) (c : Cert) → slice_get certs j ≡ Some (Some c) → cites x c ≡ true → list_any (proof_cites x) certs ≡ true
certs_cite x [] j c there e = absurd (cc)
certs_cite x (o ∷ certs) zero c there e = let is : o ≡ Some c = cc in or_left (proof_cites x o) (list_any (proof_cites x) certs) (ap (proof_cites x) is ∙ e)
certs_cite x (o ∷ certs) (suc j) c there e = or_right (proof_cites x o) (list_any (proof_cites x) certs) (certs_cite x certs j c there e)

pub own_cites : (x : List ℕ) (n : Node) (k : ℕ) (c : Cert) → certified (out-Node n).certs k ≡ Some c → cites x c ≡ true → node_cites x n ≡ true
own_cites x n zero c there e = absurd (cc)
own_cites x n (suc j) c there e = cites-out x n ∙ or_left (list_any (proof_cites x) (out-Node n).certs) (any_of (map (node_cites x) (out-Node n).kids)) (certs_cite x (out-Node n).certs j c (proof_there (out-Node n).certs j c there) e)
