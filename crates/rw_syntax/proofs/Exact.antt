-- The machine goes on over tokens exactly where they can go on, and ends with a value exactly where they spell it.
use Rattle.std.proofs.Common.{◌≡◌, ℕ, suc, ◌≤◌, cond, List, [], ◌∷◌, ◌++◌, length, take, Option, Some, None, IsTrue, refl, sym, ap, ◌∙◌, subst}
use Rattle.std.specs.Prelude.{leb, option_and_then}
use Rattle.std.proofs.lemmas.Bool.{leb-true, le-leb}
use Rattle.rw_syntax.specs.declared.token.Token.{Token}
use Rattle.rw_syntax.specs.declared.frame.Part.{Part}
use Rattle.rw_syntax.specs.Grammar.{Tree, level, fits, IsFormed, text, nests, Reads}
use Rattle.rw_syntax.specs.Machine.{State, wants, nest, step, run, from_state, trace, finish, limited, advance, run_within}
use Rattle.rw_syntax.specs.Spelling.{AreWithin, Spells, CanGoOn}
use Rattle.rw_syntax.proofs.Choices.{guarded, chained, some_is, fits_of}
use Rattle.rw_syntax.proofs.After.{run_stands, sound}
use Rattle.rw_syntax.proofs.Goes.{ArePlain, state_grows}
use Rattle.rw_syntax.proofs.Reading.{run_append, trace_append, reads, complete}

-- the limit is kept at each token
split : (most goal : ℕ) (m : State) (ts : List Token) (s : State) → run_within most goal m ts ≡ Some s → (run goal m ts ≡ Some s) × AreWithin most (trace goal m ts)
unfolding run run_within trace
split most goal m [] s e = (e, tt)
split most goal m (t ∷ ts) s e = go (step goal m t) e (λ x k. split most goal x ts s k)
  where
    go : (o : Option State) → option_and_then (λ s2. run_within most goal s2 ts) (option_and_then (limited most) o) ≡ Some s → ((x : State) → run_within most goal x ts ≡ Some s → (run goal x ts ≡ Some s) × AreWithin most (trace goal x ts)) →
        (option_and_then (λ s2. run goal s2 ts) o ≡ Some s) × AreWithin most (from_state (λ s2. nest s2 ∷ trace goal s2 ts) o)
    go None k h = absurd (cc)
    go (Some x) k h =
        let c = chained (λ s2. run_within most goal s2 ts) (cond (leb (nest x) most) (Some x) None) s k in
        let g = guarded (leb (nest x) most) (Some x) c.0 c.1 in
        let same : c.0 ≡ x = sym (some_is g.1) in
        let r = h x (ap (λ y. run_within most goal y ts) (sym same) ∙ c.2) in
        (r.0, (leb-true (nest x) most g.0, r.1))

join : (most goal : ℕ) (m : State) (ts : List Token) (s : State) → run goal m ts ≡ Some s → AreWithin most (trace goal m ts) → run_within most goal m ts ≡ Some s
unfolding run run_within trace
join most goal m [] s e w = e
join most goal m (t ∷ ts) s e w = go (step goal m t) e w (λ x k v. join most goal x ts s k v)
  where
    go : (o : Option State) → option_and_then (λ s2. run goal s2 ts) o ≡ Some s → AreWithin most (from_state (λ s2. nest s2 ∷ trace goal s2 ts) o) → ((x : State) → run goal x ts ≡ Some s → AreWithin most (trace goal x ts) → run_within most goal x ts ≡ Some s) →
        option_and_then (λ s2. run_within most goal s2 ts) (option_and_then (limited most) o) ≡ Some s
    go None k w h = absurd (cc)
    go (Some x) k w h = ap (λ b. option_and_then (λ s2. run_within most goal s2 ts) (cond b (Some x) None)) (le-leb (nest x) most w.0) ∙ h x k w.1

trace_length : (goal : ℕ) (m : State) (ts : List Token) (s : State) → run goal m ts ≡ Some s → length (trace goal m ts) ≡ length ts
unfolding run trace
trace_length goal m [] s e = refl
trace_length goal m (t ∷ ts) s e = go (step goal m t) e (λ x k. trace_length goal x ts s k)
  where
    go : (o : Option State) → option_and_then (λ s2. run goal s2 ts) o ≡ Some s → ((x : State) → run goal x ts ≡ Some s → length (trace goal x ts) ≡ length ts) → length (from_state (λ s2. nest s2 ∷ trace goal s2 ts) o) ≡ suc (length ts)
    go None k h = absurd (cc)
    go (Some x) k h = ap suc (h x k)

take_front : (xs ys : List ℕ) (n : ℕ) → length xs ≡ n → take n (xs ++ ys) ≡ xs
take_front [] ys n e = ap (λ k. take k ys) (sym e)
take_front (x ∷ xs) ys n e = ap (λ k. take k (x ∷ (xs ++ ys))) (sym e) ∙ ap (λ l. x ∷ l) (take_front xs ys (length xs) refl)

-- the nests of a tree at the tokens of a front
front_nests : (goal : ℕ) (t : Tree) (ts rest : List Token) (s : State) → goal ≤ 9 → IsFormed [] t → IsTrue (fits goal (level t)) → text t ≡ ts ++ rest → run goal (wants []) ts ≡ Some s → take (length ts) (nests 0 t) ≡ trace goal (wants []) ts
front_nests goal t ts rest s g f k w e =
    let r = reads t goal [] g f (fits_of goal (level t) k).0 in
    let n = sym r.goes.nests_are ∙ ap (trace goal (wants [])) w ∙ trace_append goal (wants []) ts rest s e in
    ap (take (length ts)) n ∙ take_front (trace goal (wants []) ts) (trace goal s rest) (length ts) (trace_length goal (wants []) ts s e)

pub record Ends (most goal : ℕ) (ts : List Token) (v : Part) : Type 0 where
  pub state : State
  pub runs : run_within most goal (wants []) ts ≡ Some state
  pub ends : finish goal state ≡ Some v

pub spells_ends : (most goal : ℕ) (ts : List Token) (v : Part) → goal ≤ 9 → Spells most goal ts v → Ends most goal ts v
spells_ends most goal ts v g sp =
    let c = complete goal ts v g (record { tree = sp.tree; formed = sp.formed; fit = sp.fit; written = sp.written; value = sp.value }) in
    let r = reads sp.tree goal [] g sp.formed (fits_of goal (level sp.tree) sp.fit).0 in
    let n : trace goal (wants []) ts ≡ nests 0 sp.tree = ap (trace goal (wants [])) (sym sp.written) ∙ r.goes.nests_are in
    record { state = c.state; runs = join most goal (wants []) ts c.state c.runs (subst (AreWithin most) (sym n) sp.within); ends = c.ends }

pub ends_spells : (most goal : ℕ) (ts : List Token) (s : State) (v : Part) → goal ≤ 9 → run_within most goal (wants []) ts ≡ Some s → finish goal s ≡ Some v → Spells most goal ts v
ends_spells most goal ts s v g e f =
    let q = split most goal (wants []) ts s e in
    let sp = sound goal ts s v g q.0 f in
    let r = reads sp.tree goal [] g sp.formed (fits_of goal (level sp.tree) sp.fit).0 in
    let n : trace goal (wants []) ts ≡ nests 0 sp.tree = ap (trace goal (wants [])) (sym sp.written) ∙ r.goes.nests_are in
    record { tree = sp.tree; formed = sp.formed; fit = sp.fit; written = sp.written; value = sp.value; within = subst (AreWithin most) n q.1 }

-- what was read can go on, without words
pub runs_plain : (most goal : ℕ) (ts : List Token) (s : State) → goal ≤ 9 → run_within most goal (wants []) ts ≡ Some s → (c : CanGoOn most goal ts) × ArePlain c.rest
runs_plain most goal ts s g e =
    let q = split most goal (wants []) ts s e in
    let k = state_grows goal s ts g (run_stands goal (wants []) [] ts s g refl q.0) in
    (record { tree = k.tree; rest = k.rest; formed = k.formed; fit = k.fit; written = k.written; within = subst (AreWithin most) (sym (front_nests goal k.tree ts k.rest s g k.formed k.fit k.written q.0)) q.1 }, k.plain)

pub runs_can : (most goal : ℕ) (ts : List Token) (s : State) → goal ≤ 9 → run_within most goal (wants []) ts ≡ Some s → CanGoOn most goal ts
runs_can most goal ts s g e = (runs_plain most goal ts s g e).0

pub can_runs : (most goal : ℕ) (ts : List Token) → goal ≤ 9 → CanGoOn most goal ts → (s : State) × (run_within most goal (wants []) ts ≡ Some s)
can_runs most goal ts g c =
    let r = reads c.tree goal [] g c.formed (fits_of goal (level c.tree) c.fit).0 in
    let whole = sym (run_append goal (wants []) ts c.rest) ∙ ap (run goal (wants [])) (sym c.written) ∙ r.goes.runs in
    let q = chained (λ s. run goal s c.rest) (run goal (wants []) ts) r.state whole in
    (q.0, join most goal (wants []) ts q.0 q.1 (subst (AreWithin most) (front_nests goal c.tree ts c.rest q.0 g c.formed c.fit c.written q.1) c.within))

-- no tokens spell two values
pub one_value : (most goal : ℕ) (ts : List Token) (v w : Part) → goal ≤ 9 → Spells most goal ts v → Spells most goal ts w → v ≡ w
one_value most goal ts v w g a b =
    let x = spells_ends most goal ts v g a in
    let y = spells_ends most goal ts w g b in
    let same : x.state ≡ y.state = some_is (sym x.runs ∙ y.runs) in
    some_is (sym x.ends ∙ ap (finish goal) same ∙ y.ends)

-- one more token, behind tokens that were read
pub run_last : (most goal : ℕ) (m : State) (ts : List Token) (t : Token) (s : State) → run_within most goal m ts ≡ Some s → run_within most goal m (ts ++ t ∷ []) ≡ advance most goal s t
unfolding run_within
run_last most goal m [] t s e = ap (λ x. run_within most goal x (t ∷ [])) (some_is e) ∙ go (advance most goal s t)
  where
    go : (o : Option State) → option_and_then (λ s2. run_within most goal s2 []) o ≡ o
    go None = refl
    go (Some x) = refl
run_last most goal m (k ∷ ts) t s e = go (advance most goal m k) e (λ x z. run_last most goal x ts t s z)
  where
    go : (o : Option State) → option_and_then (λ s2. run_within most goal s2 ts) o ≡ Some s → ((x : State) → run_within most goal x ts ≡ Some s → run_within most goal x (ts ++ t ∷ []) ≡ advance most goal s t) → option_and_then (λ s2. run_within most goal s2 (ts ++ t ∷ [])) o ≡ advance most goal s t
    go None z h = absurd (cc)
    go (Some x) z h = h x z

-- a token that the machine refuses can not go on
pub refused : (most goal : ℕ) (ts : List Token) (t : Token) (s : State) → goal ≤ 9 → run_within most goal (wants []) ts ≡ Some s → advance most goal s t ≡ None → ¬ (CanGoOn most goal (ts ++ t ∷ []))
refused most goal ts t s g e n c = let r = can_runs most goal (ts ++ t ∷ []) g c in let z = run_last most goal (wants []) ts t s e in absurd (cc (r.1, z, n))

-- tokens behind which the machine has no value spell none
pub no_value : (most goal : ℕ) (ts : List Token) (s : State) (v : Part) → goal ≤ 9 → run_within most goal (wants []) ts ≡ Some s → finish goal s ≡ None → ¬ (Spells most goal ts v)
no_value most goal ts s v g e n sp =
    let x = spells_ends most goal ts v g sp in
    let same : x.state ≡ s = some_is (sym x.runs ∙ e) in
    let z : finish goal x.state ≡ None = ap (finish goal) same ∙ n in
    absurd (cc (x.ends, z))

-- tokens that a value begins with
pub first_step : (goal : ℕ) (t : Token) (ts : List Token) (v : Part) → goal ≤ 9 → Reads goal (t ∷ ts) v → (s : State) × (step goal (wants []) t ≡ Some s)
unfolding run
first_step goal t ts v g r =
    let c = complete goal (t ∷ ts) v g r in
    let q = chained (λ s. run goal s ts) (step goal (wants []) t) c.state c.runs in
    (q.0, q.1)

-- a value has tokens
pub some_tokens : (goal : ℕ) (v : Part) → goal ≤ 9 → ¬ (Reads goal [] v)
unfolding run
some_tokens goal v g r =
    let c = complete goal [] v g r in
    let same : wants [] ≡ c.state = some_is c.runs in
    let z : None ≡ Some v = ap (finish goal) same ∙ c.ends in
    absurd (cc)

-- as many nests as tokens
pub nests_length : (goal : ℕ) (t : Tree) → goal ≤ 9 → IsFormed [] t → IsTrue (fits goal (level t)) → length (nests 0 t) ≡ length (text t)
nests_length goal t g f k =
    let r = reads t goal [] g f (fits_of goal (level t) k).0 in
    ap length (sym r.goes.nests_are) ∙ trace_length goal (wants []) (text t) r.state r.goes.runs
