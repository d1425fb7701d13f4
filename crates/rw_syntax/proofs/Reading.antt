-- What is spelled is read, and the machine's nest is that of the tree.
use Rattle.std.proofs.Common.{◌≡◌, ℕ, suc, ◌≤◌, ◌<◌, Bool, true, false, cond, List, [], ◌∷◌, ◌++◌, length, Option, Some, None, IsTrue, refl, sym, ap, ◌∙◌, arith, true≢false}
use Rattle.std.specs.Prelude.{leb, option_and_then}
use Rattle.std.proofs.lemmas.Bool.Decides.{nat_tests}
use Rattle.rw_terms.specs.declared.term.Sort.{Sort}
use Rattle.rw_terms.specs.declared.term.Sort.TheVariants as sorts
use Rattle.rw_syntax.specs.declared.token.Infix.{Infix}
use Rattle.rw_syntax.specs.declared.token.Infix.TheVariants as infixes
use Rattle.rw_syntax.specs.declared.token.Quantifier.{Quantifier}
use Rattle.rw_syntax.specs.declared.token.Token.{Token}
use Rattle.rw_syntax.specs.declared.token.Token.TheVariants as tokens
use Rattle.rw_syntax.specs.declared.frame.Part.{Part}
use Rattle.rw_syntax.specs.declared.frame.Binder.{Binder}
use Rattle.rw_syntax.specs.declared.frame.Binder.TheVariants as binders
use Rattle.rw_syntax.specs.declared.frame.Prefix.{Prefix}
use Rattle.rw_syntax.specs.declared.frame.Prefix.TheVariants as prefixes
use Rattle.rw_syntax.specs.declared.frame.Head.{Head}
use Rattle.rw_syntax.specs.declared.frame.Head.TheVariants as heads
use Rattle.rw_syntax.specs.declared.frame.Frame.{Frame}
use Rattle.rw_syntax.specs.declared.frame.Frame.TheVariants as frames
use Rattle.rw_syntax.specs.declared.frame.Partial.TheVariants as partials
use Rattle.rw_syntax.specs.Grammar.{Leaf, number, word, initial, place, truth, leaf_level, leaf_token, leaf_part, Tree, leaf, prefix, binary, group, index, call, Trees, none, more, count, level, level_of, left_of, right_of, prefix_level, head_level, shut, fits, inner, is_known, is_binder, is_sort, is_prefix, takes, IsFormed, AreFormed, text, texts, prefix_text, head_token, part, values, read_at, applied, adds, chain, Reads}
use Rattle.rw_syntax.specs.Machine.{State, wants, partial, worded, has, hole, scope, frame_level, frame_hole, frame_chain, made, ended, begun, leaf_read, begin, extended, closed, indexed, expects, listed, go_on, is_open, word_part, step, run, whole, finish_with, finish}
use Rattle.rw_syntax.proofs.Stands.{may_have}
use Rattle.rw_syntax.proofs.Choices.{some_is, fits_of, shut_formula}
use Rattle.rw_syntax.proofs.Operators.{facts, hole_most}
use Rattle.std.proofs.Common.{add-zero}
use Rattle.rw_syntax.specs.Grammar.{binder_token, sort_text, each, nests, each_nests}
use Rattle.rw_syntax.specs.Machine.{nest, stack_nest, from_state, trace}
use Rattle.std.proofs.lemmas.Bool.{leb-true, le-leb, lt-leb, leb-false}
use Rattle.rw_syntax.proofs.After.{values_length}
use Rattle.rw_syntax.proofs.Operators.{looser, right_bound, left_room, level_least}

-- the machine goes from one state to another over tokens, and these are the nests behind them
pub record Goes (goal : ℕ) (m : State) (ts : List Token) (s : State) (ns : List ℕ) : Type 0 where
  pub runs : run goal m ts ≡ Some s
  pub nests_are : trace goal m ts ≡ ns

pub run_append : (goal : ℕ) (m : State) (xs ys : List Token) → run goal m (xs ++ ys) ≡ option_and_then (λ s. run goal s ys) (run goal m xs)
unfolding run
run_append goal m [] ys = refl
run_append goal m (t ∷ xs) ys = go (step goal m t) (λ s. run_append goal s xs ys)
  where
    go : (o : Option State) → ((s : State) → run goal s (xs ++ ys) ≡ option_and_then (λ s2. run goal s2 ys) (run goal s xs)) →
        option_and_then (λ s. run goal s (xs ++ ys)) o ≡ option_and_then (λ s. run goal s ys) (option_and_then (λ s. run goal s xs) o)
    go None h = refl
    go (Some s) h = h s

pub trace_append : (goal : ℕ) (m : State) (xs ys : List Token) (s : State) → run goal m xs ≡ Some s → trace goal m (xs ++ ys) ≡ trace goal m xs ++ trace goal s ys
unfolding run trace
trace_append goal m [] ys s e = ap (λ x. trace goal x ys) (some_is e)
trace_append goal m (t ∷ xs) ys s e = go (step goal m t) e (λ x. trace_append goal x xs ys s)
  where
    go : (o : Option State) → option_and_then (λ s2. run goal s2 xs) o ≡ Some s → ((x : State) → run goal x xs ≡ Some s → trace goal x (xs ++ ys) ≡ trace goal x xs ++ trace goal s ys) →
        from_state (λ s2. nest s2 ∷ trace goal s2 (xs ++ ys)) o ≡ from_state (λ s2. nest s2 ∷ trace goal s2 xs) o ++ trace goal s ys
    go None k h = absurd (cc)
    go (Some x) k h = ap (λ l. nest x ∷ l) (h x k)

goes_none : (goal : ℕ) (m : State) → Goes goal m [] m []
unfolding run trace
goes_none goal m = record { runs = refl; nests_are = refl }

pub run_one : (goal : ℕ) (m : State) (t : Token) (s : State) → step goal m t ≡ Some s → run goal m (t ∷ []) ≡ Some s
unfolding run
run_one goal m t s e = ap (option_and_then (λ x. run goal x [])) e

pub goes_step : {goal : ℕ} {m : State} {t : Token} {s : State} {ts : List Token} {s2 : State} {ns : List ℕ} → step goal m t ≡ Some s → Goes goal s ts s2 ns → Goes goal m (t ∷ ts) s2 (nest s ∷ ns)
unfolding run trace
goes_step {goal = goal} {m = m} {t = t} {s = s} {ts = ts} {s2 = s2} {ns = ns} e g = record { runs = ap (option_and_then (λ x. run goal x ts)) e ∙ g.runs; nests_are = ap (from_state (λ x. nest x ∷ trace goal x ts)) e ∙ ap (λ l. nest s ∷ l) g.nests_are }

goes_one : {goal : ℕ} {m : State} {t : Token} {s : State} → step goal m t ≡ Some s → Goes goal m (t ∷ []) s (nest s ∷ [])
goes_one {goal = goal} {m = m} {t = t} {s = s} e = goes_step e (goes_none goal s)

pub goes_append : {goal : ℕ} {m : State} {xs : List Token} {s : State} {ns : List ℕ} {ys : List Token} {s2 : State} {ks : List ℕ} → Goes goal m xs s ns → Goes goal s ys s2 ks → Goes goal m (xs ++ ys) s2 (ns ++ ks)
goes_append {goal = goal} {m = m} {xs = xs} {s = s} {ns = ns} {ys = ys} {s2 = s2} {ks = ks} a b = record {
  runs = run_append goal m xs ys ∙ ap (option_and_then (λ x. run goal x ys)) a.runs ∙ b.runs;
  nests_are = trace_append goal m xs ys s a.runs ∙ ap (λ l. l ++ trace goal s ys) a.nests_are ∙ ap (λ l. ns ++ l) b.nests_are;
}

nests_as : {goal : ℕ} {m : State} {ts : List Token} {s : State} {ns ks : List ℕ} → ns ≡ ks → Goes goal m ts s ns → Goes goal m ts s ks
nests_as e g = record { runs = g.runs; nests_are = g.nests_are ∙ e }

-- the state behind a tree's tokens: ending what is open leads to the tree
pub record Behind (goal : ℕ) (fs : List Frame) (t : Tree) (s : State) : Type 0 where
  pub v : Part
  pub n : ℕ
  pub c : ℕ
  pub over : List Frame
  pub steps : (k : Token) → is_open k ≡ false → step goal s k ≡ go_on goal v n c over k
  pub finishes : finish goal s ≡ finish_with goal v n c over
  pub ends : (bound : ℕ) → 0 < bound → bound ≤ level t → ended bound v n c over ≡ ended bound (part (scope fs) t) (level t) (chain t) fs

pub record Read (goal : ℕ) (fs : List Frame) (t : Tree) : Type 0 where
  pub state : State
  pub goes : Goes goal (wants fs) (text t) state (nests (stack_nest fs) t)
  pub behind : Behind goal fs t state

-- nothing ends where the top is looser
ended_none : (goal bound : ℕ) (v : Part) (n c : ℕ) (fs : List Frame) (wanted : ℕ) → hole goal fs ≤ wanted → ((f : Frame) → frame_hole f ≤ wanted → frame_level f < bound) → ended bound v n c fs ≡ Some (has v n c fs)
unfolding ended
ended_none goal bound v n c [] wanted h k = refl
ended_none goal bound v n c (f ∷ fs) wanted h k = ap (λ b. cond b (cond (fits (frame_hole f) n) (ended bound (made f v) (frame_level f) (frame_chain f) fs) None) (Some (has v n c (f ∷ fs)))) (lt-leb bound (frame_level f) (k f h))

-- one frame ends
ended_one : (bound : ℕ) (v : Part) (n c : ℕ) (f : Frame) (fs : List Frame) → bound ≤ frame_level f → IsTrue (fits (frame_hole f) n) → ended bound v n c (f ∷ fs) ≡ ended bound (made f v) (frame_level f) (frame_chain f) fs
unfolding ended
ended_one bound v n c f fs h k =
    ap (λ b. cond b (cond (fits (frame_hole f) n) (ended bound (made f v) (frame_level f) (frame_chain f) fs) None) (Some (has v n c (f ∷ fs)))) (le-leb bound (frame_level f) h)
    ∙ ap (λ b. cond b (ended bound (made f v) (frame_level f) (frame_chain f) fs) None) k

-- a bracket stays
bracket_stays : (bound : ℕ) (v : Part) (n c : ℕ) (f : Frame) (fs : List Frame) → 0 < bound → frame_level f ≡ 0 → ended bound v n c (f ∷ fs) ≡ Some (has v n c (f ∷ fs))
unfolding ended
bracket_stays bound v n c f fs h z = ap (λ b. cond b (cond (fits (frame_hole f) n) (ended bound (made f v) (frame_level f) (frame_chain f) fs) None) (Some (has v n c (f ∷ fs)))) (lt-leb bound (frame_level f) (omega arith))

nothing_ends : (bound : ℕ) (v : Part) (n c : ℕ) → ended bound v n c [] ≡ Some (has v n c [])
unfolding ended
nothing_ends bound v n c = refl

frame_most : (f : Frame) → frame_level f < 9
frame_most (frames.Prefix prefixes.Minus) = omega arith
frame_most (frames.Prefix prefixes.Not) = omega arith
frame_most (frames.Prefix (prefixes.Bind q b s)) = omega arith
frame_most (frames.Infix op u c) = let a = (facts op).most in omega arith
frame_most (frames.Group only) = omega arith
frame_most (frames.Index u c) = omega arith
frame_most (frames.Call h us) = omega arith

-- nothing ends before an index
primary_stays : (v : Part) (n c : ℕ) (fs : List Frame) → ended 9 v n c fs ≡ Some (has v n c fs)
unfolding ended
primary_stays v n c [] = refl
primary_stays v n c (f ∷ fs) = ap (λ b. cond b (cond (fits (frame_hole f) n) (ended 9 (made f v) (frame_level f) (frame_chain f) fs) None) (Some (has v n c (f ∷ fs)))) (lt-leb 9 (frame_level f) (frame_most f))

-- an operand that is read at once
at_once : (goal : ℕ) (fs : List Frame) (t : Tree) → Goes goal (wants fs) (text t) (has (part (scope fs) t) (level t) (chain t) fs) (nests (stack_nest fs) t) → Read goal fs t
at_once goal fs t g = record {
  state = has (part (scope fs) t) (level t) (chain t) fs;
  goes = g;
  behind = record { v = part (scope fs) t; n = level t; c = chain t; over = fs; steps = λ k e. refl; finishes = refl; ends = λ bound p q. refl };
}

leaf_steps : (goal : ℕ) (fs : List Frame) (l : Leaf) → IsTrue (is_known (scope fs) l) → hole goal fs ≤ leaf_level l → leaf_read (hole goal fs) (scope fs) l fs ≡ Some (has (leaf_part (scope fs) l) (leaf_level l) 0 fs)
leaf_steps goal fs l k h =
    let x = has (leaf_part (scope fs) l) (leaf_level l) 0 fs in
    ap (λ b. cond b (begun (hole goal fs) (leaf_level l) x) None) k ∙ ap (λ b. cond b (Some x) None) (le-leb (hole goal fs) (leaf_level l) h)

leaf_goes : (goal : ℕ) (fs : List Frame) (l : Leaf) → begin (hole goal fs) (scope fs) fs (leaf_token l) ≡ leaf_read (hole goal fs) (scope fs) l fs → IsTrue (is_known (scope fs) l) → hole goal fs ≤ leaf_level l → Read goal fs (leaf l)
leaf_goes goal fs l st k h =
    let one : step goal (wants fs) (leaf_token l) ≡ Some (has (leaf_part (scope fs) l) (leaf_level l) 0 fs) = st ∙ leaf_steps goal fs l k h in
    at_once goal fs (leaf l) (nests_as (ap (λ d. d ∷ []) (add-zero (stack_nest fs))) (goes_one one))

read_leaf : (goal : ℕ) (fs : List Frame) (l : Leaf) → IsTrue (is_known (scope fs) l) → hole goal fs ≤ leaf_level l → Read goal fs (leaf l)
read_leaf goal fs (number n) k h = leaf_goes goal fs (number n) refl k h
read_leaf goal fs (initial w) k h = leaf_goes goal fs (initial w) refl k h
read_leaf goal fs (place n) k h = leaf_goes goal fs (place n) refl k h
read_leaf goal fs (truth b) k h = leaf_goes goal fs (truth b) refl k h
read_leaf goal fs (word w) k h = record {
  state = worded w fs;
  goes = goes_one refl;
  behind = record {
    v = word_part w fs;
    n = 9;
    c = 0;
    over = fs;
    steps = λ t e. ap (λ b. cond b (begun (hole goal fs) (head_level (heads.Named w)) (wants (frames.Call (heads.Named w) [] ∷ fs))) (go_on goal (word_part w fs) 9 0 fs t)) e;
    finishes = refl;
    ends = λ bound p q. refl;
  };
}

begun_is : (outer n : ℕ) (x : State) → outer ≤ n → begun outer n x ≡ Some x
begun_is outer n x h = ap (λ b. cond b (Some x) None) (le-leb outer n h)

cond_true : (a b : Bool) → cond a b false ≡ true → (a ≡ true) × (b ≡ true)
cond_true true b e = (refl, e)
cond_true false b e = absurd (true≢false (sym e))

-- the tokens of a prefix

binder_goes : (goal : ℕ) (fs : List Frame) (q : Quantifier) (b : Binder) → is_binder b ≡ true → step goal (partial (partials.Naming q) fs) (binder_token b) ≡ Some (partial (partials.Named q b) fs)
binder_goes goal fs q (binders.Named w) e = ap (λ x. cond x (Some (partial (partials.Named q (binders.Named w)) fs)) None) e
binder_goes goal fs q (binders.Numbered n) e = refl

sort_goes : (goal : ℕ) (fs : List Frame) (q : Quantifier) (b : Binder) (o : Sort) → is_sort o ≡ true →
    Goes goal (partial (partials.Sorting q b) fs) (sort_text o ++ tokens.Dot ∷ []) (wants (frames.Prefix (prefixes.Bind q b o) ∷ fs)) (each (suc (stack_nest fs)) (sort_text o ++ tokens.Dot ∷ []))
sort_goes goal fs q b sorts.Int e =
    goes_step {goal = goal} {m = partial (partials.Sorting q b) fs} {t = tokens.Int} {s = partial (partials.Sorted q b sorts.Int) fs} refl (goes_one {goal = goal} {m = partial (partials.Sorted q b sorts.Int) fs} {t = tokens.Dot} refl)
sort_goes goal fs q b (sorts.Array n) e =
    goes_step {goal = goal} {m = partial (partials.Sorting q b) fs} {t = tokens.Array} {s = partial (partials.Measuring q b) fs} refl
    (goes_step {goal = goal} {m = partial (partials.Measuring q b) fs} {t = tokens.Number n} {s = partial (partials.Sorted q b (sorts.Array n)) fs} (ap (λ x. cond x (Some (partial (partials.Sorted q b (sorts.Array n)) fs)) None) e)
    (goes_one {goal = goal} {m = partial (partials.Sorted q b (sorts.Array n)) fs} {t = tokens.Dot} refl))

prefix_goes : (goal : ℕ) (fs : List Frame) (p : Prefix) → IsTrue (is_prefix p) → hole goal fs ≤ prefix_level p → Goes goal (wants fs) (prefix_text p) (wants (frames.Prefix p ∷ fs)) (each (suc (stack_nest fs)) (prefix_text p))
prefix_goes goal fs prefixes.Minus v h = goes_one {goal = goal} {m = wants fs} {t = tokens.Infix infixes.Minus} (begun_is (hole goal fs) 8 (wants (frames.Prefix prefixes.Minus ∷ fs)) h)
prefix_goes goal fs prefixes.Not v h = goes_one {goal = goal} {m = wants fs} {t = tokens.Not} (begun_is (hole goal fs) 4 (wants (frames.Prefix prefixes.Not ∷ fs)) h)
prefix_goes goal fs (prefixes.Bind q b o) v h =
    let k = cond_true (is_binder b) (is_sort o) v in
    goes_step {goal = goal} {m = wants fs} {t = tokens.Quantifier q} {s = partial (partials.Naming q) fs} (begun_is (hole goal fs) 1 (partial (partials.Naming q) fs) h)
    (goes_step {goal = goal} {m = partial (partials.Naming q) fs} {t = binder_token b} {s = partial (partials.Named q b) fs} (binder_goes goal fs q b k.0)
    (goes_step {goal = goal} {m = partial (partials.Named q b) fs} {t = tokens.Colon} {s = partial (partials.Sorting q b) fs} refl (sort_goes goal fs q b o k.1)))

read_prefix : (goal : ℕ) (fs : List Frame) (p : Prefix) (t : Tree) → IsTrue (is_prefix p) → hole goal fs ≤ prefix_level p → IsTrue (fits (prefix_level p) (level t)) → Read goal (frames.Prefix p ∷ fs) t → Read goal fs (prefix p t)
read_prefix goal fs p t v h fit r =
    let least = (fits_of (prefix_level p) (level t) fit).0 in
    record {
      state = r.state;
      goes = goes_append (prefix_goes goal fs p v h) r.goes;
      behind = record {
        v = r.behind.v;
        n = r.behind.n;
        c = r.behind.c;
        over = r.behind.over;
        steps = r.behind.steps;
        finishes = r.behind.finishes;
        ends = λ bound z q. r.behind.ends bound z (omega arith) ∙ ended_one bound (part (inner p (scope fs)) t) (level t) (chain t) (frames.Prefix p) fs q fit;
      };
    }

-- an operator behind its left operand
read_operator : (goal : ℕ) (fs : List Frame) (op : Infix) (l : Tree) → IsTrue (fits (left_of op) (level l)) → hole goal fs ≤ level_of op → (r : Read goal fs l) → step goal r.state (tokens.Infix op) ≡ Some (wants (frames.Infix op (part (scope fs) l) (adds op (level l) (chain l)) ∷ fs))
read_operator goal fs op l fit h r =
    let least : 0 < left_of op = let a = (facts op).least in omega arith in
    let b = r.behind in
    let x = wants (frames.Infix op (part (scope fs) l) (adds op (level l) (chain l)) ∷ fs) in
    b.steps (tokens.Infix op) refl
    ∙ ap (option_and_then (extended goal op)) (b.ends (left_of op) least (fits_of (left_of op) (level l) fit).0 ∙ ended_none goal (left_of op) (part (scope fs) l) (level l) (chain l) fs (level_of op) h (looser op))
    ∙ ap (λ y. cond y (begun (hole goal fs) (level_of op) x) None) fit
    ∙ begun_is (hole goal fs) (level_of op) x h

read_binary : (goal : ℕ) (fs : List Frame) (op : Infix) (l r : Tree) → IsTrue (fits (left_of op) (level l)) → IsTrue (fits (right_of op) (level r)) → hole goal fs ≤ level_of op →
    Read goal fs l → Read goal (frames.Infix op (part (scope fs) l) (adds op (level l) (chain l)) ∷ fs) r → Read goal fs (binary op l r)
read_binary goal fs op l r fl fr h rl rr =
    let f = frames.Infix op (part (scope fs) l) (adds op (level l) (chain l)) in
    let least = (fits_of (right_of op) (level r) fr).0 in
    record {
      state = rr.state;
      goes = goes_append rl.goes (goes_step (read_operator goal fs op l fl h rl) rr.goes);
      behind = record {
        v = rr.behind.v;
        n = rr.behind.n;
        c = rr.behind.c;
        over = rr.behind.over;
        steps = rr.behind.steps;
        finishes = rr.behind.finishes;
        ends = λ bound p q. rr.behind.ends bound p (right_bound op bound (level r) q least) ∙ ended_one bound (part (scope fs) r) (level r) (chain r) f fs q fr;
      };
    }

-- a bracket and what closes it
read_close : (goal : ℕ) (f : Frame) (fs : List Frame) (t : Tree) (k : Token) (then_ : State → Option State) (s : State) → frame_level f ≡ 0 → is_open k ≡ false →
    ((v : Part) (n c : ℕ) (over : List Frame) → go_on goal v n c over k ≡ option_and_then then_ (ended 1 v n c over)) →
    then_ (has (part (scope (f ∷ fs)) t) (level t) (chain t) (f ∷ fs)) ≡ Some s → (r : Read goal (f ∷ fs) t) → step goal r.state k ≡ Some s
read_close goal f fs t k then_ s z o g e r =
    let b = r.behind in
    b.steps k o ∙ g b.v b.n b.c b.over ∙ ap (option_and_then then_) (b.ends 1 (omega arith) (level_least t) ∙ bracket_stays 1 (part (scope (f ∷ fs)) t) (level t) (chain t) f fs (omega arith) z) ∙ e

read_group : (goal : ℕ) (fs : List Frame) (t : Tree) → Read goal (frames.Group (leb 6 (hole goal fs)) ∷ fs) t → Read goal fs (group t)
read_group goal fs t r =
    let f = frames.Group (leb 6 (hole goal fs)) in
    let s = has (part (scope fs) t) (shut (level t)) 0 fs in
    at_once goal fs (group t) (nests_as (ap (λ d. suc (stack_nest fs) ∷ (nests (suc (stack_nest fs)) t ++ d ∷ [])) (add-zero (stack_nest fs)))
    (goes_step {goal = goal} {m = wants fs} {t = tokens.Open} {s = wants (f ∷ fs)} refl (goes_append r.goes (goes_one (read_close goal f fs t tokens.Close closed s refl refl (λ v n c over. refl) refl r)))))

abbrev squared : State → Option State
squared (has v n c over) = cond (fits 9 n) (Some (wants (frames.Index v (suc c) ∷ over))) None
squared _ = None

opens : (goal : ℕ) (fs : List Frame) (t : Tree) (s : State) → IsTrue (fits 9 (level t)) → (v : Part) (n c : ℕ) (over : List Frame) → step goal s tokens.OpenSquare ≡ go_on goal v n c over tokens.OpenSquare → ended 9 v n c over ≡ ended 9 (part (scope fs) t) (level t) (chain t) fs →
    step goal s tokens.OpenSquare ≡ Some (wants (frames.Index (part (scope fs) t) (suc (chain t)) ∷ fs))
opens goal fs t s ft v n c over e z =
    let same : has v n c over ≡ has (part (scope fs) t) (level t) (chain t) fs = some_is (sym (primary_stays v n c over) ∙ z ∙ primary_stays (part (scope fs) t) (level t) (chain t) fs) in
    e ∙ ap squared same ∙ ap (λ b. cond b (Some (wants (frames.Index (part (scope fs) t) (suc (chain t)) ∷ fs))) None) ft

read_index : (goal : ℕ) (fs : List Frame) (t u : Tree) → IsTrue (fits 9 (level t)) → IsTrue (fits 6 (level u)) → (rt : Read goal fs t) → Read goal (frames.Index (part (scope fs) t) (suc (chain t)) ∷ fs) u → Read goal fs (index t u)
read_index goal fs t u ft fu rt ru =
    let f = frames.Index (part (scope fs) t) (suc (chain t)) in
    let s = has (read_at (part (scope fs) t) (part (scope fs) u)) 9 (suc (chain t)) fs in
    at_once goal fs (index t u) (goes_append rt.goes (goes_step (opens goal fs t rt.state ft rt.behind.v rt.behind.n rt.behind.c rt.behind.over (rt.behind.steps tokens.OpenSquare refl) (rt.behind.ends 9 (omega arith) (fits_of 9 (level t) ft).0)) (goes_append ru.goes (goes_one (read_close goal f fs u tokens.CloseSquare indexed s refl refl (λ v n c over. refl) refl ru)))))

-- a head and its parenthesis
head_goes : (goal : ℕ) (fs : List Frame) (h : Head) → hole goal fs ≤ head_level h → Goes goal (wants fs) (head_token h ∷ tokens.Open ∷ []) (wants (frames.Call h [] ∷ fs)) (stack_nest fs ∷ suc (stack_nest fs) ∷ [])
head_goes goal fs heads.Put r = goes_step {goal = goal} {m = wants fs} {t = tokens.Put} {s = partial partials.Putting fs} refl (goes_one {goal = goal} {m = partial partials.Putting fs} {t = tokens.Open} refl)
head_goes goal fs (heads.Named w) r = goes_step {goal = goal} {m = wants fs} {t = tokens.Word w} {s = worded w fs} refl (goes_one {goal = goal} {m = worded w fs} {t = tokens.Open} (begun_is (hole goal fs) (head_level (heads.Named w)) (wants (frames.Call (heads.Named w) [] ∷ fs)) r))

may_be_less : (h : Head) (n : ℕ) → may_have h (suc n) ≡ true → (expects h n ≡ true) × (may_have h n ≡ true)
may_be_less heads.Put n e = let q : suc n ≤ 2 = leb-true (suc n) 2 e in (grind (arith, nat_tests), le-leb n 2 (omega arith))
may_be_less (heads.Named w) n e = (refl, refl)

takes_may : (h : Head) (n : ℕ) → takes h n ≡ true → may_have h n ≡ true
takes_may heads.Put n e = grind (arith, nat_tests)
takes_may (heads.Named w) n e = refl

read_comma : (goal : ℕ) (fs : List Frame) (h : Head) (ts : Trees) (t : Tree) → expects h (count ts) ≡ true → (r : Read goal (frames.Call h (values (scope fs) ts) ∷ fs) t) → step goal r.state tokens.Comma ≡ Some (wants (frames.Call h (values (scope fs) (more ts t)) ∷ fs))
read_comma goal fs h ts t x r =
    let us = values (scope fs) ts in
    let s = wants (frames.Call h (values (scope fs) (more ts t)) ∷ fs) in
    read_close goal (frames.Call h us) fs t tokens.Comma listed s refl refl (λ v n c over. refl) (ap (λ b. cond b (Some s) None) (ap (expects h) (values_length (scope fs) ts) ∙ x)) r

group_hole : (outer n : ℕ) → 1 ≤ n → outer ≤ shut n → frame_hole (frames.Group (leb 6 outer)) ≤ n
group_hole outer n l h = go (leb 6 outer) refl (leb 6 n) refl
  where
    go : (b : Bool) → leb 6 outer ≡ b → (c : Bool) → leb 6 n ≡ c → cond b 6 1 ≤ n
    go false e c k = l
    go true e true k = leb-true 6 n k
    go true e false k = let q = leb-true 6 outer e in let w = leb-false 6 n k in let z = shut_formula n w in absurd (omega arith)

mutual
  pub reads : (t : Tree) (goal : ℕ) (fs : List Frame) → goal ≤ 9 → IsFormed (scope fs) t → hole goal fs ≤ level t → Read goal fs t
  reads (leaf l) goal fs g f h = read_leaf goal fs l f h
  reads (prefix p t) goal fs g f h = read_prefix goal fs p t f.0 h f.1 (reads t goal (frames.Prefix p ∷ fs) g f.2 (fits_of (prefix_level p) (level t) f.1).0)
  reads (binary op l r) goal fs g f h =
      read_binary goal fs op l r f.0 f.1 h (reads l goal fs g f.2 (left_room op (hole goal fs) (level l) h (fits_of (left_of op) (level l) f.0).0)) (reads r goal (frames.Infix op (part (scope fs) l) (adds op (level l) (chain l)) ∷ fs) g f.3 (fits_of (right_of op) (level r) f.1).0)
  reads (group t) goal fs g f h = read_group goal fs t (reads t goal (frames.Group (leb 6 (hole goal fs)) ∷ fs) g f (group_hole (hole goal fs) (level t) (level_least t) h))
  reads (index t u) goal fs g f h =
      let q = (fits_of 9 (level t) f.0).0 in
      let o = hole_most goal fs g in
      read_index goal fs t u f.0 f.1 (reads t goal fs g f.2 (omega arith)) (reads u goal (frames.Index (part (scope fs) t) (suc (chain t)) ∷ fs) g f.3 (fits_of 6 (level u) f.1).0)
  reads (call hd ts t) goal fs g f h =
      let us = values (scope fs) ts in
      let s = has (applied hd us (part (scope fs) t)) (head_level hd) 0 fs in
      let r = reads t goal (frames.Call hd us ∷ fs) g f.3 (fits_of 6 (level t) f.2).0 in
      let enough : takes hd (length us) ≡ true = ap (takes hd) (values_length (scope fs) ts) ∙ f.0 in
      at_once goal fs (call hd ts t) (nests_as (ap (λ d. stack_nest fs ∷ suc (stack_nest fs) ∷ (each_nests (suc (stack_nest fs)) ts ++ (nests (suc (stack_nest fs)) t ++ d ∷ []))) (add-zero (stack_nest fs)))
      (goes_append (head_goes goal fs hd h) (goes_append (reads_all ts goal fs hd g f.1 (takes_may hd (count ts) f.0)) (goes_append r.goes (goes_one (read_close goal (frames.Call hd us) fs t tokens.Close closed s refl refl (λ v n c over. refl) (ap (λ b. cond b (Some s) None) enough) r))))))

  pub reads_all : (ts : Trees) (goal : ℕ) (fs : List Frame) (h : Head) → goal ≤ 9 → AreFormed (scope fs) ts → may_have h (count ts) ≡ true → Goes goal (wants (frames.Call h [] ∷ fs)) (texts ts) (wants (frames.Call h (values (scope fs) ts) ∷ fs)) (each_nests (suc (stack_nest fs)) ts)
  reads_all none goal fs h g f k = goes_none goal (wants (frames.Call h [] ∷ fs))
  reads_all (more ts t) goal fs h g f k =
      let m = may_be_less h (count ts) k in
      let r = reads t goal (frames.Call h (values (scope fs) ts) ∷ fs) g f.2 (fits_of 6 (level t) f.1).0 in
      goes_append (reads_all ts goal fs h g f.0 m.1) (goes_append r.goes (goes_one (read_comma goal fs h ts t m.0 r)))

-- what is spelled is read whole
pub record Complete (goal : ℕ) (ts : List Token) (v : Part) : Type 0 where
  pub state : State
  pub runs : run goal (wants []) ts ≡ Some state
  pub ends : finish goal state ≡ Some v

pub complete : (goal : ℕ) (ts : List Token) (v : Part) → goal ≤ 9 → Reads goal ts v → Complete goal ts v
complete goal ts v g sp =
    let t = sp.tree in
    let r = reads t goal [] g sp.formed (fits_of goal (level t) sp.fit).0 in
    let b = r.behind in
    record {
      state = r.state;
      runs = ap (run goal (wants [])) (sym sp.written) ∙ r.goes.runs;
      ends = b.finishes ∙ ap (option_and_then (whole goal)) (b.ends 1 (omega arith) (level_least t) ∙ nothing_ends 1 (part [] t) (level t) (chain t)) ∙ ap (λ x. cond x (Some (part [] t)) None) sp.fit ∙ ap Some sp.value;
    }
