-- What the machine reads behind an operand stands on its stack.
use Rattle.std.proofs.Common.{◌≡◌, ℕ, suc, ◌+◌, ◌≤◌, ◌<◌, Bool, true, false, List, [], ◌∷◌, ◌++◌, length, Some, IsTrue, refl, sym, ap, ◌∙◌, subst, arith, append_assoc, append-nil, length-append}
use Rattle.std.specs.Prelude.{leb}
use Rattle.std.proofs.lemmas.Bool.Decides.{nat_tests}
use Rattle.std.proofs.lemmas.Bool.{le-leb, leb-false}
use Rattle.rw_syntax.specs.declared.token.Infix.{Infix}
use Rattle.rw_syntax.specs.declared.token.Token.{Token}
use Rattle.rw_syntax.specs.declared.token.Token.TheVariants as tokens
use Rattle.rw_syntax.specs.declared.frame.Part.{Part}
use Rattle.rw_syntax.specs.declared.frame.Binder.{Binder}
use Rattle.rw_syntax.specs.declared.frame.Head.{Head}
use Rattle.rw_syntax.specs.declared.frame.Head.TheVariants as heads
use Rattle.rw_syntax.specs.declared.frame.Frame.{Frame}
use Rattle.rw_syntax.specs.declared.frame.Frame.TheVariants as frames
use Rattle.rw_syntax.specs.Grammar.{word, leaf, group, index, call, Trees, none, more, count, level, level_of, left_of, head_level, shut, fits, takes, text, texts, head_token, part, values, read_at, applied, as_term, adds, chain, Reads}
use Rattle.rw_syntax.specs.Machine.{State, wants, partial, worded, has, hole, scope, frame_hole, ended, begun, extended, closed_frame, closed, indexed_frame, indexed, expects, listed_frame, listed, go_on, word_part, step, run, whole, finish_with, finish}
use Rattle.rw_syntax.proofs.Stands.{HasLeft, HasBase, HasTerms, may_have, Stands, Has, Words, StateStands}
use Rattle.rw_syntax.proofs.Choices.{guarded, chained, some_is, fits_to, shut_term, shut_least}
use Rattle.rw_syntax.proofs.Operators.{facts, hole_most}
use Rattle.rw_syntax.proofs.Sound.{spliced_as, ended_stands, begun_stands, begin_stands, partial_stands}

extended_stands : (goal : ℕ) (op : Infix) (m : State) (ts : List Token) (s : State) → StateStands goal m ts → extended goal op m ≡ Some s → StateStands goal s (ts ++ tokens.Infix op ∷ [])
extended_stands goal op (has v n c fs) ts s h e =
    let x = wants (frames.Infix op v (adds op n c) ∷ fs) in
    let g = guarded (fits (left_of op) n) (begun (hole goal fs) (level_of op) x) s e in
    let own = text h.tree ++ tokens.Infix op ∷ [] in
    let l : HasLeft (scope fs) op v (adds op n c) own = record { tree = h.tree; formed = h.formed; fit = subst (λ x. IsTrue (fits (left_of op) x)) (sym h.height) g.0; value = h.value; depth = ap (λ x. adds op x (chain h.tree)) h.height ∙ ap (λ x. adds op n x) h.depth; written = refl } in
    begun_stands goal (hole goal fs) (level_of op) x (ts ++ tokens.Infix op ∷ []) s (λ r. (h.before, own, ap (λ x. x ++ tokens.Infix op ∷ []) h.written ∙ append_assoc h.before (text h.tree) (tokens.Infix op ∷ []), h.stands, (l, r))) g.1
extended_stands goal op (wants fs) ts s h e = absurd (cc)
extended_stands goal op (partial p fs) ts s h e = absurd (cc)
extended_stands goal op (worded w fs) ts s h e = absurd (cc)

pub group_room : (outer n : ℕ) (only : Bool) → only ≡ leb 6 outer → frame_hole (frames.Group only) ≤ n → outer ≤ 9 → outer ≤ shut n
group_room outer n true e h o = let z = shut_term n h in omega arith
group_room outer n false e h o = let q = leb-false 6 outer (sym e) in let z = shut_least n in omega arith

pub values_length : (env : List Binder) (ts : Trees) → length (values env ts) ≡ count ts
values_length env none = refl
values_length env (more ts t) = length-append (values env ts) (as_term (part env t) ∷ []) ∙ ap (λ n. n + 1) (values_length env ts) ∙ omega arith

expects_more : (h : Head) (n m : ℕ) → n ≡ m → expects h n ≡ true → may_have h (suc m) ≡ true
expects_more heads.Put n m z e = let q : m < 2 = grind (arith, nat_tests) in le-leb (suc m) 2 (omega arith)
expects_more (heads.Named w) n m z e = refl

pub fit_term : (n m : ℕ) → 6 ≤ n → m ≡ n → IsTrue (fits 6 m)
fit_term n m h e = fits_to 6 m (omega arith) (λ x. absurd (omega arith))

closed_frame_stands : (goal : ℕ) (v : Part) (n c : ℕ) (f : Frame) (fs : List Frame) (ts : List Token) (s : State) → goal ≤ 9 → Has goal v n c (f ∷ fs) ts → closed_frame v n f fs ≡ Some s → StateStands goal s (ts ++ tokens.Close ∷ [])
closed_frame_stands goal v n c (frames.Prefix p) fs ts s g h e = absurd (cc)
closed_frame_stands goal v n c (frames.Infix op u k) fs ts s g h e = absurd (cc)
closed_frame_stands goal v n c (frames.Index u k) fs ts s g h e = absurd (cc)
closed_frame_stands goal v n c (frames.Group only) fs ts s g h e =
    let st = h.stands in
    let r : Has goal v (shut n) 0 fs (ts ++ tokens.Close ∷ []) = record {
      before = st.0;
      stands = st.3;
      tree = group h.tree;
      formed = h.formed;
      value = h.value;
      height = ap shut h.height;
      depth = refl;
      room = group_room (hole goal fs) n only st.4.1 h.room (hole_most goal fs g);
      written = ap (λ x. x ++ tokens.Close ∷ []) (spliced_as ts h.before st.0 st.1 (text h.tree) (tokens.Open ∷ []) h.written st.2 st.4.0) ∙ append_assoc st.0 (tokens.Open ∷ text h.tree) (tokens.Close ∷ []);
    } in
    subst (λ x. StateStands goal x (ts ++ tokens.Close ∷ [])) (some_is e) r
closed_frame_stands goal v n c (frames.Call hd us) fs ts s g h e =
    let st = h.stands in
    let k = st.4.0 in
    let q = guarded (takes hd (length us)) (Some (has (applied hd us v) (head_level hd) 0 fs)) s e in
    let same : length us ≡ count k.done = ap length (sym k.values_are) ∙ values_length (scope fs) k.done in
    let r : Has goal (applied hd us v) (head_level hd) 0 fs (ts ++ tokens.Close ∷ []) = record {
      before = st.0;
      stands = st.3;
      tree = call hd k.done h.tree;
      formed = (subst (λ m. IsTrue (takes hd m)) same q.0, k.formed, fit_term n (level h.tree) h.room h.height, h.formed);
      value = ap (λ x. applied hd x (part (scope fs) h.tree)) k.values_are ∙ ap (applied hd us) h.value;
      height = refl;
      depth = refl;
      room = st.4.1;
      written = ap (λ x. x ++ tokens.Close ∷ []) (spliced_as ts h.before st.0 st.1 (text h.tree) (head_token hd ∷ tokens.Open ∷ texts k.done) h.written st.2 k.written) ∙ append_assoc st.0 (head_token hd ∷ tokens.Open ∷ (texts k.done ++ text h.tree)) (tokens.Close ∷ []) ∙ ap (λ x. st.0 ++ (head_token hd ∷ tokens.Open ∷ x)) (append_assoc (texts k.done) (text h.tree) (tokens.Close ∷ []));
    } in
    subst (λ x. StateStands goal x (ts ++ tokens.Close ∷ [])) (some_is q.1) r

closed_stands : (goal : ℕ) (m : State) (ts : List Token) (s : State) → goal ≤ 9 → StateStands goal m ts → closed m ≡ Some s → StateStands goal s (ts ++ tokens.Close ∷ [])
closed_stands goal (has v n c (f ∷ fs)) ts s g h e = closed_frame_stands goal v n c f fs ts s g h e
closed_stands goal (has v n c []) ts s g h e = absurd (cc)
closed_stands goal (wants fs) ts s g h e = absurd (cc)
closed_stands goal (partial p fs) ts s g h e = absurd (cc)
closed_stands goal (worded w fs) ts s g h e = absurd (cc)

indexed_frame_stands : (goal : ℕ) (v : Part) (n c : ℕ) (f : Frame) (fs : List Frame) (ts : List Token) (s : State) → Has goal v n c (f ∷ fs) ts → indexed_frame v f fs ≡ Some s → StateStands goal s (ts ++ tokens.CloseSquare ∷ [])
indexed_frame_stands goal v n c (frames.Index u k) fs ts s h e =
    let st = h.stands in
    let l = st.4.0 in
    let close = tokens.CloseSquare ∷ [] in
    let r : Has goal (read_at u v) 9 k fs (ts ++ close) = record {
      before = st.0;
      stands = st.3;
      tree = index l.tree h.tree;
      formed = (l.fit, fit_term n (level h.tree) h.room h.height, l.formed, h.formed);
      value = ap (λ a. read_at a (part (scope fs) h.tree)) l.value ∙ ap (read_at u) h.value;
      height = refl;
      depth = l.depth;
      room = st.4.1;
      written = ap (λ x. x ++ close) (spliced_as ts h.before st.0 st.1 (text h.tree) (text l.tree ++ tokens.OpenSquare ∷ []) h.written st.2 l.written) ∙ append_assoc st.0 ((text l.tree ++ tokens.OpenSquare ∷ []) ++ text h.tree) close ∙ ap (λ x. st.0 ++ x) (append_assoc (text l.tree ++ tokens.OpenSquare ∷ []) (text h.tree) close ∙ append_assoc (text l.tree) (tokens.OpenSquare ∷ []) (text h.tree ++ close));
    } in
    subst (λ x. StateStands goal x (ts ++ close)) (some_is e) r
indexed_frame_stands goal v n c _ fs ts s h e = absurd (cc)

indexed_stands : (goal : ℕ) (m : State) (ts : List Token) (s : State) → StateStands goal m ts → indexed m ≡ Some s → StateStands goal s (ts ++ tokens.CloseSquare ∷ [])
indexed_stands goal (has v n c (f ∷ fs)) ts s h e = indexed_frame_stands goal v n c f fs ts s h e
indexed_stands goal (has v n c []) ts s h e = absurd (cc)
indexed_stands goal (wants fs) ts s h e = absurd (cc)
indexed_stands goal (partial p fs) ts s h e = absurd (cc)
indexed_stands goal (worded w fs) ts s h e = absurd (cc)

listed_frame_stands : (goal : ℕ) (v : Part) (n c : ℕ) (f : Frame) (fs : List Frame) (ts : List Token) (s : State) → Has goal v n c (f ∷ fs) ts → listed_frame v f fs ≡ Some s → StateStands goal s (ts ++ tokens.Comma ∷ [])
listed_frame_stands goal v n c (frames.Call hd us) fs ts s h e =
    let st = h.stands in
    let k = st.4.0 in
    let comma = tokens.Comma ∷ [] in
    let now = us ++ as_term v ∷ [] in
    let q = guarded (expects hd (length us)) (Some (wants (frames.Call hd now ∷ fs))) s e in
    let same : length us ≡ count k.done = ap length (sym k.values_are) ∙ values_length (scope fs) k.done in
    let own = head_token hd ∷ tokens.Open ∷ texts (more k.done h.tree) in
    let t : HasTerms (scope fs) hd now own = record {
      done = more k.done h.tree;
      formed = (k.formed, fit_term n (level h.tree) h.room h.height, h.formed);
      values_are = ap (λ x. x ++ as_term (part (scope fs) h.tree) ∷ []) k.values_are ∙ ap (λ x. us ++ as_term x ∷ []) h.value;
      room = expects_more hd (length us) (count k.done) same q.0;
      written = refl;
    } in
    let w : ts ++ comma ≡ st.0 ++ own =
    ap (λ x. x ++ comma) (spliced_as ts h.before st.0 st.1 (text h.tree) (head_token hd ∷ tokens.Open ∷ texts k.done) h.written st.2 k.written) ∙ append_assoc st.0 (head_token hd ∷ tokens.Open ∷ (texts k.done ++ text h.tree)) comma ∙ ap (λ x. st.0 ++ (head_token hd ∷ tokens.Open ∷ x)) (append_assoc (texts k.done) (text h.tree) comma) in
    let r : Stands goal (frames.Call hd now ∷ fs) (ts ++ comma) = (st.0, own, w, st.3, (t, st.4.1)) in
    subst (λ x. StateStands goal x (ts ++ comma)) (some_is q.1) r
listed_frame_stands goal v n c _ fs ts s h e = absurd (cc)

listed_stands : (goal : ℕ) (m : State) (ts : List Token) (s : State) → StateStands goal m ts → listed m ≡ Some s → StateStands goal s (ts ++ tokens.Comma ∷ [])
listed_stands goal (has v n c (f ∷ fs)) ts s h e = listed_frame_stands goal v n c f fs ts s h e
listed_stands goal (has v n c []) ts s h e = absurd (cc)
listed_stands goal (wants fs) ts s h e = absurd (cc)
listed_stands goal (partial p fs) ts s h e = absurd (cc)
listed_stands goal (worded w fs) ts s h e = absurd (cc)

go_on_stands : (goal : ℕ) (v : Part) (n c : ℕ) (fs : List Frame) (t : Token) (ts : List Token) (s : State) → goal ≤ 9 → Has goal v n c fs ts → go_on goal v n c fs t ≡ Some s → StateStands goal s (ts ++ t ∷ [])
go_on_stands goal v n c fs (tokens.Infix op) ts s g h e =
    let q = chained (extended goal op) (ended (left_of op) v n c fs) s e in
    let least : 0 < left_of op = let a = (facts op).least in omega arith in
    extended_stands goal op q.0 ts s (ended_stands goal (left_of op) v n c fs ts q.0 least h q.1) q.2
go_on_stands goal v n c fs tokens.Close ts s g h e =
    let q = chained closed (ended 1 v n c fs) s e in
    closed_stands goal q.0 ts s g (ended_stands goal 1 v n c fs ts q.0 (omega arith) h q.1) q.2
go_on_stands goal v n c fs tokens.CloseSquare ts s g h e =
    let q = chained indexed (ended 1 v n c fs) s e in
    indexed_stands goal q.0 ts s (ended_stands goal 1 v n c fs ts q.0 (omega arith) h q.1) q.2
go_on_stands goal v n c fs tokens.Comma ts s g h e =
    let q = chained listed (ended 1 v n c fs) s e in
    listed_stands goal q.0 ts s (ended_stands goal 1 v n c fs ts q.0 (omega arith) h q.1) q.2
go_on_stands goal v n c fs tokens.OpenSquare ts s g h e =
    let x = wants (frames.Index v (suc c) ∷ fs) in
    let q = guarded (fits 9 n) (Some x) s e in
    let own = text h.tree ++ tokens.OpenSquare ∷ [] in
    let l : HasBase (scope fs) v (suc c) own = record { tree = h.tree; formed = h.formed; fit = subst (λ x. IsTrue (fits 9 x)) (sym h.height) q.0; value = h.value; depth = ap suc h.depth; written = refl } in
    let r : Stands goal (frames.Index v (suc c) ∷ fs) (ts ++ tokens.OpenSquare ∷ []) = (h.before, own, ap (λ x. x ++ tokens.OpenSquare ∷ []) h.written ∙ append_assoc h.before (text h.tree) (tokens.OpenSquare ∷ []), h.stands, (l, hole_most goal fs g)) in
    subst (λ x. StateStands goal x (ts ++ tokens.OpenSquare ∷ [])) (some_is q.1) r
go_on_stands goal v n c fs _ ts s g h e = absurd (cc)

pub word_has : (goal : ℕ) (w : List ℕ) (fs : List Frame) (ts : List Token) → goal ≤ 9 → Words goal w fs ts → Has goal (word_part w fs) 9 0 fs ts
word_has goal w fs ts g h = record { before = h.before; stands = h.stands; tree = leaf (word w); formed = refl; value = refl; height = refl; depth = refl; room = hole_most goal fs g; written = h.written }

-- a word and a token that is or is not an open parenthesis
word_stands : (goal : ℕ) (w : List ℕ) (fs : List Frame) (t : Token) (ts : List Token) (s : State) → goal ≤ 9 → Words goal w fs ts → step goal (worded w fs) t ≡ Some s → StateStands goal s (ts ++ t ∷ [])
word_stands goal w fs tokens.Open ts s g h e =
    let hd = heads.Named w in
    let own = tokens.Word w ∷ tokens.Open ∷ [] in
    let k : HasTerms (scope fs) hd [] own = record { done = none; formed = tt; values_are = refl; room = refl; written = refl } in
    begun_stands goal (hole goal fs) (head_level hd) (wants (frames.Call hd [] ∷ fs)) (ts ++ tokens.Open ∷ []) s (λ r. (h.before, own, ap (λ x. x ++ tokens.Open ∷ []) h.written ∙ append_assoc h.before (tokens.Word w ∷ []) (tokens.Open ∷ []), h.stands, (k, r))) e
word_stands goal w fs t ts s g h e = go_on_stands goal (word_part w fs) 9 0 fs t ts s g (word_has goal w fs ts g h) e

pub step_stands : (goal : ℕ) (m : State) (t : Token) (ts : List Token) (s : State) → goal ≤ 9 → StateStands goal m ts → step goal m t ≡ Some s → StateStands goal s (ts ++ t ∷ [])
step_stands goal (wants fs) t ts s g h e = begin_stands goal fs t ts s g h e
step_stands goal (partial p fs) t ts s g h e = partial_stands goal p fs t ts s h e
step_stands goal (worded w fs) t ts s g h e = word_stands goal w fs t ts s g h e
step_stands goal (has v n c fs) t ts s g h e = go_on_stands goal v n c fs t ts s g h e

pub run_stands : (goal : ℕ) (m : State) (before ts : List Token) (s : State) → goal ≤ 9 → StateStands goal m before → run goal m ts ≡ Some s → StateStands goal s (before ++ ts)
unfolding run
run_stands goal m before [] s g h e = subst (λ x. StateStands goal x (before ++ [])) (some_is e) (rw append-nil h)
run_stands goal m before (t ∷ ts) s g h e =
    let c = chained (λ s2. run goal s2 ts) (step goal m t) s e in
    let r = run_stands goal c.0 (before ++ t ∷ []) ts s g (step_stands goal m t before c.0 g h c.1) c.2 in
    subst (StateStands goal s) (append_assoc before (t ∷ []) ts) r

-- what is read whole is spelled
whole_reads : (goal : ℕ) (m : State) (ts : List Token) (v : Part) → StateStands goal m ts → whole goal m ≡ Some v → Reads goal ts v
whole_reads goal (has u n c []) ts v h e =
    let g = guarded (fits goal n) (Some u) v e in
    record { tree = h.tree; formed = h.formed; fit = subst (λ x. IsTrue (fits goal x)) (sym h.height) g.0; written = sym (h.written ∙ ap (λ b. b ++ text h.tree) h.stands); value = h.value ∙ some_is g.1 }
whole_reads goal (has u n c (f ∷ fs)) ts v h e = absurd (cc)
whole_reads goal (wants fs) ts v h e = absurd (cc)
whole_reads goal (partial p fs) ts v h e = absurd (cc)
whole_reads goal (worded w fs) ts v h e = absurd (cc)

finished : (goal : ℕ) (u : Part) (n c : ℕ) (fs : List Frame) (ts : List Token) (v : Part) → Has goal u n c fs ts → finish_with goal u n c fs ≡ Some v → Reads goal ts v
finished goal u n c fs ts v h e =
    let q = chained (whole goal) (ended 1 u n c fs) v e in
    whole_reads goal q.0 ts v (ended_stands goal 1 u n c fs ts q.0 (omega arith) h q.1) q.2

pub finish_reads : (goal : ℕ) (s : State) (ts : List Token) (v : Part) → goal ≤ 9 → StateStands goal s ts → finish goal s ≡ Some v → Reads goal ts v
finish_reads goal (wants fs) ts v g h e = absurd (cc)
finish_reads goal (partial p fs) ts v g h e = absurd (cc)
finish_reads goal (worded w fs) ts v g h e = finished goal (word_part w fs) 9 0 fs ts v (word_has goal w fs ts g h) e
finish_reads goal (has u n c fs) ts v g h e = finished goal u n c fs ts v h e

pub sound : (goal : ℕ) (ts : List Token) (s : State) (v : Part) → goal ≤ 9 → run goal (wants []) ts ≡ Some s → finish goal s ≡ Some v → Reads goal ts v
sound goal ts s v g e f = finish_reads goal s ts v g (run_stands goal (wants []) [] ts s g refl e) f
