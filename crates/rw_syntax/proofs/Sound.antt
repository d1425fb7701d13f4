-- What the machine reads stands on its stack.
use Rattle.std.proofs.Common.{◌≡◌, ℕ, ◌≤◌, ◌<◌, Bool, true, false, cond, List, [], ◌∷◌, ◌++◌, Some, None, IsTrue, refl, sym, ap, ◌∙◌, subst, arith, append_assoc}
use Rattle.std.specs.Prelude.{leb}
use Rattle.std.proofs.lemmas.Bool.{leb-true}
use Rattle.rw_terms.specs.declared.term.Sort.{Sort}
use Rattle.rw_terms.specs.declared.term.Sort.TheVariants as sorts
use Rattle.rw_syntax.specs.declared.token.Infix.TheVariants as infixes
use Rattle.rw_syntax.specs.declared.token.Quantifier.{Quantifier}
use Rattle.rw_syntax.specs.declared.token.Token.{Token}
use Rattle.rw_syntax.specs.declared.token.Token.TheVariants as tokens
use Rattle.rw_syntax.specs.declared.frame.Part.{Part}
use Rattle.rw_syntax.specs.declared.frame.Binder.{Binder}
use Rattle.rw_syntax.specs.declared.frame.Binder.TheVariants as binders
use Rattle.rw_syntax.specs.declared.frame.Prefix.{Prefix}
use Rattle.rw_syntax.specs.declared.frame.Prefix.TheVariants as prefixes
use Rattle.rw_syntax.specs.declared.frame.Head.TheVariants as heads
use Rattle.rw_syntax.specs.declared.frame.Frame.{Frame}
use Rattle.rw_syntax.specs.declared.frame.Frame.TheVariants as frames
use Rattle.rw_syntax.specs.declared.frame.Partial.{Partial}
use Rattle.rw_syntax.specs.declared.frame.Partial.TheVariants as partials
use Rattle.rw_syntax.specs.Grammar.{Leaf, number, word, initial, place, truth, leaf_level, leaf_token, leaf_part, Tree, leaf, prefix, binary, group, index, call, Trees, none, more, count, level, level_of, left_of, right_of, prefix_level, head_level, shut, fits, inner, is_known, is_length, is_binder, is_sort, is_prefix, takes, IsFormed, AreFormed, text, texts, prefix_text, head_token, part, values, prefixed, joined, read_at, applied, as_term, adds, chain, Reads}
use Rattle.rw_syntax.specs.Machine.{State, wants, partial, has, hole, scope, frame_level, frame_hole, frame_chain, made, ended, begun, leaf_read, begin, named_by, naming, coloned, sorting, measuring, dotted, putting, partial_step}
use Rattle.rw_syntax.proofs.Stands.{HasLeft, HasBase, HasTerms, may_have, Puts, Stands, Has, Begins, Words, partial_text, partial_level, StateStands}
use Rattle.rw_syntax.proofs.Choices.{guarded, some_is}
use Rattle.rw_syntax.proofs.Operators.{hole_most}

pub spliced : {A : Type 0} (ts b before own x : List A) → ts ≡ b ++ x → b ≡ before ++ own → ts ≡ before ++ (own ++ x)
spliced ts b before own x e f = e ∙ ap (λ y. y ++ x) f ∙ append_assoc before own x

-- x behind own, own being o
pub spliced_as : {A : Type 0} (ts b before own x o : List A) → ts ≡ b ++ x → b ≡ before ++ own → own ≡ o → ts ≡ before ++ (o ++ x)
spliced_as ts b before own x o e f g = spliced ts b before own x e f ∙ ap (λ y. before ++ (y ++ x)) g

-- an operator ends
pub joins : (goal : ℕ) (v : Part) (n c : ℕ) (f : Frame) (fs : List Frame) (ts : List Token) → 0 < frame_level f → IsTrue (fits (frame_hole f) n) → Has goal v n c (f ∷ fs) ts → Has goal (made f v) (frame_level f) (frame_chain f) fs ts
joins goal v n c (frames.Prefix p) fs ts z q h =
    let st = h.stands in
    record {
      before = st.0;
      stands = st.3;
      tree = prefix p h.tree;
      formed = (st.4.2, subst (λ m. IsTrue (fits (prefix_level p) m)) (sym h.height) q, h.formed);
      value = ap (prefixed p) h.value;
      height = refl;
      depth = refl;
      room = st.4.1;
      written = spliced_as ts h.before st.0 st.1 (text h.tree) (prefix_text p) h.written st.2 st.4.0;
    }
joins goal v n c (frames.Infix op u k) fs ts z q h =
    let st = h.stands in
    let l = st.4.0 in
    record {
      before = st.0;
      stands = st.3;
      tree = binary op l.tree h.tree;
      formed = (l.fit, subst (λ m. IsTrue (fits (right_of op) m)) (sym h.height) q, l.formed, h.formed);
      value = ap (λ a. joined op a (part (scope fs) h.tree)) l.value ∙ ap (λ b. joined op u b) h.value;
      height = refl;
      depth = l.depth;
      room = st.4.1;
      written = spliced_as ts h.before st.0 st.1 (text h.tree) (text l.tree ++ tokens.Infix op ∷ []) h.written st.2 l.written ∙ ap (λ o. st.0 ++ o) (append_assoc (text l.tree) (tokens.Infix op ∷ []) (text h.tree));
    }
joins goal v n c (frames.Group only) fs ts z q h = absurd (omega arith)
joins goal v n c (frames.Index u k) fs ts z q h = absurd (omega arith)
joins goal v n c (frames.Call g us) fs ts z q h = absurd (omega arith)

ends : (goal bound : ℕ) (v : Part) (n c : ℕ) (f : Frame) (fs : List Frame) (ts : List Token) (s : State) → Has goal v n c (f ∷ fs) ts →
    (bound ≤ frame_level f → IsTrue (fits (frame_hole f) n) → Has goal v n c (f ∷ fs) ts → Has goal (made f v) (frame_level f) (frame_chain f) fs ts) →
    (Has goal (made f v) (frame_level f) (frame_chain f) fs ts → ended bound (made f v) (frame_level f) (frame_chain f) fs ≡ Some s → StateStands goal s ts) →
    (b : Bool) → leb bound (frame_level f) ≡ b → cond b (cond (fits (frame_hole f) n) (ended bound (made f v) (frame_level f) (frame_chain f) fs) None) (Some (has v n c (f ∷ fs))) ≡ Some s → StateStands goal s ts
ends goal bound v n c f fs ts s h join next true t e =
    let g = guarded (fits (frame_hole f) n) (ended bound (made f v) (frame_level f) (frame_chain f) fs) s e in
    next (join (leb-true bound (frame_level f) t) g.0 h) g.1
ends goal bound v n c f fs ts s h join next false t e = subst (λ x. StateStands goal x ts) (some_is e) h

above : (bound n : ℕ) → 0 < bound → bound ≤ n → 0 < n
above bound n p q = omega arith

pub ended_stands : (goal bound : ℕ) (v : Part) (n c : ℕ) (fs : List Frame) (ts : List Token) (s : State) → 0 < bound → Has goal v n c fs ts → ended bound v n c fs ≡ Some s → StateStands goal s ts
unfolding ended
ended_stands goal bound v n c [] ts s p h e = subst (λ x. StateStands goal x ts) (some_is e) h
ended_stands goal bound v n c (f ∷ fs) ts s p h e = ends goal bound v n c f fs ts s h (λ r. joins goal v n c f fs ts (above bound (frame_level f) p r)) (λ k. ended_stands goal bound (made f v) (frame_level f) (frame_chain f) fs ts s p k) (leb bound (frame_level f)) refl e

pub begun_stands : (goal outer n : ℕ) (x : State) (ts : List Token) (s : State) → (outer ≤ n → StateStands goal x ts) → begun outer n x ≡ Some s → StateStands goal s ts
begun_stands goal outer n x ts s p e =
    let g = guarded (leb outer n) (Some x) s e in
    subst (λ y. StateStands goal y ts) (some_is g.1) (p (leb-true outer n g.0))

pub leaf_has : (goal : ℕ) (l : Leaf) (fs : List Frame) (ts : List Token) → Stands goal fs ts → IsTrue (is_known (scope fs) l) → hole goal fs ≤ leaf_level l → chain (leaf l) ≡ 0 → Has goal (leaf_part (scope fs) l) (leaf_level l) 0 fs (ts ++ leaf_token l ∷ [])
leaf_has goal l fs ts h k r z = record { before = ts; stands = h; tree = leaf l; formed = k; value = refl; height = refl; depth = z; room = r; written = refl }

leaf_stands : (goal : ℕ) (l : Leaf) (fs : List Frame) (ts : List Token) (s : State) → Stands goal fs ts → leaf_read (hole goal fs) (scope fs) l fs ≡ Some s → StateStands goal s (ts ++ leaf_token l ∷ [])
leaf_stands goal l fs ts s h e =
    let x = has (leaf_part (scope fs) l) (leaf_level l) 0 fs in
    let g = guarded (is_known (scope fs) l) (begun (hole goal fs) (leaf_level l) x) s e in
    begun_stands goal (hole goal fs) (leaf_level l) x (ts ++ leaf_token l ∷ []) s (λ r. leaf_has goal l fs ts h g.0 r refl) g.1

pub prefix_stands : (goal : ℕ) (p : Prefix) (fs : List Frame) (ts : List Token) → Stands goal fs ts → IsTrue (is_prefix p) → hole goal fs ≤ prefix_level p → Stands goal (frames.Prefix p ∷ fs) (ts ++ prefix_text p)
prefix_stands goal p fs ts h v r = (ts, prefix_text p, refl, h, (refl, r, v))

pub begin_stands : (goal : ℕ) (fs : List Frame) (t : Token) (ts : List Token) (s : State) → goal ≤ 9 → Stands goal fs ts → begin (hole goal fs) (scope fs) fs t ≡ Some s → StateStands goal s (ts ++ t ∷ [])
begin_stands goal fs (tokens.Number n) ts s g h e = leaf_stands goal (number n) fs ts s h e
begin_stands goal fs (tokens.Word w) ts s g h e =
    let r : Words goal w fs (ts ++ tokens.Word w ∷ []) = record { before = ts; stands = h; written = refl } in
    subst (λ x. StateStands goal x (ts ++ tokens.Word w ∷ [])) (some_is e) r
begin_stands goal fs (tokens.Initial w) ts s g h e = leaf_stands goal (initial w) fs ts s h e
begin_stands goal fs (tokens.Place n) ts s g h e = leaf_stands goal (place n) fs ts s h e
begin_stands goal fs (tokens.Truth b) ts s g h e = leaf_stands goal (truth b) fs ts s h e
begin_stands goal fs (tokens.Infix infixes.Minus) ts s g h e = begun_stands goal (hole goal fs) 8 (wants (frames.Prefix prefixes.Minus ∷ fs)) (ts ++ tokens.Infix infixes.Minus ∷ []) s (λ r. prefix_stands goal prefixes.Minus fs ts h refl r) e
begin_stands goal fs (tokens.Infix _) ts s g h e = absurd (cc)
begin_stands goal fs tokens.Not ts s g h e = begun_stands goal (hole goal fs) 4 (wants (frames.Prefix prefixes.Not ∷ fs)) (ts ++ tokens.Not ∷ []) s (λ r. prefix_stands goal prefixes.Not fs ts h refl r) e
begin_stands goal fs (tokens.Quantifier q) ts s g h e = begun_stands goal (hole goal fs) 1 (partial (partials.Naming q) fs) (ts ++ tokens.Quantifier q ∷ []) s (λ r. record { before = ts; stands = h; valid = refl; room = r; written = refl }) e
begin_stands goal fs tokens.Put ts s g h e =
    let r : Begins goal partials.Putting fs (ts ++ tokens.Put ∷ []) = record { before = ts; stands = h; valid = refl; room = hole_most goal fs g; written = refl } in
    subst (λ x. StateStands goal x (ts ++ tokens.Put ∷ [])) (some_is e) r
begin_stands goal fs tokens.Open ts s g h e =
    let r : Stands goal (frames.Group (leb 6 (hole goal fs)) ∷ fs) (ts ++ tokens.Open ∷ []) = (ts, tokens.Open ∷ [], refl, h, (refl, refl)) in
    subst (λ x. StateStands goal x (ts ++ tokens.Open ∷ [])) (some_is e) r
begin_stands goal fs tokens.Int ts s g h e = absurd (cc)
begin_stands goal fs tokens.Array ts s g h e = absurd (cc)
begin_stands goal fs tokens.Close ts s g h e = absurd (cc)
begin_stands goal fs tokens.OpenSquare ts s g h e = absurd (cc)
begin_stands goal fs tokens.CloseSquare ts s g h e = absurd (cc)
begin_stands goal fs tokens.Comma ts s g h e = absurd (cc)
begin_stands goal fs tokens.Colon ts s g h e = absurd (cc)
begin_stands goal fs tokens.Dot ts s g h e = absurd (cc)

-- the rest of a quantifier or of `put`

-- one more token
partial_more : (goal : ℕ) (p p2 : Partial) (t : Token) (fs : List Frame) (ts : List Token) → partial_text p2 ≡ partial_text p ++ t ∷ [] → partial_level p2 ≡ partial_level p → IsTrue (Rattle.rw_syntax.proofs.Stands.is_partial p2) → Begins goal p fs ts → Begins goal p2 fs (ts ++ t ∷ [])
partial_more goal p p2 t fs ts w l v h = record {
  before = h.before;
  stands = h.stands;
  valid = v;
  room = subst (λ x. hole goal fs ≤ x) (sym l) h.room;
  written = ap (λ x. x ++ t ∷ []) h.written ∙ append_assoc h.before (partial_text p) (t ∷ []) ∙ ap (λ x. h.before ++ x) (sym w);
}

named_stands : (goal : ℕ) (q : Quantifier) (b : Binder) (t : Token) (fs : List Frame) (ts : List Token) (s : State) → Rattle.rw_syntax.specs.Grammar.binder_token b ≡ t → Begins goal (partials.Naming q) fs ts → named_by q b fs ≡ Some s → StateStands goal s (ts ++ t ∷ [])
named_stands goal q b t fs ts s z h e =
    let g = guarded (is_binder b) (Some (partial (partials.Named q b) fs)) s e in
    subst (λ x. StateStands goal x (ts ++ t ∷ [])) (some_is g.1) (partial_more goal (partials.Naming q) (partials.Named q b) t fs ts (ap (λ x. tokens.Quantifier q ∷ x ∷ []) z) refl g.0 h)

naming_stands : (goal : ℕ) (q : Quantifier) (fs : List Frame) (t : Token) (ts : List Token) (s : State) → Begins goal (partials.Naming q) fs ts → naming q fs t ≡ Some s → StateStands goal s (ts ++ t ∷ [])
naming_stands goal q fs (tokens.Word w) ts s h e = named_stands goal q (binders.Named w) (tokens.Word w) fs ts s refl h e
naming_stands goal q fs (tokens.Place n) ts s h e = named_stands goal q (binders.Numbered n) (tokens.Place n) fs ts s refl h e
naming_stands goal q fs _ ts s h e = absurd (cc)

coloned_stands : (goal : ℕ) (q : Quantifier) (b : Binder) (fs : List Frame) (t : Token) (ts : List Token) (s : State) → Begins goal (partials.Named q b) fs ts → coloned q b fs t ≡ Some s → StateStands goal s (ts ++ t ∷ [])
coloned_stands goal q b fs tokens.Colon ts s h e = subst (λ x. StateStands goal x (ts ++ tokens.Colon ∷ [])) (some_is e) (partial_more goal (partials.Named q b) (partials.Sorting q b) tokens.Colon fs ts refl refl h.valid h)
coloned_stands goal q b fs _ ts s h e = absurd (cc)

sorting_stands : (goal : ℕ) (q : Quantifier) (b : Binder) (fs : List Frame) (t : Token) (ts : List Token) (s : State) → Begins goal (partials.Sorting q b) fs ts → sorting q b fs t ≡ Some s → StateStands goal s (ts ++ t ∷ [])
sorting_stands goal q b fs tokens.Int ts s h e = subst (λ x. StateStands goal x (ts ++ tokens.Int ∷ [])) (some_is e) (partial_more goal (partials.Sorting q b) (partials.Sorted q b sorts.Int) tokens.Int fs ts refl refl (ap (λ x. cond x true false) h.valid) h)
sorting_stands goal q b fs tokens.Array ts s h e = subst (λ x. StateStands goal x (ts ++ tokens.Array ∷ [])) (some_is e) (partial_more goal (partials.Sorting q b) (partials.Measuring q b) tokens.Array fs ts refl refl h.valid h)
sorting_stands goal q b fs _ ts s h e = absurd (cc)

measuring_stands : (goal : ℕ) (q : Quantifier) (b : Binder) (fs : List Frame) (t : Token) (ts : List Token) (s : State) → Begins goal (partials.Measuring q b) fs ts → measuring q b fs t ≡ Some s → StateStands goal s (ts ++ t ∷ [])
measuring_stands goal q b fs (tokens.Number n) ts s h e =
    let g = guarded (is_length n) (Some (partial (partials.Sorted q b (sorts.Array n)) fs)) s e in
    subst (λ x. StateStands goal x (ts ++ tokens.Number n ∷ [])) (some_is g.1) (partial_more goal (partials.Measuring q b) (partials.Sorted q b (sorts.Array n)) (tokens.Number n) fs ts refl refl (ap (λ x. cond x (is_length n) false) h.valid ∙ g.0) h)
measuring_stands goal q b fs _ ts s h e = absurd (cc)

dotted_stands : (goal : ℕ) (q : Quantifier) (b : Binder) (o : Sort) (fs : List Frame) (t : Token) (ts : List Token) (s : State) → Begins goal (partials.Sorted q b o) fs ts → dotted q b o fs t ≡ Some s → StateStands goal s (ts ++ t ∷ [])
dotted_stands goal q b o fs tokens.Dot ts s h e =
    let p = prefixes.Bind q b o in
    let r : Stands goal (frames.Prefix p ∷ fs) (ts ++ tokens.Dot ∷ []) = (h.before, prefix_text p, ap (λ x. x ++ tokens.Dot ∷ []) h.written ∙ append_assoc h.before (partial_text (partials.Sorted q b o)) (tokens.Dot ∷ []), h.stands, (refl, h.room, h.valid)) in
    subst (λ x. StateStands goal x (ts ++ tokens.Dot ∷ [])) (some_is e) r
dotted_stands goal q b o fs _ ts s h e = absurd (cc)

putting_stands : (goal : ℕ) (fs : List Frame) (t : Token) (ts : List Token) (s : State) → Begins goal partials.Putting fs ts → putting fs t ≡ Some s → StateStands goal s (ts ++ t ∷ [])
putting_stands goal fs tokens.Open ts s h e =
    let own = tokens.Put ∷ tokens.Open ∷ [] in
    let k : HasTerms (scope fs) heads.Put [] own = record { done = none; formed = tt; values_are = refl; room = refl; written = refl } in
    let r : Stands goal (frames.Call heads.Put [] ∷ fs) (ts ++ tokens.Open ∷ []) = (h.before, own, ap (λ x. x ++ tokens.Open ∷ []) h.written ∙ append_assoc h.before (tokens.Put ∷ []) (tokens.Open ∷ []), h.stands, (k, h.room)) in
    subst (λ x. StateStands goal x (ts ++ tokens.Open ∷ [])) (some_is e) r
putting_stands goal fs _ ts s h e = absurd (cc)

pub partial_stands : (goal : ℕ) (p : Partial) (fs : List Frame) (t : Token) (ts : List Token) (s : State) → Begins goal p fs ts → partial_step p fs t ≡ Some s → StateStands goal s (ts ++ t ∷ [])
partial_stands goal (partials.Naming q) fs t ts s h e = naming_stands goal q fs t ts s h e
partial_stands goal (partials.Named q b) fs t ts s h e = coloned_stands goal q b fs t ts s h e
partial_stands goal (partials.Sorting q b) fs t ts s h e = sorting_stands goal q b fs t ts s h e
partial_stands goal (partials.Measuring q b) fs t ts s h e = measuring_stands goal q b fs t ts s h e
partial_stands goal (partials.Sorted q b o) fs t ts s h e = dotted_stands goal q b o fs t ts s h e
partial_stands goal partials.Putting fs t ts s h e = putting_stands goal fs t ts s h e
