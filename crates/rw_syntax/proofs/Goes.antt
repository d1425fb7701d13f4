-- What stands on the stack can go on to a whole value.
use Rattle.std.proofs.Common.{◌≡◌, ℕ, zero, suc, ◌≤◌, Bool, true, false, cond, List, [], ◌∷◌, ◌++◌, IsTrue, refl, sym, ap, ◌∙◌, subst, arith, append_assoc, append-nil}
use Rattle.std.specs.Prelude.{leb, eqb}
use Rattle.std.proofs.lemmas.Bool.{leb-true, leb-false}
use Rattle.rw_terms.specs.declared.term.Sort.{Sort}
use Rattle.rw_terms.specs.declared.term.Sort.TheVariants as sorts
use Rattle.rw_syntax.specs.declared.token.Infix.TheVariants as infixes
use Rattle.rw_syntax.specs.declared.token.Quantifier.{Quantifier}
use Rattle.rw_syntax.specs.declared.token.Token.{Token}
use Rattle.rw_syntax.specs.declared.token.Token.TheVariants as tokens
use Rattle.rw_syntax.specs.declared.frame.Part.{Part}
use Rattle.rw_syntax.specs.declared.frame.Binder.{Binder}
use Rattle.rw_syntax.specs.declared.frame.Binder.TheVariants as binders
use Rattle.rw_syntax.specs.declared.frame.Prefix.TheVariants as prefixes
use Rattle.rw_syntax.specs.declared.frame.Head.{Head}
use Rattle.rw_syntax.specs.declared.frame.Head.TheVariants as heads
use Rattle.rw_syntax.specs.declared.frame.Frame.{Frame}
use Rattle.rw_syntax.specs.declared.frame.Frame.TheVariants as frames
use Rattle.rw_syntax.specs.declared.frame.Partial.{Partial}
use Rattle.rw_syntax.specs.declared.frame.Partial.TheVariants as partials
use Rattle.rw_syntax.specs.Grammar.{number, Tree, leaf, prefix, binary, group, index, call, Trees, none, more, count, level, right_of, prefix_level, fits, inner, is_prefix, takes, IsFormed, AreFormed, text, texts, prefix_text, head_token}
use Rattle.rw_syntax.specs.Machine.{State, wants, partial, worded, has, hole, scope, word_part, whole}
use Rattle.rw_syntax.proofs.Stands.{HasTerms, may_have, Stands, Has, Begins, partial_text, StateStands}
use Rattle.rw_syntax.proofs.Choices.{fits_to}
use Rattle.rw_syntax.proofs.Operators.{hole_most}
use Rattle.rw_syntax.proofs.Sound.{prefix_stands}
use Rattle.rw_syntax.proofs.After.{group_room, word_has, fit_term}

-- whether a token holds no word
abbrev pub is_plain : Token → Bool
is_plain (tokens.Word w) = false
is_plain (tokens.Initial w) = false
is_plain _ = true

abbrev pub ArePlain : List Token → Type 0
ArePlain [] = Unit {0}
ArePlain (t ∷ ts) = IsTrue (is_plain t) × ArePlain ts

plain_both : (a b : List Token) → ArePlain a → ArePlain b → ArePlain (a ++ b)
plain_both [] b p q = q
plain_both (t ∷ a) b p q = (p.0, plain_both a b p.1 q)

-- a whole tree whose text begins with tokens, and goes on without words
pub record Grows (goal : ℕ) (ts : List Token) : Type 0 where
  pub tree : Tree
  pub rest : List Token
  pub plain : ArePlain rest
  pub formed : IsFormed [] tree
  pub fit : IsTrue (fits goal (level tree))
  pub written : text tree ≡ ts ++ rest

-- a tree that begins with another and fits a hole
record Fitted (env : List Binder) (wanted : ℕ) (t : Tree) : Type 0 where
  tree : Tree
  rest : List Token
  plain : ArePlain rest
  formed : IsFormed env tree
  fit : IsTrue (fits wanted (level tree))
  written : text tree ≡ text t ++ rest

fitted : (env : List Binder) (wanted : ℕ) (t : Tree) → IsFormed env t → wanted ≤ level t → Fitted env wanted t
fitted env wanted t f h = go (leb 6 (level t)) refl (leb 6 wanted) refl
  where
    go : (a : Bool) → leb 6 (level t) ≡ a → (b : Bool) → leb 6 wanted ≡ b → Fitted env wanted t
    go true a false b =
        let q = leb-true 6 (level t) a in
        let r = leb-false 6 wanted b in
        record { tree = binary infixes.Equal t (leaf (number 0)); rest = tokens.Infix infixes.Equal ∷ tokens.Number 0 ∷ []; plain = (refl, (refl, tt)); formed = (fits_to 6 (level t) q (λ x. absurd (omega arith)), refl, f, refl); fit = fits_to wanted 5 (omega arith) (λ x. omega arith); written = refl }
    go true a true b =
        let q = leb-true 6 wanted b in
        record { tree = t; rest = []; plain = tt; formed = f; fit = fits_to wanted (level t) h (λ x. absurd (omega arith)); written = sym (append-nil (text t)) }
    go false a b e =
        let q = leb-false 6 (level t) a in
        record { tree = t; rest = []; plain = tt; formed = f; fit = fits_to wanted (level t) h (λ x. q); written = sym (append-nil (text t)) }

-- before ++ (own ++ (x ++ m)) ++ n
regrouped : {A : Type 0} (whole b before own x m n : List A) → b ≡ before ++ own → whole ≡ (before ++ (own ++ (x ++ m))) ++ n → whole ≡ (b ++ x) ++ (m ++ n)
regrouped whole b before own x m n e f = f ∙ sym (ap (λ y. (y ++ x) ++ (m ++ n)) e ∙ simp append_assoc)

-- the rest of a list of terms of which one is begun
record Lists (env : List Binder) (h : Head) (ready_ones : Trees) (t : Tree) : Type 0 where
  rest : List Token
  plain : ArePlain rest
  all_done : Trees
  last : Tree
  enough : IsTrue (takes h (count all_done))
  formed : AreFormed env all_done
  fit : IsTrue (fits 6 (level last))
  last_formed : IsFormed env last
  written : texts all_done ++ text last ≡ (texts ready_ones ++ text t) ++ rest

zero_more : (env : List Binder) (h : Head) (ready_ones : Trees) (t : Tree) → Lists env h (more ready_ones t) (leaf (number 0)) → Lists env h ready_ones t
zero_more env h ready_ones t l = record {
  rest = tokens.Comma ∷ tokens.Number 0 ∷ l.rest;
  plain = (refl, (refl, l.plain));
  all_done = l.all_done;
  last = l.last;
  enough = l.enough;
  formed = l.formed;
  fit = l.fit;
  last_formed = l.last_formed;
  written = l.written ∙ ap (λ x. x ++ l.rest) (append_assoc (texts ready_ones) (text t ++ tokens.Comma ∷ []) (tokens.Number 0 ∷ []) ∙ ap (λ x. texts ready_ones ++ x) (append_assoc (text t) (tokens.Comma ∷ []) (tokens.Number 0 ∷ []))) ∙ simp append_assoc;
}

ready : (env : List Binder) (h : Head) (ready_ones : Trees) (t : Tree) → IsTrue (takes h (count ready_ones)) → AreFormed env ready_ones → IsTrue (fits 6 (level t)) → IsFormed env t → Lists env h ready_ones t
ready env h ready_ones t e f k g = record { rest = []; plain = tt; all_done = ready_ones; last = t; enough = e; formed = f; fit = k; last_formed = g; written = sym (append-nil (texts ready_ones ++ text t)) }

lists_put : (env : List Binder) (n : ℕ) (ready_ones : Trees) (t : Tree) → count ready_ones ≡ n → leb n 2 ≡ true → AreFormed env ready_ones → IsTrue (fits 6 (level t)) → IsFormed env t → Lists env heads.Put ready_ones t
lists_put env zero ready_ones t e b f k g = zero_more env heads.Put ready_ones t (zero_more env heads.Put (more ready_ones t) (leaf (number 0)) (ready env heads.Put (more (more ready_ones t) (leaf (number 0))) (leaf (number 0)) (ap (λ n. eqb (suc (suc n)) 2) e) ((f, k, g), refl, refl) refl refl))
lists_put env (suc zero) ready_ones t e b f k g = zero_more env heads.Put ready_ones t (ready env heads.Put (more ready_ones t) (leaf (number 0)) (ap (λ n. eqb (suc n) 2) e) (f, k, g) refl refl)
lists_put env (suc (suc zero)) ready_ones t e b f k g = ready env heads.Put ready_ones t (ap (λ n. eqb n 2) e) f k g
lists_put env (suc (suc (suc n))) ready_ones t e b f k g = absurd (let q = leb-true (suc (suc (suc n))) 2 b in omega arith)

lists : (env : List Binder) (h : Head) (ready_ones : Trees) (t : Tree) → IsTrue (may_have h (count ready_ones)) → AreFormed env ready_ones → IsTrue (fits 6 (level t)) → IsFormed env t → Lists env h ready_ones t
lists env heads.Put ready_ones t e f k g = lists_put env (count ready_ones) ready_ones t refl e f k g
lists env (heads.Named w) ready_ones t e f k g = ready env (heads.Named w) ready_ones t refl f k g

pub grows : (goal : ℕ) (fs : List Frame) (before : List Token) (t : Tree) → goal ≤ 9 → Stands goal fs before → IsFormed (scope fs) t → hole goal fs ≤ level t → Grows goal (before ++ text t)
grows goal [] before t g s f h =
    let q = fitted [] goal t f h in
    record { tree = q.tree; rest = q.rest; plain = q.plain; formed = q.formed; fit = q.fit; written = q.written ∙ ap (λ b. b ++ text t ++ q.rest) (sym s) }
grows goal (frames.Prefix p ∷ fs) before t g s f h =
    let q = fitted (inner p (scope fs)) (prefix_level p) t f h in
    let r = grows goal fs s.0 (prefix p q.tree) g s.3 (s.4.2, q.fit, q.formed) s.4.1 in
    record {
      tree = r.tree;
      rest = q.rest ++ r.rest;
      plain = plain_both q.rest r.rest q.plain r.plain;
      formed = r.formed;
      fit = r.fit;
      written = regrouped (text r.tree) before s.0 (prefix_text p) (text t) q.rest r.rest (s.2 ∙ ap (λ o. s.0 ++ o) s.4.0) (r.written ∙ ap (λ x. (s.0 ++ (prefix_text p ++ x)) ++ r.rest) q.written);
    }
grows goal (frames.Infix op u c ∷ fs) before t g s f h =
    let q = fitted (scope fs) (right_of op) t f h in
    let l = s.4.0 in
    let r = grows goal fs s.0 (binary op l.tree q.tree) g s.3 (l.fit, q.fit, l.formed, q.formed) s.4.1 in
    record {
      tree = r.tree;
      rest = q.rest ++ r.rest;
      plain = plain_both q.rest r.rest q.plain r.plain;
      formed = r.formed;
      fit = r.fit;
      written = regrouped (text r.tree) before s.0 (text l.tree ++ tokens.Infix op ∷ []) (text t) q.rest r.rest (s.2 ∙ ap (λ o. s.0 ++ o) l.written)
          (r.written ∙ ap (λ x. (s.0 ++ (text l.tree ++ tokens.Infix op ∷ x)) ++ r.rest) q.written ∙ ap (λ x. (s.0 ++ x) ++ r.rest) (sym (append_assoc (text l.tree) (tokens.Infix op ∷ []) (text t ++ q.rest))));
    }
grows goal (frames.Group only ∷ fs) before t g s f h =
    let r = grows goal fs s.0 (group t) g s.3 f (group_room (hole goal fs) (level t) only s.4.1 h (hole_most goal fs g)) in
    record {
      tree = r.tree;
      rest = (tokens.Close ∷ []) ++ r.rest;
      plain = (refl, r.plain);
      formed = r.formed;
      fit = r.fit;
      written = regrouped (text r.tree) before s.0 (tokens.Open ∷ []) (text t) (tokens.Close ∷ []) r.rest (s.2 ∙ ap (λ o. s.0 ++ o) s.4.0) r.written;
    }
grows goal (frames.Index u c ∷ fs) before t g s f h =
    let l = s.4.0 in
    let close = tokens.CloseSquare ∷ [] in
    let r = grows goal fs s.0 (index l.tree t) g s.3 (l.fit, fit_term (level t) (level t) h refl, l.formed, f) s.4.1 in
    record {
      tree = r.tree;
      rest = close ++ r.rest;
      plain = (refl, r.plain);
      formed = r.formed;
      fit = r.fit;
      written = regrouped (text r.tree) before s.0 (text l.tree ++ tokens.OpenSquare ∷ []) (text t) close r.rest (s.2 ∙ ap (λ o. s.0 ++ o) l.written)
          (r.written ∙ ap (λ x. (s.0 ++ x) ++ r.rest) (sym (append_assoc (text l.tree) (tokens.OpenSquare ∷ []) (text t ++ close))));
    }
grows goal (frames.Call hd us ∷ fs) before t g s f h =
    let k = s.4.0 in
    let q = lists (scope fs) hd k.done t k.room k.formed (fit_term (level t) (level t) h refl) f in
    let close = tokens.Close ∷ [] in
    let own = head_token hd ∷ tokens.Open ∷ texts k.done in
    let r = grows goal fs s.0 (call hd q.all_done q.last) g s.3 (q.enough, q.formed, q.fit, q.last_formed) s.4.1 in
    let inside : text (call hd q.all_done q.last) ≡ own ++ (text t ++ (q.rest ++ close)) =
    ap (λ x. head_token hd ∷ tokens.Open ∷ x) (sym (append_assoc (texts q.all_done) (text q.last) close) ∙ ap (λ x. x ++ close) q.written ∙ simp append_assoc) in
    record {
      tree = r.tree;
      rest = (q.rest ++ close) ++ r.rest;
      plain = plain_both (q.rest ++ close) r.rest (plain_both q.rest close q.plain (refl, tt)) r.plain;
      formed = r.formed;
      fit = r.fit;
      written = regrouped (text r.tree) before s.0 own (text t) (q.rest ++ close) r.rest (s.2 ∙ ap (λ o. s.0 ++ o) k.written) (r.written ∙ ap (λ x. (s.0 ++ x) ++ r.rest) inside);
    }

pub wanting : (goal : ℕ) (fs : List Frame) (ts : List Token) → goal ≤ 9 → Stands goal fs ts → Grows goal ts
wanting goal fs ts g s =
    let r = grows goal fs ts (leaf (number 0)) g s refl (hole_most goal fs g) in
    record { tree = r.tree; rest = tokens.Number 0 ∷ r.rest; plain = (refl, r.plain); formed = r.formed; fit = r.fit; written = r.written ∙ append_assoc ts (tokens.Number 0 ∷ []) r.rest }

having : (goal : ℕ) (v : Part) (n c : ℕ) (fs : List Frame) (ts : List Token) → goal ≤ 9 → Has goal v n c fs ts → Grows goal ts
having goal v n c fs ts g s =
    let r = grows goal fs s.before s.tree g s.stands s.formed (subst (λ x. hole goal fs ≤ x) (sym s.height) s.room) in
    record { tree = r.tree; rest = r.rest; plain = r.plain; formed = r.formed; fit = r.fit; written = r.written ∙ ap (λ x. x ++ r.rest) (sym s.written) }

-- how a quantifier that is begun may end
quantified : (goal : ℕ) (fs : List Frame) (before own rest : List Token) (q : Quantifier) (b : Binder) (o : Sort) → ArePlain rest → goal ≤ 9 → Stands goal fs before → IsTrue (is_prefix (prefixes.Bind q b o)) → hole goal fs ≤ 1 → (ts : List Token) → ts ≡ before ++ own → prefix_text (prefixes.Bind q b o) ≡ own ++ rest → Grows goal ts
quantified goal fs before own rest q b o z g s v r ts e w =
    let p = prefixes.Bind q b o in
    let k = wanting goal (frames.Prefix p ∷ fs) (before ++ prefix_text p) g (prefix_stands goal p fs before s v r) in
    record {
      tree = k.tree;
      rest = rest ++ k.rest;
      plain = plain_both rest k.rest z k.plain;
      formed = k.formed;
      fit = k.fit;
      written = k.written ∙ ap (λ x. (before ++ x) ++ k.rest) w ∙ ap (λ x. x ++ k.rest) (sym (append_assoc before own rest)) ∙ append_assoc (before ++ own) rest k.rest ∙ ap (λ x. x ++ (rest ++ k.rest)) (sym e);
    }

beginning : (goal : ℕ) (p : Partial) (fs : List Frame) (ts : List Token) → goal ≤ 9 → Begins goal p fs ts → Grows goal ts
beginning goal (partials.Naming q) fs ts g h = quantified goal fs h.before (partial_text (partials.Naming q)) (tokens.Place 1 ∷ tokens.Colon ∷ tokens.Int ∷ tokens.Dot ∷ []) q (binders.Numbered 1) sorts.Int (refl, (refl, (refl, (refl, tt)))) g h.stands refl h.room ts h.written refl
beginning goal (partials.Named q b) fs ts g h = quantified goal fs h.before (partial_text (partials.Named q b)) (tokens.Colon ∷ tokens.Int ∷ tokens.Dot ∷ []) q b sorts.Int (refl, (refl, (refl, tt))) g h.stands (ap (λ x. cond x true false) h.valid) h.room ts h.written refl
beginning goal (partials.Sorting q b) fs ts g h = quantified goal fs h.before (partial_text (partials.Sorting q b)) (tokens.Int ∷ tokens.Dot ∷ []) q b sorts.Int (refl, (refl, tt)) g h.stands (ap (λ x. cond x true false) h.valid) h.room ts h.written refl
beginning goal (partials.Measuring q b) fs ts g h = quantified goal fs h.before (partial_text (partials.Measuring q b)) (tokens.Number 1 ∷ tokens.Dot ∷ []) q b (sorts.Array 1) (refl, (refl, tt)) g h.stands (ap (λ x. cond x true false) h.valid) h.room ts h.written refl
beginning goal (partials.Sorted q b o) fs ts g h = quantified goal fs h.before (partial_text (partials.Sorted q b o)) (tokens.Dot ∷ []) q b o (refl, tt) g h.stands h.valid h.room ts h.written refl
beginning goal partials.Putting fs ts g h =
    let own = tokens.Put ∷ tokens.Open ∷ [] in
    let t : HasTerms (scope fs) heads.Put [] own = record { done = none; formed = tt; values_are = refl; room = refl; written = refl } in
    let k = wanting goal (frames.Call heads.Put [] ∷ fs) (h.before ++ own) g (h.before, own, refl, h.stands, (t, h.room)) in
    record {
      tree = k.tree;
      rest = tokens.Open ∷ k.rest;
      plain = (refl, k.plain);
      formed = k.formed;
      fit = k.fit;
      written = k.written ∙ ap (λ x. x ++ k.rest) (sym (append_assoc h.before (tokens.Put ∷ []) (tokens.Open ∷ []))) ∙ append_assoc (h.before ++ tokens.Put ∷ []) (tokens.Open ∷ []) k.rest ∙ ap (λ x. x ++ (tokens.Open ∷ k.rest)) (sym h.written);
    }

pub state_grows : (goal : ℕ) (m : State) (ts : List Token) → goal ≤ 9 → StateStands goal m ts → Grows goal ts
state_grows goal (wants fs) ts g s = wanting goal fs ts g s
state_grows goal (partial p fs) ts g s = beginning goal p fs ts g s
state_grows goal (worded w fs) ts g s = having goal (word_part w fs) 9 0 fs ts g (word_has goal w fs ts g s)
state_grows goal (has v n c fs) ts g s = having goal v n c fs ts g s
