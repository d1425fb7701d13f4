-- What the reader's loop keeps, what it answers at its exits, and that these exclude one another.
use Rattle.std.proofs.Common.{◌≡◌, ℕ, ◌+◌, ◌-◌, ◌≤◌, ◌<◌, ◌⊎◌, List, [], ◌∷◌, ◌++◌, length, drop, Option, Some, None, refl, sym, ap, ◌∙◌, subst, arith, append-nil, append_assoc, inl, inr, length-drop}
use Rattle.std.proofs.lemmas.List.{drop_all}
use Rattle.rw_forms.specs.declared.request.ReadError.{ReadError}
use Rattle.rw_forms.specs.declared.request.ReadError.TheVariants as read_error
use Rattle.rw_syntax.specs.declared.token.Token.{Token as Class}
use Rattle.rw_syntax.specs.declared.frame.Part.{Part}
use Rattle.rw_syntax.specs.Grammar.{nests}
use Rattle.rw_syntax.specs.declared.state.State.{State}
use Rattle.rw_syntax.specs.declared.state.State.TheVariants.{Wants as wants}
use Rattle.rw_syntax.specs.Machine.{advance, run_within, finish}
use Rattle.rw_syntax.specs.Steps.{advance_shut, finish_shut}
use Rattle.rw_syntax.specs.Spelling.{Spells, CanGoOn}
use Rattle.rw_syntax.proofs.Exact.{ends_spells, runs_can, one_value, run_last, refused, no_value}
use Rattle.rw_syntax.proofs.TermsApart.{terms_only, formulas_only}
use Rattle.rw_terms.specs.declared.term.Term.{Term}
use Rattle.rw_terms.specs.declared.term.Formula.{Formula}
use Rattle.rw_syntax.specs.declared.frame.Part.TheVariants as parts
use Rattle.rw_tokens.specs.Tokens.{Token, skip, token_at, LeadsTo}
use Rattle.rw_tokens.specs.Classes.{class_of, AreClasses}
use Rattle.rw_tokens.specs.Expressions.{TokensSpell, TokensGoOn, TextSpells, IsFaultOf}
use Rattle.rw_reader.specs.Turns.{Turns, RefusedAs, Refuses}
use Rattle.rw_syntax.proofs.Choices.{some_is}
use Rattle.rw_forms.proofs.Grammar.{take_less, take_within}
use Rattle.rw_tokens.proofs.Shorter.{shortens}
use Rattle.rw_tokens.proofs.Aligned.{none_at_end, Either, longer, shorter, aligned}
use Rattle.rw_tokens.proofs.Classes.{same_classes, one_class, last_class, front_classes}

-- what was read up to a place
pub record Read (goal : ℕ) (line left : List ℕ) (s : State) : Type 0 where
  pub before : List Token
  pub classes : List Class
  pub leads : LeadsTo (skip line) before left
  pub are : AreClasses before classes
  pub runs : run_within 512 goal (wants []) classes ≡ Some s

pub begun : (goal : ℕ) (line left : List ℕ) (s : State) → left ≡ skip (drop 0 line) → s ≡ wants [] → Read goal line left s
unfolding run_within
begun goal line left s e k = record { before = []; classes = []; leads = sym e; are = refl; runs = ap Some (sym k) }

lead_one : (here : List ℕ) (ts : List Token) (left : List ℕ) (t : Token) (behind : List ℕ) → LeadsTo here ts left → token_at left ≡ Some (t, behind) → LeadsTo here (ts ++ t ∷ []) behind
lead_one here [] left t behind l e = (behind, ap token_at l ∙ e, refl)
lead_one here (k ∷ ts) left t behind l e = (l.0, l.1, lead_one l.0 ts left t behind l.2 e)

advance_is : (goal : ℕ) (s : State) (c : Class) → advance_shut 512 goal s c ≡ advance 512 goal s c
unfolding advance_shut
advance_is goal s c = refl

finish_is : (goal : ℕ) (s : State) → finish_shut goal s ≡ finish goal s
unfolding finish_shut
finish_is goal s = refl

pub one_more : (goal : ℕ) (line left : List ℕ) (s : State) (there : List ℕ) (s2 : State) → Read goal line left s → Turns 512 goal left s there s2 → Read goal line there s2
one_more goal line left s there s2 r t = record {
  before = r.before ++ t.token ∷ [];
  classes = r.classes ++ t.class ∷ [];
  leads = lead_one (skip line) r.before left t.token there r.leads t.stands;
  are = one_class r.before r.classes t.token t.class r.are t.is;
  runs = run_last 512 goal (wants []) r.classes t.class s r.runs ∙ sym (advance_is goal s t.class) ∙ t.advances;
}

pub ends_well : (goal : ℕ) (line left : List ℕ) (s : State) (v : Part) → goal ≤ 9 → Read goal line left s → left ≡ [] → finish_shut goal s ≡ Some v → TextSpells goal line v
ends_well goal line left s v g r e f = (r.before, subst (LeadsTo (skip line) r.before) e r.leads, (r.classes, r.are, ends_spells 512 goal r.classes s v g r.runs (sym (finish_is goal s) ∙ f)))

-- a text that ends too early
pub ends_early : (goal : ℕ) (line left : List ℕ) (s : State) → goal ≤ 9 → Read goal line left s → left ≡ [] → finish_shut goal s ≡ None → IsFaultOf goal line (length line)
ends_early goal line left s g r e f = record {
  before = r.before;
  left = left;
  leads = r.leads;
  goes = (r.classes, r.are, runs_can 512 goal r.classes s g r.runs);
  stuck = λ t behind h. absurd (none_at_end left t behind e h);
  early = λ z v sp. no_value 512 goal r.classes s v g r.runs (sym (finish_is goal s) ∙ f) (subst (λ cs. Spells 512 goal cs v) (same_classes r.before sp.0 r.classes sp.1 r.are) sp.2);
  place = ap (λ x. length line + length x) e ∙ omega arith;
}

refused_at : (goal : ℕ) (s : State) (cs : List Class) (c : Class) (o : Option Class) → goal ≤ 9 → run_within 512 goal (wants []) cs ≡ Some s → o ≡ Some c → RefusedAs 512 goal s o → ¬ (CanGoOn 512 goal (cs ++ c ∷ []))
refused_at goal s cs c None g r e h = absurd (cc)
refused_at goal s cs c (Some d) g r e h = let same : d ≡ c = some_is e in refused 512 goal cs c s g r (sym (advance_is goal s c) ∙ ap (advance_shut 512 goal s) (sym same) ∙ h)

-- what stands next is no token, or a token that the tokens before it do not go on with
pub stops_here : (goal : ℕ) (line left : List ℕ) (s : State) (o : ℕ) → goal ≤ 9 → Read goal line left s → (left ≡ [] → ⊥) → Refuses 512 goal left s → o + length left ≡ length line → IsFaultOf goal line o
stops_here goal line left s o g r more h p = record {
  before = r.before;
  left = left;
  leads = r.leads;
  goes = (r.classes, r.are, runs_can 512 goal r.classes s g r.runs);
  stuck = λ t behind e go.
      let k = last_class r.before r.classes go.0 t r.are go.1 in
      refused_at goal s r.classes k.0 (class_of t) g r.runs k.1 (h t behind e) (subst (CanGoOn 512 goal) k.2 go.2);
  early = λ z v. absurd (more z);
  place = p;
}

-- the end of a text
at_end : (line : List ℕ) (at : ℕ) → length line ≤ at → drop at line ≡ []
at_end line at h = drop_all at line h

more_left : (line : List ℕ) (at : ℕ) → at < length line → drop at line ≡ [] → ⊥
more_left line at h e = let n : length (drop at line) ≡ 0 = ap length e in let k = length-drop at line in absurd (omega arith)

-- the faults that a turn tells
pub turn_faults : (goal : ℕ) (line : List ℕ) (at : ℕ) (s : State) (e : ReadError) → goal ≤ 9 → at < length line → Read goal line (drop at line) s → (e ≡ read_error.Memory) ⊎ ((e ≡ read_error.Syntax at) × Refuses 512 goal (drop at line) s) → (e ≡ read_error.Memory) ⊎ ((o : ℕ) × (e ≡ read_error.Syntax o) × IsFaultOf goal line o)
turn_faults goal line at s e g h r (inl m) = inl m
turn_faults goal line at s e g h r (inr k) = inr (at, k.0, stops_here goal line (drop at line) s at g r (more_left line at h) k.1 (let z = length-drop at line in omega arith))

pub end_spells : (goal : ℕ) (line : List ℕ) (at : ℕ) (s : State) (v : Part) (o : Option Part) → goal ≤ 9 → length line ≤ at → Read goal line (drop at line) s → o ≡ finish_shut goal s → o ≡ Some v → TextSpells goal line v
end_spells goal line at s v o g h r f e = ends_well goal line (drop at line) s v g r (at_end line at h) (sym f ∙ e)

pub end_fault : (goal : ℕ) (line : List ℕ) (at : ℕ) (s : State) (o : Option Part) (e : ReadError) → goal ≤ 9 → length line ≤ at → Read goal line (drop at line) s → o ≡ finish_shut goal s → o ≡ None → e ≡ read_error.Syntax (length line) → (e ≡ read_error.Memory) ⊎ ((o : ℕ) × (e ≡ read_error.Syntax o) × IsFaultOf goal line o)
end_fault goal line at s o e g h r f n k = inr (length line, k, ends_early goal line (drop at line) s g r (at_end line at h) (sym f ∙ n))

-- a turn takes bytes
pub turn_falls : (goal : ℕ) (line : List ℕ) (at next : ℕ) (s s2 : State) → Turns 512 goal (drop at line) s (drop next line) s2 → length line - next < length line - at
turn_falls goal line at next s s2 t = let a = shortens (drop at line) t.token (drop next line) t.stands in let b = length-drop at line in let c = length-drop next line in omega arith

length_front : (a b : List Class) → length a ≤ length (a ++ b)
length_front [] b = omega arith
length_front (c ∷ a) b = let r = length_front a b in omega arith

-- a front of what can go on can go on
front_goes : (goal : ℕ) (a b : List Class) → CanGoOn 512 goal (a ++ b) → CanGoOn 512 goal a
front_goes goal a b c = record { tree = c.tree; rest = b ++ c.rest; formed = c.formed; fit = c.fit; written = c.written ∙ append_assoc a b c.rest; within = take_less 512 (length a) (length (a ++ b)) (nests 0 c.tree) (length_front a b) c.within }

spelled_goes : (goal : ℕ) (cs : List Class) (v : Part) → Spells 512 goal cs v → CanGoOn 512 goal cs
spelled_goes goal cs v s = record { tree = s.tree; rest = []; formed = s.formed; fit = s.fit; written = s.written ∙ sym (append-nil cs); within = take_within 512 (length cs) (nests 0 s.tree) s.within }

tokens_front : (goal : ℕ) (a b : List Token) → TokensGoOn goal (a ++ b) → TokensGoOn goal a
tokens_front goal a b g = let r = front_classes a b g.0 g.1 in (r.0, r.3, front_goes goal r.0 r.1 (subst (CanGoOn 512 goal) r.2 g.2))

-- no more tokens stand behind a fault
stuck_front : (goal : ℕ) (line : List ℕ) (o : ℕ) (f : IsFaultOf goal line o) (k : Token) (more : List Token) (end : List ℕ) → LeadsTo f.left (k ∷ more) end → TokensGoOn goal (f.before ++ k ∷ more) → ⊥
stuck_front goal line o f k more end l g = f.stuck k l.0 l.1 (tokens_front goal (f.before ++ k ∷ []) more (subst (TokensGoOn goal) (sym (append_assoc f.before (k ∷ []) more)) g))

not_both : (goal : ℕ) (line : List ℕ) (o : ℕ) (f : IsFaultOf goal line o) (v : Part) (more : List Token) → LeadsTo f.left more [] → TokensSpell goal (f.before ++ more) v → ⊥
not_both goal line o f v [] l sp = f.early l v (subst (λ x. TokensSpell goal x v) (append-nil f.before) sp)
not_both goal line o f v (k ∷ more) l sp = stuck_front goal line o f k more [] l (sp.0, sp.1, spelled_goes goal sp.0 v sp.2)

-- a text that spells a value has no fault
pub exclusive : (goal : ℕ) (line : List ℕ) (v : Part) (o : ℕ) → TextSpells goal line v → IsFaultOf goal line o → ⊥
exclusive goal line v o s f = by_sides (aligned (skip line) f.before s.0 f.left [] f.leads s.1)
  where
    shorter_side : (more : List Token) → f.before ≡ s.0 ++ more → LeadsTo [] more f.left → ⊥
    shorter_side [] i l = f.early (sym l) v (subst (λ z. TokensSpell goal z v) (sym (i ∙ append-nil s.0)) s.2)
    shorter_side (k ∷ more) i l = none_at_end [] k l.0 refl l.1

    by_sides : Either f.before s.0 f.left [] → ⊥
    by_sides (longer a) = not_both goal line o f v a.more a.leads (subst (λ z. TokensSpell goal z v) a.is s.2)
    by_sides (shorter a) = shorter_side a.more a.is a.leads

-- tokens have one value
pub one_tokens_value : (goal : ℕ) (ts : List Token) (v w : Part) → goal ≤ 9 → TokensSpell goal ts v → TokensSpell goal ts w → v ≡ w
one_tokens_value goal ts v w g x y = one_value 512 goal x.0 v w g x.2 (subst (λ cs. Spells 512 goal cs w) (same_classes ts y.0 x.0 y.1 x.1) y.2)

-- a text has one value
pub one_text_value : (goal : ℕ) (line : List ℕ) (v w : Part) → goal ≤ 9 → TextSpells goal line v → TextSpells goal line w → v ≡ w
one_text_value goal line v w g a b = by_sides (aligned (skip line) a.0 b.0 [] [] a.1 b.1)
  where
    same : (ts us more : List Token) (v w : Part) → us ≡ ts ++ more → LeadsTo [] more [] → TokensSpell goal ts v → TokensSpell goal us w → v ≡ w
    same ts us [] v w i l x y = one_tokens_value goal ts v w g x (subst (λ z. TokensSpell goal z w) (i ∙ append-nil ts) y)
    same ts us (k ∷ more) v w i l x y = absurd (none_at_end [] k l.0 refl l.1)

    by_sides : Either a.0 b.0 [] [] → v ≡ w
    by_sides (longer e) = same a.0 b.0 e.more v w e.is e.leads a.2 b.2
    by_sides (shorter e) = sym (same b.0 a.0 e.more w v e.is e.leads b.2 a.2)

same_place : (goal : ℕ) (line : List ℕ) (o p : ℕ) (f : IsFaultOf goal line o) (h : IsFaultOf goal line p) (more : List Token) → h.before ≡ f.before ++ more → LeadsTo f.left more h.left → o ≡ p
same_place goal line o p f h [] e l = let n : length f.left ≡ length h.left = ap length l in let a = f.place in let b = h.place in omega arith
same_place goal line o p f h (k ∷ more) e l = absurd (stuck_front goal line o f k more h.left l (subst (TokensGoOn goal) e h.goes))

-- a text has one fault
pub one_fault : (goal : ℕ) (line : List ℕ) (o p : ℕ) → IsFaultOf goal line o → IsFaultOf goal line p → o ≡ p
one_fault goal line o p f h = by_sides (aligned (skip line) f.before h.before f.left h.left f.leads h.leads)
  where
    by_sides : Either f.before h.before f.left h.left → o ≡ p
    by_sides (longer a) = same_place goal line o p f h a.more a.is a.leads
    by_sides (shorter a) = sym (same_place goal line p o h f a.more a.is a.leads)

-- what is read as a term is no formula, and what is read as a formula no term
pub no_formula : (line : List ℕ) (v : Part) (f : Formula) → v ≡ parts.Formula f → TextSpells 6 line v → ⊥
no_formula line v f e t = let s = t.2 in terms_only 512 s.0 f (subst (Spells 512 6 s.0) e s.2)

pub no_term : (line : List ℕ) (v : Part) (t : Term) → v ≡ parts.Term t → TextSpells 1 line v → ⊥
no_term line v u e t = let s = t.2 in formulas_only 512 s.0 u (subst (Spells 512 1 s.0) e s.2)
