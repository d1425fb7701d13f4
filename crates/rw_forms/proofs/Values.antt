-- The loop over the tokens of a value inside a form.
use Rattle.std.proofs.Common.{◌≡◌, ℕ, ◌≤◌, Bool, true, false, cond, List, [], ◌∷◌, ◌++◌, length, drop, Option, Some, None, refl, sym, ap, ◌∙◌, subst, arith, ◌⊎◌, inl, inr}
use Rattle.std.specs.Prelude.{option_map, option_and_then, IfSome}
use Rattle.rw_syntax.specs.declared.token.Token.{Token as Class}
use Rattle.rw_syntax.specs.declared.frame.Part.{Part}
use Rattle.rw_syntax.specs.declared.state.State.{State}
use Rattle.rw_syntax.specs.Machine.{nest, run_within, advance, finish}
use Rattle.rw_syntax.specs.declared.state.State.TheVariants.{Wants as wants}
use Rattle.rw_syntax.specs.Steps.{advance_shut, finish_shut}
use Rattle.rw_syntax.specs.Stops.{stops_at, is_inside}
use Rattle.rw_syntax.proofs.Exact.{run_last}
use Rattle.rw_syntax.proofs.Outside.{advance_out, finish_inside}
use Rattle.rw_forms.specs.declared.request.ReadError.{ReadError}
use Rattle.rw_forms.specs.declared.request.ReadError.TheVariants.{Syntax}
use Rattle.rw_syntax.proofs.Choices.{some_is}
use Rattle.rw_tokens.specs.Tokens.{Token}
use Rattle.rw_tokens.specs.Classes.{class_of}
use Rattle.rw_forms.specs.Forms.{Form, rest_of}
use Rattle.rw_forms.specs.Reading.{value_of, one_more, ends_class, ends_value, gone_on, after, given, stops, read_form}
use Rattle.rw_forms.specs.Progress.{StopsAt, StandsAt, GoesAt, EndsAs, EndsAt}
use Rattle.rw_tokens.proofs.Aligned.{none_at_end}
use Rattle.rw_forms.proofs.Endings.{one_token, stuck_form, alike}

-- what was read of a value
pub record Inside (most goal : ℕ) (line : List ℕ) (start at : ℕ) (s : State) : Type 0 where
  pub done : List Class
  pub runs : run_within most goal (wants []) done ≡ Some s
  pub same : (k : Part → Form) → read_form (rest_of most goal [] k) (drop start line) ≡ read_form (rest_of most goal done k) (drop at line)

pub begun : (most goal : ℕ) (line : List ℕ) (at : ℕ) (s : State) → s ≡ wants [] → Inside most goal line at at s
unfolding run_within
begun most goal line at s e = record { done = []; runs = ap Some (sym e); same = λ k. refl }

advance_is : (most goal : ℕ) (s : State) (c : Class) → advance_shut most goal s c ≡ advance most goal s c
unfolding advance_shut
advance_is most goal s c = refl

finish_is : (goal : ℕ) (s : State) → finish_shut goal s ≡ finish goal s
unfolding finish_shut
finish_is goal s = refl

-- one more token
pub turned : (most goal : ℕ) (line : List ℕ) (start at : ℕ) (s : State) (p : Class × ℕ) (o : Option State) (s2 : State) → Inside most goal line start at s → StandsAt line at p → o ≡ advance_shut most goal s p.0 → o ≡ Some s2 → Inside most goal line start p.1 s2
turned most goal line start at s p o s2 i st a e =
    let r : run_within most goal (wants []) (i.done ++ p.0 ∷ []) ≡ Some s2 = run_last most goal (wants []) i.done p.0 s i.runs ∙ sym (advance_is most goal s p.0) ∙ sym a ∙ e in
    let t = st.1 in
    record {
      done = i.done ++ p.0 ∷ [];
      runs = r;
      same = λ k. i.same k ∙ one_token (rest_of most goal i.done k) (rest_of most goal (i.done ++ p.0 ∷ []) k) (drop at line) (drop p.1 line) t.0 t.1
          (ap (gone_on (λ more. rest_of most goal more k) (cond (ends_value t.0) (option_and_then (λ v. after (k v) t.0) (value_of most goal i.done)) None)) (ap (option_and_then (one_more most goal i.done)) t.2 ∙ ap (option_map (λ _. i.done ++ p.0 ∷ [])) r));
    }

value_is : (most goal : ℕ) (done : List Class) (s : State) (o : Option Part) → run_within most goal (wants []) done ≡ Some s → o ≡ finish_shut goal s → value_of most goal done ≡ o
value_is most goal done s o r f = ap (option_and_then (finish goal)) r ∙ sym (f ∙ finish_is goal s)

-- what ends a value leaves it
left_as : (most goal : ℕ) (done : List Class) (s : State) (k : Part → Form) (t : Token) → run_within most goal (wants []) done ≡ Some s → (o : Option Class) → EndsAs s o →
    gone_on (λ more. rest_of most goal more k) (cond (ends_class o) (option_and_then (λ v. after (k v) t) (value_of most goal done)) None) (option_and_then (one_more most goal done) o) ≡ option_and_then (λ v. after (k v) t) (value_of most goal done)
left_as most goal done s k t r None h = refl
left_as most goal done s k t r (Some c) h =
    let none : run_within most goal (wants []) (done ++ c ∷ []) ≡ None = run_last most goal (wants []) done c s r ∙ advance_out most goal s c h.1 h.0 in
    ap (gone_on (λ more. rest_of most goal more k) (cond (stops_at c) (option_and_then (λ v. after (k v) t) (value_of most goal done)) None)) (ap (option_map (λ _. done ++ c ∷ [])) none) ∙ ap (λ b. cond b (option_and_then (λ v. after (k v) t) (value_of most goal done)) None) h.0

pub leaves : (most goal : ℕ) (line : List ℕ) (start at : ℕ) (s : State) (o : Option Part) (w : Part) → Inside most goal line start at s → EndsAt (drop at line) s → o ≡ finish_shut goal s → o ≡ Some w → (k : Part → Form) → read_form (rest_of most goal [] k) (drop start line) ≡ read_form (k w) (drop at line)
leaves most goal line start at s o w i h f e k =
    let v : value_of most goal i.done ≡ Some w = value_is most goal i.done s o i.runs f ∙ e in
    i.same k ∙ alike (rest_of most goal i.done k) (k w) (drop at line) (ap (option_and_then (λ x. given (k x))) v) (λ t there z. left_as most goal i.done s k t i.runs (class_of t) (h t there z) ∙ ap (option_and_then (λ x. after (k x) t)) v)

stopped : (line : List ℕ) (at : ℕ) (e : ReadError) (most goal start : ℕ) (k : Part → Form) → e ≡ Syntax at → at ≤ length line → read_form (rest_of most goal [] k) (drop start line) ≡ stops (drop at line) → StopsAt line e (read_form (rest_of most goal [] k) (drop start line))
stopped line at e most goal start k is within h = subst (λ x. StopsAt line x (read_form (rest_of most goal [] k) (drop start line))) (sym is) (within, h)

-- no value ends here
pub ends_early : (most goal : ℕ) (line : List ℕ) (start at : ℕ) (s : State) (o : Option Part) (e : ReadError) → Inside most goal line start at s → EndsAt (drop at line) s → o ≡ finish_shut goal s → o ≡ None → e ≡ Syntax at → at ≤ length line → (k : Part → Form) → StopsAt line e (read_form (rest_of most goal [] k) (drop start line))
ends_early most goal line start at s o e i h f n is within k =
    let v : value_of most goal i.done ≡ None = value_is most goal i.done s o i.runs f ∙ n in
    stopped line at e most goal start k is within (i.same k ∙ stuck_form (rest_of most goal i.done k) (drop at line) (λ z. ap (option_and_then (λ x. given (k x))) v) (λ t there z. left_as most goal i.done s k t i.runs (class_of t) (h t there z) ∙ ap (option_and_then (λ x. after (k x) t)) v))

abbrev no_form : Option Form
no_form = None

never_form : (b : Bool) → cond b no_form None ≡ None
never_form true = refl
never_form false = refl

refused_none : (most goal : ℕ) (done : List Class) (s : State) (k : Part → Form) (t : Token) (c : Class) → run_within most goal (wants []) done ≡ Some s → (stops_at c ≡ false) ⊎ (is_inside s ≡ true) → cond (stops_at c) (option_and_then (λ v. after (k v) t) (value_of most goal done)) None ≡ None
refused_none most goal done s k t c r (inl e) = ap (λ b. cond b (option_and_then (λ v. after (k v) t) (value_of most goal done)) None) e
refused_none most goal done s k t c r (inr e) =
    let v : value_of most goal done ≡ None = ap (option_and_then (finish goal)) r ∙ finish_inside goal s e in
    ap (λ o. cond (stops_at c) (option_and_then (λ x. after (k x) t) o) None) v ∙ never_form (stops_at c)

-- a token that is refused
pub refuses : (most goal : ℕ) (line : List ℕ) (start at : ℕ) (s : State) (p : Class × ℕ) (o : Option State) (e : ReadError) → Inside most goal line start at s → GoesAt line at s p → o ≡ advance_shut most goal s p.0 → o ≡ None → e ≡ Syntax at → at ≤ length line → (k : Part → Form) → StopsAt line e (read_form (rest_of most goal [] k) (drop start line))
refuses most goal line start at s p o e i g a n is within k =
    let st = g.0 in
    let t = st.1 in
    let none : run_within most goal (wants []) (i.done ++ p.0 ∷ []) ≡ None = run_last most goal (wants []) i.done p.0 s i.runs ∙ sym (advance_is most goal s p.0) ∙ sym a ∙ n in
    let here : after (rest_of most goal i.done k) t.0 ≡ None =
    ap (λ x. gone_on (λ more. rest_of most goal more k) (cond (ends_class x) (option_and_then (λ v. after (k v) t.0) (value_of most goal i.done)) None) (option_and_then (one_more most goal i.done) x)) t.2 ∙
    ap (gone_on (λ more. rest_of most goal more k) (cond (stops_at p.0) (option_and_then (λ v. after (k v) t.0) (value_of most goal i.done)) None)) (ap (option_map (λ _. i.done ++ p.0 ∷ [])) none) ∙
    refused_none most goal i.done s k t.0 p.0 i.runs g.1 in
    stopped line at e most goal start k is within (i.same k ∙ stuck_form (rest_of most goal i.done k) (drop at line) (λ z. absurd (none_at_end (drop at line) t.0 (drop p.1 line) z t.1)) (λ u there z. let same : t.0 ≡ u = ap (λ x. x.0) (some_is (sym t.1 ∙ z)) in subst (λ x. after (rest_of most goal i.done k) x ≡ None) same here))

-- the nest behind a token
pub opened_of : (most : ℕ) (o : Option State) (s : State) → o ≡ Some s → IfSome o (λ x. nest x ≤ most) → most ≤ 512 → nest s ≤ 512
opened_of most o s e h b = let n : nest s ≤ most = subst (λ x. IfSome x (λ y. nest y ≤ most)) e h in omega arith
