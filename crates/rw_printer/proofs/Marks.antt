-- Names are no marks.
use Rattle.std.proofs.Common.{◌≡◌, ℕ, ◌+◌, ◌-◌, Bool, true, false, cond, List, [], ◌∷◌, ◌++◌, length, take, Option, Some, None, refl, sym, ap, ◌∙◌, arith, true≢false, length-append}
use Rattle.std.specs.Prelude.{not, eqb, leb, ◌&&◌, codes, bytes_eq, slice_index}
use Rattle.std.specs.List.{list_all}
use Rattle.std.proofs.Math.Seq.{take-append_seam}
use Rattle.std.proofs.lemmas.Slice.Eq.{bytes_eq-Decides}
use Rattle.std.proofs.lemmas.Bool.{and_parts}
use Rattle.rw_terms.specs.Names.{is_word, is_name, ends_with_0, is_reserved, reserved}
use Rattle.rw_syntax.specs.declared.token.Token.TheVariants as classes
use Rattle.rw_tokens.specs.declared.class.Mark.{Mark}
use Rattle.rw_tokens.specs.Tokens.{text}
use Rattle.rw_tokens.specs.Classes.{mark_texts, mark_in, shorter, name_class, class_or, text_class, class_of}

-- no mark passes a test
abbrev none_passes : (List ℕ → Bool) → List (List ℕ × Mark) → Bool
none_passes p ks = list_all (λ k. not (p k.0)) ks

by_test : (p : List ℕ → Bool) (k : List ℕ × Mark) (w : List ℕ) (o : Option Mark) (b : Bool) → bytes_eq w k.0 ≡ b → not (p k.0) ≡ true → p w ≡ true → o ≡ None → cond b (Some k.1) o ≡ None
by_test p k w o true s q e n =
    let same : w ≡ k.0 = (bytes_eq-Decides w k.0).0 s in
    absurd (true≢false (sym q ∙ ap (λ x. not (p x)) (sym same) ∙ ap not e))
by_test p k w o false s q e n = n

no_mark : (p : List ℕ → Bool) (ks : List (List ℕ × Mark)) (w : List ℕ) → none_passes p ks ≡ true → p w ≡ true → mark_in ks w ≡ None
no_mark p [] w h e = refl
no_mark p (k ∷ ks) w h e =
    let q = and_parts (not (p k.0)) (none_passes p ks) h in
    by_test p k w (mark_in ks w) (bytes_eq w k.0) refl q.0 e (no_mark p ks w q.1 e)

marks_are_no_names : none_passes is_name mark_texts ≡ true
unfolding mark_texts is_name is_reserved reserved
marks_are_no_names = refl

marks_do_not_end_with_0 : none_passes ends_with_0 mark_texts ≡ true
unfolding mark_texts
marks_do_not_end_with_0 = refl

pub word_class : (w : List ℕ) → is_name w ≡ true → class_of (text w) ≡ Some (classes.Word w)
unfolding class_of text_class name_class
word_class w e = ap (class_or w) (no_mark is_name mark_texts w marks_are_no_names e) ∙ ap (λ b. cond b (Some (classes.Word w)) (cond (ends_with_0 w && is_name (shorter w)) (Some (classes.Initial (shorter w))) None)) e

last_of : (w : List ℕ) → slice_index (w ++ 48 ∷ []) (length w) ≡ 48
last_of [] = refl
last_of (b ∷ bs) = last_of bs

ends : (w : List ℕ) → ends_with_0 (w ++ 48 ∷ []) ≡ true
ends w = ap (λ n. eqb (slice_index (w ++ 48 ∷ []) n) 48) (let l : length (w ++ 48 ∷ []) ≡ length w + 1 = length-append w (48 ∷ []) in let e : length (w ++ 48 ∷ []) - 1 ≡ length w = omega arith in e) ∙ ap (λ x. eqb x 48) (last_of w)

shorter_is : (w : List ℕ) → shorter (w ++ 48 ∷ []) ≡ w
shorter_is w = ap (λ n. take n (w ++ 48 ∷ [])) (let l : length (w ++ 48 ∷ []) ≡ length w + 1 = length-append w (48 ∷ []) in let e : length (w ++ 48 ∷ []) - 1 ≡ length w = omega arith in e) ∙ take-append_seam w (48 ∷ [])

no_name : (w : List ℕ) → ends_with_0 w ≡ true → is_name w ≡ false
unfolding is_name
no_name w e = ap (λ b. is_word w && leb (length w) 32 && not b && not (is_reserved w)) e ∙ never (is_word w && leb (length w) 32) (not (is_reserved w))
  where
    never : (a b : Bool) → (a && false && b) ≡ false
    never true b = refl
    never false b = refl

pub initial_class : (w : List ℕ) → is_name w ≡ true → class_of (text (w ++ codes "0")) ≡ Some (classes.Initial w)
unfolding class_of text_class name_class
initial_class w e =
    let v = w ++ 48 ∷ [] in
    ap (class_or v) (no_mark ends_with_0 mark_texts v marks_do_not_end_with_0 (ends w))
    ∙ ap (λ b. cond b (Some (classes.Word v)) (cond (ends_with_0 v && is_name (shorter v)) (Some (classes.Initial (shorter v))) None)) (no_name v (ends w))
    ∙ ap (λ b. cond (b && is_name (shorter v)) (Some (classes.Initial (shorter v))) None) (ends w)
    ∙ ap (λ x. cond (is_name x) (Some (classes.Initial x)) None) (shorter_is w)
    ∙ ap (λ b. cond b (Some (classes.Initial w)) None) e
