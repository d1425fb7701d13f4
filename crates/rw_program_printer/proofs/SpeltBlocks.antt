-- What is printed of specifications, blocks, alternations and iterations spells them.
use Rattle.std.proofs.Common.{◌≡◌, ℕ, zero, suc, ◌≤◌, Bool, true, false, cond, List, [], ◌∷◌, ◌++◌, Some, None, refl, sym, ap, ◌∙◌, subst, arith, map, append_assoc, true≢false, inl, inr}
use Rattle.std.specs.Prelude.{not, ◌&&◌, leb, codes, decimal}
use Rattle.std.proofs.lemmas.Bool.{and_parts}
use Rattle.std.proofs.lemmas.Bool.Decides.{nat_tests}
use Rattle.rw_terms.specs.Names.{is_name}
use Rattle.rw_terms.specs.AllOf.{all_of}
use Rattle.rw_terms.specs.declared.term.Sort.{Sort}
use Rattle.rw_terms.specs.declared.term.Sort.TheVariants as sorts
use Rattle.rw_terms.specs.declared.term.Term.{Term}
use Rattle.rw_syntax.specs.Grammar.{nests, is_sort, is_upper}
use Rattle.rw_syntax.specs.Spelling.{AreWithin}
use Rattle.rw_programs.specs.declared.prog.Arm.{Arm}
use Rattle.rw_programs.specs.declared.prog.Pin.{Pin}
use Rattle.rw_programs.specs.declared.prog.Spec.{Spec}
use Rattle.rw_programs.specs.declared.prog.Prog.{Prog, If'}
use Rattle.rw_programs.specs.declared.prog.Prog.TheVariants as prog
use Rattle.rw_programs.specs.declared.prog.Prog.TheViews as made
use Rattle.rw_tokens.specs.Tokens.{number, skip}
use Rattle.rw_forms.specs.Forms.{a_variable, any_name, a_number, an_arm, takes, many}
use Rattle.rw_forms.specs.Phrases.{mark, sort, formula, term, names}
use Rattle.rw_printer.specs.Trees.{term_tree, formula_tree}
use Rattle.rw_printer.specs.Layout.{printed_term, printed_formula, sort_text, listed, names_text}
use Rattle.rw_printer.specs.Readable.{readable_term, readable_formula, named_term, named_formula}
use Rattle.rw_printer.proofs.Lexed.{Starts, starts_with, skip_start, name_starts, number_starts}
use Rattle.rw_printer.proofs.Fronts.{ends, ends_stops, word_front, number_token}
use Rattle.rw_printer.proofs.Spelling.{Spelt, spelt_from, spelt_as, slot_spelt, chain, mapped, marked, closed, worded, word_alone, within, item, Item, AllGood, Laid, list_spelt, unwrapped}
use Rattle.rw_printer.proofs.SpeltParts.{GoodTerm, variable_spelt, name_spelt, term_starts, term_spelt, formula_starts, counted_known}
use Rattle.rw_printer.proofs.SpeltSums.{open_square}
use Rattle.rw_program_reader.specs.declared.opening.Binding.{Binding}
use Rattle.rw_program_reader.specs.declared.opening.Binding.TheVariants as bindings
use Rattle.rw_program_reader.specs.Programs.{specification, conditions, named, plain, pins, opening, block_of, block, arm, arm_form, arm_in, arms, alternation, variant, iteration, one, program}
use Rattle.rw_program_printer.specs.Layout.{pins_text, block_text, local_text, prog_text, arm_text, arms_text}
use Rattle.rw_program_printer.specs.Readable.{readable_names, readable_pin, some_of, readable_prog, readable_arm, named_names, named_pins, named_spec, some_arms, readable_row}
use Rattle.rw_program_printer.specs.ReadsBack.{Inside, PinsStayWithin, ProgramStaysWithin, RowStaysWithin, ArmStaysWithin, part_form, IsSpelt, IsArmSpelt, AreSpelt}
use Rattle.rw_program_printer.proofs.Tokens.{IsBare, bare, keyword, last_word, arrow, box, dot, colon, colon_alone, comma_space, square_closes, block_opens, block_closes, brace, brace_closes}
use Rattle.rw_program_printer.proofs.SpeltParts.{formula_spelt, GoodName, good_names, names_ok, good_pins, pins_ok}
use Rattle.rw_program_printer.proofs.Spelt.{plain_part, whole}
use Rattle.rw_program_printer.proofs.Written.{if_is, do_is}

-- specifications

grouped_spec : (n f g r : List ℕ) → (n ++ codes ":[" ++ f ++ codes ", " ++ g ++ codes "]") ++ r ≡ n ++ (58 ∷ 91 ∷ (f ++ (44 ∷ 32 ∷ (g ++ (93 ∷ r)))))
grouped_spec n f g r = simp append_assoc

conditions_spelt : (w : Spec) (most : ℕ) (r : List ℕ) → most ≤ 512 → readable_formula w.pre 0 ≡ true → readable_formula w.post 0 ≡ true → named_formula w.pre ≡ true → named_formula w.post ≡ true →
    AreWithin most (nests 0 (formula_tree w.pre 0)) → AreWithin most (nests 0 (formula_tree w.post 0)) → ends r ≡ true →
    Spelt (λ k. conditions w.frame k most) (prog.Spec w) (91 ∷ (printed_formula w.pre ++ (44 ∷ 32 ∷ (printed_formula w.post ++ (93 ∷ r))))) (skip r)
conditions_spelt w most r h p q n m u v e =
    let z = printed_formula w.post ++ (93 ∷ r) in
    let y = printed_formula w.pre ++ (44 ∷ 32 ∷ z) in
    marked (codes "[") (λ k. formula most (λ f. mark (codes ",") (formula most (λ g. mark (codes "]") (k (prog.Spec (record { frame = w.frame; pre = f; post = g }))))))) (prog.Spec w) (open_square y (starts_with (printed_formula w.pre) _ (formula_starts w.pre p n)))
    (chain (formula most) (λ f k. mark (codes ",") (formula most (λ g. mark (codes "]") (k (prog.Spec (record { frame = w.frame; pre = f; post = g })))))) w.pre (prog.Spec w) (formula_spelt most w.pre (44 ∷ 32 ∷ z) h p n u refl)
    (marked (codes ",") (λ k. formula most (λ g. mark (codes "]") (k (prog.Spec (record { frame = w.frame; pre = w.pre; post = g }))))) (prog.Spec w) (comma_space z (skip_start z (starts_with (printed_formula w.post) (93 ∷ r) (formula_starts w.post q m))))
    (chain (formula most) (λ g k. mark (codes "]") (k (prog.Spec (record { frame = w.frame; pre = w.pre; post = g })))) w.post (prog.Spec w) (formula_spelt most w.post (93 ∷ r) h q m v refl) (closed (codes "]") (prog.Spec w) (square_closes r e)))))

spec_in : (w : Spec) (most : ℕ) (r : List ℕ) → most ≤ 512 → readable_formula w.pre 0 ≡ true → readable_formula w.post 0 ≡ true → named_formula w.pre ≡ true → named_formula w.post ≡ true →
    Inside most (λ m. AreWithin m (nests 0 (formula_tree w.pre 0)) × AreWithin m (nests 0 (formula_tree w.post 0))) → ends r ≡ true →
    Spelt (specification most w.frame) (prog.Spec w) (91 ∷ (printed_formula w.pre ++ (44 ∷ 32 ∷ (printed_formula w.post ++ (93 ∷ r))))) (skip r)
unfolding specification
spec_in w zero r h p q n m u e = absurd u
spec_in w (suc most) r h p q n m u e = conditions_spelt w most r (omega arith) p q n m u.0 u.1 e

framed : (most : ℕ) (w : Spec) (xs : List (List ℕ)) (y r : List ℕ) → xs ≡ w.frame → AllGood GoodName xs → Spelt (specification most xs) (prog.Spec w) (91 ∷ y) (skip r) → IsBare (names_text xs ++ (58 ∷ 91 ∷ y)) × Spelt (plain most) (prog.Spec w) (names_text xs ++ (58 ∷ 91 ∷ y)) (skip r)
unfolding plain named
framed most w [] y r z g s = (
  bare 58 (91 ∷ y) refl,
  spelt_from (sym (bare 58 (91 ∷ y) refl)) (worded (specification most []) (plain most) (λ p. p) (codes ":") (prog.Spec w) (colon_alone y) (λ k i rest v x. inr (inr (inr (inl (rest, refl, x))))) s),
)
framed most w (x ∷ xs) y r z g s =
    let o = names_ok (x ∷ xs) (58 ∷ 91 ∷ y) refl g refl in (
      o.0,
      within (λ k. names (λ ys. named most ys k)) (plain most) (prog.Spec w) (λ k n us v i. inr (inr (inr (inr i))))
          (chain names (λ ys k. named most ys k) (x ∷ xs) (prog.Spec w) o.1
          (within (λ k. mark (codes ":") (specification most (x ∷ xs) k)) (named most (x ∷ xs)) (prog.Spec w) (λ k n us v i. inr i) (marked (codes ":") (specification most (x ∷ xs)) (prog.Spec w) (colon_alone y) s))),
    )

pub spec_spelt : (w : Spec) → named_spec w ≡ true → IsSpelt (prog.Spec w)
spec_spelt w n = λ p most h u r e.
    let q = and_parts (readable_names w.frame) (readable_formula w.pre 0 && readable_formula w.post 0) p in
    let a = and_parts (readable_formula w.pre 0) (readable_formula w.post 0) q.1 in
    let m = and_parts (named_names w.frame) (named_formula w.pre && named_formula w.post) n in
    let b = and_parts (named_formula w.pre) (named_formula w.post) m.1 in
    let z = grouped_spec (names_text w.frame) (printed_formula w.pre) (printed_formula w.post) r in
    let f = framed most w w.frame (printed_formula w.pre ++ (44 ∷ 32 ∷ (printed_formula w.post ++ (93 ∷ r)))) r refl (good_names w.frame q.0 m.0) (spec_in w most r h a.0 a.1 b.0 b.1 u e) in
    (subst IsBare (sym z) f.0, spelt_from z (plain_part most (prog.Spec w) f.1))

-- blocks

known : (n : ℕ) → (leb 1 n && leb n 1024) ≡ true → leb n 4294967295 ≡ true
known n h = grind (arith, nat_tests, h)

grouped_array : (d r : List ℕ) → (codes "array " ++ d) ++ r ≡ codes "array" ++ (32 ∷ (d ++ r))
grouped_array d r = simp append_assoc

pub sort_spelt : (s : Sort) (r : List ℕ) → is_sort s ≡ true → ends r ≡ true → IsBare (sort_text s ++ r) × Spelt sort s (sort_text s ++ r) (skip r)
unfolding sort
sort_spelt sorts.Int r h e = (bare 105 (codes "nt" ++ r) refl, word_alone sort sorts.Int (codes "int") (word_front 105 (codes "nt") r refl refl (ends_stops r e)) (λ k n rest v i. inl (rest, refl, i)))
sort_spelt (sorts.Array n) r h e =
    let z = grouped_array (decimal n) r in
    let d = counted_known n (known n h) in (
      subst IsBare (sym z) (bare 97 (codes "rray" ++ (32 ∷ (decimal n ++ r))) refl),
      spelt_from z (within (λ k. mark (codes "array") (takes (a_number 1 1024) (λ m. k (sorts.Array m)))) sort (sorts.Array n) (λ k m us v i. inr i)
          (marked (codes "array") (λ k. takes (a_number 1 1024) (λ m. k (sorts.Array m))) (sorts.Array n) (keyword 97 (codes "rray") (decimal n ++ r) refl refl (skip_start (decimal n ++ r) (starts_with (decimal n) r (number_starts n d))))
          (mapped (takes (a_number 1 1024)) sorts.Array n (slot_spelt (a_number 1 1024) n (decimal n ++ r) (skip r) (number n) (number_token n r d (ends_stops r e)) (ap (λ b. cond b (Some n) None) h))))),
    )

grouped_block : (o b r : List ℕ) → (codes "|[ " ++ o ++ codes " . " ++ b ++ codes " ]|") ++ r ≡ 124 ∷ 91 ∷ 32 ∷ (o ++ (32 ∷ 46 ∷ 32 ∷ (b ++ (32 ∷ 93 ∷ 124 ∷ r))))
grouped_block o b r = simp append_assoc

block_at : (most : ℕ) (o : Binding) (c : Prog) (written r : List ℕ) → most ≤ 512 → readable_prog c ≡ true → ProgramStaysWithin most c → IsSpelt c →
    ((y : List ℕ) → IsBare (written ++ (32 ∷ y)) × Spelt (opening most) o (written ++ (32 ∷ y)) (skip (32 ∷ y))) →
    (skip (block_text written (prog_text c) ++ r) ≡ block_text written (prog_text c) ++ r) × Spelt (one most (program most)) (block_of o c) (block_text written (prog_text c) ++ r) (skip r)
unfolding one block
block_at most o c written r h p w f s =
    let z = grouped_block written (prog_text c) r in
    let x = f p most h w (32 ∷ 93 ∷ 124 ∷ r) refl in
    let y = prog_text c ++ (32 ∷ 93 ∷ 124 ∷ r) in
    let u = s (46 ∷ 32 ∷ y) in (
      subst IsBare (sym z) (bare 124 _ refl),
      spelt_from z (worded (block most (program most)) (one most (program most)) (λ q. q) (codes "|[") (block_of o c) (block_opens (written ++ (32 ∷ 46 ∷ 32 ∷ y)) u.0) (λ k i rest v q. inr (inr (inl (rest, refl, q))))
          (chain (opening most) (λ b k. mark (codes ".") (program most (λ q. mark (codes "]|") (k (block_of b q))))) o (block_of o c) u.1
          (marked (codes ".") (λ k. program most (λ q. mark (codes "]|") (k (block_of o q)))) (block_of o c) (dot y x.0)
          (chain (program most) (λ q k. mark (codes "]|") (k (block_of o q))) c (block_of o c) (whole _ most c x.1) (closed (codes "]|") (block_of o c) (block_closes r)))))),
    )

grouped_local : (x s r : List ℕ) → (codes "var " ++ (x ++ codes " : " ++ s)) ++ r ≡ codes "var" ++ (32 ∷ (x ++ (32 ∷ 58 ∷ 32 ∷ (s ++ r))))
grouped_local x s r = simp append_assoc

local_opens : (most : ℕ) (x : List ℕ) (s : Sort) (y : List ℕ) → is_name x ≡ true → not (is_upper x) ≡ true → is_sort s ≡ true → IsBare ((codes "var " ++ local_text x s) ++ (32 ∷ y)) × Spelt (opening most) (bindings.Local x s) ((codes "var " ++ local_text x s) ++ (32 ∷ y)) (skip (32 ∷ y))
unfolding opening
local_opens most x s y n u h =
    let z = grouped_local x (sort_text s) (32 ∷ y) in
    let t = sort_spelt s (32 ∷ y) h refl in
    let d = sort_text s ++ (32 ∷ y) in
    let l = x ++ (32 ∷ 58 ∷ 32 ∷ d) in (
      subst IsBare (sym z) (bare 118 _ refl),
      spelt_from z (worded (λ k. takes a_variable (λ v. mark (codes ":") (sort (λ w. k (bindings.Local v w))))) (opening most) (λ q. q) (codes "var") (bindings.Local x s) (keyword 118 (codes "ar") l refl refl (skip_start l (starts_with x _ (name_starts x n)))) (λ k i rest v q. inl (rest, refl, q))
          (chain (takes a_variable) (λ v k. mark (codes ":") (sort (λ w. k (bindings.Local v w)))) x (bindings.Local x s) (variable_spelt x (32 ∷ 58 ∷ 32 ∷ d) n u refl)
          (marked (codes ":") (λ k. sort (λ w. k (bindings.Local x w))) (bindings.Local x s) (colon d t.0) (mapped sort (bindings.Local x) s t.1)))),
    )

grouped_word : (w a r : List ℕ) → (w ++ codes " " ++ a) ++ r ≡ w ++ (32 ∷ (a ++ r))
grouped_word w a r = simp append_assoc

pins_open : (most : ℕ) (ps : List Pin) (y : List ℕ) → most ≤ 512 → some_of ps ≡ true → all_of (map readable_pin ps) ≡ true → named_pins ps ≡ true → PinsStayWithin most ps → IsBare ((codes "con " ++ pins_text ps) ++ (32 ∷ y)) × Spelt (opening most) (bindings.Constants ps) ((codes "con " ++ pins_text ps) ++ (32 ∷ y)) (skip (32 ∷ y))
unfolding opening
pins_open most ps y h s p n w =
    let z = grouped_word (codes "con") (pins_text ps) (32 ∷ y) in
    let t = pins_ok most ps (32 ∷ y) h s (good_pins most ps p n w) refl in (
      subst IsBare (sym z) (bare 99 _ refl),
      spelt_from z (worded (pins most) (opening most) bindings.Constants (codes "con") ps (keyword 99 (codes "on") (pins_text ps ++ (32 ∷ y)) refl refl t.0) (λ k i rest v q. inr (inl (rest, refl, q))) t.1),
    )

module_opens : (most : ℕ) (m : List ℕ) (y : List ℕ) → is_name m ≡ true → IsBare ((codes "module " ++ m) ++ (32 ∷ y)) × Spelt (opening most) (bindings.Module m) ((codes "module " ++ m) ++ (32 ∷ y)) (skip (32 ∷ y))
unfolding opening
module_opens most m y n =
    let z = grouped_word (codes "module") m (32 ∷ y) in (
      subst IsBare (sym z) (bare 109 _ refl),
      spelt_from z (within (λ k. mark (codes "module") (takes any_name (λ w. k (bindings.Module w)))) (opening most) (bindings.Module m) (λ k i us v q. inr (inr q))
          (marked (codes "module") (λ k. takes any_name (λ w. k (bindings.Module w))) (bindings.Module m) (keyword 109 (codes "odule") (m ++ (32 ∷ y)) refl refl (skip_start (m ++ (32 ∷ y)) (starts_with m _ (name_starts m n)))) (mapped (takes any_name) bindings.Module m (name_spelt m (32 ∷ y) n refl)))),
    )

block_in : (most : ℕ) (P : ℕ → Type 0) (o : Binding) (c : Prog) (written r : List ℕ) → most ≤ 512 → Inside most P → ((m : ℕ) → P m → ProgramStaysWithin m c) → readable_prog c ≡ true → IsSpelt c →
    ((m : ℕ) (y : List ℕ) → m ≤ 512 → P m → IsBare (written ++ (32 ∷ y)) × Spelt (opening m) o (written ++ (32 ∷ y)) (skip (32 ∷ y))) →
    (skip (block_text written (prog_text c) ++ r) ≡ block_text written (prog_text c) ++ r) × Spelt (part_form most) (block_of o c) (block_text written (prog_text c) ++ r) (skip r)
block_in zero P o c written r h w i p f s = absurd w
block_in (suc most) P o c written r h w i p f s = block_at most o c written r (omega arith) p (i most w) f (λ y. s most y (omega arith) w)

pub local_spelt : (x : List ℕ) (s : Sort) (c : Prog) → is_name x ≡ true → IsSpelt c → IsSpelt (made.Block x s c)
unfolding Rattle.rw_programs.specs.declared.prog.Prog.TheBlock.hidden-the_row-Prog-0 denote.Hole.Carrier.hidden
local_spelt x s c n f = λ p most h w r e.
    let q = and_parts (not (is_upper x)) (is_sort s && readable_prog c) p in
    let a = and_parts (is_sort s) (readable_prog c) q.1 in
    block_in most (λ m. ProgramStaysWithin m c) (bindings.Local x s) c (codes "var " ++ local_text x s) r h w (λ m u. u) a.1 f (λ m y g u. local_opens m x s y n q.0 a.0)

pub con_spelt : (ps : List Pin) (c : Prog) → named_pins ps ≡ true → IsSpelt c → IsSpelt (made.Con ps c)
unfolding Rattle.rw_programs.specs.declared.prog.Prog.TheBlock.hidden-the_row-Prog-0 denote.Hole.Carrier.hidden
con_spelt ps c n f = λ p most h w r e.
    let q = and_parts (some_of ps && all_of (map readable_pin ps)) (readable_prog c) p in
    let a = and_parts (some_of ps) (all_of (map readable_pin ps)) q.0 in
    block_in most (λ m. PinsStayWithin m ps × ProgramStaysWithin m c) (bindings.Constants ps) c (codes "con " ++ pins_text ps) r h w (λ m u. u.1) q.1 f (λ m y g u. pins_open m ps y g a.0 a.1 n u.0)

pub module_spelt : (m : List ℕ) (c : Prog) → is_name m ≡ true → IsSpelt c → IsSpelt (made.ModBlock m c)
unfolding Rattle.rw_programs.specs.declared.prog.Prog.TheBlock.hidden-the_row-Prog-0 denote.Hole.Carrier.hidden
module_spelt m c n f = λ p most h w r e. block_in most (λ l. ProgramStaysWithin l c) (bindings.Module m) c (codes "module " ++ m) r h w (λ l u. u) p f (λ l y g u. module_opens l m y n)

-- arms

grouped_arm : (g b r : List ℕ) → (g ++ codes " -> " ++ b) ++ r ≡ g ++ (32 ∷ 45 ∷ 62 ∷ 32 ∷ (b ++ r))
grouped_arm g b r = simp append_assoc

pub arm_spelt : (a : Arm) → named_formula a.guard ≡ true → IsSpelt a.body → IsArmSpelt a
unfolding arm
arm_spelt a n f = λ p most h w.
    let q = and_parts (readable_formula a.guard 0) (readable_prog a.body) p in
    let g = formula_starts a.guard q.0 n in (
      starts_with (printed_formula a.guard ++ codes " -> ") (prog_text a.body) (starts_with (printed_formula a.guard) (codes " -> ") g),
      λ r e.
          let x = f q.1 most h w.1 r e in
          let y = prog_text a.body ++ r in
          spelt_from (grouped_arm (printed_formula a.guard) (prog_text a.body) r)
          (chain (formula most) (λ u k. mark (codes "->") (program most (λ b. k (record { guard = u; body = b })))) a.guard a (formula_spelt most a.guard (32 ∷ 45 ∷ 62 ∷ 32 ∷ y) h q.0 n w.0 refl)
          (marked (codes "->") (λ k. program most (λ b. k (record { guard = a.guard; body = b }))) a (arrow y x.0) (mapped (program most) (λ b. record { guard = a.guard; body = b }) a.body (whole _ most a.body x.1)))),
    )

-- an arm that spells itself where the nest is within this
abbrev GoodArm : ℕ → Arm → Type 0
GoodArm most a = Starts (arm_text a) × ((r : List ℕ) → ends r ≡ true → Spelt (arm most (program most)) a (arm_text a ++ r) (skip r))

abbrev ArmsStayWithin : ℕ → List Arm → Type 0
ArmsStayWithin most [] = Unit {0}
ArmsStayWithin most (a ∷ arms) = ArmStaysWithin most a × ArmsStayWithin most arms

good_arms : (most : ℕ) (l : List Arm) → most ≤ 512 → AreSpelt l → all_of (map readable_arm l) ≡ true → ArmsStayWithin most l → AllGood (GoodArm most) l
good_arms most [] h s p w = tt
good_arms most (a ∷ l) h s p w = let q = and_parts (readable_arm a) (all_of (map readable_arm l)) p in (s.0 q.0 most h w.0, good_arms most l h s.1 q.1 w.1)

arm_item : (most : ℕ) (a : Arm) → GoodArm most a → (r : List ℕ) → ends r ≡ true → Item (arm_form most (program most)) (an_arm a) (arm_text a ++ r) (skip r)
unfolding arm_form
arm_item most a g r e = item (arm most (program most)) an_arm a (g.1 r e)

arms_laid : (most : ℕ) → Laid {A = Arm} (arm_form most (program most)) (codes "[]") (codes " [] ") an_arm arm_text (GoodArm most)
arms_laid most = record { front = λ y s. box y (skip_start y s); apart = λ y. refl; start = λ a g. g.0; one = arm_item most }

arms_ok : (most : ℕ) (l : List Arm) (r : List ℕ) → some_of l ≡ true → AllGood (GoodArm most) l → ends r ≡ true → IsBare (arms_text l ++ r) × Spelt (arms most (program most)) l (arms_text l ++ r) (skip r)
unfolding arms
arms_ok most [] r s g e = absurd (true≢false (sym s))
arms_ok most (a ∷ l) r s g e =
    let z = append_assoc (arm_text a) (listed (codes " [] ") (codes " [] ") (map arm_text l)) r in (
      subst IsBare (sym z) (skip_start _ (starts_with (arm_text a) _ g.0.0)),
      spelt_from z (spelt_as (unwrapped an_arm arm_in (a ∷ l) (λ y. refl))
          (mapped (λ k. many (arm_form most (program most)) (codes "[]") k) (map arm_in) (map an_arm (a ∷ l)) (list_spelt (arm_form most (program most)) (codes "[]") (codes " [] ") an_arm arm_text (GoodArm most) (arms_laid most) a l g.0 g.1 r e))),
    )

-- what is said of the arms of an alternation, as a list

abbrev some_row : Prog → Bool
some_row (If' shape row) = some_arms row
some_row _ = false

abbrev good_row : Prog → Bool
good_row (If' shape row) = readable_row row
good_row _ = false

abbrev RowWithin : ℕ → Prog → Type 0
RowWithin most (If' shape row) = RowStaysWithin most row
RowWithin most _ = Unit {0}

pub some_is : (l : List Arm) → some_row (made.If l) ≡ some_of l
unfolding Rattle.rw_programs.specs.declared.prog.Prog.TheBlock.hidden-the_row-Arm-1 denote.Hole.Carrier.hidden
some_is [] = refl
some_is (a ∷ l) = refl

pub good_is : (l : List Arm) → good_row (made.If l) ≡ all_of (map readable_arm l)
unfolding Rattle.rw_programs.specs.declared.prog.Prog.TheBlock.hidden-the_row-Arm-1 denote.Hole.Carrier.hidden
good_is [] = refl
good_is (a ∷ l) = ap (λ b. readable_arm a && b) (good_is l)

within_is : (most : ℕ) (l : List Arm) → RowWithin most (made.If l) → ArmsStayWithin most l
unfolding Rattle.rw_programs.specs.declared.prog.Prog.TheBlock.hidden-the_row-Arm-1 denote.Hole.Carrier.hidden
within_is most [] w = tt
within_is most (a ∷ l) w = (w.0, within_is most l w.1)

-- alternations

grouped_if : (a r : List ℕ) → (codes "if " ++ a ++ codes " fi") ++ r ≡ codes "if" ++ (32 ∷ (a ++ (32 ∷ (codes "fi" ++ r))))
grouped_if a r = simp append_assoc

if_at : (most : ℕ) (l : List Arm) (r : List ℕ) → most ≤ 512 → AreSpelt l → some_of l ≡ true → all_of (map readable_arm l) ≡ true → Inside most (λ m. RowWithin m (made.If l)) → ends r ≡ true →
    IsBare ((codes "if " ++ arms_text l ++ codes " fi") ++ r) × Spelt (part_form most) (made.If l) ((codes "if " ++ arms_text l ++ codes " fi") ++ r) (skip r)
unfolding one alternation
if_at zero l r h s o p w e = absurd w
if_at (suc most) l r h s o p w e =
    let z = grouped_if (arms_text l) r in
    let x = arms_ok most l (32 ∷ (codes "fi" ++ r)) o (good_arms most l (omega arith) s p (within_is most l w)) refl in (
      subst IsBare (sym z) (bare 105 _ refl),
      spelt_from z (worded (alternation most (program most)) (one most (program most)) (λ q. q) (codes "if") (made.If l) (keyword 105 (codes "f") (arms_text l ++ (32 ∷ (codes "fi" ++ r))) refl refl x.0) (λ k i rest v q. inl (rest, refl, q))
          (chain (arms most (program most)) (λ m k. mark (codes "fi") (k (made.If m))) l (made.If l) x.1 (closed (codes "fi") (made.If l) (last_word 102 (codes "i") r refl refl refl e)))),
    )

pub if_spelt : (l : List Arm) → AreSpelt l → IsSpelt (made.If l)
unfolding Rattle.rw_programs.specs.declared.prog.Prog.TheBlock.hidden-the_row-Arm-1 denote.Hole.Carrier.hidden
if_spelt l s = λ p most h w r e.
    let q = and_parts (some_row (made.If l)) (good_row (made.If l)) p in
    let x = if_at most l r h s (sym (some_is l) ∙ q.0) (sym (good_is l) ∙ q.1) w e in
    subst (λ t. (skip (t ++ r) ≡ t ++ r) × Spelt (part_form most) (made.If l) (t ++ r) (skip r)) (sym (if_is l)) x

-- iterations

grouped_do : (v a r : List ℕ) → (codes "do {" ++ v ++ codes "} " ++ a ++ codes " od") ++ r ≡ codes "do" ++ (32 ∷ 123 ∷ (v ++ (125 ∷ 32 ∷ (a ++ (32 ∷ (codes "od" ++ r))))))
grouped_do v a r = simp append_assoc

variant_at : (most : ℕ) (v : Term) (y : List ℕ) → most ≤ 512 → readable_term v 0 ≡ true → named_term v ≡ true → Inside most (λ m. AreWithin m (nests 0 (term_tree v 0))) → IsBare y → Spelt (variant most) v (123 ∷ (printed_term v ++ (125 ∷ 32 ∷ y))) y
unfolding variant
variant_at zero v y h p n w b = absurd w
variant_at (suc most) v y h p n w b =
    let g : GoodTerm most v = record { readable = p; named = n; within = w } in
    let x = printed_term v ++ (125 ∷ 32 ∷ y) in
    marked (codes "{") (λ k. term most (λ u. mark (codes "}") (k u))) v (brace x (skip_start x (starts_with (printed_term v) _ (term_starts most v g))))
    (chain (term most) (λ u k. mark (codes "}") (k u)) v v (term_spelt most v (125 ∷ 32 ∷ y) (omega arith) g refl) (closed (codes "}") v (brace_closes y b)))

do_at : (most : ℕ) (v : Term) (l : List Arm) (r : List ℕ) → most ≤ 512 → AreSpelt l → readable_term v 0 ≡ true → named_term v ≡ true → some_of l ≡ true → all_of (map readable_arm l) ≡ true →
    Inside most (λ m. Inside m (λ u. AreWithin u (nests 0 (term_tree v 0))) × RowWithin m (made.If l)) → ends r ≡ true →
    IsBare ((codes "do {" ++ printed_term v ++ codes "} " ++ arms_text l ++ codes " od") ++ r) × Spelt (part_form most) (made.Do v l) ((codes "do {" ++ printed_term v ++ codes "} " ++ arms_text l ++ codes " od") ++ r) (skip r)
unfolding one iteration
do_at zero v l r h s p n o q w e = absurd w
do_at (suc most) v l r h s p n o q w e =
    let z = grouped_do (printed_term v) (arms_text l) r in
    let y = arms_text l ++ (32 ∷ (codes "od" ++ r)) in
    let x = arms_ok most l (32 ∷ (codes "od" ++ r)) o (good_arms most l (omega arith) s q (within_is most l w.1)) refl in
    let t = 123 ∷ (printed_term v ++ (125 ∷ 32 ∷ y)) in (
      subst IsBare (sym z) (bare 100 _ refl),
      spelt_from z (worded (iteration most (program most)) (one most (program most)) (λ u. u) (codes "do") (made.Do v l) (keyword 100 (codes "o") t refl refl (bare 123 _ refl)) (λ k i rest c u. inr (inl (rest, refl, u)))
          (chain (variant most) (λ u k. arms most (program most) (λ m. mark (codes "od") (k (made.Do u m)))) v (made.Do v l) (variant_at most v y (omega arith) p n w.0 x.0)
          (chain (arms most (program most)) (λ m k. mark (codes "od") (k (made.Do v m))) l (made.Do v l) x.1 (closed (codes "od") (made.Do v l) (last_word 111 (codes "d") r refl refl refl e))))),
    )

pub do_spelt : (v : Term) (l : List Arm) → named_term v ≡ true → AreSpelt l → IsSpelt (made.Do v l)
unfolding Rattle.rw_programs.specs.declared.prog.Prog.TheBlock.hidden-the_row-Arm-1 denote.Hole.Carrier.hidden
do_spelt v l n s = λ p most h w r e.
    let q = and_parts (readable_term v 0) (some_row (made.If l) && good_row (made.If l)) p in
    let a = and_parts (some_row (made.If l)) (good_row (made.If l)) q.1 in
    let x = do_at most v l r h s q.0 n (sym (some_is l) ∙ a.0) (sym (good_is l) ∙ a.1) w e in
    subst (λ t. (skip (t ++ r) ≡ t ++ r) × Spelt (part_form most) (made.Do v l) (t ++ r) (skip r)) (sym (do_is v l)) x
