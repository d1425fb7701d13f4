-- What is printed of each form of program spells it.
use Rattle.std.proofs.Common.{◌≡◌, ℕ, zero, suc, ◌≤◌, Bool, true, false, List, [], ◌∷◌, ◌++◌, length, Some, refl, sym, subst, arith, append_assoc, append-nil, true≢false, inl, inr}
use Rattle.std.specs.Prelude.{◌&&◌, codes}
use Rattle.std.proofs.lemmas.Bool.{and_parts}
use Rattle.rw_terms.specs.Names.{is_name}
use Rattle.rw_terms.specs.declared.term.Term.{Term}
use Rattle.rw_programs.specs.declared.prog.Prog.{Prog}
use Rattle.rw_programs.specs.declared.prog.Prog.TheVariants as prog
use Rattle.rw_programs.specs.declared.prog.Prog.TheViews as made
use Rattle.rw_tokens.specs.Tokens.{text, skip, token_at, LeadsTo}
use Rattle.rw_forms.specs.Forms.{any_name, a_program, gives, takes, either, IsOf}
use Rattle.rw_forms.specs.Phrases.{mark, names, terms}
use Rattle.rw_printer.specs.Layout.{names_text}
use Rattle.rw_printer.specs.Lines.{terms_text}
use Rattle.rw_printer.specs.Readable.{readable_terms, named_terms}
use Rattle.rw_printer.specs.ReadsBack.{TermsStayWithin}
use Rattle.rw_printer.proofs.Lexed.{starts_with, skip_start, name_starts}
use Rattle.rw_printer.proofs.Fronts.{ends, ends_stops, word_front}
use Rattle.rw_printer.proofs.Spelling.{Spelt, spelt_from, spelt_to, chain, mapped, marked, closed, worded, word_alone, within, AllGood}
use Rattle.rw_printer.proofs.SpeltParts.{name_spelt}
use Rattle.rw_program_reader.specs.Programs.{named, passed, call, operation_call, plain, group, one, program, program_form}
use Rattle.rw_program_printer.specs.Layout.{passed_text, is_sequence, first_text, prog_text}
use Rattle.rw_program_printer.specs.Readable.{readable_names, some_of, readable_prog, named_names}
use Rattle.rw_program_printer.specs.ReadsBack.{Inside, First, ProgramStaysWithin, ProgramReadsBack, part_form, form_of, IsSpelt}
use Rattle.rw_program_printer.proofs.Tokens.{IsBare, bare, keyword, semicolon, becomes, dot_alone, opens, closes}
use Rattle.rw_program_printer.proofs.SpeltParts.{good_terms, terms_ok, GoodName, good_names, names_ok, passed_ok}

-- a program with no program in it is a part of one
pub plain_part : (most : ℕ) (p : Prog) {a b : List ℕ} → Spelt (plain most) p a b → Spelt (part_form most) p a b
unfolding one
plain_part zero p s = s
plain_part (suc most) p s = within (plain (suc most)) (one most (program most)) p (λ k n ts v i. inr (inr (inr (inr i)))) s

-- a part alone is a program
nothing_behind : (most : ℕ) (p : Prog) (b : List ℕ) → Spelt (λ k. either (codes ";") (program most (λ q. k (made.Seq p q))) (k p)) p b b
nothing_behind most p b = record { tokens = []; leads = refl; is = λ k n rest v i. inr i }

alone : (most : ℕ) (p : Prog) {a b : List ℕ} → Spelt (part_form most) p a b → Spelt (program most) p a b
unfolding program
alone zero p s = s
alone (suc most) p {a} {b} s = chain (one most (program most)) (λ x k. either (codes ";") (program most (λ q. k (made.Seq x q))) (k x)) p p s (nothing_behind most p b)

pub whole : (b : Bool) (most : ℕ) (p : Prog) {x y : List ℕ} → Spelt (form_of b most) p x y → Spelt (program most) p x y
whole true most p s = s
whole false most p s = alone most p s

-- a part and what follows it
joined : (most : ℕ) (p q : Prog) {a b c d : List ℕ} → Spelt (one most (program most)) p a b → token_at b ≡ Some (text (codes ";"), c) → Spelt (program most) q c d → Spelt (program (suc most)) (made.Seq p q) a d
unfolding program
joined most p q {a} {b} {c} {d} s e t =
    chain (one most (program most)) (λ x k. either (codes ";") (program most (λ z. k (made.Seq x z))) (k x)) p (made.Seq p q) s
    (worded (program most) (λ k. either (codes ";") (program most (λ z. k (made.Seq p z))) (k p)) (made.Seq p) (codes ";") q e (λ k n rest v i. inl (rest, refl, i)) t)

-- words

pub skip_here : (r : List ℕ) → ends r ≡ true → token_at (codes "skip" ++ r) ≡ Some (text (codes "skip"), skip r)
skip_here r e = word_front 115 (codes "kip") r refl refl (ends_stops r e)

pub skip_spelt : IsSpelt prog.Skip
unfolding plain
skip_spelt = λ p most h w r e. (bare 115 (codes "kip" ++ r) refl, plain_part most prog.Skip (word_alone (plain most) prog.Skip (codes "skip") (skip_here r e) (λ k n rest v i. inl (rest, refl, i))))

pub kid_spelt : (n : ℕ) → IsSpelt (prog.Kid n)
kid_spelt n = λ p most h w r e. absurd (true≢false (sym p))

-- assignments

grouped_assignment : (x t r : List ℕ) → (x ++ codes " := " ++ t) ++ r ≡ x ++ (32 ∷ 58 ∷ 61 ∷ 32 ∷ (t ++ r))
grouped_assignment x t r = simp append_assoc

pub assign_spelt : (xs : List (List ℕ)) (ts : List Term) → named_names xs ≡ true → named_terms ts ≡ true → IsSpelt (prog.Assign xs ts)
unfolding plain named
assign_spelt xs ts n m = λ p most h w r e.
    let q = and_parts (some_of xs && readable_names xs) (some_of ts && readable_terms ts) p in
    let a = and_parts (some_of xs) (readable_names xs) q.0 in
    let b = and_parts (some_of ts) (readable_terms ts) q.1 in
    let t = terms_ok most ts r h b.0 (good_terms most ts b.1 m w) e in
    let y = terms_text ts ++ r in
    let x = names_ok xs (32 ∷ 58 ∷ 61 ∷ 32 ∷ y) a.0 (good_names xs a.1 n) refl in
    let z = grouped_assignment (names_text xs) (terms_text ts) r in (
      subst IsBare (sym z) x.0,
      plain_part most (prog.Assign xs ts)
          (within (λ k. names (λ ys. named most ys k)) (plain most) (prog.Assign xs ts) (λ k n us v i. inr (inr (inr (inr i))))
          (spelt_from z (chain names (λ ys k. named most ys k) xs (prog.Assign xs ts) x.1
          (worded (terms most) (named most xs) (prog.Assign xs) (codes ":=") ts (becomes y t.0) (λ k n rest v i. inl (rest, refl, i)) t.1)))),
    )

-- sequences

grouped_first : (a b r : List ℕ) → (a ++ codes " ; " ++ b) ++ r ≡ a ++ (32 ∷ 59 ∷ 32 ∷ (b ++ r))
grouped_first a b r = simp append_assoc

grouped_group : (a r : List ℕ) → (codes "(" ++ a ++ codes ")") ++ r ≡ 40 ∷ (a ++ (41 ∷ r))
grouped_group a r = simp append_assoc

-- the first part, with a space behind it
first_spelt : (b : Bool) (most : ℕ) (p : Prog) (written r : List ℕ) → suc most ≤ 512 → First b (suc most) (λ m. ProgramStaysWithin m p) → ends r ≡ true →
    ((m : ℕ) → m ≤ 512 → ProgramStaysWithin m p → (s : List ℕ) → ends s ≡ true → (skip (written ++ s) ≡ written ++ s) × Spelt (form_of b m) p (written ++ s) (skip s)) →
    (skip (first_text b written ++ r) ≡ first_text b written ++ r) × Spelt (one most (program most)) p (first_text b written ++ r) (skip r)
unfolding one group
first_spelt false most p written r h w e f = f (suc most) h w r e
first_spelt true most p written r h w e f =
    let x = f most (omega arith) w (41 ∷ r) refl in
    let z = grouped_group written r in (
      subst IsBare (sym z) (bare 40 (written ++ (41 ∷ r)) refl),
      spelt_from z (worded (group (program most)) (one most (program most)) (λ q. q) (codes "(") p (opens (written ++ (41 ∷ r)) x.0) (λ k n rest v i. inr (inr (inr (inl (rest, refl, i)))))
          (chain (program most) (λ q k. mark (codes ")") (k q)) p p x.1 (closed (codes ")") p (closes r)))),
    )

seq_at : (c d : Prog) (most : ℕ) (r : List ℕ) → most ≤ 512 → First (is_sequence c) most (λ m. ProgramStaysWithin m c) → Inside most (λ m. ProgramStaysWithin m d) → ends r ≡ true →
    ((m : ℕ) → m ≤ 512 → ProgramStaysWithin m c → (s : List ℕ) → ends s ≡ true → (skip (prog_text c ++ s) ≡ prog_text c ++ s) × Spelt (form_of (is_sequence c) m) c (prog_text c ++ s) (skip s)) →
    ((m : ℕ) → m ≤ 512 → ProgramStaysWithin m d → (s : List ℕ) → ends s ≡ true → (skip (prog_text d ++ s) ≡ prog_text d ++ s) × Spelt (form_of (is_sequence d) m) d (prog_text d ++ s) (skip s)) →
    (skip ((first_text (is_sequence c) (prog_text c) ++ codes " ; " ++ prog_text d) ++ r) ≡ (first_text (is_sequence c) (prog_text c) ++ codes " ; " ++ prog_text d) ++ r)
    × Spelt (program most) (made.Seq c d) ((first_text (is_sequence c) (prog_text c) ++ codes " ; " ++ prog_text d) ++ r) (skip r)
seq_at c d zero r h v w e f g = absurd w
seq_at c d (suc most) r h v w e f g =
    let y = g most (omega arith) w r e in
    let x = first_spelt (is_sequence c) most c (prog_text c) (32 ∷ 59 ∷ 32 ∷ (prog_text d ++ r)) h v refl f in
    let z = grouped_first (first_text (is_sequence c) (prog_text c)) (prog_text d) r in
    (subst IsBare (sym z) x.0, spelt_from z (joined most c d x.1 (semicolon (prog_text d ++ r) y.0) (whole (is_sequence d) most d y.1)))

pub seq_spelt : (c d : Prog) → IsSpelt c → IsSpelt d → IsSpelt (made.Seq c d)
unfolding Rattle.rw_programs.specs.declared.prog.Prog.TheBlock.hidden-the_row-Prog-0 denote.Hole.Carrier.hidden
seq_spelt c d f g = λ p most h w r e.
    let q = and_parts (readable_prog c) (readable_prog d) p in
    seq_at c d most r h w.0 w.1 e (f q.0) (g q.1)

-- calls

grouped_call : (f a r : List ℕ) → (codes "call " ++ f ++ a) ++ r ≡ codes "call" ++ (32 ∷ (f ++ (a ++ r)))
grouped_call f a r = simp append_assoc

passed_bare : (ts : List Term) (xs : List (List ℕ)) (r : List ℕ) → skip (passed_text ts xs ++ r) ≡ passed_text ts xs ++ r
passed_bare ts xs r = bare 40 _ refl

pub passed_in : (most : ℕ) (ts : List Term) (xs : List (List ℕ)) (r : List ℕ) → most ≤ 512 → Inside most (λ m. TermsStayWithin m ts) → readable_terms ts ≡ true → named_terms ts ≡ true → AllGood GoodName xs → Spelt (passed most) (ts, xs) (skip (passed_text ts xs ++ r)) (skip r)
unfolding passed
passed_in zero ts xs r h w p n g = absurd w
passed_in (suc most) ts xs r h w p n g = spelt_from (passed_bare ts xs r) (passed_ok most ts xs r (omega arith) (good_terms most ts p n w) g)

pub call_spelt : (f : List ℕ) (ts : List Term) (xs : List (List ℕ)) → is_name f ≡ true → named_terms ts ≡ true → named_names xs ≡ true → IsSpelt (prog.Call f ts xs)
unfolding plain call
call_spelt f ts xs n m o = λ p most h w r e.
    let q = and_parts (readable_terms ts) (readable_names xs) p in
    let y = passed_text ts xs ++ r in
    let z = grouped_call f (passed_text ts xs) r in (
      subst IsBare (sym z) (bare 99 (codes "all" ++ (32 ∷ (f ++ y))) refl),
      plain_part most (prog.Call f ts xs)
          (spelt_from z (worded (call most) (plain most) (λ x. x) (codes "call") (prog.Call f ts xs) (keyword 99 (codes "all") (f ++ y) refl refl (skip_start (f ++ y) (starts_with f y (name_starts f n)))) (λ k i rest v x. inr (inl (rest, refl, x)))
          (chain (takes any_name) (λ g k. passed most (λ a. k (prog.Call g a.0 a.1))) f (prog.Call f ts xs) (name_spelt f y n refl)
          (mapped (passed most) (λ a. prog.Call f a.0 a.1) (ts, xs) (passed_in most ts xs r h w q.0 m (good_names xs q.1 o)))))),
    )

grouped_operation : (m f a r : List ℕ) → (codes "op " ++ m ++ codes "." ++ f ++ a) ++ r ≡ codes "op" ++ (32 ∷ (m ++ (46 ∷ (f ++ (a ++ r)))))
grouped_operation m f a r = simp append_assoc

pub operation_spelt : (m f : List ℕ) (ts : List Term) (xs : List (List ℕ)) → is_name m ≡ true → is_name f ≡ true → named_terms ts ≡ true → named_names xs ≡ true → IsSpelt (prog.OpCall m f ts xs)
unfolding plain operation_call
operation_spelt m f ts xs a n b o = λ p most h w r e.
    let q = and_parts (readable_terms ts) (readable_names xs) p in
    let y = passed_text ts xs ++ r in
    let x = f ++ y in
    let z = grouped_operation m f (passed_text ts xs) r in (
      subst IsBare (sym z) (bare 111 (112 ∷ 32 ∷ (m ++ (46 ∷ x))) refl),
      plain_part most (prog.OpCall m f ts xs)
          (spelt_from z (worded (operation_call most) (plain most) (λ u. u) (codes "op") (prog.OpCall m f ts xs) (keyword 111 (codes "p") (m ++ (46 ∷ x)) refl refl (skip_start (m ++ (46 ∷ x)) (starts_with m (46 ∷ x) (name_starts m a)))) (λ k i rest v u. inr (inr (inl (rest, refl, u))))
          (chain (takes any_name) (λ g k. mark (codes ".") (takes any_name (λ u. passed most (λ c. k (prog.OpCall g u c.0 c.1))))) m (prog.OpCall m f ts xs) (name_spelt m (46 ∷ x) a refl)
          (marked (codes ".") (λ k. takes any_name (λ u. passed most (λ c. k (prog.OpCall m u c.0 c.1)))) (prog.OpCall m f ts xs) (dot_alone x (skip_start x (starts_with f y (name_starts f n))))
          (chain (takes any_name) (λ u k. passed most (λ c. k (prog.OpCall m u c.0 c.1))) f (prog.OpCall m f ts xs) (name_spelt f y n refl)
          (mapped (passed most) (λ c. prog.OpCall m f c.0 c.1) (ts, xs) (passed_in most ts xs r h w q.0 b (good_names xs q.1 o)))))))),
    )

-- the text reads back

pub skip_end : skip [] ≡ []
unfolding skip
skip_end = refl

pub program_reads_back : (p : Prog) → IsSpelt p → ProgramReadsBack (prog_text p) p
unfolding program_form
program_reads_back p f q w =
    let x = f q 512 (omega arith) w [] refl in
    let z = append-nil (prog_text p) in
    let s = spelt_to skip_end (spelt_from (sym z) (whole (is_sequence p) 512 p x.1)) in (
      s.tokens,
      subst (λ t. LeadsTo t s.tokens []) (sym (subst (λ t. skip t ≡ t) z x.0)) s.leads,
      subst (λ t. IsOf program_form (length s.tokens) t (a_program p)) (append-nil s.tokens) (s.is (λ u. gives (a_program u)) (length s.tokens) [] (a_program p) (refl, refl)),
    )
