-- The lines of certificates as they are printed.
use Rattle.std.proofs.Common.{◌≡◌, ℕ, true, cond, List, [], ◌∷◌, ◌++◌, Some, None, refl, sym, ap, ◌∙◌, subst, arith, append_assoc, append-nil, map, inl, inr}
use Rattle.std.specs.Prelude.{codes, decimal, not, length}
use Rattle.std.specs.List.{list_all}
use Rattle.std.proofs.lemmas.Bool.{and_parts}
use Rattle.rw_terms.specs.Names.{is_letter, goes_on, is_name}
use Rattle.rw_terms.specs.declared.term.Term.{Term}
use Rattle.rw_terms.specs.declared.term.Formula.{Formula}
use Rattle.rw_terms.specs.AllOf.{all_of}
use Rattle.rw_arith.specs.declared.line.LinLine.{LinLine}
use Rattle.rw_syntax.specs.Grammar.{is_upper}
use Rattle.rw_sequents.specs.declared.line.CertLine.{CertLine}
use Rattle.rw_sequents.specs.declared.line.CertLine.TheVariants as lines
use Rattle.rw_forms.specs.declared.rule.FormulaRule.{FormulaRule}
use Rattle.rw_forms.specs.declared.rule.FormulaRule.TheVariants as rules
use Rattle.rw_tokens.specs.Tokens.{Token, text, skip, token_at, front_token, doubles, singles, LeadsTo}
use Rattle.rw_forms.specs.Forms.{a_variable, any_name, a_line, a_cert, Given, Form, gives, takes, many, fewer, IsOf}
use Rattle.rw_forms.specs.Phrases.{mark, formula, term, terms, closed_terms}
use Rattle.rw_forms.specs.Certificates.{formula_number, with_number, later_rules, numbered_rules, numbered, number_and_term, number_and_name, two_numbers, two_terms, put_same, put_other, axioms, instances, lin, lemma, rule, line_form, line_in, cert, cert_form}
use Rattle.rw_forms.specs.Certificates.{CertSpells}
use Rattle.rw_forms.proofs.Grammar.{is_text_own}
use Rattle.rw_printer.specs.Layout.{printed_term, printed_formula, listed}
use Rattle.rw_printer.specs.Lines.{terms_text, closed_text, line_text, cert_text}
use Rattle.rw_printer.specs.Readable.{some_and_all, is_counted, readable_term, named_term, named_terms, readable_formula, readable_sum, readable_terms, readable_line, named_line}
use Rattle.rw_printer.specs.ReadsBack.{TermsStayWithin, LineStaysWithin, LinesStayWithin}
use Rattle.rw_printer.proofs.Leading.{skip_none, skip_space}
use Rattle.rw_printer.proofs.Lexed.{Starts, starts_with, skip_start, byte_starts, name_starts}
use Rattle.rw_printer.proofs.Fronts.{ends, ends_stops, word_front}
use Rattle.rw_printer.proofs.Spelling.{Spelt, spelt_from, spelt_to, spelt_as, chain, mapped, marked, closed, worded, word_alone, within, item, Item, AllGood, Laid, list_spelt, unwrapped, behind_space}
use Rattle.rw_printer.proofs.SpeltParts.{number_spelt, counted_starts, variable_spelt, name_spelt, GoodTerm, term_starts, term_spelt, formula_spelt, formula_starts, close_token, open_token, behind_comma, two_spelt, terms_spelt}
use Rattle.rw_printer.proofs.SpeltSums.{lin_spelt}

-- a word with a space behind it
keyword : (b : ℕ) (bs y : List ℕ) → is_letter b ≡ true → list_all goes_on bs ≡ true → Starts y → token_at ((b ∷ bs) ++ 32 ∷ y) ≡ Some (text (b ∷ bs), y)
keyword b bs y l g s = behind_space (b ∷ bs) ((b ∷ bs) ++ 32 ∷ y) y s (word_front b bs (32 ∷ y) l g refl)

-- a word alone
lone : (b : ℕ) (bs r : List ℕ) → is_letter b ≡ true → list_all goes_on bs ≡ true → ends r ≡ true → token_at ((b ∷ bs) ++ r) ≡ Some (text (b ∷ bs), skip r)
lone b bs r l g e = word_front b bs r l g (ends_stops r e)

-- rules that name a formula

abbrev rule_word : FormulaRule → List ℕ
rule_word rules.DropL = codes "dropL"
rule_word rules.DropR = codes "dropR"
rule_word rules.NotL = codes "notL"
rule_word rules.NotR = codes "notR"
rule_word rules.AndL = codes "andL"
rule_word rules.AndR = codes "andR"
rule_word rules.OrL = codes "orL"
rule_word rules.OrR = codes "orR"
rule_word rules.ImpL = codes "impL"
rule_word rules.ImpR = codes "impR"
rule_word rules.EqR = codes "eqR"
rule_word rules.Flip = codes "flip"
rule_word rules.UnfoldL = codes "unfoldL"
rule_word rules.UnfoldR = codes "unfoldR"

rule_is : (r : FormulaRule) (k : FormulaRule → Form) (n : ℕ) (rest : List Token) (v : Given) → IsOf (k r) (fewer n) rest v → IsOf (numbered_rules k) n (text (rule_word r) ∷ rest) v
unfolding numbered_rules later_rules
rule_is rules.DropL k n rest v i = inl (rest, refl, i)
rule_is rules.DropR k n rest v i = inr (inl (rest, refl, i))
rule_is rules.NotL k n rest v i = inr (inr (inl (rest, refl, i)))
rule_is rules.NotR k n rest v i = inr (inr (inr (inl (rest, refl, i))))
rule_is rules.AndL k n rest v i = inr (inr (inr (inr (inl (rest, refl, i)))))
rule_is rules.AndR k n rest v i = inr (inr (inr (inr (inr (inl (rest, refl, i))))))
rule_is rules.OrL k n rest v i = inr (inr (inr (inr (inr (inr (inl (rest, refl, i)))))))
rule_is rules.OrR k n rest v i = inr (inr (inr (inr (inr (inr (inr (inl (rest, refl, i))))))))
rule_is rules.ImpL k n rest v i = inr (inr (inr (inr (inr (inr (inr (inr (inl (rest, refl, i)))))))))
rule_is rules.ImpR k n rest v i = inr (inr (inr (inr (inr (inr (inr (inr (inr (inl (rest, refl, i))))))))))
rule_is rules.EqR k n rest v i = inr (inr (inr (inr (inr (inr (inr (inr (inr (inr (inl (rest, refl, i)))))))))))
rule_is rules.Flip k n rest v i = inr (inr (inr (inr (inr (inr (inr (inr (inr (inr (inr (inl (rest, refl, i))))))))))))
rule_is rules.UnfoldL k n rest v i = inr (inr (inr (inr (inr (inr (inr (inr (inr (inr (inr (inr (inl (rest, refl, i)))))))))))))
rule_is rules.UnfoldR k n rest v i = inr (inr (inr (inr (inr (inr (inr (inr (inr (inr (inr (inr (inr (record { first = text (codes "unfoldR"); rest = rest; filling = tt; tokens_are = refl; fills = ap (λ z. cond z (Some tt) None) (is_text_own (codes "unfoldR")); more = i })))))))))))))

rule_token : (r : FormulaRule) (y : List ℕ) → Starts y → token_at (rule_word r ++ 32 ∷ y) ≡ Some (text (rule_word r), y)
rule_token rules.DropL y s = keyword 100 (codes "ropL") y refl refl s
rule_token rules.DropR y s = keyword 100 (codes "ropR") y refl refl s
rule_token rules.NotL y s = keyword 110 (codes "otL") y refl refl s
rule_token rules.NotR y s = keyword 110 (codes "otR") y refl refl s
rule_token rules.AndL y s = keyword 97 (codes "ndL") y refl refl s
rule_token rules.AndR y s = keyword 97 (codes "ndR") y refl refl s
rule_token rules.OrL y s = keyword 111 (codes "rL") y refl refl s
rule_token rules.OrR y s = keyword 111 (codes "rR") y refl refl s
rule_token rules.ImpL y s = keyword 105 (codes "mpL") y refl refl s
rule_token rules.ImpR y s = keyword 105 (codes "mpR") y refl refl s
rule_token rules.EqR y s = keyword 101 (codes "qR") y refl refl s
rule_token rules.Flip y s = keyword 102 (codes "lip") y refl refl s
rule_token rules.UnfoldL y s = keyword 117 (codes "nfoldL") y refl refl s
rule_token rules.UnfoldR y s = keyword 117 (codes "nfoldR") y refl refl s

in_rule : (l : CertLine) {a b : List ℕ} → Spelt instances l a b → Spelt rule l a b
unfolding rule
in_rule l s = within instances rule l (λ k n ts v i. inr (inr (inr (inr (inr (inr (inr i))))))) s

in_instances : (l : CertLine) {a b : List ℕ} → Spelt axioms l a b → Spelt rule l a b
unfolding instances
in_instances l s = in_rule l (within axioms instances l (λ k n ts v i. inr (inr (inr (inr (inr (inr i)))))) s)

in_axioms : (l : CertLine) {a b : List ℕ} → Spelt numbered l a b → Spelt rule l a b
unfolding axioms
in_axioms l s = in_instances l (within numbered axioms l (λ k n ts v i. inr (inr (inr (inr i)))) s)

numbered_spelt : (r : FormulaRule) (n : ℕ) (y : List ℕ) → is_counted n ≡ true → ends y ≡ true → Spelt rule (with_number r n) (rule_word r ++ 32 ∷ (decimal n ++ y)) (skip y)
unfolding numbered
numbered_spelt r n y h e =
    in_axioms (with_number r n)
    (chain numbered_rules (λ q k. formula_number (λ m. k (with_number q m))) r (with_number r n)
    (word_alone numbered_rules r (rule_word r) (rule_token r (decimal n ++ y) (starts_with (decimal n) y (counted_starts n h))) (λ k m rest v i. rule_is r k m rest v i))
    (mapped formula_number (with_number r) n (number_spelt n y h (ends_stops y e))))

-- rules with a number and one more argument

term_arguments : (n : ℕ) (t : Term) (r : List ℕ) → is_counted n ≡ true → GoodTerm 512 t → ends r ≡ true → Spelt number_and_term (n, t) (decimal n ++ (32 ∷ (printed_term t ++ r))) (skip r)
unfolding number_and_term
term_arguments n t r h g e =
    let y = printed_term t ++ r in
    chain formula_number (λ m k. term 512 (λ u. k (m, u))) n (n, t) (spelt_to (skip_space y ∙ skip_start y (starts_with (printed_term t) r (term_starts 512 t g))) (number_spelt n (32 ∷ y) h refl))
    (mapped (term 512) (λ u. (n, u)) t (term_spelt 512 t r (omega arith) g e))

name_arguments : (n : ℕ) (x r : List ℕ) → is_counted n ≡ true → is_name x ≡ true → not (is_upper x) ≡ true → ends r ≡ true → Spelt number_and_name (n, x) (decimal n ++ (32 ∷ (x ++ r))) (skip r)
unfolding number_and_name
name_arguments n x r h g u e =
    chain formula_number (λ m k. takes a_variable (λ y. k (m, y))) n (n, x) (spelt_to (skip_space (x ++ r) ∙ skip_start (x ++ r) (starts_with x r (name_starts x g))) (number_spelt n (32 ∷ (x ++ r)) h refl))
    (mapped (takes a_variable) (λ y. (n, y)) x (variable_spelt x r g u (ends_stops r e)))

number_arguments : (i m : ℕ) (r : List ℕ) → is_counted i ≡ true → is_counted m ≡ true → ends r ≡ true → Spelt two_numbers (i, m) (decimal i ++ (32 ∷ (decimal m ++ r))) (skip r)
unfolding two_numbers
number_arguments i m r h g e =
    let y = decimal m ++ r in
    chain formula_number (λ j k. formula_number (λ q. k (j, q))) i (i, m) (spelt_to (skip_space y ∙ skip_start y (starts_with (decimal m) r (counted_starts m g))) (number_spelt i (32 ∷ y) h refl))
    (mapped formula_number (λ q. (i, q)) m (number_spelt m r g (ends_stops r e)))

number_first : (n : ℕ) (w r : List ℕ) → is_counted n ≡ true → Starts (decimal n ++ (32 ∷ (w ++ r)))
number_first n w r h = starts_with (decimal n) (32 ∷ (w ++ r)) (counted_starts n h)

allL_spelt : (n : ℕ) (t : Term) (r : List ℕ) → is_counted n ≡ true → GoodTerm 512 t → ends r ≡ true → Spelt rule (lines.AllL n t) (codes "allL " ++ (decimal n ++ (32 ∷ (printed_term t ++ r)))) (skip r)
unfolding instances
allL_spelt n t r h g e = in_rule (lines.AllL n t) (worded number_and_term instances (λ p. lines.AllL p.0 p.1) (codes "allL") (n, t) (keyword 97 (codes "llL") (decimal n ++ (32 ∷ (printed_term t ++ r))) refl refl (number_first n (printed_term t) r h)) (λ k q rest v i. inl (rest, refl, i)) (term_arguments n t r h g e))

exR_spelt : (n : ℕ) (t : Term) (r : List ℕ) → is_counted n ≡ true → GoodTerm 512 t → ends r ≡ true → Spelt rule (lines.ExR n t) (codes "exR " ++ (decimal n ++ (32 ∷ (printed_term t ++ r)))) (skip r)
unfolding instances
exR_spelt n t r h g e = in_rule (lines.ExR n t) (worded number_and_term instances (λ p. lines.ExR p.0 p.1) (codes "exR") (n, t) (keyword 101 (codes "xR") (decimal n ++ (32 ∷ (printed_term t ++ r))) refl refl (number_first n (printed_term t) r h)) (λ k q rest v i. inr (inl (rest, refl, i))) (term_arguments n t r h g e))

allR_spelt : (n : ℕ) (x r : List ℕ) → is_counted n ≡ true → is_name x ≡ true → not (is_upper x) ≡ true → ends r ≡ true → Spelt rule (lines.AllR n x) (codes "allR " ++ (decimal n ++ (32 ∷ (x ++ r)))) (skip r)
unfolding instances
allR_spelt n x r h g u e = in_rule (lines.AllR n x) (worded number_and_name instances (λ p. lines.AllR p.0 p.1) (codes "allR") (n, x) (keyword 97 (codes "llR") (decimal n ++ (32 ∷ (x ++ r))) refl refl (number_first n (x) r h)) (λ k q rest v i. inr (inr (inl (rest, refl, i)))) (name_arguments n x r h g u e))

exL_spelt : (n : ℕ) (x r : List ℕ) → is_counted n ≡ true → is_name x ≡ true → not (is_upper x) ≡ true → ends r ≡ true → Spelt rule (lines.ExL n x) (codes "exL " ++ (decimal n ++ (32 ∷ (x ++ r)))) (skip r)
unfolding instances
exL_spelt n x r h g u e = in_rule (lines.ExL n x) (worded number_and_name instances (λ p. lines.ExL p.0 p.1) (codes "exL") (n, x) (keyword 101 (codes "xL") (decimal n ++ (32 ∷ (x ++ r))) refl refl (number_first n (x) r h)) (λ k q rest v i. inr (inr (inr (inl (rest, refl, i))))) (name_arguments n x r h g u e))

rwL_spelt : (n m : ℕ) (r : List ℕ) → is_counted n ≡ true → is_counted m ≡ true → ends r ≡ true → Spelt rule (lines.RwL n m) (codes "rwL " ++ (decimal n ++ (32 ∷ (decimal m ++ r)))) (skip r)
unfolding instances
rwL_spelt n m r h g e = in_rule (lines.RwL n m) (worded two_numbers instances (λ p. lines.RwL p.0 p.1) (codes "rwL") (n, m) (keyword 114 (codes "wL") (decimal n ++ (32 ∷ (decimal m ++ r))) refl refl (number_first n (decimal m) r h)) (λ k q rest v i. inr (inr (inr (inr (inl (rest, refl, i)))))) (number_arguments n m r h g e))

rwR_spelt : (n m : ℕ) (r : List ℕ) → is_counted n ≡ true → is_counted m ≡ true → ends r ≡ true → Spelt rule (lines.RwR n m) (codes "rwR " ++ (decimal n ++ (32 ∷ (decimal m ++ r)))) (skip r)
unfolding instances
rwR_spelt n m r h g e = in_rule (lines.RwR n m) (worded two_numbers instances (λ p. lines.RwR p.0 p.1) (codes "rwR") (n, m) (keyword 114 (codes "wR") (decimal n ++ (32 ∷ (decimal m ++ r))) refl refl (number_first n (decimal m) r h)) (λ k q rest v i. inr (inr (inr (inr (inr (inl (rest, refl, i))))))) (number_arguments n m r h g e))

-- rules of arrays and of division

first_term : (a b : Term) (r : List ℕ) → GoodTerm 512 a → Starts (printed_term a ++ (44 ∷ 32 ∷ (printed_term b ++ r)))
first_term a b r g = starts_with (printed_term a) (44 ∷ 32 ∷ (printed_term b ++ r)) (term_starts 512 a g)

put_same_spelt : (a i e : Term) (r : List ℕ) → GoodTerm 512 a → GoodTerm 512 i → GoodTerm 512 e → ends r ≡ true → Spelt rule (lines.PutSame a i e) (codes "putSame " ++ (printed_term a ++ (44 ∷ 32 ∷ (printed_term i ++ (44 ∷ 32 ∷ (printed_term e ++ r)))))) (skip r)
unfolding axioms put_same
put_same_spelt a i e r g h j z =
    let y = 44 ∷ 32 ∷ (printed_term e ++ r) in
    in_instances (lines.PutSame a i e)
    (worded put_same axioms (λ l. l) (codes "putSame") (lines.PutSame a i e) (keyword 112 (codes "utSame") (printed_term a ++ (44 ∷ 32 ∷ (printed_term i ++ y))) refl refl (first_term a i y g)) (λ k q rest v x. inl (rest, refl, x))
    (chain two_terms (λ p k. mark (codes ",") (term 512 (λ u. k (lines.PutSame p.0 p.1 u)))) (a, i) (lines.PutSame a i e) (two_spelt a i y g h refl)
    (behind_comma (λ k. term 512 (λ u. k (lines.PutSame a i u))) (lines.PutSame a i e) (printed_term e ++ r) (skip r) (starts_with (printed_term e) r (term_starts 512 e j)) (mapped (term 512) (λ u. lines.PutSame a i u) e (term_spelt 512 e r (omega arith) j z)))))

put_other_spelt : (a i e j : Term) (r : List ℕ) → GoodTerm 512 a → GoodTerm 512 i → GoodTerm 512 e → GoodTerm 512 j → ends r ≡ true → Spelt rule (lines.PutOther a i e j) (codes "putOther " ++ (printed_term a ++ (44 ∷ 32 ∷ (printed_term i ++ (44 ∷ 32 ∷ (printed_term e ++ (44 ∷ 32 ∷ (printed_term j ++ r)))))))) (skip r)
unfolding axioms put_other
put_other_spelt a i e j r g h m o z =
    let y = 44 ∷ 32 ∷ (printed_term e ++ (44 ∷ 32 ∷ (printed_term j ++ r))) in
    in_instances (lines.PutOther a i e j)
    (worded put_other axioms (λ l. l) (codes "putOther") (lines.PutOther a i e j) (keyword 112 (codes "utOther") (printed_term a ++ (44 ∷ 32 ∷ (printed_term i ++ y))) refl refl (first_term a i y g)) (λ k q rest v x. inr (inl (rest, refl, x)))
    (chain two_terms (λ p k. mark (codes ",") (two_terms (λ q. k (lines.PutOther p.0 p.1 q.0 q.1)))) (a, i) (lines.PutOther a i e j) (two_spelt a i y g h refl)
    (behind_comma (λ k. two_terms (λ q. k (lines.PutOther a i q.0 q.1))) (lines.PutOther a i e j) (printed_term e ++ (44 ∷ 32 ∷ (printed_term j ++ r))) (skip r) (first_term e j r m) (mapped two_terms (λ q. lines.PutOther a i q.0 q.1) (e, j) (two_spelt e j r m o z)))))

arr_ext_spelt : (a b : Term) (r : List ℕ) → GoodTerm 512 a → GoodTerm 512 b → ends r ≡ true → Spelt rule (lines.ArrExt a b) (codes "arrExt " ++ (printed_term a ++ (44 ∷ 32 ∷ (printed_term b ++ r)))) (skip r)
unfolding axioms
arr_ext_spelt a b r g h e = in_instances (lines.ArrExt a b) (worded two_terms axioms (λ p. lines.ArrExt p.0 p.1) (codes "arrExt") (a, b) (keyword 97 (codes "rrExt") (printed_term a ++ (44 ∷ 32 ∷ (printed_term b ++ r))) refl refl (first_term a b r g)) (λ k q rest v x. inr (inr (inl (rest, refl, x)))) (two_spelt a b r g h e))

div_mod_spelt : (a b : Term) (r : List ℕ) → GoodTerm 512 a → GoodTerm 512 b → ends r ≡ true → Spelt rule (lines.DivMod a b) (codes "divMod " ++ (printed_term a ++ (44 ∷ 32 ∷ (printed_term b ++ r)))) (skip r)
unfolding axioms
div_mod_spelt a b r g h e = in_instances (lines.DivMod a b) (worded two_terms axioms (λ p. lines.DivMod p.0 p.1) (codes "divMod") (a, b) (keyword 100 (codes "ivMod") (printed_term a ++ (44 ∷ 32 ∷ (printed_term b ++ r))) refl refl (first_term a b r g)) (λ k q rest v x. inr (inr (inr (inl (rest, refl, x))))) (two_spelt a b r g h e))

-- lemmas

terms_end : (ts : List Term) (r : List ℕ) → ends r ≡ true → ends (listed (codes ", ") (codes ", ") (map printed_term ts) ++ r) ≡ true
terms_end [] r e = e
terms_end (t ∷ ts) r e = refl

none_closed : (r : List ℕ) → Spelt closed_terms [] (41 ∷ r) (skip r)
unfolding closed_terms
none_closed r = word_alone closed_terms [] (codes ")") (close_token r) (λ k n rest v i. inl (rest, refl, i))

some_closed : (t : Term) (ts : List Term) (r : List ℕ) → GoodTerm 511 t → AllGood (GoodTerm 511) ts → Spelt closed_terms (t ∷ ts) (printed_term t ++ (listed (codes ", ") (codes ", ") (map printed_term ts) ++ (41 ∷ r))) (skip r)
unfolding closed_terms
some_closed t ts r g gs =
    within (λ k. terms 511 (λ us. mark (codes ")") (k us))) closed_terms (t ∷ ts) (λ k n us v i. inr i)
    (chain (terms 511) (λ us k. mark (codes ")") (k us)) (t ∷ ts) (t ∷ ts) (terms_spelt 511 t ts (omega arith) g gs (41 ∷ r) refl) (spelt_from (skip_none 41 r refl) (closed (codes ")") (t ∷ ts) (close_token r))))

open_here : (ts : List Term) {y c : List ℕ} → skip y ≡ y → Spelt closed_terms ts y c → Spelt (λ k. mark (codes "(") (closed_terms k)) ts (skip (40 ∷ y)) c
open_here ts {y} {c} s p = spelt_from (skip_none 40 y refl) (marked (codes "(") closed_terms ts (open_token y ∙ ap (λ z. Some (text (codes "("), z)) s) p)

lemma_word : (n : List ℕ) (ts : List Term) (y c : List ℕ) → is_name n ≡ true → skip y ≡ y → Spelt closed_terms ts y c → Spelt rule (lines.Lemma n ts) (codes "lemma " ++ (n ++ (40 ∷ y))) c
unfolding rule lemma
lemma_word n ts y c g s p =
    worded lemma rule (λ l. l) (codes "lemma") (lines.Lemma n ts) (keyword 108 (codes "emma") (n ++ (40 ∷ y)) refl refl (starts_with n (40 ∷ y) (name_starts n g))) (λ k q rest v i. inr (inr (inr (inr (inr (inr (inl (rest, refl, i))))))))
    (chain (takes any_name) (λ m k. mark (codes "(") (closed_terms (λ us. k (lines.Lemma m us)))) n (lines.Lemma n ts) (name_spelt n (40 ∷ y) g refl)
    (mapped (λ k. mark (codes "(") (closed_terms k)) (lines.Lemma n) ts (open_here ts s p)))

lemma_spelt : (n : List ℕ) (ts : List Term) (r : List ℕ) → is_name n ≡ true → AllGood (GoodTerm 511) ts → Spelt rule (lines.Lemma n ts) (codes "lemma " ++ (n ++ (40 ∷ (terms_text ts ++ (41 ∷ r))))) (skip r)
lemma_spelt n [] r g gs = lemma_word n [] (41 ∷ r) (skip r) g (skip_none 41 r refl) (none_closed r)
lemma_spelt n (t ∷ ts) r g gs =
    let y = printed_term t ++ (listed (codes ", ") (codes ", ") (map printed_term ts) ++ (41 ∷ r)) in
    spelt_from (ap (λ z. codes "lemma " ++ (n ++ (40 ∷ z))) (append_assoc (printed_term t) (listed (codes ", ") (codes ", ") (map printed_term ts)) (41 ∷ r)))
    (lemma_word n (t ∷ ts) y (skip r) g (skip_start y (starts_with (printed_term t) _ (term_starts 511 t gs.0))) (some_closed t ts r gs.0 gs.1))

-- other rules

cut_spelt : (f : Formula) (r : List ℕ) → readable_formula f 0 ≡ true → named_line (lines.Cut f) ≡ true → LineStaysWithin (lines.Cut f) → ends r ≡ true → Spelt rule (lines.Cut f) (codes "cut " ++ (printed_formula f ++ r)) (skip r)
unfolding rule
cut_spelt f r p n w e = worded (formula 512) rule lines.Cut (codes "cut") f (keyword 99 (codes "ut") (printed_formula f ++ r) refl refl (starts_with (printed_formula f) r (formula_starts f p n))) (λ k q rest v i. inr (inr (inr (inr (inl (rest, refl, i)))))) (formula_spelt f r p n w e)

lin_line_spelt : (l : LinLine) (ls : List LinLine) (r : List ℕ) → some_and_all (map readable_sum (l ∷ ls)) ≡ true → ends r ≡ true → Spelt rule (lines.Lin (l ∷ ls)) (codes "lin" ++ (32 ∷ 91 ∷ (closed_text l ++ (listed (codes " [") (codes " [") (map closed_text ls) ++ r)))) (skip r)
unfolding rule
lin_line_spelt l ls r g e =
    let z = 32 ∷ 91 ∷ (closed_text l ++ (listed (codes " [") (codes " [") (map closed_text ls) ++ r)) in
    worded lin rule lines.Lin (codes "lin") (l ∷ ls) (lone 108 (codes "in") z refl refl refl) (λ k q rest v i. inr (inr (inr (inr (inr (inl (rest, refl, i))))))) (lin_spelt l ls r g e)

-- a line

good_term : (most : ℕ) (t : Term) → readable_term t 0 ≡ true → named_term t ≡ true → TermsStayWithin most (t ∷ []) → GoodTerm most t
good_term most t p n w = record { readable = p; named = n; within = w.0 }

good_terms : (most : ℕ) (ts : List Term) → readable_terms ts ≡ true → named_terms ts ≡ true → TermsStayWithin most ts → AllGood (GoodTerm most) ts
good_terms most [] p n w = tt
good_terms most (t ∷ ts) p n w =
    let q = and_parts (readable_term t 0) (readable_terms ts) p in
    let m = and_parts (named_term t) (named_terms ts) n in
    (record { readable = q.0; named = m.0; within = w.0 }, good_terms most ts q.1 m.1 w.1)

grouped_instance : (a b r : List ℕ) → (a ++ codes " " ++ b) ++ r ≡ a ++ (32 ∷ (b ++ r))
grouped_instance a b r = simp append_assoc

grouped_pair : (a b r : List ℕ) → (a ++ codes ", " ++ b) ++ r ≡ a ++ (44 ∷ 32 ∷ (b ++ r))
grouped_pair a b r = simp append_assoc

grouped_three : (a b c r : List ℕ) → ((a ++ codes ", " ++ b) ++ codes ", " ++ c) ++ r ≡ a ++ (44 ∷ 32 ∷ (b ++ (44 ∷ 32 ∷ (c ++ r))))
grouped_three a b c r = simp append_assoc

grouped_four : (a b c d r : List ℕ) → ((a ++ codes ", " ++ b) ++ (codes ", " ++ c ++ codes ", " ++ d)) ++ r ≡ a ++ (44 ∷ 32 ∷ (b ++ (44 ∷ 32 ∷ (c ++ (44 ∷ 32 ∷ (d ++ r))))))
grouped_four a b c d r = simp append_assoc

grouped_lemma : (n a r : List ℕ) → (n ++ codes "(" ++ a ++ codes ")") ++ r ≡ n ++ (40 ∷ (a ++ (41 ∷ r)))
grouped_lemma n a r = simp append_assoc

line_spelt : (l : CertLine) (r : List ℕ) → readable_line l ≡ true → named_line l ≡ true → LineStaysWithin l → ends r ≡ true → Spelt rule l (line_text l ++ r) (skip r)
unfolding rule
line_spelt lines.Ax r p n w e = word_alone rule lines.Ax (codes "ax") (lone 97 (codes "x") r refl refl e) (λ k m rest v i. inl (rest, refl, i))
line_spelt lines.FalseL r p n w e = word_alone rule lines.FalseL (codes "falseL") (lone 102 (codes "alseL") r refl refl e) (λ k m rest v i. inr (inl (rest, refl, i)))
line_spelt lines.TrueR r p n w e = word_alone rule lines.TrueR (codes "trueR") (lone 116 (codes "rueR") r refl refl e) (λ k m rest v i. inr (inr (inl (rest, refl, i))))
line_spelt lines.Refl r p n w e = word_alone rule lines.Refl (codes "refl") (lone 114 (codes "efl") r refl refl e) (λ k m rest v i. inr (inr (inr (inl (rest, refl, i)))))
line_spelt (lines.Cut f) r p n w e = cut_spelt f r p n w e
line_spelt (lines.DropL i) r p n w e = numbered_spelt rules.DropL i r p e
line_spelt (lines.DropR i) r p n w e = numbered_spelt rules.DropR i r p e
line_spelt (lines.NotL i) r p n w e = numbered_spelt rules.NotL i r p e
line_spelt (lines.NotR i) r p n w e = numbered_spelt rules.NotR i r p e
line_spelt (lines.AndL i) r p n w e = numbered_spelt rules.AndL i r p e
line_spelt (lines.AndR i) r p n w e = numbered_spelt rules.AndR i r p e
line_spelt (lines.OrL i) r p n w e = numbered_spelt rules.OrL i r p e
line_spelt (lines.OrR i) r p n w e = numbered_spelt rules.OrR i r p e
line_spelt (lines.ImpL i) r p n w e = numbered_spelt rules.ImpL i r p e
line_spelt (lines.ImpR i) r p n w e = numbered_spelt rules.ImpR i r p e
line_spelt (lines.EqR i) r p n w e = numbered_spelt rules.EqR i r p e
line_spelt (lines.Flip i) r p n w e = numbered_spelt rules.Flip i r p e
line_spelt (lines.UnfoldL i) r p n w e = numbered_spelt rules.UnfoldL i r p e
line_spelt (lines.UnfoldR i) r p n w e = numbered_spelt rules.UnfoldR i r p e
line_spelt (lines.AllL i t) r p n w e =
    let q = and_parts (is_counted i) (readable_term t 0) p in
    spelt_from (ap (λ z. codes "allL " ++ z) (grouped_instance (decimal i) (printed_term t) r)) (allL_spelt i t r q.0 (good_term 512 t q.1 n w) e)
line_spelt (lines.ExR i t) r p n w e =
    let q = and_parts (is_counted i) (readable_term t 0) p in
    spelt_from (ap (λ z. codes "exR " ++ z) (grouped_instance (decimal i) (printed_term t) r)) (exR_spelt i t r q.0 (good_term 512 t q.1 n w) e)
line_spelt (lines.AllR i x) r p n w e =
    let q = and_parts (is_counted i) (not (is_upper x)) p in
    spelt_from (ap (λ z. codes "allR " ++ z) (grouped_instance (decimal i) x r)) (allR_spelt i x r q.0 n q.1 e)
line_spelt (lines.ExL i x) r p n w e =
    let q = and_parts (is_counted i) (not (is_upper x)) p in
    spelt_from (ap (λ z. codes "exL " ++ z) (grouped_instance (decimal i) x r)) (exL_spelt i x r q.0 n q.1 e)
line_spelt (lines.RwL i m) r p n w e =
    let q = and_parts (is_counted i) (is_counted m) p in
    spelt_from (ap (λ z. codes "rwL " ++ z) (grouped_instance (decimal i) (decimal m) r)) (rwL_spelt i m r q.0 q.1 e)
line_spelt (lines.RwR i m) r p n w e =
    let q = and_parts (is_counted i) (is_counted m) p in
    spelt_from (ap (λ z. codes "rwR " ++ z) (grouped_instance (decimal i) (decimal m) r)) (rwR_spelt i m r q.0 q.1 e)
line_spelt (lines.PutSame a i x) r p n w e =
    let g = good_terms 512 (a ∷ i ∷ x ∷ []) p n w in
    spelt_from (ap (λ z. codes "putSame " ++ z) (grouped_three (printed_term a) (printed_term i) (printed_term x) r)) (put_same_spelt a i x r g.0 g.1.0 g.1.1.0 e)
line_spelt (lines.PutOther a i x j) r p n w e =
    let g = good_terms 512 (a ∷ i ∷ x ∷ j ∷ []) p n w in
    spelt_from (ap (λ z. codes "putOther " ++ z) (grouped_four (printed_term a) (printed_term i) (printed_term x) (printed_term j) r)) (put_other_spelt a i x j r g.0 g.1.0 g.1.1.0 g.1.1.1.0 e)
line_spelt (lines.ArrExt a b) r p n w e =
    let g = good_terms 512 (a ∷ b ∷ []) p n w in
    spelt_from (ap (λ z. codes "arrExt " ++ z) (grouped_pair (printed_term a) (printed_term b) r)) (arr_ext_spelt a b r g.0 g.1.0 e)
line_spelt (lines.DivMod a b) r p n w e =
    let g = good_terms 512 (a ∷ b ∷ []) p n w in
    spelt_from (ap (λ z. codes "divMod " ++ z) (grouped_pair (printed_term a) (printed_term b) r)) (div_mod_spelt a b r g.0 g.1.0 e)
line_spelt (lines.Lemma x ts) r p n w e =
    let m = and_parts (is_name x) (named_terms ts) n in
    spelt_from (ap (λ z. codes "lemma " ++ z) (grouped_lemma x (terms_text ts) r)) (lemma_spelt x ts r m.0 (good_terms 511 ts p m.1 w))
line_spelt (lines.Lin []) r p n w e = absurd (cc (p))
line_spelt (lines.Lin (l ∷ ls)) r p n w e = spelt_from (ap (λ z. codes "lin [" ++ z) (append_assoc (closed_text l) (listed (codes " [") (codes " [") (map closed_text ls)) r)) (lin_line_spelt l ls r p e)

line_starts : (l : CertLine) → readable_line l ≡ true → Starts (line_text l)
line_starts lines.Ax p = byte_starts 97 (codes "x") refl
line_starts lines.FalseL p = byte_starts 102 (codes "alseL") refl
line_starts lines.TrueR p = byte_starts 116 (codes "rueR") refl
line_starts lines.Refl p = byte_starts 114 (codes "efl") refl
line_starts (lines.Cut f) p = byte_starts 99 _ refl
line_starts (lines.DropL i) p = byte_starts 100 _ refl
line_starts (lines.DropR i) p = byte_starts 100 _ refl
line_starts (lines.NotL i) p = byte_starts 110 _ refl
line_starts (lines.NotR i) p = byte_starts 110 _ refl
line_starts (lines.AndL i) p = byte_starts 97 _ refl
line_starts (lines.AndR i) p = byte_starts 97 _ refl
line_starts (lines.OrL i) p = byte_starts 111 _ refl
line_starts (lines.OrR i) p = byte_starts 111 _ refl
line_starts (lines.ImpL i) p = byte_starts 105 _ refl
line_starts (lines.ImpR i) p = byte_starts 105 _ refl
line_starts (lines.EqR i) p = byte_starts 101 _ refl
line_starts (lines.Flip i) p = byte_starts 102 _ refl
line_starts (lines.UnfoldL i) p = byte_starts 117 _ refl
line_starts (lines.UnfoldR i) p = byte_starts 117 _ refl
line_starts (lines.AllL i x) p = byte_starts 97 _ refl
line_starts (lines.ExR i x) p = byte_starts 101 _ refl
line_starts (lines.AllR i x) p = byte_starts 97 _ refl
line_starts (lines.ExL i x) p = byte_starts 101 _ refl
line_starts (lines.RwL i x) p = byte_starts 114 _ refl
line_starts (lines.RwR i x) p = byte_starts 114 _ refl
line_starts (lines.PutSame a i x) p = byte_starts 112 _ refl
line_starts (lines.PutOther a i x j) p = byte_starts 112 _ refl
line_starts (lines.ArrExt a b) p = byte_starts 97 _ refl
line_starts (lines.DivMod a b) p = byte_starts 100 _ refl
line_starts (lines.Lemma x ts) p = byte_starts 108 _ refl
line_starts (lines.Lin ls) p = byte_starts 108 _ refl

-- certificates

record GoodLine (l : CertLine) : Type 0 where
  readable : readable_line l ≡ true
  named : named_line l ≡ true
  within : LineStaysWithin l

good_lines : (ls : List CertLine) → all_of (map readable_line ls) ≡ true → all_of (map named_line ls) ≡ true → LinesStayWithin ls → AllGood GoodLine ls
good_lines [] p n w = tt
good_lines (l ∷ ls) p n w =
    let q = and_parts (readable_line l) (all_of (map readable_line ls)) p in
    let m = and_parts (named_line l) (all_of (map named_line ls)) n in
    (record { readable = q.0; named = m.0; within = w.0 }, good_lines ls q.1 m.1 w.1)

line_item : (l : CertLine) → GoodLine l → (r : List ℕ) → ends r ≡ true → Item line_form (a_line l) (line_text l ++ r) (skip r)
unfolding line_form
line_item l g r e = item rule a_line l (line_spelt l r g.readable g.named g.within e)

semicolon_front : (y : List ℕ) → Starts y → token_at (skip (32 ∷ 59 ∷ 32 ∷ y)) ≡ Some (text (codes ";"), y)
unfolding token_at front_token doubles singles skip
semicolon_front y s = behind_space (codes ";") (59 ∷ 32 ∷ y) y s refl

lines_laid : Laid {A = CertLine} line_form (codes ";") (codes " ; ") a_line line_text GoodLine
lines_laid = record { front = semicolon_front; apart = λ y. refl; start = λ l g. line_starts l g.readable; one = line_item }

cert_spelt : (l : CertLine) (ls : List CertLine) → GoodLine l → AllGood GoodLine ls → Spelt cert (l ∷ ls) (line_text l ++ (listed (codes " ; ") (codes " ; ") (map line_text ls) ++ [])) (skip [])
unfolding cert
cert_spelt l ls g gs =
    spelt_as (unwrapped a_line line_in (l ∷ ls) (λ x. refl))
    (mapped (many line_form (codes ";")) (map line_in) (map a_line (l ∷ ls)) (list_spelt line_form (codes ";") (codes " ; ") a_line line_text GoodLine lines_laid l ls g gs [] refl))

skip_end : skip [] ≡ []
unfolding skip
skip_end = refl

spelled : (ls : List CertLine) (w : List ℕ) → skip w ≡ w → Spelt cert ls w [] → CertSpells w (record { lines = ls })
unfolding cert_form
spelled ls w s p = (
  p.tokens,
  subst (λ z. LeadsTo z p.tokens []) (sym s) p.leads,
  subst (λ z. IsOf cert_form (length p.tokens) z (a_cert (record { lines = ls }))) (append-nil p.tokens) (p.is (λ ms. gives (a_cert (record { lines = ms }))) (length p.tokens) [] (a_cert (record { lines = ls })) (refl, refl)),
)

pub cert_reads_back : (ls : List CertLine) → some_and_all (map readable_line ls) ≡ true → all_of (map named_line ls) ≡ true → LinesStayWithin ls → CertSpells (cert_text (record { lines = ls })) (record { lines = ls })
cert_reads_back [] p n w = absurd (cc (p))
cert_reads_back (l ∷ ls) p n w =
    let g = good_lines (l ∷ ls) p n w in
    let z = listed (codes " ; ") (codes " ; ") (map line_text ls) in
    let y : line_text l ++ (z ++ []) ≡ line_text l ++ z = ap (λ x. line_text l ++ x) (append-nil z) in
    spelled (l ∷ ls) (line_text l ++ z) (skip_start (line_text l ++ z) (starts_with (line_text l) z (line_starts l g.0.readable))) (spelt_to skip_end (spelt_from (sym y) (cert_spelt l ls g.0 g.1)))
