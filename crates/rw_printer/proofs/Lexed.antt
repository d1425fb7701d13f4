-- What is laid out leads through the tokens of its tree.
use Rattle.std.proofs.Common.{◌≡◌, ℕ, suc, ◌+◌, ◌≤◌, true, false, List, [], ◌∷◌, ◌++◌, refl, sym, ap, ◌∙◌, subst, arith, append_assoc}
use Rattle.std.specs.Prelude.{leb, nat_eq, codes, decimal}
use Rattle.std.specs.List.{list_all}
use Rattle.std.proofs.lemmas.Bool.Decides.{nat_tests}
use Rattle.std.proofs.lemmas.Bool.{and_parts}
use Rattle.rw_terms.specs.Names.{is_letter, is_digit, is_name}
use Rattle.rw_terms.specs.declared.term.Sort.{Sort}
use Rattle.rw_terms.specs.declared.term.Sort.TheVariants as sorts
use Rattle.rw_syntax.specs.declared.token.Infix.TheVariants as infixes
use Rattle.rw_syntax.specs.declared.token.Quantifier.{Quantifier}
use Rattle.rw_syntax.specs.declared.token.Quantifier.TheVariants as quantifiers
use Rattle.rw_syntax.specs.declared.token.Token.TheVariants as classes
use Rattle.rw_syntax.specs.declared.frame.Prefix.{Prefix}
use Rattle.rw_syntax.specs.declared.frame.Prefix.TheVariants as prefixes
use Rattle.rw_syntax.specs.declared.frame.Head.{Head}
use Rattle.rw_syntax.specs.declared.frame.Head.TheVariants as heads
use Rattle.rw_syntax.specs.Grammar as grammar
use Rattle.rw_syntax.specs.Grammar.{Leaf, number, word, initial, place, truth, Tree, leaf, prefix, binary, group, index, call, Trees, none, more, is_sort, leaf_token, head_token, texts, level, chain, adds, nests, each_nests, each}
use Rattle.rw_tokens.specs.Tokens.{text, is_blank, skip, token_at, front_token, doubles, singles}
use Rattle.rw_tokens.specs.Classes.{class_of, text_class, mark_texts}
use Rattle.rw_printer.specs.Layout.{infix_text, leaf_text, sort_text, quantifier_text, prefix_text, head_text, laid, laid_each}
use Rattle.rw_printer.specs.ReadsBack.{StaysWithin}
use Rattle.rw_printer.proofs.Plain.{PlainLeaf, PlainPrefix, PlainHead, IsPlain, ArePlain, behind}
use Rattle.rw_printer.proofs.Leading.{Leads, nothing, one, join, from, to, skip_space, skip_none}
use Rattle.rw_printer.proofs.Numerals.{decimal_digits}
use Rattle.rw_printer.proofs.Fronts.{ends, begins, stops, ends_stops, small, word_front, name_parts, word_leads, initial_leads, number_leads, place_leads, open_leads, close_leads, comma_leads, dot_leads, open_square_leads, close_square_leads, minus_leads, infix_leads}

within_split : (xs ys : List ℕ) → StaysWithin (xs ++ ys) → StaysWithin xs × StaysWithin ys
within_split [] ys w = (tt, w)
within_split (x ∷ xs) ys w = let q = within_split xs ys w.1 in ((w.0, q.0), q.1)

-- texts that begin as a term or a formula does
pub record Starts (bs : List ℕ) : Type 0 where
  pub first : ℕ
  pub rest : List ℕ
  pub is : bs ≡ first ∷ rest
  pub ok : begins first ≡ true

pub starts_with : (xs ys : List ℕ) → Starts xs → Starts (xs ++ ys)
starts_with xs ys s = record { first = s.first; rest = s.rest ++ ys; is = ap (λ x. x ++ ys) s.is; ok = s.ok }

pub skip_start : (bs : List ℕ) → Starts bs → skip bs ≡ bs
skip_start bs s =
    let b : is_blank s.first ≡ false = (let h = s.ok in grind (arith, nat_tests, h)) in
    subst (λ x. skip x ≡ x) (sym s.is) (skip_none s.first s.rest b)

digit_begins : (c : ℕ) → is_digit c ≡ true → begins c ≡ true
digit_begins c h = grind (arith, nat_tests, h)

letter_begins : (c : ℕ) → is_letter c ≡ true → begins c ≡ true
letter_begins c h = grind (arith, nat_tests, h)

pub number_starts : (n : ℕ) → leb n 170141183460469231731687303715884105727 ≡ true → Starts (decimal n)
number_starts n h =
    let s = decimal_digits n (small n h) in
    record { first = s.first; rest = s.rest; is = s.is; ok = digit_begins s.first (and_parts (is_digit s.first) (list_all is_digit s.rest) (subst (λ x. list_all is_digit x ≡ true) s.is s.digits)).0 }

pub name_starts : (w : List ℕ) → is_name w ≡ true → Starts w
name_starts w n = let p = name_parts w n in record { first = p.first; rest = p.rest; is = p.is; ok = letter_begins p.first p.letter }

pub byte_starts : (b : ℕ) (bs : List ℕ) → begins b ≡ true → Starts (b ∷ bs)
byte_starts b bs e = record { first = b; rest = bs; is = refl; ok = e }

leaf_starts : (l : Leaf) (d : ℕ) → PlainLeaf d l → Starts (leaf_text l)
leaf_starts (number n) d p = number_starts n p
leaf_starts (word w) d p = name_starts w p
leaf_starts (initial w) d p = starts_with w (codes "0") (name_starts w p)
leaf_starts (place n) d p = byte_starts 95 (decimal n) refl
leaf_starts (truth true) d p = byte_starts 116 (codes "rue") refl
leaf_starts (truth false) d p = byte_starts 102 (codes "alse") refl

quantifier_starts : (q : Quantifier) → Starts (quantifier_text q)
quantifier_starts quantifiers.All = byte_starts 102 (codes "orall") refl
quantifier_starts quantifiers.Any = byte_starts 101 (codes "xists") refl

prefix_starts : (p : Prefix) → Starts (prefix_text p)
prefix_starts prefixes.Minus = byte_starts 45 [] refl
prefix_starts prefixes.Not = byte_starts 110 (codes "ot ") refl
prefix_starts (prefixes.Bind q b s) = starts_with _ _ (starts_with _ _ (starts_with _ _ (starts_with _ _ (starts_with _ _ (quantifier_starts q)))))

head_starts : (h : Head) → PlainHead h → Starts (head_text h)
head_starts heads.Put p = byte_starts 112 (codes "ut") refl
head_starts (heads.Named w) p = name_starts w p

pub starts : (t : Tree) (d : ℕ) → IsPlain d t → Starts (laid t)
starts (leaf l) d p = leaf_starts l d p
starts (prefix q t) d p = starts_with _ _ (prefix_starts q)
starts (binary op l r) d p = starts_with _ _ (starts_with _ _ (starts_with _ _ (starts_with _ _ (starts l d p.0))))
starts (group t) d p = starts_with (codes "(" ++ laid t) (codes ")") (starts_with (codes "(") (laid t) (byte_starts 40 [] refl))
starts (index t u) d p = starts_with _ _ (starts_with _ _ (starts_with _ _ (starts t d p.0)))
starts (call h ts t) d p = starts_with _ _ (starts_with _ _ (starts_with _ _ (starts_with _ _ (head_starts h p.0))))

pub grouped_3 : (a b c y : List ℕ) → a ++ b ++ c ++ y ≡ a ++ (b ++ (c ++ y))
grouped_3 a b c y = simp append_assoc

pub grouped_4 : (a b c e y : List ℕ) → a ++ b ++ c ++ e ++ y ≡ a ++ (b ++ (c ++ (e ++ y)))
grouped_4 a b c e y = simp append_assoc

pub grouped_5 : (a b c e f y : List ℕ) → a ++ b ++ c ++ e ++ f ++ y ≡ a ++ (b ++ (c ++ (e ++ (f ++ y))))
grouped_5 a b c e f y = simp append_assoc

grouped_6 : (a b c e f g y : List ℕ) → a ++ b ++ c ++ e ++ f ++ g ++ y ≡ a ++ (b ++ (c ++ (e ++ (f ++ (g ++ y)))))
grouped_6 a b c e f g y = simp append_assoc

each_starts : (ts : Trees) (d : ℕ) → ArePlain d ts → (y : List ℕ) → Starts y → Starts (laid_each ts ++ y)
each_starts none d p y s = s
each_starts (more ts t) d p y s =
    subst Starts (sym (grouped_3 (laid_each ts) (laid t) (codes ", ") y)) (each_starts ts d p.0 (laid t ++ (codes ", " ++ y)) (starts_with (laid t) (codes ", " ++ y) (starts t d p.1)))

-- tokens of one kind

true_leads : (r : List ℕ) → stops r ≡ true → Leads (codes "true" ++ r) (classes.Truth true ∷ []) (skip r)
unfolding class_of text_class mark_texts
true_leads r e = one (codes "true" ++ r) (text (codes "true")) (classes.Truth true) (skip r) (word_front 116 (codes "rue") r refl refl e) refl

false_leads : (r : List ℕ) → stops r ≡ true → Leads (codes "false" ++ r) (classes.Truth false ∷ []) (skip r)
unfolding class_of text_class mark_texts
false_leads r e = one (codes "false" ++ r) (text (codes "false")) (classes.Truth false) (skip r) (word_front 102 (codes "alse") r refl refl e) refl

within_number : (n : ℕ) → n ≤ 512 → leb n 170141183460469231731687303715884105727 ≡ true
within_number n h = grind (arith, nat_tests, h)

length_within : (n : ℕ) → grammar.is_length n ≡ true → leb n 170141183460469231731687303715884105727 ≡ true
length_within n h = grind (arith, nat_tests, h)

leaf_leads : (l : Leaf) (k d : ℕ) → PlainLeaf d l → d ≤ k → k ≤ 512 → (r : List ℕ) → ends r ≡ true → Leads (leaf_text l ++ r) (leaf_token l ∷ []) (skip r)
leaf_leads (number n) k d p h w r e = number_leads n r p (ends_stops r e)
leaf_leads (word x) k d p h w r e = word_leads x r p (ends_stops r e)
leaf_leads (initial x) k d p h w r e = initial_leads x r p (ends_stops r e)
leaf_leads (place n) k d p h w r e = let a = p.0 in let b = p.1 in place_leads n r a (within_number n (omega arith)) (ends_stops r e)
leaf_leads (truth true) k d p h w r e = true_leads r (ends_stops r e)
leaf_leads (truth false) k d p h w r e = false_leads r (ends_stops r e)

minus_before : (y : List ℕ) → Starts y → Leads (45 ∷ y) (classes.Infix infixes.Minus ∷ []) y
minus_before y s =
    let n : nat_eq s.first 62 ≡ false = (let h = s.ok in grind (arith, nat_tests, h)) in
    to (skip_start y s) (subst (λ x. Leads (45 ∷ x) (classes.Infix infixes.Minus ∷ []) (skip x)) (sym s.is) (minus_leads s.first s.rest n))

bracket_before : (y : List ℕ) → Starts y → Leads (91 ∷ y) (classes.OpenSquare ∷ []) y
bracket_before y s =
    let n : nat_eq s.first 93 ≡ false = (let h = s.ok in grind (arith, nat_tests, h)) in
    to (skip_start y s) (subst (λ x. Leads (91 ∷ x) (classes.OpenSquare ∷ []) (skip x)) (sym s.is) (open_square_leads s.first s.rest n))

not_before : (y : List ℕ) → Starts y → Leads (codes "not " ++ y) (classes.Not ∷ []) y
unfolding token_at front_token class_of text_class mark_texts
not_before y s = to (skip_space y ∙ skip_start y s) (one (codes "not " ++ y) (text (codes "not")) classes.Not (skip (32 ∷ y)) refl refl)

quantifier_before : (q : Quantifier) (y : List ℕ) → Starts y → Leads (quantifier_text q ++ (codes " " ++ y)) (classes.Quantifier q ∷ []) y
unfolding token_at front_token class_of text_class mark_texts
quantifier_before quantifiers.All y s = to (skip_space y ∙ skip_start y s) (one (codes "forall" ++ 32 ∷ y) (text (codes "forall")) (classes.Quantifier quantifiers.All) (skip (32 ∷ y)) refl refl)
quantifier_before quantifiers.Any y s = to (skip_space y ∙ skip_start y s) (one (codes "exists" ++ 32 ∷ y) (text (codes "exists")) (classes.Quantifier quantifiers.Any) (skip (32 ∷ y)) refl refl)

-- `:` and a sort, with a dot behind it
sort_before : (s : Sort) (y : List ℕ) → is_sort s ≡ true → Leads (codes ":" ++ (sort_text s ++ (codes " . " ++ y))) (classes.Colon ∷ (grammar.sort_text s ++ classes.Dot ∷ [])) (skip y)
unfolding token_at front_token doubles singles class_of text_class mark_texts skip
sort_before sorts.Int y h =
    join (one (codes ":" ++ (codes "int" ++ (codes " . " ++ y))) (text (codes ":")) classes.Colon (codes "int" ++ (codes " . " ++ y)) refl refl)
    (join (one (codes "int" ++ (codes " . " ++ y)) (text (codes "int")) classes.Int (codes ". " ++ y) refl refl) (dot_leads y))
sort_before (sorts.Array n) y h =
    let l = length_within n h in
    let z = codes " . " ++ y in
    join (one (codes ":" ++ (codes "array " ++ decimal n ++ z)) (text (codes ":")) classes.Colon (codes "array " ++ decimal n ++ z) refl refl)
    (join (to (skip_space (decimal n ++ z) ∙ skip_start (decimal n ++ z) (starts_with (decimal n) z (number_starts n l))) (one (codes "array " ++ decimal n ++ z) (text (codes "array")) classes.Array (skip (32 ∷ (decimal n ++ z))) refl refl))
    (join (to (skip_space (46 ∷ 32 ∷ y) ∙ skip_none 46 (32 ∷ y) refl) (number_leads n z l refl)) (dot_leads y)))

prefix_leads : (p : Prefix) (k d : ℕ) → PlainPrefix d p → d ≤ k → suc k ≤ 512 → (y : List ℕ) → Starts y → Leads (prefix_text p ++ y) (grammar.prefix_text p) y
prefix_leads prefixes.Minus k d p h w y s = minus_before y s
prefix_leads prefixes.Not k d p h w y s = not_before y s
prefix_leads (prefixes.Bind q b s) k d p h w y st =
    subst (λ c. Leads (prefix_text (prefixes.Bind q c s) ++ y) (grammar.prefix_text (prefixes.Bind q c s)) y) (sym p.0)
    (from (grouped_6 (quantifier_text q) (codes " ") (codes "_" ++ decimal (suc d)) (codes ":") (sort_text s) (codes " . ") y)
    (join (quantifier_before q ((codes "_" ++ decimal (suc d)) ++ (codes ":" ++ (sort_text s ++ (codes " . " ++ y)))) (byte_starts 95 (decimal (suc d) ++ (codes ":" ++ (sort_text s ++ (codes " . " ++ y)))) refl))
    (join (to (skip_none 58 (sort_text s ++ (codes " . " ++ y)) refl) (place_leads (suc d) (codes ":" ++ (sort_text s ++ (codes " . " ++ y))) (omega arith) (within_number (suc d) (omega arith)) refl))
    (to (skip_start y st) (sort_before s y p.1)))))

head_leads : (h : Head) → PlainHead h → (x : List ℕ) → Leads (head_text h ++ 40 ∷ x) (head_token h ∷ []) (40 ∷ x)
unfolding token_at front_token class_of text_class mark_texts skip
head_leads heads.Put p x = one (codes "put" ++ 40 ∷ x) (text (codes "put")) classes.Put (40 ∷ x) refl refl
head_leads (heads.Named w) p x = to (skip_none 40 x refl) (word_leads w (40 ∷ x) p refl)

deeper : (p : Prefix) (k d : ℕ) → d ≤ k → behind p d ≤ suc k
deeper prefixes.Minus k d h = omega arith
deeper prefixes.Not k d h = omega arith
deeper (prefixes.Bind q b s) k d h = omega arith

prefix_within : (p : Prefix) (k : ℕ) (ns : List ℕ) → StaysWithin (each (suc k) (grammar.prefix_text p) ++ ns) → (suc k ≤ 512) × StaysWithin ns
prefix_within prefixes.Minus k ns w = (w.0, w.1)
prefix_within prefixes.Not k ns w = (w.0, w.1)
prefix_within (prefixes.Bind q b s) k ns w = (w.0, (within_split (each (suc k) (grammar.prefix_text (prefixes.Bind q b s))) ns w).1)

mutual
  pub lexed : (t : Tree) (k d : ℕ) → IsPlain d t → d ≤ k → StaysWithin (nests k t) → (r : List ℕ) → ends r ≡ true → Leads (laid t ++ r) (grammar.text t) (skip r)
  lexed (leaf l) k d p h w r e = leaf_leads l k d p h w.0 r e
  lexed (prefix q t) k d p h w r e =
      let v = prefix_within q k (nests (suc k) t) w in
      from (append_assoc (prefix_text q) (laid t) r)
      (join (prefix_leads q k d p.0 h v.0 (laid t ++ r) (starts_with (laid t) r (starts t (behind q d) p.1)))
      (lexed t (suc k) (behind q d) p.1 (deeper q k d h) v.1 r e))
  lexed (binary op x y) k d p h w r e =
      let a = adds op (level x) (chain x) in
      let v = within_split (nests k x) ((k + a) ∷ nests (k + a) y) w in
      from (grouped_5 (laid x) (codes " ") (infix_text op) (codes " ") (laid y) r)
      (join (lexed x k d p.0 h v.0 (32 ∷ (infix_text op ++ 32 ∷ (laid y ++ r))) refl)
      (join (to (skip_start (laid y ++ r) (starts_with (laid y) r (starts y d p.1))) (infix_leads op (laid y ++ r)))
      (lexed y (k + a) d p.1 (omega arith) v.1.1 r e)))
  lexed (group t) k d p h w r e =
      let v = within_split (nests (suc k) t) (k ∷ []) w.1 in
      from (grouped_3 (codes "(") (laid t) (codes ")") r)
      (join (to (skip_start (laid t ++ 41 ∷ r) (starts_with (laid t) (41 ∷ r) (starts t d p))) (open_leads (laid t ++ 41 ∷ r)))
      (join (to (skip_none 41 r refl) (lexed t (suc k) d p (omega arith) v.0 (41 ∷ r) refl))
      (close_leads r)))
  lexed (index t u) k d p h w r e =
      let m = k + suc (suc (chain t)) in
      let v = within_split (nests k t) (m ∷ (nests m u ++ (k + suc (chain t)) ∷ [])) w in
      let v2 = within_split (nests m u) ((k + suc (chain t)) ∷ []) v.1.1 in
      from (grouped_4 (laid t) (codes "[") (laid u) (codes "]") r)
      (join (to (skip_none 91 (laid u ++ 93 ∷ r) refl) (lexed t k d p.0 h v.0 (91 ∷ (laid u ++ 93 ∷ r)) refl))
      (join (bracket_before (laid u ++ 93 ∷ r) (starts_with (laid u) (93 ∷ r) (starts u d p.1)))
      (join (to (skip_none 93 r refl) (lexed u m d p.1 (omega arith) v2.0 (93 ∷ r) refl))
      (close_square_leads r e))))
  lexed (call q ts t) k d p h w r e =
      let v = within_split (each_nests (suc k) ts) (nests (suc k) t ++ k ∷ []) w.1.1 in
      let v2 = within_split (nests (suc k) t) (k ∷ []) v.1 in
      let z = laid t ++ 41 ∷ r in
      let s = starts_with (laid t) (41 ∷ r) (starts t d p.2) in
      from (grouped_5 (head_text q) (codes "(") (laid_each ts) (laid t) (codes ")") r)
      (join (head_leads q p.0 (laid_each ts ++ z))
      (join (to (skip_start (laid_each ts ++ z) (each_starts ts d p.1 z s)) (open_leads (laid_each ts ++ z)))
      (join (lexed_each ts (suc k) d p.1 (omega arith) v.0 z s)
      (join (to (skip_none 41 r refl) (lexed t (suc k) d p.2 (omega arith) v2.0 (41 ∷ r) refl))
      (close_leads r)))))

  lexed_each : (ts : Trees) (k d : ℕ) → ArePlain d ts → d ≤ k → StaysWithin (each_nests k ts) → (y : List ℕ) → Starts y → Leads (laid_each ts ++ y) (texts ts) y
  lexed_each none k d p h w y s = nothing y
  lexed_each (more ts t) k d p h w y s =
      let v = within_split (each_nests k ts) (nests k t ++ k ∷ []) w in
      let v2 = within_split (nests k t) (k ∷ []) v.1 in
      let z = 44 ∷ 32 ∷ y in
      from (grouped_3 (laid_each ts) (laid t) (codes ", ") y)
      (join (lexed_each ts k d p.0 h v.0 (laid t ++ z) (starts_with (laid t) z (starts t d p.1)))
      (join (to (skip_none 44 (32 ∷ y) refl) (lexed t k d p.1 h v2.0 z refl))
      (to (skip_start y s) (comma_leads y))))
