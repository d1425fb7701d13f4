-- What the code writes of a program is its text.
use Rattle.std.proofs.Common.{◌≡◌, ℕ, ◌+◌, ◌<◌, Bool, true, List, [], ◌∷◌, ◌++◌, length, drop, get_or, refl, sym, ap, ◌∙◌, map, append_assoc}
use Rattle.std.specs.Prelude.{codes, ◌&&◌, Result, Ok, Err, OnOk}
use Rattle.std.proofs.lemmas.List.{drop_more}
use Rattle.rw_terms.specs.Names.{is_name}
use Rattle.rw_terms.specs.declared.term.Sort.{Sort}
use Rattle.rw_terms.specs.declared.term.Term.{Term}
use Rattle.rw_programs.specs.declared.prog.Arm.{Arm}
use Rattle.rw_programs.specs.declared.prog.Pin.{Pin}
use Rattle.rw_programs.specs.declared.prog.Prog.{Prog, If'}
use Rattle.rw_programs.specs.declared.prog.Prog.TheViews as made
use Rattle.rw_printer.specs.Layout.{printed_term, printed_formula, listed}
use Rattle.rw_program_printer.specs.Readable.{named_names}
use Rattle.rw_program_printer.specs.Layout.{pins_text, block_text, local_text, is_sequence, first_text, prog_text, row_text, arm_text, arms_text}

pub seq_text : (c d : Prog) → prog_text (made.Seq c d) ≡ first_text (is_sequence c) (prog_text c) ++ codes " ; " ++ prog_text d
unfolding Rattle.rw_programs.specs.declared.prog.Prog.TheBlock.hidden-the_row-Prog-0 denote.Hole.Carrier.hidden
seq_text c d = refl

pub is_seq : (c d : Prog) → is_sequence (made.Seq c d) ≡ true
unfolding Rattle.rw_programs.specs.declared.prog.Prog.TheBlock.hidden-the_row-Prog-0 denote.Hole.Carrier.hidden
is_seq c d = refl

pub block_is : (x : List ℕ) (s : Sort) (c : Prog) → prog_text (made.Block x s c) ≡ block_text (codes "var " ++ local_text x s) (prog_text c)
unfolding Rattle.rw_programs.specs.declared.prog.Prog.TheBlock.hidden-the_row-Prog-0 denote.Hole.Carrier.hidden
block_is x s c = refl

pub con_is : (ps : List Pin) (c : Prog) → prog_text (made.Con ps c) ≡ block_text (codes "con " ++ pins_text ps) (prog_text c)
unfolding Rattle.rw_programs.specs.declared.prog.Prog.TheBlock.hidden-the_row-Prog-0 denote.Hole.Carrier.hidden
con_is ps c = refl

pub module_is : (m : List ℕ) (c : Prog) → prog_text (made.ModBlock m c) ≡ block_text (codes "module " ++ m) (prog_text c)
unfolding Rattle.rw_programs.specs.declared.prog.Prog.TheBlock.hidden-the_row-Prog-0 denote.Hole.Carrier.hidden
module_is m c = refl

-- the arms of an alternation, behind one text before the first
abbrev row_of : Prog → List ℕ → List ℕ
row_of (If' shape arms) before = row_text before arms
row_of _ before = []

grouped : (b g c r : List ℕ) → b ++ g ++ codes " -> " ++ c ++ r ≡ b ++ (g ++ codes " -> " ++ c) ++ r
grouped b g c r = simp append_assoc

row_is : (before : List ℕ) (arms : List Arm) → row_of (made.If arms) before ≡ listed (codes " [] ") before (map arm_text arms)
unfolding Rattle.rw_programs.specs.declared.prog.Prog.TheBlock.hidden-the_row-Arm-1 denote.Hole.Carrier.hidden
row_is before [] = refl
row_is before (a ∷ arms) =
    ap (λ x. before ++ printed_formula a.guard ++ codes " -> " ++ prog_text a.body ++ x) (row_is (codes " [] ") arms)
    ∙ grouped before (printed_formula a.guard) (prog_text a.body) (listed (codes " [] ") (codes " [] ") (map arm_text arms))

pub if_is : (arms : List Arm) → prog_text (made.If arms) ≡ codes "if " ++ arms_text arms ++ codes " fi"
unfolding Rattle.rw_programs.specs.declared.prog.Prog.TheBlock.hidden-the_row-Arm-1 denote.Hole.Carrier.hidden
if_is arms = ap (λ x. codes "if " ++ x ++ codes " fi") (row_is [] arms)

pub do_is : (v : Term) (arms : List Arm) → prog_text (made.Do v arms) ≡ codes "do {" ++ printed_term v ++ codes "} " ++ arms_text arms ++ codes " od"
unfolding Rattle.rw_programs.specs.declared.prog.Prog.TheBlock.hidden-the_row-Arm-1 denote.Hole.Carrier.hidden
do_is v arms = ap (λ x. codes "do {" ++ printed_term v ++ codes "} " ++ x ++ codes " od") (row_is [] arms)

-- what is written piece by piece

grouped_seq : (o a b : List ℕ) → o ++ a ++ codes " ; " ++ b ≡ o ++ (a ++ codes " ; " ++ b)
grouped_seq o a b = simp append_assoc

pub seq_written : (old one two : List ℕ) (a b c d p : Prog) → a ≡ c → b ≡ d → p ≡ made.Seq c d → one ≡ old ++ first_text (is_sequence a) (prog_text a) → two ≡ one ++ codes " ; " → two ++ prog_text b ≡ old ++ prog_text p
seq_written old one two a b c d p e f g o t =
    ap (λ x. x ++ prog_text b) (t ∙ ap (λ x. x ++ codes " ; ") o) ∙ grouped_seq old (first_text (is_sequence a) (prog_text a)) (prog_text b)
    ∙ ap (λ x. old ++ (first_text (is_sequence x) (prog_text x) ++ codes " ; " ++ prog_text b)) e ∙ ap (λ x. old ++ (first_text (is_sequence c) (prog_text c) ++ codes " ; " ++ prog_text x)) f
    ∙ ap (λ x. old ++ x) (sym (seq_text c d)) ∙ ap (λ x. old ++ prog_text x) (sym g)

grouped_if : (o a : List ℕ) → o ++ codes "if " ++ a ++ codes " fi" ≡ o ++ (codes "if " ++ a ++ codes " fi")
grouped_if o a = simp append_assoc

pub if_written : (old one two : List ℕ) (l arms : List Arm) (p : Prog) → l ≡ arms → p ≡ made.If arms → one ≡ old ++ codes "if " → two ≡ one ++ arms_text l → two ++ codes " fi" ≡ old ++ prog_text p
if_written old one two l arms p e g o t =
    ap (λ x. x ++ codes " fi") (t ∙ ap (λ x. x ++ arms_text l) o) ∙ grouped_if old (arms_text l) ∙ ap (λ x. old ++ (codes "if " ++ arms_text x ++ codes " fi")) e
    ∙ ap (λ x. old ++ x) (sym (if_is arms)) ∙ ap (λ x. old ++ prog_text x) (sym g)

grouped_do : (o v a : List ℕ) → o ++ codes "do {" ++ v ++ codes "} " ++ a ++ codes " od" ≡ o ++ (codes "do {" ++ v ++ codes "} " ++ a ++ codes " od")
grouped_do o v a = simp append_assoc

pub do_written : (old one two : List ℕ) (v : Term) (l arms : List Arm) (p : Prog) → l ≡ arms → p ≡ made.Do v arms → one ≡ old ++ codes "do {" ++ printed_term v ++ codes "} " → two ≡ one ++ arms_text l → two ++ codes " od" ≡ old ++ prog_text p
do_written old one two v l arms p e g o t =
    ap (λ x. x ++ codes " od") (t ∙ ap (λ x. x ++ arms_text l) o) ∙ grouped_do old (printed_term v) (arms_text l) ∙ ap (λ x. old ++ (codes "do {" ++ printed_term v ++ codes "} " ++ arms_text x ++ codes " od")) e
    ∙ ap (λ x. old ++ x) (sym (do_is v arms)) ∙ ap (λ x. old ++ prog_text x) (sym g)

grouped_block : (o w x b : List ℕ) → o ++ (codes "|[ " ++ w) ++ x ++ codes " . " ++ b ++ codes " ]|" ≡ o ++ (codes "|[ " ++ (w ++ x) ++ codes " . " ++ b ++ codes " ]|")
grouped_block o w x b = simp append_assoc

pub block_written : (old one two w x : List ℕ) (b c p : Prog) → b ≡ c → prog_text p ≡ block_text (w ++ x) (prog_text c) → one ≡ old ++ (codes "|[ " ++ w) → two ≡ one ++ x → two ++ codes " . " ++ prog_text b ++ codes " ]|" ≡ old ++ prog_text p
block_written old one two w x b c p e g o t =
    ap (λ y. y ++ codes " . " ++ prog_text b ++ codes " ]|") (t ∙ ap (λ y. y ++ x) o) ∙ grouped_block old w x (prog_text b) ∙ ap (λ y. old ++ block_text (w ++ x) (prog_text y)) e ∙ ap (λ y. old ++ y) (sym g)

-- what holds where all was written

pub on_map : {A E : Type 0} {P Q : Type 0} (r : Result A E) → (P → Q) → OnOk r P → OnOk r Q
on_map (Ok x) f p = f p
on_map (Err x) f p = tt

pub on_pure : {A E : Type 0} {P : Type 0} (r : Result A E) → P → OnOk r P
on_pure (Ok x) p = p
on_pure (Err x) p = tt

-- names that are left of a list, one less
pub named_rest : (xs : List (List ℕ)) (i : ℕ) (x : List ℕ) (w : Bool) → i < length xs → x ≡ get_or xs i x → is_name x ≡ true → named_names (drop i xs) ≡ w → named_names (drop (i + 1) xs) ≡ w
named_rest xs i x w h e n v =
    ap (λ b. b && named_names (drop (i + 1) xs)) (sym n) ∙ ap (λ y. is_name y && named_names (drop (i + 1) xs)) e ∙ sym (ap named_names (drop_more xs i x h)) ∙ v
