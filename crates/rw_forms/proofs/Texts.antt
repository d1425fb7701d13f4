-- A text is read by a form exactly where its tokens give what is read, and else has the fault that is told.
use Rattle.std.proofs.Common.{◌≡◌, ℕ, ◌-◌, ◌≤◌, Bool, false, List, [], ◌∷◌, ◌++◌, length, refl, sym, ap, ◌∙◌, subst, arith, append-nil, append_assoc}
use Rattle.std.proofs.lemmas.List.{length-append}
use Rattle.rw_tokens.specs.Tokens.{Token, skip, LeadsTo}
use Rattle.rw_forms.specs.Forms.{Given, Form, IsOf}
use Rattle.rw_forms.specs.Reading.{SpellsAs, GoesOnAs, TextSpellsAs, IsFaultAs, whole, stops, read_form}
use Rattle.rw_forms.proofs.Grammar.{Keeps}
use Rattle.rw_tokens.proofs.Shorter.{shortens, skip_less}
use Rattle.rw_tokens.proofs.Aligned.{none_at_end, Either, longer, shorter, aligned}
use Rattle.rw_forms.proofs.Endings.{whole_as, stops_as, one}

-- nothing follows a whole text
abbrev pub nothing : Token → Bool
nothing t = false

-- what goes on from a fault's place
goes_one_more : (f : Form) (before : List Token) (k : Token) (ks : List Token) → GoesOnAs f (before ++ k ∷ ks) → GoesOnAs f (before ++ k ∷ [])
goes_one_more f before k ks c =
    let a = length-append before (k ∷ ks) in
    let b = length-append before (k ∷ []) in
    let l = c.1 in
    (c.0, omega arith, ks ++ c.2, c.3, subst (λ x. IsOf f c.0 x c.3) (append_assoc before (k ∷ ks) c.2 ∙ sym (append_assoc before (k ∷ []) (ks ++ c.2))) c.4)

-- a list of tokens that goes on past a fault
past : (f : Form) (text : List ℕ) (o : ℕ) (x : IsFaultAs f text o) (k : Token) (more : List Token) (end : List ℕ) → LeadsTo x.left (k ∷ more) end → ¬ (GoesOnAs f (x.before ++ k ∷ more))
past f text o x k more end l c = x.stuck k l.0 l.1 (goes_one_more f x.before k more c)

spells_goes : (f : Form) (ts : List Token) (v : Given) → SpellsAs f ts v → GoesOnAs f ts
spells_goes f ts v s = (length ts, omega arith, [], v, subst (λ x. IsOf f (length ts) x v) (sym (append-nil ts)) s)

pub exclusive : (f : Form) (text : List ℕ) (v : Given) (o : ℕ) → TextSpellsAs f text v → IsFaultAs f text o → ⊥
exclusive f text v o s x = by_sides (aligned (skip text) x.before s.0 x.left [] x.leads s.1)
  where
    longer_side : (more : List Token) → s.0 ≡ x.before ++ more → LeadsTo x.left more [] → ⊥
    longer_side [] i l = x.early l v (subst (λ z. SpellsAs f z v) (i ∙ append-nil x.before) s.2)
    longer_side (k ∷ more) i l = past f text o x k more [] l (subst (GoesOnAs f) i (spells_goes f s.0 v s.2))

    shorter_side : (more : List Token) → x.before ≡ s.0 ++ more → LeadsTo [] more x.left → ⊥
    shorter_side [] i l = x.early (sym l) v (subst (λ z. SpellsAs f z v) (sym (i ∙ append-nil s.0)) s.2)
    shorter_side (k ∷ more) i l = none_at_end [] k l.0 refl l.1

    by_sides : Either x.before s.0 x.left [] → ⊥
    by_sides (longer a) = longer_side a.more a.is a.leads
    by_sides (shorter a) = shorter_side a.more a.is a.leads

-- no text gives two values
pub one_text : (P : Given → Type 0) (f : Form) → Keeps P nothing f → (text : List ℕ) (v w : Given) → TextSpellsAs f text v → TextSpellsAs f text w → v ≡ w
one_text P f keeps text v w a b = by_sides (aligned (skip text) a.0 b.0 [] [] a.1 b.1)
  where
    same : (ts us more : List Token) (v w : Given) → us ≡ ts ++ more → LeadsTo [] more [] → SpellsAs f ts v → SpellsAs f us w → v ≡ w
    same ts us [] v w i l x y = one P nothing ts f v w keeps x (subst (λ z. SpellsAs f z w) (i ∙ append-nil ts) y)
    same ts us (k ∷ more) v w i l x y = absurd (none_at_end [] k l.0 refl l.1)

    by_sides : Either a.0 b.0 [] [] → v ≡ w
    by_sides (longer e) = same a.0 b.0 e.more v w e.is e.leads a.2 b.2
    by_sides (shorter e) = sym (same b.0 a.0 e.more w v e.is e.leads b.2 a.2)

pub one_fault : (f : Form) (text : List ℕ) (o p : ℕ) → IsFaultAs f text o → IsFaultAs f text p → o ≡ p
one_fault f text o p x y = by_sides (aligned (skip text) x.before y.before x.left y.left x.leads y.leads)
  where
    places : x.left ≡ y.left → o ≡ p
    places e = let l : length x.left ≡ length y.left = ap length e in omega (arith, x.place, y.place)

    longer_side : (more : List Token) → y.before ≡ x.before ++ more → LeadsTo x.left more y.left → o ≡ p
    longer_side [] i l = places l
    longer_side (k ∷ more) i l = absurd (past f text o x k more y.left l (subst (GoesOnAs f) i y.goes))

    shorter_side : (more : List Token) → x.before ≡ y.before ++ more → LeadsTo y.left more x.left → o ≡ p
    shorter_side [] i l = places (sym l)
    shorter_side (k ∷ more) i l = absurd (past f text p y k more x.left l (subst (GoesOnAs f) i x.goes))

    by_sides : Either x.before y.before x.left y.left → o ≡ p
    by_sides (longer e) = longer_side e.more e.is e.leads
    by_sides (shorter e) = shorter_side e.more e.is e.leads

left_least : (here : List ℕ) (ts : List Token) (there : List ℕ) → LeadsTo here ts there → length there ≤ length here
left_least here [] there l = let e : length here ≡ length there = ap length l in omega arith
left_least here (t ∷ ts) there l = let a = shortens here t l.0 l.1 in let b = left_least l.0 ts there l.2 in omega arith

-- what the reading of a form says
pub spelled : (P : Given → Type 0) (f : Form) → Keeps P nothing f → (text : List ℕ) (v : Given) → read_form f (skip text) ≡ whole v → P v × TextSpellsAs f text v
unfolding read_form
spelled P f keeps text v e = let x = whole_as P nothing (length (skip text)) f (skip text) v keeps e in (x.fine, (x.tokens, x.leads, x.is))

pub faulty : (P : Given → Type 0) (f : Form) → Keeps P nothing f → (text left : List ℕ) → read_form f (skip text) ≡ stops left → IsFaultAs f text (length text - length left)
unfolding read_form
faulty P f keeps text left e =
    let x = stops_as P nothing (length (skip text)) f (skip text) left keeps (omega arith) e in
    let a = left_least (skip text) x.before left x.leads in
    let b = skip_less text in
    record {
      before = x.before;
      left = left;
      leads = x.leads;
      goes = (length x.before, omega arith, x.rest, x.value, x.goes);
      stuck = λ t behind y c.
          let l = length-append x.before (t ∷ []) in
          let m = c.1 in
          x.stuck t behind y c.0 c.2 c.3 (omega arith) (subst (λ z. IsOf f c.0 z c.3) (append_assoc x.before (t ∷ []) c.2) c.4);
      early = λ y v s. x.early y (length x.before) v (omega arith) s;
      place = omega arith;
    }
