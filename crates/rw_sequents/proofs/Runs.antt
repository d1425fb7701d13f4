-- What the goals after the lines of a certificate say of it.
use Rattle.std.proofs.Common.{◌≡◌, ◌↔◌, ℕ, zero, suc, arith, ◌+◌, Bool, true, false, Result, Ok, Err, OnErr, List, [], ◌∷◌, length, reverse, take, refl, sym, ◌∙◌, ap, subst, drop, get_or, ◌<◌, ◌≤◌, add-one, drop-cons, ◌++◌}
use Rattle.std.proofs.lemmas.List.{reverse-append, drop_all}
use Rattle.std.proofs.Math.Seq.{take-length}
use Rattle.rw_terms.specs.declared.sequent.Sequent.{Sequent}
use Rattle.rw_goals.specs.declared.library.Library.{Library}
use Rattle.rw_goals.specs.Library.{definitions_of}
use Rattle.rw_goals.specs.Premises.{Effect, Fails, Premises}
use Rattle.rw_goals.proofs.Sound.{AllValid}
use Rattle.rw_sequents.specs.declared.line.CertLine.{CertLine}
use Rattle.rw_sequents.specs.declared.line.Cert.{Cert}
use Rattle.rw_sequents.specs.declared.line.Verdict.{Verdict}
use Rattle.rw_sequents.specs.declared.line.Verdict.TheVariants.{Good, Bad}
use Rattle.rw_terms.specs.Validity.{Each, Valid}
use Rattle.rw_sequents.specs.Rules.{after_line}
use Rattle.rw_sequents.specs.After.{Progress, Open, Failed, capped, replaced, step, after_lines, after, Follows, told, verdict, arithmetic, spent}
use Rattle.rw_citations.specs.WellMade.{WellMade, NamedValid}
use Rattle.rw_sequents.specs.Cited.{OfCited, CitedValid}
use Rattle.rw_sequents.proofs.Lines.{line_sound}

pub stays : (library : Library) (before : ℕ) (ls : List CertLine) (a b c n : ℕ) → after_lines library before (Failed a b c) ls n ≡ Failed a b c
stays library before [] a b c n = refl
stays library before (l ∷ ls) a b c n = stays library before ls a b c (n + 1)

not_open : (library : Library) (before : ℕ) (ls : List CertLine) (a b c n : ℕ) → after_lines library before (Failed a b c) ls n ≡ Open [] → ⊥
not_open library before ls a b c n e = let k : Failed a b c ≡ Open [] = sym (stays library before ls a b c n) ∙ e in absurd (cc)

parted : {X : Type 0} (P : X → Type 0) (l m : List X) → Each P (l ++ m) → Each P l × Each P m
parted P [] m h = (tt, h)
parted P (x ∷ xs) m h = let r = parted P xs m h.1 in ((h.0, r.0), r.1)

none_left : (gs : List Sequent) → Open gs ≡ Open [] → gs ≡ []
none_left gs e = cc

module _ (library : Library) (before : ℕ) where
  within_sound : (b : Bool) (gs : List Sequent) (ls : List CertLine) (n m : ℕ) →
      ((gs : List Sequent) → after_lines library before (Open gs) ls m ≡ Open [] → Each (Valid (definitions_of library)) gs) →
      after_lines library before (capped b gs n) ls m ≡ Open [] → Each (Valid (definitions_of library)) gs
  within_sound true gs ls n m ih e = absurd (not_open library before ls n 0 7 m e)
  within_sound false gs ls n m ih e = ih gs e

  replaced_sound : (x : Effect) (rest : List Sequent) (ls : List CertLine) (n m : ℕ) →
      ((gs : List Sequent) → after_lines library before (Open gs) ls m ≡ Open [] → Each (Valid (definitions_of library)) gs) →
      after_lines library before (replaced x rest n) ls m ≡ Open [] → AllValid (definitions_of library) x × Each (Valid (definitions_of library)) rest
  replaced_sound (Fails sub cause) rest ls n m ih e = absurd (not_open library before ls n sub cause m e)
  replaced_sound (Premises ps) rest ls n m ih e = parted (Valid (definitions_of library)) ps rest (within_sound _ (ps ++ rest) ls n m ih e)

  lines_sound : WellMade library → (ls : List CertLine) → Each (OfCited (NamedValid library before)) ls → (gs : List Sequent) (n : ℕ) → after_lines library before (Open gs) ls n ≡ Open [] → Each (Valid (definitions_of library)) gs
  lines_sound made [] valid gs n e = subst (Each (Valid (definitions_of library))) (sym (none_left gs e)) tt
  lines_sound made (l ∷ ls) valid [] n e = tt
  lines_sound made (l ∷ ls) valid (q ∷ rest) n e =
      let r = replaced_sound (after_line library before q l) rest ls n (n + 1) (λ gs. lines_sound made ls valid.1 gs (n + 1)) e in
      (line_sound library before made q l valid.0 r.0, r.1)

  pub follows_valid : WellMade library → (q : Sequent) (cert : Cert) → CitedValid library before cert → Follows library before q cert → Valid (definitions_of library) q
  follows_valid made q cert valid e =
      (lines_sound made (take (length cert.lines) cert.lines) (subst (Each (OfCited (NamedValid library before))) (sym (take-length cert.lines)) valid) (q ∷ []) 1 e).0

-- a certificate that is told good follows
pub good_follows : (p : Progress) (n : ℕ) → told p n ≡ Good → p ≡ Open []
good_follows (Open []) n e = refl
good_follows (Open (q ∷ rest)) n e = absurd (cc)
good_follows (Failed a b c) n e = absurd (cc)

module _ (library : Library) (before : ℕ) where
  pub good_valid : (q : Sequent) (cert : Cert) (v : Verdict) → v ≡ verdict library before q cert → WellMade library → CitedValid library before cert → v ≡ Good → Valid (definitions_of library) q
  good_valid q cert v is made valid e =
      follows_valid library before made q cert valid (good_follows (after library before q cert (length cert.lines)) (length cert.lines) (sym is ∙ e))

  whole : (q : Sequent) (cert : Cert) → after library before q cert (length cert.lines) ≡ after_lines library before (Open (q ∷ [])) cert.lines 1
  whole q cert = ap (λ ls. after_lines library before (Open (q ∷ [])) ls 1) (take-length cert.lines)

  pub verdict_fails : (q : Sequent) (cert : Cert) (a b c : ℕ) → after_lines library before (Open (q ∷ [])) cert.lines 1 ≡ Failed a b c → Bad a b c ≡ verdict library before q cert
  verdict_fails q cert a b c e = sym (ap (λ p. told p (length cert.lines)) (whole q cert ∙ e))

  pub verdict_good : (q : Sequent) (cert : Cert) → after_lines library before (Open (q ∷ [])) cert.lines 1 ≡ Open [] → Good ≡ verdict library before q cert
  verdict_good q cert e = sym (ap (λ p. told p (length cert.lines)) (whole q cert ∙ e))

  -- a verdict is good exactly where the certificate follows
  pub good_exactly : (q : Sequent) (cert : Cert) (v : Verdict) → v ≡ verdict library before q cert → (v ≡ Good) ↔ Follows library before q cert
  good_exactly q cert v is =
      (λ e. good_follows (after library before q cert (length cert.lines)) (length cert.lines) (sym is ∙ e), λ f. is ∙ ap (λ p. told p (length cert.lines)) f)

  next : (gs : List Sequent) (lines : List CertLine) (i n : ℕ) (d : CertLine) (p : Progress) → after_lines library before (Open gs) (drop i lines) n ≡ p → i < length lines →
      after_lines library before (step library before (Open gs) (get_or lines i d) n) (drop (i + 1) lines) (n + 1) ≡ p
  next gs lines i n d p e h = rw add-one ((ap (λ ls. after_lines library before (Open gs) ls n) (sym (drop-cons lines i d h))) ∙ e)

  pub fails_at : (gs : List Sequent) (lines : List CertLine) (i n a b c : ℕ) (d : CertLine) (p : Progress) → after_lines library before (Open gs) (drop i lines) n ≡ p → i < length lines →
      step library before (Open gs) (get_or lines i d) n ≡ Failed a b c → p ≡ Failed a b c
  fails_at gs lines i n a b c d p e h s =
      sym (next gs lines i n d p e h)
      ∙ ap (λ z. after_lines library before z (drop (i + 1) lines) (n + 1)) s
      ∙ stays library before (drop (i + 1) lines) a b c (n + 1)

  pub ended : (gs : List Sequent) (lines : List CertLine) (i n : ℕ) (p : Progress) → after_lines library before (Open (reverse gs)) (drop i lines) n ≡ p → length lines ≤ i → gs ≡ [] → p ≡ Open []
  ended gs lines i n p e h g = sym e ∙ ap (λ ls. after_lines library before (Open (reverse gs)) ls n) (drop_all i lines h) ∙ ap (λ x. Open (reverse x)) g

  pub goes_on : (gs more : List Sequent) (lines : List CertLine) (i n : ℕ) (d : CertLine) (p : Progress) → after_lines library before (Open gs) (drop i lines) n ≡ p → i < length lines →
      step library before (Open gs) (get_or lines i d) n ≡ Open more → after_lines library before (Open more) (drop (i + 1) lines) (n + 1) ≡ p
  goes_on gs more lines i n d p e h s = ap (λ z. after_lines library before z (drop (i + 1) lines) (n + 1)) (sym s) ∙ next gs lines i n d p e h

-- the steps from a line on
module _ (library : Library) (before : ℕ) where
  spent_next : (gs : List Sequent) (lines : List CertLine) (i n : ℕ) (d : CertLine) → i < length lines →
      spent library before (Open gs) (drop i lines) n ≡ 1 + arithmetic gs (get_or lines i d) + spent library before (step library before (Open gs) (get_or lines i d) n) (drop (i + 1) lines) (n + 1)
  spent_next gs lines i n d h = rw add-one (ap (λ ls. spent library before (Open gs) ls n) (drop-cons lines i d h))

  pub spent_fails : (gs : List Sequent) (lines : List CertLine) (i n a b c : ℕ) (d : CertLine) → i < length lines →
      step library before (Open gs) (get_or lines i d) n ≡ Failed a b c → spent library before (Open gs) (drop i lines) n ≡ 1 + arithmetic gs (get_or lines i d)
  spent_fails gs lines i n a b c d h s =
      let e = spent_next gs lines i n d h in
      let z : spent library before (step library before (Open gs) (get_or lines i d) n) (drop (i + 1) lines) (n + 1) ≡ 0 = ap (λ p. spent library before p (drop (i + 1) lines) (n + 1)) s in
      omega arith

  -- the next line and its arithmetic lines are among them
  pub spent_at_least : (gs : List Sequent) (lines : List CertLine) (i n : ℕ) (d : CertLine) → i < length lines →
      1 + arithmetic gs (get_or lines i d) ≤ spent library before (Open gs) (drop i lines) n
  spent_at_least gs lines i n d h = let e = spent_next gs lines i n d h in omega arith

  pub spent_on : (gs more : List Sequent) (lines : List CertLine) (i n : ℕ) (d : CertLine) → i < length lines →
      step library before (Open gs) (get_or lines i d) n ≡ Open more →
      spent library before (Open gs) (drop i lines) n ≡ 1 + arithmetic gs (get_or lines i d) + spent library before (Open more) (drop (i + 1) lines) (n + 1)
  spent_on gs more lines i n d h s = spent_next gs lines i n d h ∙ ap (λ p. 1 + arithmetic gs (get_or lines i d) + spent library before p (drop (i + 1) lines) (n + 1)) s

  pub spent_end : (gs : List Sequent) (lines : List CertLine) (i n : ℕ) → length lines ≤ i → spent library before (Open gs) (drop i lines) n ≡ 0
  spent_end gs lines i n h = ap (λ ls. spent library before (Open gs) ls n) (drop_all i lines h)

pub each_at : {X : Type 0} (P : X → Type 0) (xs : List X) (i : ℕ) (d : X) → Each P xs → i < length xs → P (get_or xs i d)
each_at P [] i d h l = absurd (omega (arith, l))
each_at P (x ∷ xs) zero d h l = h.0
each_at P (x ∷ xs) (suc i) d h l = each_at P xs i d h.1 (omega arith)

-- the last goal of the list is the top of the stack
pub last_first : (gs : List Sequent) (q : Sequent) → reverse (gs ++ q ∷ []) ≡ q ∷ reverse gs
last_first gs q = reverse-append gs (q ∷ [])

pub two_on_top : (gs rest : List Sequent) (p q : Sequent) → gs ≡ (rest ++ q ∷ []) ++ p ∷ [] → reverse gs ≡ p ∷ q ∷ reverse rest
two_on_top gs rest p q e = ap reverse e ∙ last_first (rest ++ q ∷ []) p ∙ ap (λ r. p ∷ r) (last_first rest q)

pub on_err : {T E P : Type 0} (r : Result T E) → P → OnErr r P
on_err (Ok x) p = tt
on_err (Err e) p = p
