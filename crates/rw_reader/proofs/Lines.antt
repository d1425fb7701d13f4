-- A line is read as a request exactly where its tokens spell it, and has the fault that is told exactly where it has
-- it; so are certificates.
use Rattle.std.proofs.Common.{◌≡◌, ℕ, ◌-◌, List, length, refl, sym, ap, ◌∙◌, subst, arith, length-drop, drop, ◌⊎◌, inl, inr}
use Rattle.std.specs.Prelude.{◌↔◌, Result, Ok, Err, IfOk, IfErr}
use Rattle.rw_forms.specs.declared.request.Request.{Request}
use Rattle.rw_forms.specs.declared.request.ReadError.{ReadError}
use Rattle.rw_forms.specs.declared.request.ReadError.TheVariants.{Syntax, Memory}
use Rattle.rw_sequents.specs.declared.line.Cert.{Cert}
use Rattle.rw_tokens.specs.Tokens.{Token, skip}
use Rattle.rw_forms.specs.Forms.{a_request, a_cert, Form}
use Rattle.rw_forms.specs.Certificates.{cert_form, CertSpells, IsCertFault}
use Rattle.rw_forms.specs.Progress.{StopsAt, Answers}
use Rattle.rw_forms.specs.Reading.{SpellsAs, TextSpellsAs, Ending, whole, stops, read_form}
use Rattle.rw_forms.proofs.Endings.{one}
use Rattle.rw_forms.proofs.Texts.{nothing, exclusive, one_text, one_fault, spelled, faulty}
use Rattle.rw_reader.specs.Requests.{request_form}
use Rattle.rw_reader.specs.Reading.{Spells, LineSpells, IsFault, Reading, reads, fault, asked, told, reading}
use Rattle.rw_reader.proofs.Requests.{IsRequest, IsCert, requests_keep, cert_form_keeps}

-- requests

given_request : {r q : Request} → a_request r ≡ a_request q → r ≡ q
given_request e = cc

pub one_request : (ts : List Token) (r q : Request) → Spells ts r → Spells ts q → r ≡ q
one_request ts r q a b = given_request (one IsRequest nothing ts request_form (a_request r) (a_request q) requests_keep a b)

one_line : (line : List ℕ) (r q : Request) → LineSpells line r → LineSpells line q → r ≡ q
one_line line r q a b = given_request (one_text IsRequest request_form requests_keep line (a_request r) (a_request q) a b)

-- either the one or the other
data Answer (line : List ℕ) (x : Reading) : Type 0 where
  good : (r : Request) → x ≡ reads r → LineSpells line r → Answer line x
  bad : (o : ℕ) → x ≡ fault o → IsFault line o → Answer line x

answer : (line : List ℕ) → Answer line (reading line)
unfolding reading
answer line = go (read_form request_form (skip line)) refl
  where
    go : (e : Ending) → read_form request_form (skip line) ≡ e → Answer line (told line e)
    go (whole v) e = let s = spelled IsRequest request_form requests_keep line v e in subst (λ w. Answer line (asked line w)) (sym s.0.1) (good s.0.0 refl (subst (TextSpellsAs request_form line) s.0.1 s.1))
    go (stops left) e = bad (length line - length left) refl (faulty IsRequest request_form requests_keep line left e)

reads_is : {r q : Request} → reads r ≡ reads q → r ≡ q
reads_is e = cc

fault_is : {o p : ℕ} → fault o ≡ fault p → o ≡ p
fault_is e = cc

pub reads_exactly : (line : List ℕ) (r : Request) → (reading line ≡ reads r) ↔ LineSpells line r
reads_exactly line r = (there (answer line), back (answer line))
  where
    there : Answer line (reading line) → reading line ≡ reads r → LineSpells line r
    there (good q e s) h = subst (LineSpells line) (reads_is (sym e ∙ h)) s
    there (bad o e f) h = let z : fault o ≡ reads r = sym e ∙ h in absurd (cc)

    back : Answer line (reading line) → LineSpells line r → reading line ≡ reads r
    back (good q e s) h = e ∙ ap reads (one_line line q r s h)
    back (bad o e f) h = absurd (exclusive request_form line (a_request r) o h f)

pub faults_exactly : (line : List ℕ) (o : ℕ) → (reading line ≡ fault o) ↔ IsFault line o
faults_exactly line o = (there (answer line), back (answer line))
  where
    there : Answer line (reading line) → reading line ≡ fault o → IsFault line o
    there (good q e s) h = let z : reads q ≡ fault o = sym e ∙ h in absurd (cc)
    there (bad p e f) h = subst (IsFault line) (fault_is (sym e ∙ h)) f

    back : Answer line (reading line) → IsFault line o → reading line ≡ fault o
    back (good q e s) h = absurd (exclusive request_form line (a_request q) o s h)
    back (bad p e f) h = e ∙ ap fault (one_fault request_form line p o f h)

-- what the reader's answers say

pub begun : (line : List ℕ) (at : ℕ) → drop at line ≡ skip line → reading line ≡ told line (read_form request_form (drop at line))
unfolding reading
begun line at e = ap (λ l. told line (read_form request_form l)) (sym e)

pub answers_ok : (f : Form) (line : List ℕ) (at : ℕ) (r : Result Request ReadError) → reading line ≡ told line (read_form f (drop at line)) → Answers f line at r → IfOk r (λ q. reading line ≡ reads q)
answers_ok f line at (Ok q) h a = h ∙ ap (told line) a
answers_ok f line at (Err e) h a = tt

pub answers_err : (f : Form) (line : List ℕ) (at : ℕ) (r : Result Request ReadError) → reading line ≡ told line (read_form f (drop at line)) → Answers f line at r → IfErr r (λ e. (e ≡ Memory) ⊎ ((o : ℕ) × (e ≡ Syntax o) × (reading line ≡ fault o)))
answers_err f line at (Ok q) h a = tt
answers_err f line at (Err Memory) h a = inl refl
answers_err f line at (Err (Syntax o)) h a =
    let there : length line - length (drop o line) ≡ o = (let l = length-drop o line in let w = a.0 in omega (arith, l, w)) in
    inr (o, refl, h ∙ ap (told line) a.1 ∙ ap fault there)

-- certificates

given_cert : {c d : Cert} → a_cert c ≡ a_cert d → c ≡ d
given_cert e = cc

pub one_cert : (ts : List Token) (c d : Cert) → SpellsAs cert_form ts (a_cert c) → SpellsAs cert_form ts (a_cert d) → c ≡ d
one_cert ts c d a b = given_cert (one IsCert nothing ts cert_form (a_cert c) (a_cert d) cert_form_keeps a b)

pub one_cert_text : (text : List ℕ) (c d : Cert) → CertSpells text c → CertSpells text d → c ≡ d
one_cert_text text c d a b = given_cert (one_text IsCert cert_form cert_form_keeps text (a_cert c) (a_cert d) a b)

pub cert_ok : (text : List ℕ) (at : ℕ) (c : Cert) → drop at text ≡ skip text → read_form cert_form (drop at text) ≡ whole (a_cert c) → CertSpells text c
cert_ok text at c s e = (spelled IsCert cert_form cert_form_keeps text (a_cert c) (ap (read_form cert_form) (sym s) ∙ e)).1

pub cert_err : (text : List ℕ) (at : ℕ) (e : ReadError) → drop at text ≡ skip text → StopsAt text e (read_form cert_form (drop at text)) → (e ≡ Memory) ⊎ ((o : ℕ) × (e ≡ Syntax o) × IsCertFault text o)
cert_err text at Memory s h = inl refl
cert_err text at (Syntax o) s h =
    let there : length text - length (drop o text) ≡ o = (let l = length-drop o text in let w = h.0 in omega (arith, l, w)) in
    inr (o, refl, subst (IsCertFault text) there (faulty IsCert cert_form cert_form_keeps text (drop o text) (ap (read_form cert_form) (sym s) ∙ h.1)))
