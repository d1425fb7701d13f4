-- The bytes of an input give one answer.
use Rattle.std.proofs.Common.{◌≡◌, ℕ, ◌<◌, ◌⊎◌, inl, inr, false, List, [], ◌++◌, length, take, drop, None, Some, refl, ap, sym, ◌∙◌, subst, arith, length-append}
use Rattle.std.proofs.lemmas.Bool.{both_ways, cases_order}
use Rattle.std.proofs.lemmas.List.{take_at, drop_at, append_cancel_left}
use Rattle.httparse.specs.Grammar.{RequestHead, print_request}
use Rattle.httparse.proofs.GrammarLemmas.{request_unique}
use Rattle.rw_http.specs.declared.intake.HttpRequest.{HttpRequest}
use Rattle.rw_http.specs.declared.intake.Taken.{Taken}
use Rattle.rw_http.specs.declared.intake.Taken.TheVariants.{Request, BadHead, TooLong, Ended, Cut}
use Rattle.rw_http.specs.Ends.{ends_head, IsEndWithin, IsPastLimit, IsShort}
use Rattle.rw_http.specs.Fields.{body_length}
use Rattle.rw_http.specs.Heads.{fields_of, HasLength, BeginsWith, IsRefused, IsOfLongBody, IsAccepted}
use Rattle.rw_http.specs.Requests.{AtHeadEnd, IsBadHead, IsTooLong, IsRequest, IsInsideBody, Gives}
use Rattle.rw_http.proofs.RequestLemmas.{some_byte}

-- a head's end is where it is
late : (bytes : List ℕ) (n : ℕ) → IsEndWithin bytes n → ends_head (take n bytes) ≡ false → ⊥
late bytes n e h = both_ways (ends_head (take n bytes)) h e.is_end.ends

end_unique : (bytes : List ℕ) (n m : ℕ) → IsEndWithin bytes n → IsEndWithin bytes m → n ≡ m
end_unique bytes n m e f = at (cases_order n m)
  where
    at : (n ≡ m) ⊎ ((n < m) ⊎ (m < n)) → n ≡ m
    at (inl same) = same
    at (inr (inl less)) = absurd (late bytes n e (f.is_end.first n less))
    at (inr (inr more)) = absurd (late bytes m f (e.is_end.first m more))

at_both : (P Q : List ℕ → Type 0) (bytes : List ℕ) → AtHeadEnd P bytes → AtHeadEnd Q bytes → (front : List ℕ) × P front × Q front
at_both P Q bytes a b = (take a.0 bytes, a.2, subst (λ n. Q (take n bytes)) (sym (end_unique bytes a.0 b.0 a.1 b.1)) b.2)

not_past : (P : List ℕ → Type 0) (bytes : List ℕ) → IsPastLimit bytes → AtHeadEnd P bytes → ⊥
not_past P bytes past a = late bytes a.0 a.1 (past.none.none a.0 a.1.within)

not_short : (P : List ℕ → Type 0) (bytes : List ℕ) → IsShort bytes → AtHeadEnd P bytes → ⊥
not_short P bytes short a = late bytes a.0 a.1 (short.none.none a.0 a.1.is_end.within)

not_none : (P : List ℕ → Type 0) (bytes : List ℕ) → bytes ≡ [] → AtHeadEnd P bytes → ⊥
not_none P bytes none a = omega (arith, some_byte bytes a.0 a.1.is_end, ap length none)

-- one head stands at the front, with one length
one_head : (front : List ℕ) (one two : RequestHead) → BeginsWith front one → BeginsWith front two → one ≡ two
one_head front one two a b = (request_unique front one two a.0 b.0 a.1 b.1).0

one_length : (one two : RequestHead) (n m : ℕ) → one ≡ two → HasLength one n → HasLength two m → n ≡ m
one_length one two n m same a b = let both : Some n ≡ Some m = sym a.said ∙ ap (λ h. body_length (fields_of h)) same ∙ b.said in cc

-- a head that is refused has no length
refused_not : (front : List ℕ) (head : RequestHead) (n : ℕ) → IsRefused front → BeginsWith front head → HasLength head n → ⊥
refused_not front head n (inl none) begins has = none head begins.0 begins.1
refused_not front head n (inr (other, begun, inl many)) begins has =
    omega (arith, many, has.few, ap (λ (h : RequestHead). length h.fields) (one_head front head other begins begun))
refused_not front head n (inr (other, begun, inr none)) begins has =
    let both : Some n ≡ None = sym has.said ∙ ap (λ h. body_length (fields_of h)) (one_head front head other begins begun) ∙ none in cc

long_not : (front : List ℕ) (head : RequestHead) (n : ℕ) → IsOfLongBody front → IsAccepted front head n → ⊥
long_not front head n long is = omega (arith, one_length _ _ _ _ (one_head front long.0 head long.2 is.begins) long.3 is.has_length, long.4, is.fits)

-- no two of the tests hold together
bad_accepted : (bytes : List ℕ) (head : RequestHead) (n : ℕ) → IsBadHead bytes → AtHeadEnd (λ front. IsAccepted front head n) bytes → ⊥
bad_accepted bytes head n (inl past) a = not_past (λ front. IsAccepted front head n) bytes past a
bad_accepted bytes head n (inr refused) a =
    let both = at_both IsRefused (λ front. IsAccepted front head n) bytes refused a in
    refused_not both.0 head n both.1 both.2.begins both.2.has_length

long_accepted : (bytes : List ℕ) (head : RequestHead) (n : ℕ) → IsTooLong bytes → AtHeadEnd (λ front. IsAccepted front head n) bytes → ⊥
long_accepted bytes head n long a =
    let both = at_both IsOfLongBody (λ front. IsAccepted front head n) bytes long a in long_not both.0 head n both.1 both.2

bad_long : (bytes : List ℕ) → IsBadHead bytes → IsTooLong bytes → ⊥
bad_long bytes (inl past) long = not_past IsOfLongBody bytes past long
bad_long bytes (inr refused) long =
    let both = at_both IsRefused IsOfLongBody bytes refused long in
    refused_not both.0 both.2.0 both.2.1 both.1 both.2.2 both.2.3

bad_some : (bytes : List ℕ) → IsBadHead bytes → bytes ≡ [] → ⊥
bad_some bytes (inl past) none = omega (arith, past.long, ap length none)
bad_some bytes (inr refused) none = not_none IsRefused bytes none refused

bad_inside : (bytes : List ℕ) → IsBadHead bytes → IsShort bytes ⊎ IsInsideBody bytes → ⊥
bad_inside bytes (inl past) (inl short) = omega (arith, past.long, short.short)
bad_inside bytes (inr refused) (inl short) = not_short IsRefused bytes short refused
bad_inside bytes bad (inr body) = bad_accepted bytes body.head body.size bad body.accepted

long_inside : (bytes : List ℕ) → IsTooLong bytes → IsShort bytes ⊎ IsInsideBody bytes → ⊥
long_inside bytes long (inl short) = not_short IsOfLongBody bytes short long
long_inside bytes long (inr body) = long_accepted bytes body.head body.size long body.accepted

both_accepted : (bytes : List ℕ) (one two : RequestHead) (n m : ℕ) → AtHeadEnd (λ front. IsAccepted front one n) bytes → AtHeadEnd (λ front. IsAccepted front two m) bytes → (one ≡ two) × (n ≡ m)
both_accepted bytes one two n m a b =
    let both = at_both (λ front. IsAccepted front one n) (λ front. IsAccepted front two m) bytes a b in
    let same = one_head both.0 one two both.1.begins both.2.begins in
    (same, one_length one two n m same both.1.has_length both.2.has_length)

request_inside : (bytes : List ℕ) (request : HttpRequest) (rest : List ℕ) → IsRequest bytes request rest → IsShort bytes ⊎ IsInsideBody bytes → ⊥
request_inside bytes request rest is (inl short) = not_short (λ front. IsAccepted front is.head (length request.body)) bytes short is.accepted
request_inside bytes request rest is (inr body) =
    let same = both_accepted bytes is.head body.head (length request.body) body.size is.accepted body.accepted in
    omega (arith, body.short, same.1, ap (λ h. length (print_request h)) same.0, ap length is.bytes_are, length-append (print_request is.head) (request.body ++ rest), length-append request.body rest)

-- two ways to cut at one place
split_one : (a b c d : List ℕ) → length a ≡ length c → a ++ b ≡ c ++ d → (a ≡ c) × (b ≡ d)
split_one a b c d same e = (
  sym (take_at a b (length a) refl) ∙ ap (take (length a)) e ∙ take_at c d (length a) (sym same),
  sym (drop_at a b (length a) refl) ∙ ap (drop (length a)) e ∙ drop_at c d (length a) (sym same),
)

one_request : (bytes : List ℕ) (one two : HttpRequest) (rest other : List ℕ) → IsRequest bytes one rest → IsRequest bytes two other → (one ≡ two) × (rest ≡ other)
one_request bytes one two rest other a b =
    let same = both_accepted bytes a.head b.head (length one.body) (length two.body) a.accepted b.accepted in
    let bodies = append_cancel_left (print_request a.head) (one.body ++ rest) (two.body ++ other) (sym a.bytes_are ∙ b.bytes_are ∙ ap (λ h. print_request h ++ (two.body ++ other)) (sym same.0)) in
    let parts = split_one one.body rest two.body other same.1 bodies in
    let method : one.method ≡ two.method = a.method ∙ ap (λ (h : RequestHead). h.method) same.0 ∙ sym b.method in
    let target : one.target ≡ two.target = a.target ∙ ap (λ (h : RequestHead). h.target) same.0 ∙ sym b.target in
    (λ i. record { method = method i; target = target i; body = parts.0 i }, parts.1)

pub gives_unique : (bytes : List ℕ) (one two : Taken) (rest other : List ℕ) → Gives bytes one rest → Gives bytes two other → (one ≡ two) × (rest ≡ other)
gives_unique bytes (Request r) (Request q) rest other a b = let same = one_request bytes r q rest other a b in (ap Request same.0, same.1)
gives_unique bytes (Request r) BadHead rest other a b = absurd (bad_accepted bytes a.head (length r.body) b.0 a.accepted)
gives_unique bytes (Request r) TooLong rest other a b = absurd (long_accepted bytes a.head (length r.body) b.0 a.accepted)
gives_unique bytes (Request r) Ended rest other a b = absurd (not_none (λ front. IsAccepted front a.head (length r.body)) bytes b.0 a.accepted)
gives_unique bytes (Request r) Cut rest other a b = absurd (request_inside bytes r rest a b.0.1)
gives_unique bytes BadHead (Request q) rest other a b = absurd (bad_accepted bytes b.head (length q.body) a.0 b.accepted)
gives_unique bytes BadHead BadHead rest other a b = (refl, a.1 ∙ sym b.1)
gives_unique bytes BadHead TooLong rest other a b = absurd (bad_long bytes a.0 b.0)
gives_unique bytes BadHead Ended rest other a b = absurd (bad_some bytes a.0 b.0)
gives_unique bytes BadHead Cut rest other a b = absurd (bad_inside bytes a.0 b.0.1)
gives_unique bytes TooLong (Request q) rest other a b = absurd (long_accepted bytes b.head (length q.body) a.0 b.accepted)
gives_unique bytes TooLong BadHead rest other a b = absurd (bad_long bytes b.0 a.0)
gives_unique bytes TooLong TooLong rest other a b = (refl, a.1 ∙ sym b.1)
gives_unique bytes TooLong Ended rest other a b = absurd (not_none IsOfLongBody bytes b.0 a.0)
gives_unique bytes TooLong Cut rest other a b = absurd (long_inside bytes a.0 b.0.1)
gives_unique bytes Ended (Request q) rest other a b = absurd (not_none (λ front. IsAccepted front b.head (length q.body)) bytes a.0 b.accepted)
gives_unique bytes Ended BadHead rest other a b = absurd (bad_some bytes b.0 a.0)
gives_unique bytes Ended TooLong rest other a b = absurd (not_none IsOfLongBody bytes a.0 b.0)
gives_unique bytes Ended Ended rest other a b = (refl, a.1 ∙ sym b.1)
gives_unique bytes Ended Cut rest other a b = absurd (omega (arith, b.0.0, ap length a.0))
gives_unique bytes Cut (Request q) rest other a b = absurd (request_inside bytes q other b a.0.1)
gives_unique bytes Cut BadHead rest other a b = absurd (bad_inside bytes b.0 a.0.1)
gives_unique bytes Cut TooLong rest other a b = absurd (long_inside bytes b.0 a.0.1)
gives_unique bytes Cut Ended rest other a b = absurd (omega (arith, a.0.0, ap length b.0))
gives_unique bytes Cut Cut rest other a b = (refl, a.1 ∙ sym b.1)
