-- The requests that the bytes of a connection give.
use Rattle.std.specs.Prelude.{◌≡◌, ℕ, ◌+◌, ◌<◌, ◌⊎◌, List, [], ◌++◌, length, take, ⊤, Option, IfSome}
use Rattle.std.specs.Io.KnownBytes.{IsAtEnd}
use Rattle.httparse.specs.Grammar.{RequestHead, print_request}
use Rattle.rw_http.specs.declared.intake.HttpRequest.{HttpRequest}
use Rattle.rw_http.specs.declared.intake.Taken.{Taken}
use Rattle.rw_http.specs.declared.intake.Taken.TheVariants.{Request, BadHead, TooLong, Ended, Cut}
use Rattle.rw_http.specs.Ends.{IsEndWithin, IsPastLimit, IsShort}
use Rattle.rw_http.specs.Moves.{Moves}
use Rattle.rw_http.specs.Heads.{IsRefused, IsOfLongBody, IsAccepted}

-- the head's end is within the limit, and this holds of the bytes up to it
abbrev pub AtHeadEnd : (List ℕ → Type 0) → List ℕ → Type 0
AtHeadEnd P bytes = (n : ℕ) × IsEndWithin bytes n × P (take n bytes)

-- the head is past its limits, or it is refused
abbrev pub IsBadHead : List ℕ → Type 0
IsBadHead bytes = IsPastLimit bytes ⊎ AtHeadEnd IsRefused bytes

-- the body would be too long
abbrev pub IsTooLong : List ℕ → Type 0
IsTooLong bytes = AtHeadEnd IsOfLongBody bytes

-- this request stands at the front, and then the rest
pub record IsRequest (bytes : List ℕ) (request : HttpRequest) (rest : List ℕ) : Type 0 where
  pub head : RequestHead
  pub accepted : AtHeadEnd (λ front. IsAccepted front head (length request.body)) bytes
  pub method : request.method ≡ head.method
  pub target : request.target ≡ head.target
  pub bytes_are : bytes ≡ print_request head ++ (request.body ++ rest)

-- these bytes are a head that is accepted, and a part of the body behind it
pub record IsInsideBody (bytes : List ℕ) : Type 0 where
  pub head : RequestHead
  pub size : ℕ
  pub accepted : AtHeadEnd (λ front. IsAccepted front head size) bytes
  pub short : length bytes < length (print_request head) + size

-- there are bytes, and they are a part of a request
abbrev pub IsInside : List ℕ → Type 0
IsInside bytes = (0 < length bytes) × (IsShort bytes ⊎ IsInsideBody bytes)

-- the bytes give nothing that can be answered, and more bytes may make it so
abbrev pub IsStarved : List ℕ → Type 0
IsStarved bytes = (bytes ≡ []) ⊎ IsInside bytes

-- what the bytes of an input give at their front, and what is then left of them
abbrev pub Gives : List ℕ → Taken → List ℕ → Type 0
Gives bytes (Request request) rest = IsRequest bytes request rest
Gives bytes BadHead rest = IsBadHead bytes × (rest ≡ bytes)
Gives bytes TooLong rest = IsTooLong bytes × (rest ≡ bytes)
Gives bytes Ended rest = (bytes ≡ []) × (rest ≡ [])
Gives bytes Cut rest = IsInside bytes × (rest ≡ bytes)

-- this, where the answer tells that the input ended
abbrev pub IfEnds : Taken → Type 0 → Type 0
IfEnds (Request request) P = ⊤
IfEnds BadHead P = ⊤
IfEnds TooLong P = ⊤
IfEnds Ended P = P
IfEnds Cut P = P

-- what more bytes of a peer make of those that are held: the answer, and what is held then
pub record Takes (left left' taken taken' : Option (List ℕ)) (held held' : List ℕ) (answer : Taken) : Type 0 where
  pub more : List ℕ
  pub moves : Moves left left' taken taken' more
  pub gives : Gives (held ++ more) answer held'
  pub ends : IfEnds answer (IsAtEnd left')

-- the same of all the bytes that a peer has left, where they are told
abbrev pub TakesOf : Option (List ℕ) → Option (List ℕ) → List ℕ → List ℕ → Taken → Type 0
TakesOf left left' held held' answer =
    IfSome left (λ all. (rest : List ℕ) × Gives (held ++ all) answer rest × IfSome left' (λ now. rest ≡ held' ++ now))
