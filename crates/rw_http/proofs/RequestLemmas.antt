-- The requests that bytes give: what more bytes leave as it was, and how an answer comes about.
use Rattle.std.proofs.Common.{◌≡◌, ℕ, ◌+◌, ◌<◌, ◌≤◌, inl, inr, true, false, List, [], ◌∷◌, ◌++◌, length, take, drop, Option, None, Some, refl, ap, sym, ◌∙◌, subst, arith, append_assoc, length-append}
use Rattle.std.proofs.KnownBytes.{Consumes-trans, Appends-trans}
use Rattle.std.proofs.lemmas.List.{take-append-le, take-append-drop, append-nil, drop_at, length-take, length-drop}
use Rattle.std.proofs.lemmas.Bool.{false≢true}
use Rattle.std.specs.Prelude.{Result, Ok, Err, IfOk}
use Rattle.std.specs.Io.KnownBytes.{IsAtEnd}
use Rattle.httparse.specs.Grammar.{print_request}
use Rattle.rw_http.specs.declared.head.Head.{Head}
use Rattle.rw_http.specs.declared.intake.HttpRequest.{HttpRequest}
use Rattle.rw_http.specs.declared.intake.Taken.{Taken}
use Rattle.rw_http.specs.declared.intake.Taken.TheVariants.{Request, BadHead, TooLong, Ended, Cut}
use Rattle.rw_http.specs.Ends.{ends_head, IsHeadEnd, IsEndWithin, IsPastLimit, IsShort}
use Rattle.rw_http.specs.Heads.{IsRefused, IsOfLongBody, IsAccepted}
use Rattle.rw_http.specs.Readings.{HasHead}
use Rattle.rw_http.specs.Moves.{Moves, TakesMore}
use Rattle.rw_http.specs.Requests.{AtHeadEnd, IsBadHead, IsRequest, IsInside, IsStarved, Gives, IfEnds, Takes, TakesOf}

-- more bytes behind change no front part
front_kept : (k : ℕ) (bytes more : List ℕ) → k ≤ length bytes → ends_head (take k (bytes ++ more)) ≡ ends_head (take k bytes)
front_kept k bytes more h = ap ends_head (take-append-le k bytes more h)

-- nor where a head ends
pub end_kept : (bytes more : List ℕ) (n : ℕ) → IsEndWithin bytes n → IsEndWithin (bytes ++ more) n
end_kept bytes more n e = record {
  is_end = record {
    within = omega (arith, e.is_end.within, length-append bytes more);
    ends = front_kept n bytes more e.is_end.within ∙ e.is_end.ends;
    first = λ k h. front_kept k bytes more (omega (arith, e.is_end.within)) ∙ e.is_end.first k h;
  };
  within = e.within;
}

-- nor what holds of the bytes up to there
pub at_end_kept : (P : List ℕ → Type 0) (bytes more : List ℕ) → AtHeadEnd P bytes → AtHeadEnd P (bytes ++ more)
at_end_kept P bytes more at =
    (at.0, end_kept bytes more at.0 at.1, subst P (sym (take-append-le at.0 bytes more at.1.is_end.within)) at.2)

-- nor that it is past its limit
pub past_kept : (bytes more : List ℕ) → IsPastLimit bytes → IsPastLimit (bytes ++ more)
past_kept bytes more past = record {
  long = omega (arith, past.long, length-append bytes more);
  none = record { none = λ k h. front_kept k bytes more (omega (arith, past.long)) ∙ past.none.none k h };
}

-- an answer that more bytes can't change
pub gives_kept : (bytes more : List ℕ) (answer : Taken) (rest : List ℕ) → Gives bytes answer rest → IfEnds answer (more ≡ []) → Gives (bytes ++ more) answer (rest ++ more)
gives_kept bytes more (Request request) rest is end = record {
  head = is.head;
  accepted = at_end_kept (λ front. IsAccepted front is.head (length request.body)) bytes more is.accepted;
  method = is.method;
  target = is.target;
  bytes_are =
      ap (λ bs. bs ++ more) is.bytes_are ∙ append_assoc (print_request is.head) (request.body ++ rest) more
      ∙ ap (λ bs. print_request is.head ++ bs) (append_assoc request.body rest more);
}
gives_kept bytes more BadHead rest is end = (bad is.0, ap (λ bs. bs ++ more) is.1)
  where
    bad : IsBadHead bytes → IsBadHead (bytes ++ more)
    bad (inl past) = inl (past_kept bytes more past)
    bad (inr refused) = inr (at_end_kept IsRefused bytes more refused)
gives_kept bytes more TooLong rest is end = (at_end_kept IsOfLongBody bytes more is.0, ap (λ bs. bs ++ more) is.1)
gives_kept bytes more Ended rest is end = subst (λ m. Gives (bytes ++ m) Ended (rest ++ m)) (sym end) (append-nil bytes ∙ is.0, append-nil rest ∙ is.1)
gives_kept bytes more Cut rest is end =
    subst (λ m. Gives (bytes ++ m) Cut (rest ++ m)) (sym end) (subst IsInside (sym (append-nil bytes)) is.0, ap (λ bs. bs ++ []) is.1)

-- the answer of all the bytes that a peer has left
pub whole_from : (left left' taken taken' : Option (List ℕ)) (held held' : List ℕ) (answer : Taken) → Takes left left' taken taken' held held' answer → TakesOf left left' held held' answer
whole_from None left' taken taken' held held' answer takes = tt
whole_from (Some all) None taken taken' held held' answer takes = absurd takes.moves.left_is
whole_from (Some all) (Some now) taken taken' held held' answer takes =
    let kept = gives_kept (held ++ takes.more) now answer held' takes.gives takes.ends in
    let same : (held ++ takes.more) ++ now ≡ held ++ all = append_assoc held takes.more now ∙ ap (λ bs. held ++ bs) (sym takes.moves.left_is) in
    (held' ++ now, subst (λ bs. Gives bs answer (held' ++ now)) same kept, refl)

-- one part of the bytes and then another
pub moves_on : (a b c x y z : Option (List ℕ)) (one two : List ℕ) → Moves a b x y one → Moves b c y z two → Moves a c x z (one ++ two)
moves_on a b c x y z one two first second = record {
  left_is = Consumes-trans a b c one two first.left_is second.left_is;
  taken_is = Appends-trans x y z one two first.taken_is second.taken_is;
}

pub takes_more_on : (a b c x y z : Option (List ℕ)) (held mid new : List ℕ) → TakesMore a b x y held mid → TakesMore b c y z mid new → TakesMore a c x z held new
takes_more_on a b c x y z held mid new first second =
    (first.0 ++ second.0, moves_on a b c x y z first.0 second.0 first.1 second.1, second.2 ∙ ap (λ bs. bs ++ second.0) first.2 ∙ append_assoc held first.0 second.0)

pub takes_on : (a b c x y z : Option (List ℕ)) (held mid new : List ℕ) (answer : Taken) → TakesMore a b x y held mid → Takes b c y z mid new answer → Takes a c x z held new answer
takes_on a b c x y z held mid new answer first second = record {
  more = first.0 ++ second.more;
  moves = moves_on a b c x y z first.0 second.more first.1 second.moves;
  gives = subst (λ bs. Gives bs answer new) (ap (λ bs. bs ++ second.more) first.2 ∙ append_assoc held first.0 second.more) second.gives;
  ends = second.ends;
}

-- an answer that the bytes so far give
pub takes_now : (a b x y : Option (List ℕ)) (held mid : List ℕ) (answer : Taken) → TakesMore a b x y held mid → Gives mid answer mid → IfEnds answer (IsAtEnd b) → Takes a b x y held mid answer
takes_now a b x y held mid answer first is ends = record {
  more = first.0;
  moves = first.1;
  gives = subst (λ bs. Gives bs answer mid) first.2 is;
  ends = ends;
}

-- the head's bytes stand at the front
pub front_is : (bytes front print rest behind : List ℕ) → bytes ≡ front ++ behind → front ≡ print ++ rest → bytes ≡ print ++ drop (length print) bytes
front_is bytes front print rest behind e f =
    let all : bytes ≡ print ++ (rest ++ behind) = e ∙ ap (λ bs. bs ++ behind) f ∙ append_assoc print rest behind in
    all ∙ ap (λ bs. print ++ bs) (sym (ap (drop (length print)) all ∙ drop_at print (rest ++ behind) (length print) refl))

-- a head is no longer than its limit
pub size_within : (bytes : List ℕ) (parts : Head) → HasHead bytes parts → parts.size ≤ 8192
size_within bytes parts has =
    let reads = has.is_head.accepted.begins.1 in
    omega (arith, has.is_head.size, ap length reads.1, length-append (print_request has.head) has.is_head.accepted.begins.0, length-take has.end bytes, has.is_end.within)

-- the request whose head this is
pub request_from : (held more bytes rest : List ℕ) (parts : Head) (request : HttpRequest) → HasHead held parts → bytes ≡ held ++ more → parts.size + parts.body ≤ length bytes
    → request.method ≡ parts.method → request.target ≡ parts.target → request.body ≡ take parts.body (drop parts.size bytes) → rest ≡ drop parts.body (drop parts.size bytes)
    → IsRequest (held ++ more) request rest
request_from held more bytes rest parts request has is enough method target body behind =
    let reads = has.is_head.accepted.begins.1 in
    let size : length request.body ≡ parts.body = ap length body ∙ length-take parts.body (drop parts.size bytes) ∙ omega (arith, length-drop parts.size bytes) in
    let split : bytes ≡ take has.end held ++ (drop has.end held ++ more) =
    is ∙ ap (λ bs. bs ++ more) (sym (take-append-drop has.end held)) ∙ append_assoc (take has.end held) (drop has.end held) more in
    let at_front = front_is bytes (take has.end held) (print_request has.head) has.is_head.accepted.begins.0 (drop has.end held ++ more) split reads.1 in
    let same : drop (length (print_request has.head)) bytes ≡ request.body ++ rest =
    ap (λ n. drop n bytes) (sym has.is_head.size) ∙ sym (take-append-drop parts.body (drop parts.size bytes)) ∙ ap (λ bs. bs ++ drop parts.body (drop parts.size bytes)) (sym body)
    ∙ ap (λ bs. request.body ++ bs) (sym behind) in record {
      head = has.head;
      accepted = at_end_kept (λ front. IsAccepted front has.head (length request.body)) held more (has.end, has.is_end, subst (IsAccepted (take has.end held) has.head) (sym size) has.is_head.accepted);
      method = method ∙ has.is_head.method;
      target = target ∙ has.is_head.target;
      bytes_are = sym is ∙ at_front ∙ ap (λ bs. print_request has.head ++ bs) same;
    }

-- a head's end is behind a byte
pub some_byte : (bytes : List ℕ) (n : ℕ) → IsHeadEnd bytes n → 0 < length bytes
unfolding ends_head
some_byte [] n e =
    let none : n ≡ 0 = omega arith in
    let never : false ≡ true = ap (λ k. ends_head (take k [])) (sym none) ∙ e.ends in absurd (false≢true never)
some_byte (b ∷ bytes) n e = omega arith

-- bytes that end in the body behind this head
pub inside_from : (held more bytes : List ℕ) (parts : Head) → HasHead held parts → bytes ≡ held ++ more → length bytes < parts.size + parts.body → IsInside bytes
inside_from held more bytes parts has is short =
    subst IsInside (sym is) (
      omega (arith, some_byte held has.end has.is_end.is_end, length-append held more),
      inr (record {
        head = has.head;
        size = parts.body;
        accepted = at_end_kept (λ front. IsAccepted front has.head parts.body) held more (has.end, has.is_end, has.is_head.accepted);
        short = omega (arith, ap length is, has.is_head.size);
      }),
    )

-- what follows from an answer
pub ok_on : {E : Type 0} (r : Result Taken E) (P Q : Taken → Type 0) → ((t : Taken) → P t → Q t) → IfOk r P → IfOk r Q
ok_on (Ok t) P Q f h = f t h
ok_on (Err e) P Q f h = tt

-- bytes before any head's end are none, or a part of a head
pub starved_short : (bytes : List ℕ) → IsShort bytes → IsStarved bytes
starved_short [] short = inl refl
starved_short (b ∷ bytes) short = inr (omega arith, inl short)
