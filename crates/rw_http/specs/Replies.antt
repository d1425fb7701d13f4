-- The bytes of a reply.
use Rattle.std.specs.Prelude.{ℕ, Bool, ◌==◌, List, [], ◌∷◌, ◌++◌, length, codes, decimal, unwrap_or, if◌then◌else◌}
use Rattle.std.specs.List.{list_any}
use Rattle.http.specs.StatusCode.{reason_phrase}

-- the statuses of the desk's replies
abbrev pub is_desk_status : ℕ → Bool
is_desk_status status = list_any (λ s. s == status) (200 ∷ 400 ∷ 404 ∷ 405 ∷ 409 ∷ 413 ∷ 422 ∷ 423 ∷ [])

-- the phrase that http gives to a status
abbrev pub phrase : ℕ → List ℕ
phrase status = unwrap_or (reason_phrase status) []

-- what a body is
abbrev pub content_type : Bool → List ℕ
content_type plain = if plain then codes "text/plain" else codes "application/json"

-- the lines before the body, and the empty line
abbrev pub reply_head : ℕ → Bool → ℕ → List ℕ
reply_head status plain size =
    codes "HTTP/1.1 " ++ (decimal status ++ (codes " " ++ (phrase status
    ++ (codes "\r\nContent-Type: " ++ (content_type plain
    ++ (codes "\r\nContent-Length: " ++ (decimal size ++ codes "\r\n\r\n")))))))

-- the bytes of a reply
unfoldable pub reply_text : ℕ → Bool → List ℕ → List ℕ
reply_text status plain body = reply_head status plain (length body) ++ body
