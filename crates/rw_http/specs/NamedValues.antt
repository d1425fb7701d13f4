-- The value of the one field that has a name.
use Rattle.std.specs.Prelude.{◌≡◌, ℕ, List, [], ◌∷◌, length}
use Rattle.httparse.specs.declared.spans.Span.{Span}
use Rattle.httparse.specs.Spans.{IsWithin, span_bytes}
use Rattle.rw_http.specs.declared.fields.Named.{Named}
use Rattle.rw_http.specs.declared.fields.Named.TheVariants.{Never, Once, Often}

-- these are two values or more
abbrev pub AreOften : List (List ℕ) → Type 0
AreOften values = (one : List ℕ) × (two : List ℕ) × (others : List (List ℕ)) × (values ≡ one ∷ two ∷ others)

-- the span is that of the one value
pub record IsOnce (front : List ℕ) (value : Span) (values : List (List ℕ)) : Type 0 where
  pub within : IsWithin (length front) value
  pub values_are : values ≡ span_bytes front value ∷ []

-- the answer tells these values
abbrev pub HoldsValues : List ℕ → Named → List (List ℕ) → Type 0
HoldsValues front Never values = values ≡ []
HoldsValues front (Once value) values = IsOnce front value values
HoldsValues front Often values = AreOften values

-- the answer with one more value behind
abbrev pub with_value : Named → Span → Named
with_value Never value = Once value
with_value (Once first) value = Often
with_value Often value = Often
