-- What a line's tokens spell as a request, where its fault is, and what is read.
use Rattle.std.specs.Prelude.{ℕ, ◌-◌, List, length}
use Rattle.rw_forms.specs.declared.request.Request.{Request}
use Rattle.rw_tokens.specs.Tokens.{Token, skip}
use Rattle.rw_forms.specs.Forms.{Given, a_request}
use Rattle.rw_forms.specs.Reading.{SpellsAs, TextSpellsAs, IsFaultAs, Ending, whole, stops, read_form}
use Rattle.rw_reader.specs.Requests.{request_form}

-- tokens spell a request, with a nest within 512
abbrev pub Spells : List Token → Request → Type 0
Spells ts r = SpellsAs request_form ts (a_request r)

-- a line's tokens spell a request
abbrev pub LineSpells : List ℕ → Request → Type 0
LineSpells line r = TextSpellsAs request_form line (a_request r)

-- the fault of a line that is no request
abbrev pub IsFault : List ℕ → ℕ → Type 0
IsFault = IsFaultAs request_form

-- what a line is read as
pub data Reading : Type 0 where
  reads : Request → Reading
  -- with its offset
  fault : ℕ → Reading

abbrev pub asked : List ℕ → Given → Reading
asked here (a_request r) = reads r
asked here _ = fault (length here)

abbrev pub told : List ℕ → Ending → Reading
told here (whole v) = asked here v
told here (stops left) = fault (length here - length left)

unfoldable pub reading : List ℕ → Reading
reading here = told here (read_form request_form (skip here))
