-- What programs are read by: the bodies that they may call, and a library for their formulas.
use Rattle.std.specs.Prelude.{◌≡◌, ℕ, suc, max, Bool, true, false, if◌then◌else◌, List, [], ◌∷◌, map, find, Option, bytes_eq}
use Rattle.rw_terms.specs.declared.term.Term.{Term}
use Rattle.rw_terms.specs.State.{Value, State as Map}
use Rattle.rw_terms.specs.Truth.{Definition}
use Rattle.rw_programs.specs.declared.prog.Pin.{Pin}
use Rattle.rw_programs.specs.declared.prog.ProcCode.{ProcCode}
use Rattle.rw_programs.specs.declared.prog.ModCode.{ModCode}
use Rattle.rw_programs.specs.State.{Name, State, is_in, put_all, read_all, names_of, only, with_own, alone, ValuesFor}

-- A library, by which all formulas are read, and beside it the procedures with their values, results and bodies, and the
-- modules with their states, starts and operations.
pub record Table : Type 0 where
  pub library : List Definition
  -- whether a module's names are kept under the module's name, and are not names of the state
  pub is_concrete : Bool
  -- whether a loop is sure only where its turns are within its variant's value at entry
  pub by_variant : Bool
  pub procs : List ProcCode
  pub modules : List ModCode

abbrev pub find_proc : Name → List ProcCode → Option ProcCode
find_proc f procs = find (λ e. bytes_eq e.name f) procs

abbrev pub find_module : Name → List ModCode → Option ModCode
find_module m modules = find (λ d. bytes_eq d.name m) modules

-- the first place after all of these
abbrev pub after_all : List ℕ → ℕ
after_all [] = 0
after_all (p ∷ ps) = max (suc p) (after_all ps)

-- the first place past the last of the table
abbrev pub past : Table → ℕ
past E = max (after_all (map (λ e. e.place) E.procs)) (after_all (map (λ d. d.place) E.modules))

abbrev pub pin_names : List Pin → List Name
pin_names pins = map (λ p. p.name) pins

abbrev pub pin_terms : List Pin → List Term
pin_terms pins = map (λ p. p.term) pins

-- a state in which a body begins: `held` of its module's state, the values of the arguments, and any results of their sorts
abbrev pub Begins : Map → ProcCode → List (Option Value) → State → Type 0
Begins held e args t =
    (rs : List (Option Value)) × ValuesFor e.results rs × (t ≡ alone (put_all (names_of e.results) rs (put_all (names_of e.values) args held)))

-- s with the names given the results of the body that ended in t
abbrev pub returned : ProcCode → List Name → State → State → State
returned e names t s = with_own s (put_all names (read_all (names_of e.results) t.own) s.own)

-- what s holds of a module's state: under a concrete table it is kept under the module's name
abbrev pub held : Bool → ModCode → State → Map
held true d s = only (names_of d.state) (s.part d.name)
held false d s = only (names_of d.state) s.own

-- s with the module's state from a map
abbrev pub hold : Bool → ModCode → Map → State → State
hold true d m s = record { own = s.own; part = λ n. if bytes_eq n d.name then only (names_of d.state) m else s.part n }
hold false d m s = with_own s (λ x. if is_in x (names_of d.state) then m x else s.own x)
