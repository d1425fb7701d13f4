-- Programs with notes written as values, and matched so: a boxed part stands as itself.
use Rattle.std.specs.Prelude.{ℕ, List}
use Rattle.rw_terms.specs.declared.term.Sort.{Sort}
use Rattle.rw_noted.specs.declared.noted.Noted.{Noted, Seq', Block', end_of-Noted, more_of-Noted}

-- one program after another
pattern abbrev pub Seq : Noted → Noted → Noted
Seq c d = Seq' tt (more_of-Noted c end_of-Noted) tt (more_of-Noted d end_of-Noted)

-- a program with a local variable
pattern abbrev pub Block : List ℕ → Sort → Noted → Noted
Block x sort c = Block' x sort tt (more_of-Noted c end_of-Noted)
