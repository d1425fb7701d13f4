-- Programs written as values, and matched so: a boxed part stands as itself.
use Rattle.std.specs.Prelude.{ℕ, List}
use Rattle.rw_terms.specs.declared.term.Sort.{Sort}
use Rattle.rw_programs.specs.declared.prog.Pin.{Pin}
use Rattle.rw_programs.specs.declared.prog.Prog.{Prog, Seq', Block', Con', ModBlock', end_of-Prog, more_of-Prog}

-- one program after another
pattern abbrev pub Seq : Prog → Prog → Prog
Seq c d = Seq' tt (more_of-Prog c end_of-Prog) tt (more_of-Prog d end_of-Prog)

-- a program with a local variable
pattern abbrev pub Block : List ℕ → Sort → Prog → Prog
Block x sort c = Block' x sort tt (more_of-Prog c end_of-Prog)

-- a program with constants
pattern abbrev pub Con : List Pin → Prog → Prog
Con pins c = Con' pins tt (more_of-Prog c end_of-Prog)

-- a program with a module of its own
pattern abbrev pub ModBlock : List ℕ → Prog → Prog
ModBlock m c = ModBlock' m tt (more_of-Prog c end_of-Prog)
