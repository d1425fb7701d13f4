-- How a step is laid out: its word and what follows it.
use Rattle.std.specs.Prelude.{ℕ, List, [], ◌++◌, map, codes}
use Rattle.rw_terms.specs.declared.term.Formula.{Formula}
use Rattle.rw_heads.specs.declared.step.CallStep.{CallStep}
use Rattle.rw_heads.specs.declared.step.ModStep.{ModStep}
use Rattle.rw_heads.specs.declared.step.ModStep.TheVariants as modules
use Rattle.rw_laws.specs.declared.step.BasicStep.{BasicStep}
use Rattle.rw_laws.specs.declared.step.BasicStep.TheVariants as basic
use Rattle.rw_loops.specs.declared.step.LoopStep.{LoopStep}
use Rattle.rw_loops.specs.declared.step.LoopStep.TheVariants as loops
use Rattle.rw_printer.specs.Layout.{printed_term, printed_formula, listed, names_text}
use Rattle.rw_program_printer.specs.Layout.{assignment_text, passed_text, local_text}

-- a step of a basic law
abbrev pub basic_text : BasicStep → List ℕ
basic_text basic.Skip = codes "skip"
basic_text (basic.Weaken f) = codes "weaken " ++ printed_formula f
basic_text (basic.Strengthen f) = codes "strengthen " ++ printed_formula f
basic_text (basic.Assign xs ts) = codes "assign " ++ assignment_text xs ts
basic_text (basic.Follow xs ts) = codes "follow " ++ assignment_text xs ts
basic_text (basic.Seq f) = codes "seq " ++ printed_formula f
basic_text (basic.SeqCon xs f) = codes "seqcon " ++ names_text xs ++ codes " : " ++ printed_formula f
basic_text (basic.Con x t) = codes "con " ++ x ++ codes " = " ++ printed_term t
basic_text (basic.Contract xs) = codes "contract " ++ names_text xs
basic_text (basic.Expand xs) = codes "expand " ++ names_text xs

-- guards with ` | ` between them
abbrev pub guards_text : List Formula → List ℕ
guards_text gs = listed (codes " | ") [] (map printed_formula gs)

-- a step of alternation, iteration or local blocks
abbrev pub loop_text : LoopStep → List ℕ
loop_text (loops.If gs) = codes "if " ++ guards_text gs
loop_text (loops.Do v gs) = codes "do " ++ printed_term v ++ codes " ; " ++ guards_text gs
loop_text (loops.Block x s) = codes "block " ++ local_text x s

-- a call of a procedure
abbrev pub call_text : CallStep → List ℕ
call_text s = codes "call " ++ s.name ++ passed_text s.args s.results

-- a block of a module, or a call of an operation
abbrev pub module_text : ModStep → List ℕ
module_text (modules.Open m) = codes "module " ++ m
module_text (modules.Op m o ts xs) = codes "op " ++ m ++ codes "." ++ o ++ passed_text ts xs
