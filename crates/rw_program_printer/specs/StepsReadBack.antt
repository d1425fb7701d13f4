-- Which steps some text spells, and what it is that a text reads back as a step: where some text spells the step, and the
-- nest of what is printed stays within 512, the tokens of the text spell it.
use Rattle.std.specs.Prelude.{ℕ, Bool, true, not, ◌&&◌, List, [], ◌∷◌, map, IsTrue}
use Rattle.rw_terms.specs.Names.{is_name}
use Rattle.rw_terms.specs.AllOf.{all_of}
use Rattle.rw_terms.specs.declared.term.Formula.{Formula}
use Rattle.rw_syntax.specs.Grammar.{is_sort, is_upper, nests}
use Rattle.rw_syntax.specs.Spelling.{AreWithin}
use Rattle.rw_heads.specs.declared.step.CallStep.{CallStep}
use Rattle.rw_heads.specs.declared.step.ModStep.{ModStep}
use Rattle.rw_heads.specs.declared.step.ModStep.TheVariants as modules
use Rattle.rw_laws.specs.declared.step.BasicStep.{BasicStep}
use Rattle.rw_laws.specs.declared.step.BasicStep.TheVariants as basic
use Rattle.rw_loops.specs.declared.step.LoopStep.{LoopStep}
use Rattle.rw_loops.specs.declared.step.LoopStep.TheVariants as loops
use Rattle.rw_nodes.specs.declared.edit.Step.{Step}
use Rattle.rw_nodes.specs.declared.edit.Step.TheVariants as steps
use Rattle.rw_tokens.specs.Tokens.{Token, skip, LeadsTo}
use Rattle.rw_forms.specs.Forms.{Given, gives}
use Rattle.rw_forms.specs.Reading.{SpellsAs}
use Rattle.rw_reader.specs.Steps.{step}
use Rattle.rw_printer.specs.Trees.{term_tree, formula_tree}
use Rattle.rw_printer.specs.Readable.{readable_term, readable_terms, readable_formula, named_term, named_terms, named_formula}
use Rattle.rw_printer.specs.ReadsBack.{StaysWithin, TermsStayWithin}
use Rattle.rw_program_reader.specs.Steps.{CallStepSpells, ModuleStepSpells}
use Rattle.rw_program_printer.specs.Readable.{readable_names, some_of, named_names}

-- names of constants
abbrev pub readable_constants : List (List ℕ) → Bool
readable_constants xs = all_of (map is_upper xs)

abbrev pub readable_formulas : List Formula → Bool
readable_formulas fs = all_of (map (λ f. readable_formula f 0) fs)

-- Whether some text spells a step: no list is empty that may not be, and first letters, sorts, terms and formulas are as a
-- text can have them.
abbrev pub readable_basic : BasicStep → Bool
readable_basic basic.Skip = true
readable_basic (basic.Weaken f) = readable_formula f 0
readable_basic (basic.Strengthen f) = readable_formula f 0
readable_basic (basic.Assign xs ts) = (some_of xs && readable_names xs) && (some_of ts && readable_terms ts)
readable_basic (basic.Follow xs ts) = (some_of xs && readable_names xs) && (some_of ts && readable_terms ts)
readable_basic (basic.Seq f) = readable_formula f 0
readable_basic (basic.SeqCon xs f) = (some_of xs && readable_constants xs) && readable_formula f 0
readable_basic (basic.Con x t) = is_upper x && readable_term t 0
readable_basic (basic.Contract xs) = some_of xs && readable_names xs
readable_basic (basic.Expand xs) = some_of xs && readable_names xs

abbrev pub readable_loop : LoopStep → Bool
readable_loop (loops.If gs) = some_of gs && readable_formulas gs
readable_loop (loops.Do v gs) = readable_term v 0 && (some_of gs && readable_formulas gs)
readable_loop (loops.Block x s) = not (is_upper x) && is_sort s

abbrev pub readable_call : CallStep → Bool
readable_call s = readable_terms s.args && readable_names s.results

abbrev pub readable_module : ModStep → Bool
readable_module (modules.Open m) = true
readable_module (modules.Op m o ts xs) = readable_terms ts && readable_names xs

-- A name that code holds is always one.
abbrev pub named_formulas : List Formula → Bool
named_formulas fs = all_of (map named_formula fs)

abbrev pub named_basic : BasicStep → Bool
named_basic basic.Skip = true
named_basic (basic.Weaken f) = named_formula f
named_basic (basic.Strengthen f) = named_formula f
named_basic (basic.Assign xs ts) = named_names xs && named_terms ts
named_basic (basic.Follow xs ts) = named_names xs && named_terms ts
named_basic (basic.Seq f) = named_formula f
named_basic (basic.SeqCon xs f) = named_names xs && named_formula f
named_basic (basic.Con x t) = is_name x && named_term t
named_basic (basic.Contract xs) = named_names xs
named_basic (basic.Expand xs) = named_names xs

abbrev pub named_loop : LoopStep → Bool
named_loop (loops.If gs) = named_formulas gs
named_loop (loops.Do v gs) = named_term v && named_formulas gs
named_loop (loops.Block x s) = is_name x

abbrev pub named_call : CallStep → Bool
named_call s = is_name s.name && (named_terms s.args && named_names s.results)

abbrev pub named_module : ModStep → Bool
named_module (modules.Open m) = is_name m
named_module (modules.Op m o ts xs) = is_name m && (is_name o && (named_terms ts && named_names xs))

abbrev pub FormulasStayWithin : ℕ → List Formula → Type 0
FormulasStayWithin most [] = Unit {0}
FormulasStayWithin most (f ∷ fs) = AreWithin most (nests 0 (formula_tree f 0)) × FormulasStayWithin most fs

-- the nest of a step's text
abbrev pub BasicStaysWithin : BasicStep → Type 0
BasicStaysWithin (basic.Weaken f) = StaysWithin (nests 0 (formula_tree f 0))
BasicStaysWithin (basic.Strengthen f) = StaysWithin (nests 0 (formula_tree f 0))
BasicStaysWithin (basic.Assign xs ts) = TermsStayWithin 512 ts
BasicStaysWithin (basic.Follow xs ts) = TermsStayWithin 512 ts
BasicStaysWithin (basic.Seq f) = StaysWithin (nests 0 (formula_tree f 0))
BasicStaysWithin (basic.SeqCon xs f) = StaysWithin (nests 0 (formula_tree f 0))
BasicStaysWithin (basic.Con x t) = StaysWithin (nests 0 (term_tree t 0))
BasicStaysWithin _ = Unit {0}

-- `if` and `do` count one to the end of the step
abbrev pub LoopStaysWithin : LoopStep → Type 0
LoopStaysWithin (loops.If gs) = FormulasStayWithin 511 gs
LoopStaysWithin (loops.Do v gs) = AreWithin 511 (nests 0 (term_tree v 0)) × FormulasStayWithin 511 gs
LoopStaysWithin (loops.Block x s) = Unit {0}

abbrev pub CallStaysWithin : CallStep → Type 0
CallStaysWithin s = TermsStayWithin 511 s.args

abbrev pub ModuleStaysWithin : ModStep → Type 0
ModuleStaysWithin (modules.Open m) = Unit {0}
ModuleStaysWithin (modules.Op m o ts xs) = TermsStayWithin 511 ts

-- A text's tokens spell a step of a request, whatever is given for it.
abbrev pub StepSpells : List ℕ → Step → Type 0
StepSpells text s = (ts : List Token) × LeadsTo (skip text) ts [] × ((given : Step → Given) → SpellsAs (step (λ z. gives (given z))) ts (given s))

abbrev pub BasicReadsBack : List ℕ → BasicStep → Type 0
BasicReadsBack text s = IsTrue (readable_basic s) → BasicStaysWithin s → StepSpells text (steps.Basic s)

abbrev pub LoopReadsBack : List ℕ → LoopStep → Type 0
LoopReadsBack text s = IsTrue (readable_loop s) → LoopStaysWithin s → StepSpells text (steps.Loop s)

abbrev pub CallReadsBack : List ℕ → CallStep → Type 0
CallReadsBack text s = IsTrue (readable_call s) → CallStaysWithin s → CallStepSpells text s

abbrev pub ModuleReadsBack : List ℕ → ModStep → Type 0
ModuleReadsBack text s = IsTrue (readable_module s) → ModuleStaysWithin s → ModuleStepSpells text s
