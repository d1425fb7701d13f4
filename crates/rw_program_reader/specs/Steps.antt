-- The grammar of the steps that use a procedure or a module.
use Rattle.std.specs.Prelude.{ℕ, List, codes}
use Rattle.rw_heads.specs.declared.step.CallStep.{CallStep}
use Rattle.rw_heads.specs.declared.step.ModStep.{ModStep}
use Rattle.rw_heads.specs.declared.step.ModStep.TheVariants as steps
use Rattle.rw_programs.specs.declared.prog.Prog.TheVariants as prog
use Rattle.rw_forms.specs.Forms.{any_name, Given, a_program, a_name, Form, gives, takes, either}
use Rattle.rw_forms.specs.Phrases.{mark}
use Rattle.rw_forms.specs.Reading.{TextSpellsAs, IsFaultAs}
use Rattle.rw_program_reader.specs.Programs.{passed}

-- NAME and what is passed, behind `call`
unfoldable pub called : (CallStep → Form) → Form
called k = takes any_name (λ p. passed 512 (λ a. k (record { name = p; args = a.0; results = a.1 })))

-- `call` NAME ( [ TERMS ] ; [ NAMES ] )
unfoldable pub call_step : (CallStep → Form) → Form
call_step k = mark (codes "call") (called k)

-- NAME . NAME and what is passed, behind `op`
unfoldable pub operated : (ModStep → Form) → Form
operated k = takes any_name (λ m. mark (codes ".") (takes any_name (λ o. passed 512 (λ a. k (steps.Op m o a.0 a.1)))))

-- `module` NAME, or `op` NAME . NAME ( [ TERMS ] ; [ NAMES ] )
unfoldable pub module_step : (ModStep → Form) → Form
module_step k = either (codes "module") (takes any_name (λ m. k (steps.Open m))) (mark (codes "op") (operated k))

-- A call step is given as the call that it makes.
abbrev pub given_call : CallStep → Given
given_call s = a_program (prog.Call s.name s.args s.results)

-- So is a step to an operation; a step to a block of a module is given as the module's name.
abbrev pub given_module : ModStep → Given
given_module (steps.Open m) = a_name m
given_module (steps.Op m o ts xs) = a_program (prog.OpCall m o ts xs)

-- a call step and nothing behind it
unfoldable pub call_form : Form
call_form = call_step (λ s. gives (given_call s))

-- a step of a module and nothing behind it
unfoldable pub module_form : Form
module_form = module_step (λ s. gives (given_module s))

-- a text's tokens spell a call step
abbrev pub CallStepSpells : List ℕ → CallStep → Type 0
CallStepSpells text s = TextSpellsAs call_form text (given_call s)

-- the fault of a text that is no call step
abbrev pub IsCallStepFault : List ℕ → ℕ → Type 0
IsCallStepFault = IsFaultAs call_form

-- a text's tokens spell a step of a module
abbrev pub ModuleStepSpells : List ℕ → ModStep → Type 0
ModuleStepSpells text s = TextSpellsAs module_form text (given_module s)

-- the fault of a text that is no step of a module
abbrev pub IsModuleStepFault : List ℕ → ℕ → Type 0
IsModuleStepFault = IsFaultAs module_form
