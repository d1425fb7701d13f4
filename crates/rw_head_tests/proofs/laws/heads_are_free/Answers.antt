use Rattle.rw_head_tests.proofs.Free.{proc_free, module_free, oper_held}
use Rattle.rw_head_tests.proofs.laws.heads_are_free.Goals as goal

pub returns-clause-proc : goal.returns-clause-proc
returns-clause-proc c = proc_free

pub returns-clause-held : goal.returns-clause-held
returns-clause-held c = module_free

pub returns-clause-oper : goal.returns-clause-oper
returns-clause-oper c = oper_held
