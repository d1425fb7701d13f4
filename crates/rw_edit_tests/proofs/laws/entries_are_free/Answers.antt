use Rattle.rw_edit_tests.proofs.Free.{define_free, lemma_free}
use Rattle.rw_edit_tests.proofs.laws.entries_are_free.Goals as goal

pub returns-clause-define : goal.returns-clause-define
returns-clause-define c = define_free

pub returns-clause-lemma : goal.returns-clause-lemma
returns-clause-lemma c = lemma_free
