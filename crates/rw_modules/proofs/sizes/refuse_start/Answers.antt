use Rattle.rw_modules.specs.Heads.{start_head}
use Rattle.rw_modules.proofs.sizes.refuse_start.Goals as goal

pub returns-clause-ok : goal.returns-clause-ok
returns-clause-ok c = c.refuse_large.ensures.ok (start_head c.args.module.now) c.size_of.ensures c.size_of_start.ensures

pub returns-clause-err : goal.returns-clause-err
returns-clause-err c = c.refuse_large.ensures.err (start_head c.args.module.now) c.size_of.ensures c.size_of_start.ensures
