use Rattle.rw_modules.specs.Heads.{diminished}
use Rattle.rw_modules.proofs.sizes.refuse_diminished.Goals as goal

pub returns-clause-ok : goal.returns-clause-ok
returns-clause-ok c = c.refuse_large.ensures.ok (diminished c.args.module.now c.args.spec.now) c.size_of_pre.ensures c.size_of_post.ensures

pub returns-clause-err : goal.returns-clause-err
returns-clause-err c = c.refuse_large.ensures.err (diminished c.args.module.now c.args.spec.now) c.size_of_pre.ensures c.size_of_post.ensures
