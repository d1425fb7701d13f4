use Rattle.rw_modules.proofs.sizes.refuse_spec.Goals as goal

pub returns-clause-ok : goal.returns-clause-ok
returns-clause-ok c = c.refuse_large.ensures.ok c.args.spec.now c.size_of.ensures c.size_of-2.ensures

pub returns-clause-err : goal.returns-clause-err
returns-clause-err c = c.refuse_large.ensures.err c.args.spec.now c.size_of.ensures c.size_of-2.ensures
