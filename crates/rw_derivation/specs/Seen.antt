-- What surrounds steps, as laws read it.
use Rattle.rw_trees.specs.Around.{Around}
use Rattle.rw_derivation.specs.declared.around.Around as code

-- the record of what the code is lent
abbrev pub seen : code.Around → Around
seen a = record { heads = a.heads.now; procs = a.procs.now; modules = a.modules.now; order = a.order.now }
