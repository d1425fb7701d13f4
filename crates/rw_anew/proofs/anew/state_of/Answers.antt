use Rattle.std.proofs.Common.{ap}
use Rattle.std.specs.Option.{option_copied}
use Rattle.rw_anew.proofs.Counted.{few_counted}
use Rattle.rw_anew.proofs.anew.state_of.Goals as goal

pub check-requires : goal.check-requires
check-requires g c = few_counted c.in-Some.cert.now (c.requires c.in-Some.cert.now (ap option_copied c.in-Some.is))

pub returns-in-Err-clause-memory : goal.returns-in-Err-clause-memory
returns-in-Err-clause-memory g c = rw c.in-Some.is c.in-Err.ensures.memory
