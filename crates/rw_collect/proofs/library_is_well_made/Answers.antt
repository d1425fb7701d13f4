use Rattle.rw_collect.proofs.Made.{library_made}
use Rattle.rw_collect.proofs.library_is_well_made.Goals as goal

pub returns : goal.returns
returns c = library_made
