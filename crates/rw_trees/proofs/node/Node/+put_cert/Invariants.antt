use Rattle.std.proofs.Common.{length}
use Rattle.rw_trees.proofs.node.Node.+put_cert.Given as goal

abbrev pub decreases-put_cert : goal.decreases-put_cert
decreases-put_cert l = length l.path.now
