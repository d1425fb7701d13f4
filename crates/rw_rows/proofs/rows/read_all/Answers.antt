use Rattle.std.proofs.Common.{sym, subst, List, ℕ}
use Rattle.std.proofs.KnownBytes.{Consumes-nil}
use Rattle.std.specs.Io.KnownBytes.{Consumes}
use Rattle.rw_rows.proofs.rows.read_all.Goals as goal

pub reads-init : goal.reads-init
reads-init g c =
    let left = g.I.Source.left c.args.input.now in
    subst (λ (l : List ℕ). Consumes left left l) (sym c.new-bytes.ensures.items) (Consumes-nil left)
