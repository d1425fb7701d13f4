use Rattle.std.proofs.Common.{◌<◌, ◌∙◌, sym, ap, subst, length}
use Rattle.rw_nodes.specs.Nodes.{certified}
use Rattle.rw_anew.proofs.Counted.{needs_long}
use Rattle.rw_anew.proofs.anew.mark.Goals as goal

pub status_of-status-requires : goal.status_of-status-requires
status_of-status-requires g c =
    subst (λ n. n < 4294967295)
    (sym (ap length c.as_slice-2.ensures ∙ ap length c.in_ok-needs.ensures.needs ∙ needs_long c.args.library.now 1 c.as_slice.result.now (certified c.args.certs.now) ∙ ap length c.as_slice.ensures))
    c.requires.owed
