use Rattle.std.proofs.Common.{◌≡◌, Some, sym, ap, ◌∙◌}
use Rattle.std.specs.Prelude.{slice_set}
use Rattle.std.specs.List.{slice_get}
use Rattle.rw_heads.specs.Heads.{proc_place}
use Rattle.rw_heads.proofs.Named.{proc_put}
use Rattle.rw_heads.proofs.procs.replace_proc.Goals as goal

pub returns-clause-procs : goal.returns-clause-procs
returns-clause-procs c =
    let place : c.proc_place-place.result ≡ proc_place c.args.head.name c.args.procs.now = c.proc_place-place.ensures ∙ ap (proc_place c.args.head.name) c.as_slice.ensures in
    let at : slice_get c.args.procs.now (proc_place c.args.head.name c.args.procs.now) ≡ Some c.replace.result = ap (slice_get c.args.procs.now) (sym place) ∙ c.replace.ensures.item in
    c.replace.ensures.new ∙ ap (λ i. slice_set c.args.procs.now i c.args.head) place ∙ proc_put c.args.procs.now c.args.head c.replace.result at
