use Rattle.std.proofs.Common.{◌≡◌, Some, sym, ap, ◌∙◌}
use Rattle.std.specs.Prelude.{slice_set}
use Rattle.std.specs.List.{slice_get}
use Rattle.rw_heads.specs.Heads.{oper_place}
use Rattle.rw_heads.proofs.Named.{oper_put}
use Rattle.rw_heads.proofs.operations.replace_oper.Goals as goal

pub returns-clause-operations : goal.returns-clause-operations
returns-clause-operations c =
    let place : c.oper_place-place.result ≡ oper_place c.args.oper.name c.args.operations.now = c.oper_place-place.ensures ∙ ap (oper_place c.args.oper.name) c.as_slice.ensures in
    let at : slice_get c.args.operations.now (oper_place c.args.oper.name c.args.operations.now) ≡ Some c.replace.result = ap (slice_get c.args.operations.now) (sym place) ∙ c.replace.ensures.item in
    c.replace.ensures.new ∙ ap (λ i. slice_set c.args.operations.now i c.args.oper) place ∙ oper_put c.args.operations.now c.args.oper c.replace.result at
