use Rattle.std.proofs.Common.{◌≡◌, ◌<◌, length, Some, sym, ap, ◌∙◌, subst}
use Rattle.std.specs.Prelude.{slice_set, option_map}
use Rattle.std.specs.List.{slice_get}
use Rattle.rw_heads.specs.Heads.{module_place, with_operations}
use Rattle.rw_heads.proofs.Named.{module_there, module_put, module_found}
use Rattle.rw_heads.proofs.modules.replace_module.Goals as goal

pub item_mut-requires : goal.item_mut-requires
item_mut-requires c =
    let place : c.module_place-place.result ≡ module_place c.args.fresh.name c.args.modules.now = c.module_place-place.ensures ∙ ap (module_place c.args.fresh.name) c.as_slice.ensures in
    subst (λ i. i < length c.args.modules.now) (sym place) (module_there c.args.modules.now c.args.fresh.name c.requires)

pub returns-clause-modules : goal.returns-clause-modules
returns-clause-modules c =
    let place : c.module_place-place.result ≡ module_place c.args.fresh.name c.args.modules.now = c.module_place-place.ensures ∙ ap (module_place c.args.fresh.name) c.as_slice.ensures in
    let at : slice_get c.args.modules.now (module_place c.args.fresh.name c.args.modules.now) ≡ Some c.item_mut.result.now = ap (slice_get c.args.modules.now) (sym place) ∙ c.item_mut.ensures.value in
    ap (λ i. slice_set c.args.modules.now i c.exchange.new.held) place
    ∙ ap (slice_set c.args.modules.now (module_place c.args.fresh.name c.args.modules.now)) c.exchange.ensures.held
    ∙ module_put c.args.modules.now c.args.fresh c.item_mut.result.now at

pub returns-clause-old : goal.returns-clause-old
returns-clause-old c =
    let place : c.module_place-place.result ≡ module_place c.args.fresh.name c.args.modules.now = c.module_place-place.ensures ∙ ap (module_place c.args.fresh.name) c.as_slice.ensures in
    let at : slice_get c.args.modules.now (module_place c.args.fresh.name c.args.modules.now) ≡ Some c.item_mut.result.now = ap (slice_get c.args.modules.now) (sym place) ∙ c.item_mut.ensures.value in
    ap (option_map (with_operations c.args.fresh.operations)) (module_found c.args.modules.now c.args.fresh.name c.item_mut.result.now at) ∙ ap Some (sym c.exchange.ensures.old)
