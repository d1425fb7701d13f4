use Rattle.std.proofs.Common.{◌≡◌, true, false, sym, ap, ◌∙◌}
use Rattle.rw_heads.specs.Heads.{has_module}
use Rattle.rw_heads.proofs.Named.{module_changed, module_kept}
use Rattle.rw_heads.proofs.modules.change_module.Goals as goal

pub returns-then-has_module : goal.returns-then-has_module
returns-then-has_module c =
    let there : has_module c.args.fresh.name c.args.modules.now ≡ true = sym (c.has_module.ensures ∙ ap (has_module c.args.fresh.name) c.as_slice.ensures) ∙ c.if-has_module.true in
    c.replace_module.ensures.modules ∙ module_changed c.args.modules.now c.args.fresh there

pub returns-else-has_module : goal.returns-else-has_module
returns-else-has_module c =
    let none : has_module c.args.fresh.name c.args.modules.now ≡ false = sym (c.has_module.ensures ∙ ap (has_module c.args.fresh.name) c.as_slice.ensures) ∙ c.if-has_module.false in
    module_kept c.args.modules.now c.args.fresh none
