use Rattle.std.proofs.Common.{refl, sym, ap, ◌∙◌, length, reverse}
use Rattle.rw_syntax.proofs.Deep.{deep}
use Rattle.rw_syntax.proofs.frames.Frames.get.Goals as goal

pub returns-then-depth-items-clause-frame : goal.returns-then-depth-items-clause-frame
returns-then-depth-items-clause-frame c =
    let items = c.as_slice-items.result.now in
    deep items c.args.self.now c.args.depth (length items) c.index-items-items.result (sym c.self.view_is ∙ ap reverse (sym c.as_slice-items.ensures.value)) refl c.if-depth-items.true c.index-items-items.is
