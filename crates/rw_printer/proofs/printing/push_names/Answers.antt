use Rattle.std.proofs.Common.{[], ◌∷◌, ◌++◌, refl}
use Rattle.rw_printer.specs.Layout.{listed}
use Rattle.rw_printer.proofs.Calls.{more_written}
use Rattle.rw_printer.proofs.printing.push_names.Goals as goal

pub loop-name-preserved : goal.loop-name-preserved
unfolding lib.Utf8.encode
loop-name-preserved c = record {
  utf8 = (44 ∷ [], (refl, refl));
  ascii = refl;
  text = more_written (44 ∷ []) c.loop-name.before.now (c.args.text.now ++ listed (44 ∷ []) [] c.args.names.now) c.loop-name.text c.args.names.now c.loop-name.name-index c.name-item.result c.push_str.new.self c.push_name.new.self
      c.loop-name-test.true c.name-item.is c.in_ok-push_str.ensures.ok c.in_ok-push_name.ensures.ok c.loop-name.invariant.text;
}
