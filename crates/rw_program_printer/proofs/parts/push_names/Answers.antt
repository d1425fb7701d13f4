use Rattle.std.proofs.Common.{[], ◌∷◌, ◌++◌, refl}
use Rattle.rw_printer.specs.Layout.{listed}
use Rattle.rw_printer.proofs.Calls.{more_written}
use Rattle.rw_program_printer.proofs.Written.{named_rest}
use Rattle.rw_program_printer.proofs.parts.push_names.Goals as goal

pub loop-name-preserved : goal.loop-name-preserved
unfolding lib.Utf8.encode
loop-name-preserved c = record {
  utf8 = (44 ∷ [], (refl, refl));
  ascii = refl;
  text = more_written (44 ∷ []) c.loop-name.before.now (c.args.text.now ++ listed (44 ∷ []) [] c.args.names.now) c.loop-name.text c.args.names.now c.loop-name.name-index c.name-item.result c.push_str.new.self c.push_word.new.text
      c.loop-name-test.true c.name-item.is c.in_ok-push_str.ensures.ok c.in_ok-push_word.ensures.text c.loop-name.invariant.text;
  names = named_rest c.args.names.now c.loop-name.name-index c.name-item.result _ c.loop-name-test.true c.name-item.is c.in_ok-push_word.ensures.name c.loop-name.invariant.names;
}
