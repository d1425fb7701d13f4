use Rattle.std.proofs.Common.{[], ◌++◌, map, refl}
use Rattle.std.specs.Prelude.{codes}
use Rattle.rw_printer.specs.Layout.{listed}
use Rattle.rw_printer.specs.Lines.{part_text}
use Rattle.rw_printer.proofs.Calls.{value_written}
use Rattle.rw_printer.proofs.certificates.push_parts.Goals as goal

pub loop-part-preserved : goal.loop-part-preserved
unfolding lib.Utf8.encode
loop-part-preserved c = record {
  utf8 = (codes " + ", (refl, refl));
  ascii = refl;
  text = value_written (codes " + ") c.loop-part.before.now (c.args.text.now ++ listed (codes " + ") [] (map part_text c.args.parts.now)) c.loop-part.text part_text c.args.parts.now c.loop-part.part-index _ c.push_str.new.self c.push_part.new.text
      c.loop-part-test.true c.in_ok-push_str.ensures.ok c.in_ok-push_part.ensures c.loop-part.invariant.text;
}
