use Rattle.std.proofs.Common.{◌≡◌, ◌-◌, length, take, drop, ap, ◌∙◌, arith, length-drop}
use Rattle.std.proofs.lemmas.List.{take_all}
use Rattle.rw_top.proofs.Steps.{goes_on}
use Rattle.rw_top.proofs.output.write_all.Goals as goal

pub loop-done-preserved : goal.loop-done-preserved
loop-done-preserved g c =
    let n = c.loop-done.done in
    let bytes = c.args.bytes.now in
    let rest : take (length bytes - n) (drop n bytes) ≡ drop n bytes = take_all _ _ (omega (arith, length-drop n bytes)) in record {
      written = goes_on _ _ _ _ _ _ _ c.loop-done.invariant.written rest c.in_ok-count.ensures.bytes;
      kept = c.in_ok-count.ensures.cause.kept ∙ c.loop-done.invariant.kept;
      within = omega (arith, c.in_ok-count.ensures.some.1, rest, ap length rest, length-drop n bytes);
    }
