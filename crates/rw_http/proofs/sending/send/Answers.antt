use Rattle.std.proofs.Common.{◌≡◌, ◌-◌, length, take, drop, ap, ◌∙◌, arith, length-drop}
use Rattle.std.proofs.lemmas.List.{take_all}
use Rattle.rw_http.proofs.SendLemmas.{goes_on}
use Rattle.rw_http.proofs.sending.send.Goals as goal

pub loop-done-preserved : goal.loop-done-preserved
loop-done-preserved g c =
    let n = c.loop-done.done in
    let bytes = c.args.bytes.now in
    let rest : take (length bytes - n) (drop n bytes) ≡ drop n bytes = take_all _ _ (omega (arith, length-drop n bytes)) in record {
      written = goes_on _ _ _ _ _ _ _ c.loop-done.invariant.written rest c.in_ok-count.ensures.bytes;
      faults = c.in_ok-count.ensures.cause.kept ∙ c.loop-done.invariant.faults;
      within = omega (arith, c.in_ok-count.ensures.some.1, ap length rest, length-drop n bytes);
      left = c.in_ok-count.ensures.left ∙ c.loop-done.invariant.left;
      taken = c.in_ok-count.ensures.taken ∙ c.loop-done.invariant.taken;
      read_faults = c.in_ok-count.ensures.read_faults ∙ c.loop-done.invariant.read_faults;
    }
