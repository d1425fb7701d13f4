use Rattle.std.proofs.Common.{◌≡◌, false, subst, take, arith}
use Rattle.rw_faults.specs.Initial.{is_listed}
use Rattle.rw_lemmas.specs.Differing.{Same}
use Rattle.rw_lemmas.proofs.Changed.{covers_more, covers_next}
use Rattle.rw_lemmas.proofs.differing.add_differing.Goals as goal

pub loop-entry-preserved : goal.loop-entry-preserved
loop-entry-preserved c = record {
  kept = λ x e. c.in_ok-add_unless_same.ensures.kept x (c.loop-entry.invariant.kept x e);
  told =
      covers_next (Same c.args.kind c.args.old.now c.args.new.now) c.add_unless_same.new.names c.args.entries.now c.loop-entry.entry-index c.entry-item.result (omega arith) c.entry-item.is
      (covers_more (Same c.args.kind c.args.old.now c.args.new.now) c.loop-entry.names c.add_unless_same.new.names (take c.loop-entry.entry-index c.args.entries.now) c.in_ok-add_unless_same.ensures.kept
      c.loop-entry.invariant.told)
      (subst (λ n. is_listed c.add_unless_same.new.names n ≡ false → Same c.args.kind c.args.old.now c.args.new.now n) c.entry_name.ensures c.in_ok-add_unless_same.ensures.told);
  each = λ h. c.in_ok-add_unless_same.ensures.each (c.loop-entry.invariant.each h);
}
