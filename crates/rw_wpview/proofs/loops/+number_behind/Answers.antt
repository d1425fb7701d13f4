use Rattle.std.proofs.Common.{◌≡◌, ap, subst, IfOk, arith}
use Rattle.rw_wpview.specs.Loops.{loops}
use Rattle.rw_wpview.specs.Arms.{arm_loops}
use Rattle.rw_wpview.proofs.Rows.{seq_loops, do_loops, block_loops}
use Rattle.rw_wpview.proofs.loops.+number_behind.Goals as goal

pub number_behind-returns-in_ok-middle-in-Seq : goal.number_behind-returns-in_ok-middle-in-Seq
number_behind-returns-in_ok-middle-in-Seq t c =
    subst (λ v. IfOk c.number_behind-in-Seq.result (λ n. n ≡ v))
    (omega (arith, c.in_ok-middle-in-Seq.ensures, ap loops c.get.ensures, ap loops c.get-in-Seq.ensures, seq_loops c.in-Seq.first c.in-Seq.second, ap loops c.in-Seq.is))
    c.number_behind-in-Seq.ensures

pub number_behind-returns-in_ok-next-in-Do : goal.number_behind-returns-in_ok-next-in-Do
number_behind-returns-in_ok-next-in-Do t c =
    subst (λ v. IfOk c.number_behind_arms-in-Do.result (λ n. n ≡ v))
    (omega (arith, c.in_ok-next-in-Do.ensures, ap arm_loops c.as_slice-in-Do.ensures, do_loops c.in-Do.field-0 c.in-Do.field-1 c.in-Do.arms, ap loops c.in-Do.is))
    c.number_behind_arms-in-Do.ensures

pub number_behind-returns-in-Block : goal.number_behind-returns-in-Block
number_behind-returns-in-Block t c =
    subst (λ v. IfOk c.number_behind-in-Block.result (λ n. n ≡ v))
    (omega (arith, ap loops c.get-in-Block.ensures, block_loops c.in-Block.field-0 c.in-Block.field-1 c.in-Block.body, ap loops c.in-Block.is))
    c.number_behind-in-Block.ensures
