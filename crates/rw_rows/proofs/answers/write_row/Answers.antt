use Rattle.std.proofs.KnownBytes.{Appends-trans}
use Rattle.rw_rows.proofs.answers.write_row.Goals as goal

pub returns : goal.returns
returns g c =
    let front = Appends-trans _ _ _ _ _ c.in_ok-write_all.ensures.ok c.in_ok-write_all-2.ensures.ok in
    Appends-trans _ _ _ _ _ front (Appends-trans _ _ _ _ _ c.in_ok-write_all-3.ensures.ok c.in_ok-write_all-4.ensures.ok)
