-- The parts of a head or a module.
use Rattle.std.proofs.Common.{◌≡◌, Bool, ap, ◌∙◌}
use Rattle.rw_head_tests.specs.Procs.{part_of_two}

-- two parts are the same where both tests are
pub parts_told : {a b one other : Bool} → a ≡ one → b ≡ other → part_of_two a b ≡ part_of_two one other
parts_told {b = b} {one = one} ea eb = ap (λ x. part_of_two x b) ea ∙ ap (λ y. part_of_two one y) eb
