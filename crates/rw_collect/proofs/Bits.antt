-- The first of two names.
use Rattle.std.proofs.Common.{◌≡◌, ℕ, List, Option, Some, None, refl}
use Rattle.rw_faults.specs.Faults.{first_name}

pub first_none : (one two : Option (List ℕ)) → first_name one two ≡ None → (one ≡ None) × (two ≡ None)
first_none None two e = (refl, e)
first_none (Some x) two e = absurd (cc)
