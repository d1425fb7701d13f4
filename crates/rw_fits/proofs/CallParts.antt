-- What the code makes is what the test of calls matches on.
use Rattle.std.proofs.Common.{◌≡◌, refl, ℕ, List, [], ◌∷◌, ap, ◌&&◌}
use Rattle.std.specs.Prelude.{nat_lt}
use Rattle.rw_terms.specs.declared.term.Term.{Term}
use Rattle.rw_terms.specs.declared.term.Sort.{Sort}
use Rattle.rw_terms.specs.declared.scope.Entry.{Entry}
use Rattle.rw_programs.specs.declared.prog.Arm.{Arm}
use Rattle.rw_programs.specs.declared.prog.Pin.{Pin}
use Rattle.rw_programs.specs.declared.prog.Code.{Code}
use Rattle.rw_programs.specs.declared.prog.Prog.{Prog}
use Rattle.rw_programs.specs.declared.prog.Prog.TheViews as made
use Rattle.rw_programs.specs.State.{Name}
use Rattle.rw_programs.specs.Tables.{find_module}
use Rattle.rw_programs.specs.Scoped.{with_local, if_some}
use Rattle.rw_machine.specs.CodeFits.{calls_fit}
use Rattle.rw_fits.specs.Fits.{arms_calls_fit}

module _ (code : Code) (p : ℕ) (scope : List Entry) where
  pub seq_calls : (c d : Prog) → calls_fit code p scope (made.Seq c d) ≡ (calls_fit code p scope c && calls_fit code p scope d)
  unfolding Rattle.rw_programs.specs.declared.prog.Prog.TheBlock.hidden-the_row-Prog-0 denote.Hole.Carrier.hidden
  seq_calls c d = refl

  pub block_calls : (x : Name) (sort : Sort) (c : Prog) → calls_fit code p scope (made.Block x sort c) ≡ if_some (λ inner. calls_fit code p inner c) (with_local scope x sort)
  unfolding Rattle.rw_programs.specs.declared.prog.Prog.TheBlock.hidden-the_row-Prog-0 denote.Hole.Carrier.hidden
  block_calls x sort c = refl

  pub con_calls : (pins : List Pin) (c : Prog) → calls_fit code p scope (made.Con pins c) ≡ calls_fit code p scope c
  unfolding Rattle.rw_programs.specs.declared.prog.Prog.TheBlock.hidden-the_row-Prog-0 denote.Hole.Carrier.hidden
  con_calls pins c = refl

  pub module_calls : (m : Name) (c : Prog) → calls_fit code p scope (made.ModBlock m c) ≡ (if_some (λ d. nat_lt d.place p) (find_module m code.modules) && calls_fit code p scope c)
  unfolding Rattle.rw_programs.specs.declared.prog.Prog.TheBlock.hidden-the_row-Prog-0 denote.Hole.Carrier.hidden
  module_calls m c = refl

  pub if_calls : (arms : List Arm) → calls_fit code p scope (made.If arms) ≡ arms_calls_fit code p scope arms
  unfolding Rattle.rw_programs.specs.declared.prog.Prog.TheBlock.hidden-the_row-Arm-1 denote.Hole.Carrier.hidden
  if_calls [] = refl
  if_calls (a ∷ arms) = ap (λ b. calls_fit code p scope a.body && b) (if_calls arms)

  pub do_calls : (v : Term) (arms : List Arm) → calls_fit code p scope (made.Do v arms) ≡ arms_calls_fit code p scope arms
  unfolding Rattle.rw_programs.specs.declared.prog.Prog.TheBlock.hidden-the_row-Arm-1 denote.Hole.Carrier.hidden
  do_calls v arms = if_calls arms
