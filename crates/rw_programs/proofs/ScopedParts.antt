-- What the code makes is what the test of scopes matches on.
use Rattle.std.proofs.Common.{◌≡◌, refl, List, [], ◌∷◌, ap, ◌&&◌}
use Rattle.rw_terms.specs.declared.term.Term.{Term}
use Rattle.rw_terms.specs.declared.term.Sort.{Sort}
use Rattle.rw_terms.specs.declared.term.Sort.TheVariants.{Int}
use Rattle.rw_terms.specs.declared.scope.Entry.{Entry}
use Rattle.rw_terms.specs.Rules.{sort_in, is_of}
use Rattle.rw_programs.specs.declared.prog.Arm.{Arm}
use Rattle.rw_programs.specs.declared.prog.Pin.{Pin}
use Rattle.rw_programs.specs.declared.prog.Prog.{Prog}
use Rattle.rw_programs.specs.declared.prog.Prog.TheViews as made
use Rattle.rw_programs.specs.State.{Name}
use Rattle.rw_programs.specs.Scoped.{is_sorted, with_local, with_pins, with_module, if_some, is_scoped, arms_scoped}

pub seq_scoped : (opened : List Name) (scope : List Entry) (c d : Prog) → is_scoped opened scope (made.Seq c d) ≡ (is_scoped opened scope c && is_scoped opened scope d)
unfolding Rattle.rw_programs.specs.declared.prog.Prog.TheBlock.hidden-the_row-Prog-0 denote.Hole.Carrier.hidden
seq_scoped opened scope c d = refl

pub block_scoped : (opened : List Name) (scope : List Entry) (x : Name) (sort : Sort) (c : Prog)
    → is_scoped opened scope (made.Block x sort c) ≡ if_some (λ inner. is_scoped opened inner c) (with_local scope x sort)
unfolding Rattle.rw_programs.specs.declared.prog.Prog.TheBlock.hidden-the_row-Prog-0 denote.Hole.Carrier.hidden
block_scoped opened scope x sort c = refl

pub con_scoped : (opened : List Name) (scope : List Entry) (pins : List Pin) (c : Prog)
    → is_scoped opened scope (made.Con pins c) ≡ if_some (λ inner. is_scoped opened inner c) (with_pins scope scope pins)
unfolding Rattle.rw_programs.specs.declared.prog.Prog.TheBlock.hidden-the_row-Prog-0 denote.Hole.Carrier.hidden
con_scoped opened scope pins c = refl

pub module_scoped : (opened : List Name) (scope : List Entry) (m : Name) (c : Prog)
    → is_scoped opened scope (made.ModBlock m c) ≡ if_some (λ outside. is_scoped outside scope c) (with_module opened m)
unfolding Rattle.rw_programs.specs.declared.prog.Prog.TheBlock.hidden-the_row-Prog-0 denote.Hole.Carrier.hidden
module_scoped opened scope m c = refl

pub if_scoped : (opened : List Name) (scope : List Entry) (arms : List Arm) → is_scoped opened scope (made.If arms) ≡ arms_scoped opened scope arms
unfolding Rattle.rw_programs.specs.declared.prog.Prog.TheBlock.hidden-the_row-Arm-1 denote.Hole.Carrier.hidden
if_scoped opened scope [] = refl
if_scoped opened scope (a ∷ arms) = ap (λ b. is_sorted scope a.guard [] && (is_scoped opened scope a.body && b)) (if_scoped opened scope arms)

pub do_scoped : (opened : List Name) (scope : List Entry) (v : Term) (arms : List Arm)
    → is_scoped opened scope (made.Do v arms) ≡ (is_of Int (sort_in scope [] v) && arms_scoped opened scope arms)
unfolding Rattle.rw_programs.specs.declared.prog.Prog.TheBlock.hidden-the_row-Arm-1 denote.Hole.Carrier.hidden
do_scoped opened scope v arms = ap (λ b. is_of Int (sort_in scope [] v) && b) (if_scoped opened scope arms)
