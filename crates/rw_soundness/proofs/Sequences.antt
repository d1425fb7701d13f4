-- The law of sequences.
use Rattle.std.proofs.Common.{◌≡◌, ℕ, false, List, []}
use Rattle.rw_terms.specs.declared.scope.Entry.{Entry}
use Rattle.rw_terms.specs.declared.scope.Head.{Head}
use Rattle.rw_terms.specs.declared.term.Formula.{Formula}
use Rattle.rw_terms.specs.State.{State as Map}
use Rattle.rw_faults.specs.Initial.{initial_outside}
use Rattle.rw_programs.specs.declared.prog.Spec.{Spec}
use Rattle.rw_programs.specs.declared.prog.Prog.{Prog}
use Rattle.rw_programs.specs.Made.{Seq}
use Rattle.rw_programs.specs.State.{Name}
use Rattle.rw_programs.specs.Tables.{Table}
use Rattle.rw_programs.proofs.Rules as rules
use Rattle.rw_soundness.specs.Sound.{IsReady}
use Rattle.rw_soundness.proofs.Ready.{initial_free}
use Rattle.rw_soundness.proofs.Single.{Better}

pub seq_sound : (fixed : Map) (others : Name → Map) (scope : List Entry) (E : Table) (p k : ℕ) (heads : List Head) (w : Spec) (f : Formula) (c d : Prog) → IsReady scope heads w → initial_outside [] w.post ≡ false → initial_outside [] f ≡ false
    → Better fixed others scope E p k w.frame w.pre f c → Better fixed others scope E p k w.frame f w.post d → Better fixed others scope E p k w.frame w.pre w.post (Seq c d)
seq_sound fixed others scope E p k heads w f c d ready post mid one two =
    rules.seq_law fixed others scope E p k w.frame w.pre w.post ready.no_values f c d (initial_free E.library f mid) (initial_free E.library w.post post) one two
