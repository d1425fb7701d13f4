-- The laws make as many kids and obligations as a step has.
use Rattle.std.proofs.Common.{◌≡◌, ℕ, suc, ◌<◌, ◌≤◌, ◌+◌, length, List, [], ◌∷◌, refl, ap, arith, Option, Some, None}
use Rattle.rw_terms.specs.declared.scope.Head.{Head}
use Rattle.rw_terms.specs.declared.sequent.Sequent.{Sequent}
use Rattle.rw_goals.specs.declared.library.Library.{Library}
use Rattle.rw_programs.specs.declared.prog.Spec.{Spec}
use Rattle.rw_programs.specs.declared.applied.Context.{Context}
use Rattle.rw_programs.specs.declared.applied.Child.{Child}
use Rattle.rw_laws.specs.declared.step.BasicStep.{BasicStep}
use Rattle.rw_laws.specs.declared.step.BasicStep.TheVariants as basic
use Rattle.rw_laws.specs.Laws.{Law, fits, misfit, law_of}
use Rattle.rw_laws.specs.Counts.{counts}
use Rattle.rw_laws.proofs.Fitting.{counts_exact}
use Rattle.rw_loops.specs.declared.step.LoopStep.{LoopStep}
use Rattle.rw_loops.specs.declared.step.LoopStep.TheVariants as loop
use Rattle.rw_loops.specs.Laws.{law_of as loop_law}
use Rattle.rw_loops.specs.Counts.{obligations_of as loop_obligations}
use Rattle.rw_loops.proofs.SoundLaws.{counts_are_exact as loop_counts}
use Rattle.rw_nodes.specs.declared.edit.Step.{Step}
use Rattle.rw_nodes.specs.declared.edit.Step.TheVariants as step
use Rattle.rw_sequents.specs.declared.line.Cert.{Cert}
use Rattle.rw_sequents.specs.After.{IsCounted}
use Rattle.rw_sequents.specs.Counting.{line_count}
use Rattle.rw_sequents.proofs.Counts.{counted}
use Rattle.rw_sites.specs.Derived.{derived, derived_by}
use Rattle.rw_anew.specs.Anew.{needs_from}

few_obligations : (s : BasicStep) → (counts s).obligations ≤ 2
few_obligations basic.Skip = omega arith
few_obligations (basic.Weaken f) = omega arith
few_obligations (basic.Strengthen f) = omega arith
few_obligations (basic.Assign names terms) = omega arith
few_obligations (basic.Follow names terms) = omega arith
few_obligations (basic.Seq f) = omega arith
few_obligations (basic.SeqCon names f) = omega arith
few_obligations (basic.Con x t) = omega arith
few_obligations (basic.Contract names) = omega arith
few_obligations (basic.Expand names) = omega arith

owed_by : (heads : List Head) (context : Context) (w : Spec) (s : BasicStep) (law : Law) → law_of context heads w s ≡ law → length (derived_by law).obligations < 4294967295
owed_by heads context w s (fits a) e =
    let exact = counts_exact context heads w s a e in
    let count : length a.obligations ≡ (counts s).obligations = exact.1 in
    let few : (counts s).obligations ≤ 2 = few_obligations s in
    omega (arith, count, few)
owed_by heads context w s (misfit m) e = omega arith

few_in_loops : (s : LoopStep) → loop_obligations s ≤ 2
few_in_loops (loop.If guards) = omega arith
few_in_loops (loop.Do v guards) = omega arith
few_in_loops (loop.Block x sort) = omega arith

owed_in_loops : (heads : List Head) (context : Context) (w : Spec) (s : LoopStep) (law : Law) → loop_law context heads w s ≡ law → length (derived_by law).obligations < 4294967295
owed_in_loops heads context w s (fits a) e =
    let exact = loop_counts context heads w s a e in
    let count : length a.obligations ≡ loop_obligations s = exact.1 in
    let few : loop_obligations s ≤ 2 = few_in_loops s in
    omega (arith, count, few)
owed_in_loops heads context w s (misfit m) e = omega arith

-- a node owes few obligations
pub few_owed : (heads : List Head) (given : Option Child) (s : Option Step) → length (derived heads given s).obligations < 4294967295
unfolding derived
few_owed heads None s = omega arith
few_owed heads (Some c) None = omega arith
few_owed heads (Some c) (Some (step.Basic s)) = owed_by heads c.context c.spec s (law_of c.context heads c.spec s) refl
few_owed heads (Some c) (Some (step.Loop s)) = owed_in_loops heads c.context c.spec s (loop_law c.context heads c.spec s) refl

-- each obligation is told with its state
pub needs_long : (library : Library) (k : ℕ) (qs : List Sequent) (certs : ℕ → Option Cert) → length (needs_from library k qs certs) ≡ length qs
needs_long library k [] certs = refl
needs_long library k (q ∷ qs) certs = ap suc (needs_long library (k + 1) qs certs)

-- a certificate of few lines is counted
pub few_counted : (cert : Cert) → line_count cert.lines ≤ 4096 → IsCounted cert
few_counted cert h = counted cert (omega (arith, h))
