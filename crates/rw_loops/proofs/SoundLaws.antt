-- The laws are sound, and make as many kids and obligations as is said.
use Rattle.std.proofs.Common.{◌≡◌, suc, List, [], ◌∷◌, map, length, refl, sym, ap, subst}
use Rattle.rw_terms.specs.declared.scope.Head.{Head}
use Rattle.rw_terms.specs.declared.term.Formula.{Formula}
use Rattle.rw_terms.specs.State.{State as Map}
use Rattle.rw_programs.specs.declared.prog.Spec.{Spec}
use Rattle.rw_programs.specs.declared.applied.Context.{Context}
use Rattle.rw_programs.specs.declared.applied.Applied.{Applied}
use Rattle.rw_programs.specs.State.{Name}
use Rattle.rw_laws.specs.Laws.{fits}
use Rattle.rw_loops.specs.declared.step.LoopStep.{LoopStep}
use Rattle.rw_loops.specs.declared.step.LoopStep.TheVariants as step
use Rattle.rw_subst.specs.Conj.{disj}
use Rattle.rw_loops.specs.Code.{code_misfit}
use Rattle.rw_loops.specs.Laws.{if_kid, if_made, if_law, do_kid, do_made, do_misfit, do_law, block_misfit, block_made, block_law, law_of}
use Rattle.rw_soundness.specs.Sound.{IsReady, FitsWith, KidsMeetWhere, IsSoundWhere}
use Rattle.rw_soundness.proofs.InContexts.{OpenSame, kids_beside, in_context}
use Rattle.rw_loops.specs.Sound.{LawsAreSound, LawsAreSoundBeside}
use Rattle.rw_loops.specs.Turns.{Turns, TurnsWithinVariant, TurnsWithinVariantBeside}
use Rattle.rw_loops.specs.Counts.{CountsAreExact}
use Rattle.rw_loops.proofs.Fitting.{fitting}
use Rattle.rw_loops.proofs.Placed.{placed}
use Rattle.rw_loops.proofs.AlternationLaw.{if_sound}
use Rattle.rw_meaning.specs.Filling.{fill}
use Rattle.rw_loops.proofs.Rows.{loop_turns}
use Rattle.rw_loops.proofs.IterationLaw.{turns_bound, do_sound}
use Rattle.rw_loops.proofs.BlockLaw.{block_sound}

-- the kids of guards are in the parent's context
kids_same : (context : Context) (spec : Formula → Spec) (gs : List Formula) → OpenSame context.opened (map (λ g. record { context = context; spec = spec g }) gs)
kids_same context spec [] = tt
kids_same context spec (g ∷ gs) = (refl, kids_same context spec gs)

-- the kids' contexts open the same modules, and what is made of the specification is sound beside any parts
abbrev IsTold : Context → Spec → Applied → Type 0
IsTold context w a = OpenSame context.opened a.children × ((others : Name → Map) → IsSoundWhere (FitsWith others) context w a)

laws_told : (context : Context) (heads : List Head) (w : Spec) (s : LoopStep) (a : Applied) → IsReady context.scope heads w → law_of context heads w s ≡ fits a → IsTold context w a
unfolding law_of if_law do_law block_law
laws_told context heads w (step.If guards) a ready e =
    let f = fitting (code_misfit context.scope heads (disj guards)) (if_made context w guards) a e in
    subst (IsTold context w) f.2 (kids_same context (λ g. (if_kid context w g).spec) guards, if_sound context heads w guards f.0 f.1)
laws_told context heads w (step.Do v guards) a ready e =
    let f = fitting (do_misfit context.scope heads w v guards) (do_made context w v guards) a e in
    subst (IsTold context w) f.2 (kids_same context (λ g. (do_kid context w v g).spec) guards, do_sound context heads w v guards (placed context.scope heads w ready) f.0)
laws_told context heads w (step.Block x sort) a ready e =
    let f = fitting (block_misfit context.scope x sort) (block_made context w x sort) a e in
    subst (IsTold context w) f.2 ((refl, tt), block_sound context heads w x sort (placed context.scope heads w ready) f.0)

pub laws_beside : LawsAreSoundBeside
laws_beside parts context heads w s a ready e = (laws_told context heads w s a ready e).1 parts

pub laws_are_sound : LawsAreSound
laws_are_sound context heads w s a ready e = let told = laws_told context heads w s a ready e in in_context context w a told.0 told.1

as_long : {X Y : Type 0} (f : X → Y) (xs : List X) → length (map f xs) ≡ length xs
as_long f [] = refl
as_long f (x ∷ xs) = ap suc (as_long f xs)

pub counts_are_exact : CountsAreExact
unfolding law_of if_law do_law block_law
counts_are_exact context heads w (step.If guards) a e =
    let f = fitting (code_misfit context.scope heads (disj guards)) (if_made context w guards) a e in
    subst (λ a. (length a.children ≡ length guards) × (length a.obligations ≡ 2)) f.2 (as_long (if_kid context w) guards, refl)
counts_are_exact context heads w (step.Do v guards) a e =
    let f = fitting (do_misfit context.scope heads w v guards) (do_made context w v guards) a e in
    subst (λ a. (length a.children ≡ length guards) × (length a.obligations ≡ 1)) f.2 (as_long (do_kid context w v) guards, refl)
counts_are_exact context heads w (step.Block x sort) a e =
    let f = fitting (block_misfit context.scope x sort) (block_made context w x sort) a e in
    subst (λ a. (length a.children ≡ 1) × (length a.obligations ≡ 0)) f.2 (refl, refl)

pub turns_beside : TurnsWithinVariantBeside
unfolding law_of do_law
turns_beside parts context heads w v guards a ready e fixed E p k ks kids s t n at has h turns =
    let f = fitting (do_misfit context.scope heads w v guards) (do_made context w v guards) a e in
    let own = subst (λ a. KidsMeetWhere (FitsWith parts) fixed E p k ks 1 a.children) (sym f.2) kids in
    let chain = subst (λ a. Turns E p k (fill ks a.skeleton) n s t) (sym f.2) turns in
    turns_bound context heads w v guards (placed context.scope heads w ready) f.0 parts fixed E p k ks own s t n (record { names = at.0; parts = at.1 }) has h (loop_turns E p k ks v guards n s t chain)

pub turns_within_variant : TurnsWithinVariant
turns_within_variant context heads w v guards a ready e fixed E p k ks kids s t n at =
    let same = (laws_told context heads w (step.Do v guards) a ready e).0 in
    turns_beside s.part context heads w v guards a ready e fixed E p k ks (kids_beside fixed E p k ks context.opened s.part at.parts 1 a.children same kids) s t n (at.names, refl)
