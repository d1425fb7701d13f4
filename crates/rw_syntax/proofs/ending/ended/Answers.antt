use Rattle.std.proofs.Common.{◌≡◌, ◌≤◌, false, sym, ap, ◌∙◌, subst}
use Rattle.rw_syntax.specs.Grammar.{fits}
use Rattle.rw_syntax.specs.Machine.{frame_hole, top_level}
use Rattle.rw_syntax.proofs.Endings.{ended_mismatch}
use Rattle.rw_syntax.proofs.ending.ended.Goals as goal

pub returns-then-not-fits : goal.returns-then-not-fits
returns-then-not-fits c =
    let h : c.args.bound ≤ top_level c.frames.stack = subst (λ x. c.args.bound ≤ x) c.top_level.ensures c.frames-test.true in
    let k : fits (frame_hole c.in-Some.frame) c.frames.level ≡ false = sym (c.fits.ensures ∙ ap (λ x. fits x c.frames.level) c.frame_hole.ensures) ∙ c.if-not-fits.true in
    record { state = sym (sym c.frames.invariant.same ∙ ended_mismatch c.args.bound c.frames.part c.frames.level c.frames.chain c.frames.stack c.in-Some.frame c.pop.new.self c.in-Some.ensures h k); within = tt }
