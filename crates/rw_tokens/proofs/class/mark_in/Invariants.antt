use Rattle.std.proofs.Common.{◌≡◌, drop, map}
use Rattle.rw_tokens.specs.Classes.{mark_in}
use Rattle.rw_tokens.proofs.class.mark_in.Given as goal

abbrev pub invariant-loop-word : goal.invariant-loop-word
invariant-loop-word l = mark_in (map (λ k. (k.0.now, k.1)) (drop l.word-index l.table)) l.text ≡ mark_in (map (λ k. (k.0.now, k.1)) l.table) l.text
