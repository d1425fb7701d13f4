use Rattle.std.proofs.Common.{◌≡◌, ℕ, ◌+◌, ◌<◌, ◌∙◌, suc, Bool, List, length, drop, get_or, ap, arith, add-one, drop-cons}
use Rattle.std.specs.Prelude.{◌||◌}
use Rattle.rw_terms.specs.declared.scope.Entry.{Entry}
use Rattle.rw_terms.specs.Mentions.{formulas_mention}
use Rattle.rw_terms.specs.Named.{Named}
use Rattle.rw_terms.specs.Naming.{gathered, placed_if}
use Rattle.rw_terms.proofs.naming.names_of.Goals as goal

-- one entry more is gathered
gathered_more : (p : List ℕ → Bool) (names more : List Named) (es : List Entry) (i : ℕ) (e : Entry) → i < length es → e ≡ get_or es i e →
    more ≡ placed_if (p e.name) (e.name, e.sort) names → gathered p more (drop (i + 1) es) ≡ gathered p names (drop i es)
gathered_more p names more es i e low is placed =
    rw (add-one, drop-cons es i e)
    (ap (λ ns. gathered p ns (drop (suc i) es)) (placed ∙ ap (λ x. placed_if (p x.name) (x.name, x.sort) names) is))

pub loop-entry-preserved : goal.loop-entry-preserved
loop-entry-preserved c =
    gathered_more (λ x. formulas_mention x c.args.left.now || formulas_mention x c.args.right.now) c.loop-entry.names _ _ c.loop-entry.entry-index c.entry-item.result (omega arith) c.entry-item.is
    (c.in_ok-place_if.ensures ∙ ap (λ b. placed_if b (c.entry-item.result.name, c.entry-item.result.sort) c.loop-entry.names) c.free_in_either.ensures)
    ∙ c.loop-entry.invariant
