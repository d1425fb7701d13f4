use Rattle.std.proofs.Common.{◌≡◌, ◌∙◌, ◌++◌, ◌∷◌, [], None, sym, ap}
use Rattle.rw_nodes.specs.declared.parts.Parts.{Parts}
use Rattle.rw_tree.proofs.TableLemmas.{table_parts, set_last}
use Rattle.rw_tree.proofs.apply.remove_last_entry.Goals as goal

pub returns : goal.returns
returns c = λ before e fresh is.
    let all : c.args.parts.now ≡ table_parts before (before.library.entries ++ e ∷ []) (before.proofs ++ None ∷ []) = is ∙ sym (set_last before e fresh) in
    let proofs = c.remove_last.ensures before.proofs None (ap (λ (q : Parts). q.proofs) all) in
    let entries = c.remove_last-2.ensures before.library.entries e (ap (λ (q : Parts). q.library.entries) all) in
    λ i. record { globals = (all i).globals; root = (all i).root; library = record { entries = entries i }; proofs = proofs i; main = (all i).main; most = (all i).most }
