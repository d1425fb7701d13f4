use Rattle.std.proofs.Common.{◌≡◌, ◌++◌, drop, filter}
use Rattle.rw_anew.specs.Uses.{is_cited}
use Rattle.rw_anew.proofs.uses.cited_lemmas.Given as goal

abbrev pub invariant-loop-lemma : goal.invariant-loop-lemma
invariant-loop-lemma l = l.used ++ filter (λ m. is_cited l.main l.proofs l.marks m.name) (drop l.lemma-index l.lemmas) ≡ filter (λ m. is_cited l.main l.proofs l.marks m.name) l.lemmas
