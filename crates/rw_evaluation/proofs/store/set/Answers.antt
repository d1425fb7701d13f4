use Rattle.std.proofs.Common.{ap, sym, ◌∙◌, ◌++◌, ◌∷◌, []}
use Rattle.std.specs.Prelude.{slice_set}
use Rattle.rw_evaluation.specs.Stored.{map_of, place_of}
use Rattle.rw_evaluation.proofs.Storing.{bound, set_found, set_new}
use Rattle.rw_evaluation.proofs.store.set.Goals as goal

pub returns-in-Some : goal.returns-in-Some
returns-in-Some c = record {
  ok = ap map_of c.set.ensures
      ∙ ap (λ x. map_of (slice_set c.args.store.now c.in-Some.at (bound x c.args.value))) c.copy.ensures
      ∙ set_found c.args.name.now c.args.value c.args.store.now c.in-Some.at
      (ap (place_of c.args.name.now) (sym c.as_slice.ensures) ∙ sym c.place_of.ensures.value ∙ c.in-Some.is);
}

pub returns-in_ok-push-in-None : goal.returns-in_ok-push-in-None
returns-in_ok-push-in-None c = record {
  ok = ap map_of c.in_ok-push-in-None.ensures.ok
      ∙ ap (λ x. map_of (c.args.store.now ++ bound x c.args.value ∷ [])) c.copy.ensures
      ∙ set_new c.args.name.now c.args.value c.args.store.now
      (ap (place_of c.args.name.now) (sym c.as_slice.ensures) ∙ sym c.place_of.ensures.value ∙ c.in-None.is);
}
