use Rattle.std.proofs.Common.{ap, sym, ◌∙◌, ◌++◌, ◌∷◌, []}
use Rattle.std.specs.Prelude.{slice_set}
use Rattle.rw_frames.specs.Frames.{parts_of, place_of_part}
use Rattle.rw_frames.proofs.Parting.{kept_as, part_found, part_new}
use Rattle.rw_frames.proofs.modules.set_part.Goals as goal

pub returns-in-Some : goal.returns-in-Some
returns-in-Some c = record {
  ok = ap parts_of c.set.ensures
      ∙ ap (λ x. parts_of (slice_set c.args.parts.now c.in-Some.at (kept_as x c.args.store))) c.copy.ensures
      ∙ part_found c.args.name.now c.args.store c.args.parts.now c.in-Some.at
      (ap (place_of_part c.args.name.now) (sym c.as_slice.ensures) ∙ sym c.place_of_part.ensures.value ∙ c.in-Some.is);
}

pub returns-in_ok-push-in-None : goal.returns-in_ok-push-in-None
returns-in_ok-push-in-None c = record {
  ok = ap parts_of c.in_ok-push-in-None.ensures.ok
      ∙ ap (λ x. parts_of (c.args.parts.now ++ kept_as x c.args.store ∷ [])) c.copy.ensures
      ∙ part_new c.args.name.now c.args.store c.args.parts.now
      (ap (place_of_part c.args.name.now) (sym c.as_slice.ensures) ∙ sym c.place_of_part.ensures.value ∙ c.in-None.is);
}
