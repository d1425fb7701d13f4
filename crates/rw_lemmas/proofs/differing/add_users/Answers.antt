use Rattle.std.proofs.Common.{◌<◌, sym, ap, ◌∙◌, subst}
use Rattle.rw_terms.specs.Validity.{Each}
use Rattle.rw_lemmas.specs.Differing.{Keeps, ReachesOne, next_user}
use Rattle.rw_lemmas.proofs.Changed.{keeps_more, count_others, fewer, next_reaches, reach_themselves}
use Rattle.rw_lemmas.proofs.differing.add_users.Goals as goal

pub users-init : goal.users-init
users-init c = record { kept = λ x e. e; each = reach_themselves c.args.names.now c.args.entries.now }

pub users-smaller : goal.users-smaller
users-smaller c =
    subst (λ ns. count_others ns c.args.entries.now < count_others c.users.names c.args.entries.now) (sym c.in_ok-push.ensures.ok)
    (fewer c.users.names c.in-Some.name c.args.entries.now (ap (λ ns. next_user ns c.args.entries.now) (sym c.as_slice.ensures) ∙ sym c.next_user.ensures ∙ c.in-Some.is))

pub users-preserved : goal.users-preserved
users-preserved c = record {
  kept = λ x e. subst (Keeps c.users.names) (sym c.in_ok-push.ensures.ok) (keeps_more c.users.names _) x (c.users.invariant.kept x e);
  each =
      subst (Each (ReachesOne c.args.entries.now c.args.names.now)) (sym c.in_ok-push.ensures.ok)
      (next_reaches c.args.names.now c.users.names c.in-Some.name c.args.entries.now (ap (λ ns. next_user ns c.args.entries.now) (sym c.as_slice.ensures) ∙ sym c.next_user.ensures ∙ c.in-Some.is)
      c.users.invariant.each);
}
