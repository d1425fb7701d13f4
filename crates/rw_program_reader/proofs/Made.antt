-- Values that are made of equal parts.
use Rattle.std.proofs.Common.{◌≡◌, ℕ, List, sym, ap, ◌∙◌}
use Rattle.rw_terms.specs.declared.term.Term.{Term}
use Rattle.rw_terms.specs.declared.term.Formula.{Formula}
use Rattle.rw_programs.specs.declared.prog.Arm.{Arm}
use Rattle.rw_programs.specs.declared.prog.Pin.{Pin}
use Rattle.rw_programs.specs.declared.prog.Prog.{Prog}
use Rattle.rw_programs.specs.declared.prog.Prog.TheVariants as prog

pub made_pin : (x : List ℕ) (t u : Term) (p : Pin) → u ≡ t → p ≡ record { name = x; term = u } → record { name = x; term = t } ≡ p
made_pin x t u p a e = ap (λ z. record { name = x; term = z }) (sym a) ∙ sym e

pub made_arm : (g h : Formula) (p q : Prog) (a : Arm) → h ≡ g → q ≡ p → a ≡ record { guard = h; body = q } → record { guard = g; body = p } ≡ a
made_arm g h p q a x y e = ap (λ z. record { guard = z; body = p }) (sym x) ∙ ap (λ z. record { guard = h; body = z }) (sym y) ∙ sym e

pub made_spec : (xs : List (List ℕ)) (f g pre post : Formula) (p : Prog) → pre ≡ f → post ≡ g → p ≡ prog.Spec (record { frame = xs; pre = pre; post = post }) → prog.Spec (record { frame = xs; pre = f; post = g }) ≡ p
made_spec xs f g pre post p a b e = ap (λ x. prog.Spec (record { frame = xs; pre = x; post = g })) (sym a) ∙ ap (λ x. prog.Spec (record { frame = xs; pre = pre; post = x })) (sym b) ∙ sym e

pub made_loop : (v w : Term) (arms : List Arm) (p : Prog) → w ≡ v → p ≡ prog.Do w arms → prog.Do v arms ≡ p
made_loop v w arms p a e = ap (λ z. prog.Do z arms) (sym a) ∙ sym e
