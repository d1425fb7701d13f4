-- What a law makes, without its skeleton.
use Rattle.std.proofs.Common.{◌≡◌, ℕ, ap, ◌∙◌, subst, Option}
use Rattle.rw_programs.specs.declared.prog.Spec.{Spec}
use Rattle.rw_programs.specs.declared.applied.Applied.{Applied}
use Rattle.rw_programs.specs.declared.applied.Context.{Context}
use Rattle.rw_programs.specs.declared.applied.ApplyError.{ApplyError}
use Rattle.rw_heads.specs.declared.head.ProcHead.{ProcHead}
use Rattle.rw_heads.specs.declared.step.CallStep.{CallStep}
use Rattle.rw_laws.specs.Laws.{Law, fits, misfit, FitsWith, Makes, IsRefusal}
use Rattle.rw_laws.specs.declared.premises.Premises.{Premises}
use Rattle.rw_procs.specs.Laws.{call_law}

premises_fit : (law : Law) (a : Applied) (p : Premises) → FitsWith law (λ b. a ≡ b) → p.children ≡ a.children → p.obligations ≡ a.obligations → Makes law p
premises_fit (fits b) a p e ec eo = (ec ∙ ap (λ (x : Applied). x.children) e, eo ∙ ap (λ (x : Applied). x.obligations) e)
premises_fit (misfit m) a p e ec eo = absurd e

-- the kids and the obligations of a call are what its law makes, by the same head
pub call_fits : (context : Context) (w : Spec) (step : CallStep) (one other : Option (ProcHead × ℕ)) (a : Applied) (p : Premises) → one ≡ other → FitsWith (call_law context w step one) (λ b. a ≡ b) → p.children ≡ a.children → p.obligations ≡ a.obligations → Makes (call_law context w step other) p
call_fits context w step one other a p same fit ec eo = subst (λ h. Makes (call_law context w step h) p) same (premises_fit (call_law context w step one) a p fit ec eo)

-- a call is refused by the same head
pub call_refused : (context : Context) (w : Spec) (step : CallStep) (one other : Option (ProcHead × ℕ)) (e : ApplyError) → one ≡ other → IsRefusal (call_law context w step one) e → IsRefusal (call_law context w step other) e
call_refused context w step one other e same h = subst (λ o. IsRefusal (call_law context w step o) e) same h
