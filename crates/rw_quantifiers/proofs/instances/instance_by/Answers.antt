use Rattle.std.proofs.Common.{◌≡◌, subst, IfOk}
use Rattle.rw_terms.specs.declared.term.Term.TheVariants.{Var}
use Rattle.rw_quantifiers.specs.Quantified.{instance}
use Rattle.rw_quantifiers.proofs.instances.instance_by.Goals as goal

pub returns : goal.returns
returns c = subst (λ x. IfOk c.instance.result (λ o. o ≡ instance c.args.body.now (Var x))) c.copy.ensures c.instance.ensures
