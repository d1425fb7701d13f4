use Rattle.std.proofs.Common.{ap, sym, ◌∙◌}
use Rattle.rw_fits.specs.Fits.{values_fit}
use Rattle.rw_fits.proofs.Testing.{start_tests}
use Rattle.rw_fits.proofs.starts.starts.Goals as goal

pub returns : goal.returns
returns c =
    let t = start_tests c.args.globals.now c.args.start.now.values in
    let e = c.values_fit.ensures ∙ ap (values_fit c.args.globals.now) c.as_slice.ensures in
    (λ i. t.0 (sym e ∙ i), λ h. e ∙ t.1 h)
