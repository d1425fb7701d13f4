use Rattle.std.proofs.Common.{◌≡◌, ◌+◌, ap, ◌∙◌}
use Rattle.rw_numbering.specs.declared.tally.Tally.{out-Tally}
use Rattle.rw_numbering.specs.Loops.{loops, bodies_loops, modules_loops}
use Rattle.rw_numbering.specs.Tables.{bodies_from, modules_from, code_tally}
use Rattle.rw_numbering.proofs.Tallied.{tally_loops}
use Rattle.rw_numbering.proofs.tables.number.Goals as goal

pub returns : goal.returns
returns c =
    let code = c.args.code.now in
    let first : (out-Tally c.in_ok-main.main).loops ≡ loops code.main = ap (λ t. (out-Tally t).loops) c.in_ok-main.ensures ∙ tally_loops code.main in
    let procs : c.in_ok-procs.procs ≡ bodies_from (loops code.main) code.procs =
    c.in_ok-procs.ensures.bodies ∙ ap (bodies_from (out-Tally c.in_ok-main.main).loops) c.as_slice.ensures ∙ ap (λ n. bodies_from n code.procs) first in
    let next : c.number_bodies.new.next ≡ loops code.main + bodies_loops code.procs =
    c.in_ok-procs.ensures.next ∙ ap (λ es. (out-Tally c.in_ok-main.main).loops + bodies_loops es) c.as_slice.ensures ∙ ap (λ n. n + bodies_loops code.procs) first in
    let modules : c.in_ok-modules.modules ≡ modules_from (loops code.main + bodies_loops code.procs) code.modules =
    c.in_ok-modules.ensures.bodies ∙ ap (modules_from c.number_bodies.new.next) c.as_slice-2.ensures ∙ ap (λ n. modules_from n code.modules) next in
    let all : c.number_modules.new.next ≡ loops code.main + bodies_loops code.procs + modules_loops code.modules =
    c.in_ok-modules.ensures.next ∙ ap (λ ds. c.number_bodies.new.next + modules_loops ds) c.as_slice-2.ensures ∙ ap (λ n. n + modules_loops code.modules) next in
    ap (λ t. record { main = t; procs = c.in_ok-procs.procs; modules = c.in_ok-modules.modules; loops = c.number_modules.new.next }) c.in_ok-main.ensures
    ∙ ap (λ p. record { main = (code_tally code).main; procs = p; modules = c.in_ok-modules.modules; loops = c.number_modules.new.next }) procs
    ∙ ap (λ p. record { main = (code_tally code).main; procs = (code_tally code).procs; modules = p; loops = c.number_modules.new.next }) modules
    ∙ ap (λ p. record { main = (code_tally code).main; procs = (code_tally code).procs; modules = (code_tally code).modules; loops = p }) all
