-- The laws of runs of code that fits.
use Rattle.std.proofs.Common.{◌≡◌, ap, subst, ◌∙◌, suc, true, []}
use Rattle.std.specs.Prelude.{Ok}
use Rattle.rw_programs.specs.Tables.{past}
use Rattle.rw_evaluation.specs.declared.stop.Stop.TheVariants.{TooWide, Aborted}
use Rattle.rw_runs.specs.Ends.{table_of, EndedIsEnd, NeverAborts, ComesToEnd, SureHasEnd}
use Rattle.rw_machine.specs.Machine.{config}
use Rattle.rw_machine.specs.Outcome.{steps, first}
use Rattle.rw_runs.specs.Turns.{TurnsStayWithin}
use Rattle.rw_runs.proofs.Turning.{stay_within}
use Rattle.rw_runs.proofs.Runs.{sure_runs}
use Rattle.rw_runs.proofs.Ended.{ended_is_end}
use Rattle.rw_runs.proofs.HasEnd.{sure_has_end}
use Rattle.rw_runs.proofs.Outcomes.{Says, says, only_wide, comes_over}
use Rattle.rw_runs.proofs.Fitting.{bodies_are_code, bodies_in_order, main_below}

pub ended_law : EndedIsEnd
ended_law by code globals fits s limit k c e =
    let h = subst (Says code 0 (first code s)) e (says code limit 0 (first code s)) in
    let run : steps code h.0 (first code s) ≡ Ok (config [] c.stack c.over) = h.2 ∙ ap (λ cs. Ok (config cs c.stack c.over)) h.3 in
    let a = ended_is_end by code (bodies_are_code code globals fits) (bodies_in_order code globals fits) (past (table_of by code)) 0 code.main s h.0 c.stack c.over fits.main.coded (main_below by code code.main) run in
    (a.0, a.2, a.1)

pub aborts_law : NeverAborts
aborts_law by code globals fits s sure limit k cause e =
    let h = subst (Says code 0 (first code s)) e (says code limit 0 (first code s)) in
    let i : Aborted cause ≡ TooWide = only_wide code (first code s) _ (sure_runs by code (bodies_are_code code globals fits) (past (table_of by code)) 0 code.main fits.main.coded s sure 0 [] [] []) (suc h.0) (Aborted cause) h.1 in
    absurd (cc)

pub ends_law : ComesToEnd
ends_law by code globals fits s sure =
    comes_over code (first code s) _ (sure_runs by code (bodies_are_code code globals fits) (past (table_of by code)) 0 code.main fits.main.coded s sure 0 [] [] [])

pub end_law : SureHasEnd
end_law by code globals fits s sure = sure_has_end by code (bodies_are_code code globals fits) (past (table_of by code)) 0 code.main fits.main.coded s sure

pub turns_law : TurnsStayWithin
turns_law code globals fits s sure n c e =
    stay_within code (bodies_are_code code globals fits) (past (table_of true code)) 0 0 code.main s fits.main.coded sure n c e
