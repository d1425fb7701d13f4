use Rattle.std.proofs.Common.{◌≡◌, List, length, false, cond, ap, sym, ◌∙◌, arith}
use Rattle.rw_terms.specs.declared.term.Term.{Term}
use Rattle.rw_elimination.specs.declared.row.Row.{Row}
use Rattle.rw_elimination.specs.declared.ending.Elimination.TheVariants as e
use Rattle.rw_elimination.specs.Elimination.{atoms_of, eliminated, some_ends, until}
use Rattle.rw_elimination.specs.Answer.{answer, answer_by_rows}
use Rattle.rw_elimination.proofs.Stops.{until_few, few_rows, all_there}
use Rattle.rw_elimination.proofs.ending.eliminate_all.Goals as goal

goes_on : (atoms : List Term) (rows all : List Row) → rows ≡ all → some_ends 0 all ≡ false → e.Rows (record { atoms = atoms; rows = rows }) ≡ answer_by_rows atoms all
goes_on atoms rows all is k =
    ap (λ (r : List Row). e.Rows (record { atoms = atoms; rows = r })) is
    ∙ sym (ap (λ b. cond b (answer (until 0 all)) (e.Rows (record { atoms = atoms; rows = all }))) k)

pub answer-requires : goal.answer-requires
answer-requires c =
    let few = until_few (eliminated c.as_slice-2.result.now c.as_slice-3.result.now) 0 (omega arith) in
    let made = ap length c.in_ok-eliminate.ensures.rows in
    let seen = ap length c.as_slice-then-branch.ensures in
    omega arith

pub returns-clause-value : goal.returns-clause-value
returns-clause-value c =
    let all = eliminated c.as_slice-2.result.now c.as_slice-3.result.now in
    let k = sym c.in_ok-eliminate.ensures.ended ∙ c.if-branch.false in
    let atoms = c.in_ok-atoms.ensures ∙ ap atoms_of (c.as_slice.ensures ∙ c.in_ok-used.ensures) in
    goes_on c.in_ok-atoms.atoms c.eliminate.new.rows all (c.in_ok-eliminate.ensures.rows ∙ all_there 0 all k) k
    ∙ (λ i. answer_by_rows (atoms i) (eliminated ((c.as_slice-2.ensures ∙ atoms) i) ((c.as_slice-3.ensures ∙ c.in_ok-used.ensures) i)))

pub returns-clause-few : goal.returns-clause-few
returns-clause-few c =
    let all = eliminated c.as_slice-2.result.now c.as_slice-3.result.now in
    let k = sym c.in_ok-eliminate.ensures.ended ∙ c.if-branch.false in
    let few = few_rows all 0 (omega arith) k in
    let made = ap length (c.in_ok-eliminate.ensures.rows ∙ all_there 0 all k) in
    omega arith
