use Rattle.rw_subst.proofs.Replacing.{replacement_keeps_values, replacement_keeps_truth, replacement_in_states, replacement_holds_in_states, initial_changes_are_closed}
use Rattle.rw_subst.proofs.Initially.{current_for_initial}
use Rattle.rw_subst.proofs.laws.replacement.Goals as goal

pub returns : goal.returns
returns c = record {
  values = replacement_keeps_values;
  truth = replacement_keeps_truth;
  values_in_states = replacement_in_states;
  truth_in_states = replacement_holds_in_states;
  initial = initial_changes_are_closed;
  current = current_for_initial;
}
