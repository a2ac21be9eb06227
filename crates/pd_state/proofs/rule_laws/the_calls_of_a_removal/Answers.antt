use Rattle.pd_state.proofs.RuleCalls.{absent_calls, delete_calls, last_calls, unstored_calls}
use Rattle.pd_state.proofs.rule_laws.the_calls_of_a_removal.Goals as goal

pub returns : goal.returns
returns c = record {
  absent = absent_calls;
  last = last_calls;
  stored = delete_calls;
  unstored = unstored_calls;
}
