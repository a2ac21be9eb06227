use Rattle.pd_state.proofs.RuleCalls.{bad_calls, behind_default, default_alone, gone_alone, limit_calls, stored_alone}
use Rattle.pd_state.proofs.rule_laws.the_calls_of_a_rule.Goals as goal

pub returns : goal.returns
returns c = record {
  bad = bad_calls;
  limit = limit_calls;
  default = default_alone;
  stored = stored_alone;
  without = gone_alone;
  behind = behind_default;
}
