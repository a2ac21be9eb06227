use Rattle.pd_state.proofs.RulesLeft.{default_stays, deleted_known}
use Rattle.pd_state.proofs.rule_laws.what_is_stored_of_a_rule.Goals as goal

pub returns : goal.returns
returns c = record { default = default_stays; deleted = deleted_known }
