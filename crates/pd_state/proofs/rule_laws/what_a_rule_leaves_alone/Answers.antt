use Rattle.pd_state.proofs.RulesLeft.{rule_alone, unrule_alone}
use Rattle.pd_state.proofs.rule_laws.what_a_rule_leaves_alone.Goals as goal

pub returns : goal.returns
returns c = record { rule = rule_alone; unrule = unrule_alone }
