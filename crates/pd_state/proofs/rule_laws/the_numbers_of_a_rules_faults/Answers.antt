use Rattle.std.proofs.Common.{refl}
use Rattle.pd_state.proofs.RuleReplies.{answered_number}
use Rattle.pd_state.proofs.rule_laws.the_numbers_of_a_rules_faults.Goals as goal

pub returns : goal.returns
returns c = record { numbers = refl; answered = answered_number }
