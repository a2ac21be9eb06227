use Rattle.std.proofs.Common.{refl}
use Rattle.pd_state.proofs.RuleTexts.{means_told, refused_told}
use Rattle.pd_state.proofs.RulesTold.{are_rules_told, default_key, key_is, stored_told}
use Rattle.pd_state.proofs.laws.the_rules_are_those_that_were_handed_out.Goals as goal

pub returns : goal.returns
returns c = record {
  told = are_rules_told;
  none = refl;
  some = λ rule rules. refl;
  stored = stored_told;
  key = key_is;
  means = means_told;
  refused = refused_told;
  spelled = default_key;
}
