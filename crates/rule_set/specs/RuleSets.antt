-- What a set of placement rules is (PD documentation, "Placement Rules"; that there are at most 64 rules, each with at most 4 location labels, is our own choice).
use Rattle.std.specs.Prelude.{◌<◌, ◌≤◌, List, length, All}
use Rattle.pd_types.specs.declared.rule.Rule.{Rule}
use Rattle.pd_types.specs.declared.rule.TheConstants.{MAX_LOCATIONS, MAX_RULES}
use Rattle.rule_set.specs.Order.{AreInOrder, AreNamedApart}

-- the rule has at most 4 location labels
abbrev pub HasFewLocations : Rule → Type 0
HasFewLocations rule = length rule.locations ≤ MAX_LOCATIONS

-- from 1 to 64 rules in order, no two of one group and id, each with at most 4 location labels
pub record IsRuleSet (rules : List Rule) : Type 0 where
  pub order : AreInOrder rules
  pub names : AreNamedApart rules
  pub some : 0 < length rules
  pub few : length rules ≤ MAX_RULES
  pub locations : All HasFewLocations rules
