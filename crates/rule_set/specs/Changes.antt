-- What setting and removing a rule make of a list of rules, and why they are refused (pd-ctl, `config placement-rules`).
use Rattle.std.specs.Prelude.{◌≡◌, ℕ, nat_le, ◌==◌, Bool, false, if◌then◌else◌, List, [], length, fold, codes, Option, Some, None, ⊤}
use Rattle.std.specs.List.{list_any}
use Rattle.pd_types.specs.declared.rule.Rule.{Rule}
use Rattle.pd_types.specs.declared.rule.RuleRole.TheVariants.{Voter}
use Rattle.pd_types.specs.declared.rule.TheConstants.{MAX_RULES}
use Rattle.rule_set.specs.declared.fault.SetFault.{SetFault}
use Rattle.rule_set.specs.declared.fault.SetFault.TheVariants.{Limit, NoMemory}
use Rattle.rule_set.specs.declared.fault.RemoveFault.{RemoveFault}
use Rattle.rule_set.specs.declared.fault.RemoveFault.TheVariants.{Absent, LastRule}
use Rattle.rule_set.specs.Order.{is_named, without, placed}

-- a rule has this group and id
abbrev pub knows : List ℕ → List ℕ → List Rule → Bool
knows group id rules = list_any (is_named group id) rules

-- the rules with this one, in place of one of its group and id
abbrev pub with_rule : Rule → List Rule → List Rule
with_rule rule rules = placed rule (without rule.group rule.id rules)

-- all these rules, set one after another
abbrev pub set_of : List Rule → List Rule
set_of rules = fold (λ before rule. with_rule rule before) [] rules

-- of setting a rule: there are 64 rules and this one isn't among them
abbrev pub set_refusal : Rule → List Rule → Option SetFault
set_refusal rule rules =
    if knows rule.group rule.id rules then None else (if nat_le MAX_RULES (length rules) then Some Limit else None)

-- the fault is the refusal that applies, or want of memory
abbrev pub RefusedBy : Option SetFault → SetFault → Type 0
RefusedBy refusal Limit = refusal ≡ Some Limit
RefusedBy refusal NoMemory = ⊤

-- of removing a rule: there is none of this group and id, or it is the only rule
abbrev pub remove_refusal : List ℕ → List ℕ → List Rule → Option RemoveFault
remove_refusal group id rules =
    if knows group id rules then (if length rules == 1 then Some LastRule else None) else Some Absent

-- group `pd`, id `default`: three voters anywhere
abbrev pub default_rule : Rule
default_rule = record {
  group = codes "pd";
  id = codes "default";
  index = 0;
  overrides = false;
  start = [];
  end = [];
  role = Voter;
  count = 3;
  constraints = [];
  locations = [];
}
