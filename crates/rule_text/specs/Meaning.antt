-- The rule that a JSON value means, and the value that a rule is printed as (PD documentation, "Placement Rules").
use Rattle.std.specs.Prelude.{ℕ, nat_le, List, [], length, map, codes, if◌then◌else◌, Option, Some, None, unwrap_or, Result, Ok, Err}
use Rattle.hex.specs.Hex.{decode_of, encode_lower}
use Rattle.hex.specs.declared.error.FromHexError.{FromHexError}
use Rattle.serde_json.specs.Data.{Data, boolean, number, unsigned, string, array, object, member, no_members}
use Rattle.serde_json.specs.View.{items_of}
use Rattle.pd_types.specs.declared.rule.RuleRole.{RuleRole}
use Rattle.pd_types.specs.declared.rule.RuleRole.TheVariants.{Voter}
use Rattle.pd_types.specs.declared.rule.Op.TheVariants.{In}
use Rattle.pd_types.specs.declared.rule.Constraint.{Constraint}
use Rattle.pd_types.specs.declared.rule.Rule.{Rule}
use Rattle.rule_text.specs.Fields.{items_at, text_of, text_at, number_at, truth_at}
use Rattle.rule_text.specs.declared.read.TheConstants.{MOST_KEY_BYTES}
use Rattle.rule_text.specs.Words.{role_of, role_word, op_of, op_word}

-- at most 256 bytes, where the text was hexadecimal
abbrev pub within : Result (List ℕ) FromHexError → Option (List ℕ)
within (Ok bytes) = if nat_le (length bytes) MOST_KEY_BYTES then Some bytes else None
within (Err e) = None

-- the bytes of a key, where its text is hexadecimal and they are 256 at most
abbrev pub key_at : List ℕ → Data → Option (List ℕ)
key_at name rule = within (decode_of (text_at name rule))

-- the key of a value whose tests pass
abbrev pub bytes_at : List ℕ → Data → List ℕ
bytes_at name rule = unwrap_or (key_at name rule) []

-- the role of a value whose tests pass
abbrev pub role_at : Data → RuleRole
role_at rule = unwrap_or (role_of (text_at (codes "role") rule)) Voter

-- the constraint of a value whose tests pass
abbrev pub constraint_of : Data → Constraint
constraint_of one = record {
  key = text_at (codes "key") one;
  op = unwrap_or (op_of (text_at (codes "op") one)) In;
  values = map text_of (items_at (codes "values") one);
}

-- the rule of a value whose tests pass
abbrev pub rule_of : Data → Rule
rule_of rule = record {
  group = text_at (codes "group_id") rule;
  id = text_at (codes "id") rule;
  index = number_at (codes "index") rule;
  overrides = truth_at (codes "override") rule;
  start = bytes_at (codes "start_key") rule;
  end = bytes_at (codes "end_key") rule;
  role = role_at rule;
  count = number_at (codes "count") rule;
  constraints = map constraint_of (items_at (codes "label_constraints") rule);
  locations = map text_of (items_at (codes "location_labels") rule);
}

-- a list of texts
abbrev pub texts_data : List (List ℕ) → Data
texts_data texts = array (items_of (map string texts))

-- a constraint
abbrev pub constraint_data : Constraint → Data
constraint_data one =
    object (member (codes "key") (string one.key) (member (codes "op") (string (op_word one.op)) (member (codes "values") (texts_data one.values) no_members)))

-- a list of constraints
abbrev pub constraints_data : List Constraint → Data
constraints_data ones = array (items_of (map constraint_data ones))

-- a rule: its ten fields in byte order of their names
abbrev pub rule_data : Rule → Data
rule_data rule =
    object (member (codes "count") (number (unsigned rule.count))
    (member (codes "end_key") (string (encode_lower rule.end))
    (member (codes "group_id") (string rule.group)
    (member (codes "id") (string rule.id)
    (member (codes "index") (number (unsigned rule.index))
    (member (codes "label_constraints") (constraints_data rule.constraints)
    (member (codes "location_labels") (texts_data rule.locations)
    (member (codes "override") (boolean rule.overrides)
    (member (codes "role") (string (role_word rule.role))
    (member (codes "start_key") (string (encode_lower rule.start)) no_members))))))))))
