-- The tests of a rule's JSON text, each over the whole rule before the next (own choice of the order).
use Rattle.std.specs.Prelude.{ℕ, ◌^◌, nat_eq, nat_lt, nat_le, Bool, true, false, ◌&&◌, ◌||◌, not, if◌then◌else◌, codes, List, [], ◌∷◌, length, Option, Some, None, is_some, option_and_then, ◌≡◌, ◌⊎◌, IsUtf8}
use Rattle.std.specs.List.{list_any, list_all}
use Rattle.serde_json.specs.Data.{Data}
use Rattle.serde_json.specs.Find.{get, as_str, as_bool, as_object, as_number, as_u64}
use Rattle.serde_json.specs.Read.{read}
use Rattle.pd_types.specs.declared.rule.RuleRole.{RuleRole}
use Rattle.pd_types.specs.declared.rule.RuleRole.TheVariants as roles
use Rattle.pd_types.specs.declared.rule.Rule.{Rule}
use Rattle.pd_types.specs.declared.rule.TheConstants.{MAX_LOCATIONS}
use Rattle.pd_types.specs.Bytes.{is_empty}
use Rattle.pd_types.specs.Keys.{is_before_end}
use Rattle.rule_text.specs.declared.fault.RuleFault.{RuleFault}
use Rattle.rule_text.specs.declared.fault.RuleFault.TheVariants.{NotJson, NotObject, Missing, WrongKind, BadHex, BadRole, BadOp, BadCount, EmptyRange, IsolationLevel, NoMemory}
use Rattle.rule_text.specs.declared.kinds.TheConstants.{MOST_NAME_BYTES}
use Rattle.rule_text.specs.declared.read.TheConstants.{MOST_COUNT}
use Rattle.rule_text.specs.Fields.{given, list_in, items_at, text_at, number_at}
use Rattle.rule_text.specs.Words.{role_of, op_of}
use Rattle.rule_text.specs.Meaning.{key_at, bytes_at, role_at, rule_of}

-- the field is there, null or not
abbrev pub has : List ℕ → Data → Bool
has name rule = is_some (get name rule)

-- a constraint that is an object lacks its key or its operator
abbrev pub lacks_word : Data → Bool
lacks_word one = is_some (as_object one) && not (has (codes "key") one && has (codes "op") one)

-- a field that must be there is absent
abbrev pub is_missing : Data → Bool
is_missing rule =
    not (has (codes "group_id") rule && has (codes "id") rule && has (codes "role") rule && has (codes "count") rule)
    || list_any lacks_word (items_at (codes "label_constraints") rule)

-- the field is there and passes
abbrev pub passes : (Data → Bool) → Option Data → Bool
passes test None = false
passes test (Some d) = test d

-- the field is absent or passes
abbrev pub may_pass : (Data → Bool) → Option Data → Bool
may_pass test None = true
may_pass test (Some d) = test d

-- a text
abbrev pub is_text : Data → Bool
is_text d = is_some (as_str d)

-- 1 to 64 bytes, where it is a text
abbrev pub has_name_length : Option (List ℕ) → Bool
has_name_length None = false
has_name_length (Some text) = nat_lt 0 (length text) && nat_le (length text) MOST_NAME_BYTES

-- a text of 1 to 64 bytes
abbrev pub is_name : Data → Bool
is_name d = has_name_length (as_str d)

-- below 2 to the 32nd, where it is a whole number
abbrev pub fits_word : Option ℕ → Bool
fits_word None = false
fits_word (Some n) = nat_lt n (2 ^ 32)

-- a whole number below 2 to the 32nd
abbrev pub is_number : Data → Bool
is_number d = fits_word (option_and_then as_u64 (as_number d))

-- a list whose items all pass
abbrev pub all_in : (Data → Bool) → Option (List Data) → Bool
all_in test None = false
all_in test (Some ds) = list_all test ds

-- a list of texts
abbrev pub are_texts : Data → Bool
are_texts d = all_in is_text (list_in d)

-- at most 4, where it is a list
abbrev pub are_few : Option (List Data) → Bool
are_few None = false
are_few (Some ds) = nat_le (length ds) MAX_LOCATIONS

-- a list of at most 4 texts
abbrev pub are_labels : Data → Bool
are_labels d = are_few (list_in d) && are_texts d

-- an object whose key and operator are texts, and whose values, if there, are texts
abbrev pub is_constraint : Data → Bool
is_constraint d =
    is_some (as_object d) && passes is_text (get (codes "key") d) && passes is_text (get (codes "op") d)
    && may_pass are_texts (given (codes "values") d)

-- a list of constraints
abbrev pub are_constraints : Data → Bool
are_constraints d = all_in is_constraint (list_in d)

-- a truth value
abbrev pub is_truth : Data → Bool
is_truth d = is_some (as_bool d)

-- the fields that must be there are of their kinds
abbrev pub are_needed : Data → Bool
are_needed rule =
    passes is_name (get (codes "group_id") rule) && passes is_name (get (codes "id") rule)
    && passes is_text (get (codes "role") rule) && passes is_number (get (codes "count") rule)

-- the fields that may be absent or null are of their kinds
abbrev pub are_optional : Data → Bool
are_optional rule =
    may_pass is_text (given (codes "start_key") rule) && may_pass is_text (given (codes "end_key") rule)
    && may_pass is_text (given (codes "isolation_level") rule) && may_pass is_number (given (codes "index") rule)
    && may_pass is_truth (given (codes "override") rule)
    && may_pass are_constraints (given (codes "label_constraints") rule)
    && may_pass are_labels (given (codes "location_labels") rule)

-- each field is of its kind
abbrev pub is_of_kind : Data → Bool
is_of_kind rule = are_needed rule && are_optional rule

-- both keys are an even number of hexadecimal digits, for 256 bytes at most
abbrev pub has_keys : Data → Bool
has_keys rule = is_some (key_at (codes "start_key") rule) && is_some (key_at (codes "end_key") rule)

-- the role is known
abbrev pub has_role : Data → Bool
has_role rule = is_some (role_of (text_at (codes "role") rule))

-- the operator is known
abbrev pub has_op : Data → Bool
has_op one = is_some (op_of (text_at (codes "op") one))

-- each constraint has a known operator
abbrev pub have_ops : Data → Bool
have_ops rule = list_all has_op (items_at (codes "label_constraints") rule)

-- 1 for a leader rule, and 1 to 15 for the others
abbrev pub is_count : RuleRole → ℕ → Bool
is_count roles.Voter n = nat_le 1 n && nat_le n MOST_COUNT
is_count roles.Leader n = nat_eq n 1
is_count roles.Follower n = nat_le 1 n && nat_le n MOST_COUNT
is_count roles.Learner n = nat_le 1 n && nat_le n MOST_COUNT

-- the count is one that the role allows
abbrev pub has_count : Data → Bool
has_count rule = is_count (role_at rule) (number_at (codes "count") rule)

-- the range has a key: its start is before its end
abbrev pub has_range : Data → Bool
has_range rule = is_before_end (bytes_at (codes "start_key") rule) (bytes_at (codes "end_key") rule)

-- no isolation level is set, or the empty one
abbrev pub has_no_level : Data → Bool
has_no_level rule = is_empty (text_at (codes "isolation_level") rule)

-- a test of the whole value, and the fault where it fails
pub record Test : Type 0 where
  pub fault : RuleFault
  pub passes : Bool

-- the tests behind that on the keys
abbrev pub behind_keys : Data → List Test
behind_keys rule =
    record { fault = BadRole; passes = has_role rule }
    ∷ record { fault = BadOp; passes = have_ops rule }
    ∷ record { fault = BadCount; passes = has_count rule }
    ∷ record { fault = EmptyRange; passes = has_range rule }
    ∷ record { fault = IsolationLevel; passes = has_no_level rule }
    ∷ []

-- the tests behind that on the fields' kinds
abbrev pub behind_kinds : Data → List Test
behind_kinds rule = record { fault = BadHex; passes = has_keys rule } ∷ behind_keys rule

-- the tests behind the first one, which is that the bytes are one JSON text
abbrev pub tests_of : Data → List Test
tests_of rule =
    record { fault = NotObject; passes = is_some (as_object rule) }
    ∷ record { fault = Missing; passes = not (is_missing rule) }
    ∷ record { fault = WrongKind; passes = is_of_kind rule }
    ∷ behind_kinds rule

-- the fault of the first test that fails
abbrev pub first_failing : List Test → Option RuleFault
first_failing [] = None
first_failing (test ∷ tests) = if test.passes then first_failing tests else Some test.fault

-- memory is wanting, or this is the fault of the first test that fails
abbrev pub IsFirst : List Test → RuleFault → Type 0
IsFirst tests fault = (fault ≡ NoMemory) ⊎ (first_failing tests ≡ Some fault)

-- no test fails, and this is the rule
pub record Means (bytes : List ℕ) (rule : Rule) : Type 0 where
  pub text : IsUtf8 bytes
  pub value : Data
  pub json : read bytes ≡ Some value
  pub passes : first_failing (tests_of value) ≡ None
  pub rule_is : rule ≡ rule_of value

-- the bytes are one JSON text, and this is the fault of the first test of its value that fails
pub record Fails (bytes : List ℕ) (fault : RuleFault) : Type 0 where
  pub text : IsUtf8 bytes
  pub value : Data
  pub json : read bytes ≡ Some value
  pub first : first_failing (tests_of value) ≡ Some fault

-- why the bytes are refused: memory is wanting, they are not one JSON text, or a test of its value fails
abbrev pub RefusedText : List ℕ → RuleFault → Type 0
RefusedText bytes fault = (fault ≡ NoMemory) ⊎ (((fault ≡ NotJson) × (IsUtf8 bytes → read bytes ≡ None)) ⊎ Fails bytes fault)
