-- Placement rules as texts: what a text tells (PD documentation, "Placement Rules"), and under which key the metadata keeps one (own choice).
use Rattle.std.specs.Prelude.{ℕ, List, ◌++◌, codes, Option, Some, None, Result, Ok, Err, if◌then◌else◌}
use Rattle.std.specs.Str.{bytes_eq, is_utf8}
use Rattle.hex.specs.Hex.{encode_lower}
use Rattle.serde_json.specs.Data.{Data}
use Rattle.serde_json.specs.Read.{read}
use Rattle.pd_types.specs.declared.rule.Rule.{Rule}
use Rattle.rule_text.specs.declared.fault.RuleFault.{RuleFault}
use Rattle.rule_text.specs.declared.fault.RuleFault.TheVariants.{NotJson}
use Rattle.rule_text.specs.Meaning.{rule_of}
use Rattle.rule_text.specs.Tests.{first_failing, tests_of}
use Rattle.meta_store.specs.declared.record.Cell.{Cell}

-- the rule of a JSON value that fails no test, else the fault
abbrev pub rule_or : Option RuleFault → Data → Result Rule RuleFault
rule_or None value = Ok (rule_of value)
rule_or (Some fault) value = Err fault

-- what a JSON value tells, where there is one
abbrev pub value_tells : Option Data → Result Rule RuleFault
value_tells None = Err NotJson
value_tells (Some value) = rule_or (first_failing (tests_of value)) value

-- the rule that a text tells, else the fault of the first test that it fails
unfoldable pub rule_told : List ℕ → Result Rule RuleFault
rule_told bytes = if is_utf8 bytes then value_tells (read bytes) else Err NotJson

-- the key of a rule's record: `rule/`, its group in hexadecimal, `/`, its id in hexadecimal
abbrev pub rule_key : List ℕ → List ℕ → List ℕ
rule_key group id = codes "rule/" ++ encode_lower group ++ codes "/" ++ encode_lower id

-- a rule that was read of a record, where the record's key is its own
abbrev pub keyed : List ℕ → Result Rule RuleFault → Option Rule
keyed key (Ok rule) = if bytes_eq (rule_key rule.group rule.id) key then Some rule else None
keyed key (Err fault) = None

-- the rule that a record tells: one that its bytes tell, whose key the record has
abbrev pub rule_in : Cell → Option Rule
rule_in cell = keyed cell.key (rule_told cell.bytes)
