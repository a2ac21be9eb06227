-- The rules that can be read (own choice of the bounds).
use Rattle.std.specs.Prelude.{ℕ, ◌≡◌, ◌<◌, ◌≤◌, ◌^◌, true, List, length, Some}
use Rattle.hex.specs.Hex.{IsBytes}
use Rattle.pd_types.specs.declared.rule.Rule.{Rule}
use Rattle.pd_types.specs.declared.rule.TheConstants.{MAX_LOCATIONS}
use Rattle.pd_types.specs.Keys.{is_before_end}
use Rattle.rule_text.specs.declared.read.TheConstants.{MOST_KEY_BYTES}
use Rattle.rule_text.specs.Tests.{has_name_length, is_count}

-- bytes, and 256 of them at most
pub record IsKey (key : List ℕ) : Type 0 where
  pub bytes : IsBytes key
  pub few : length key ≤ MOST_KEY_BYTES

-- names of 1 to 64 bytes, a count that the role allows, a range that isn't empty, and 4 location labels at most
pub record IsReadable (rule : Rule) : Type 0 where
  pub group : has_name_length (Some rule.group) ≡ true
  pub id : has_name_length (Some rule.id) ≡ true
  pub index : rule.index < 2 ^ 32
  pub count : is_count rule.role rule.count ≡ true
  pub start : IsKey rule.start
  pub end : IsKey rule.end
  pub range : is_before_end rule.start rule.end ≡ true
  pub locations : length rule.locations ≤ MAX_LOCATIONS
