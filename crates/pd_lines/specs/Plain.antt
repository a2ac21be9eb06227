-- Words of plain characters, and addresses (own choice).
use Rattle.std.specs.Prelude.{ℕ, List, length, Bool, nat_eq, nat_lt, nat_le, ◌&&◌, ◌||◌, Option, Some, None, if◌then◌else◌}
use Rattle.std.specs.Char.{is_ascii_alphanumeric}
use Rattle.std.specs.List.{list_all}
use Rattle.pd_lines.specs.declared.plain.TheConstants.{MOST_ADDRESS_BYTES}

-- one of `A-Z a-z 0-9 . _ : / -`
abbrev pub is_plain_byte : ℕ → Bool
is_plain_byte b = is_ascii_alphanumeric b || nat_eq b 46 || nat_eq b 95 || nat_eq b 58 || nat_eq b 47 || nat_eq b 45

-- one to so many of them
abbrev pub is_plain : ℕ → List ℕ → Bool
is_plain most word = nat_lt 0 (length word) && nat_le (length word) most && list_all is_plain_byte word

-- an address: 1 to 64 plain characters
abbrev pub address_of : List ℕ → Option (List ℕ)
address_of word = if is_plain MOST_ADDRESS_BYTES word then Some word else None
