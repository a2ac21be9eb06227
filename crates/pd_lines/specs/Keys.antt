-- The spelling of a key: its bytes in hexadecimal digits of either case, or `-` for the empty one, which no digits spell too (own choice).
use Rattle.std.specs.Prelude.{ℕ, List, [], codes, Option, Some, None, Result, Ok, Err, if◌then◌else◌}
use Rattle.std.specs.Str.{bytes_eq}
use Rattle.hex.specs.Hex.{decode_of}
use Rattle.hex.specs.declared.error.FromHexError.{FromHexError}

-- the bytes that were read, where there are some
abbrev pub if_read : Result (List ℕ) FromHexError → Option (List ℕ)
if_read (Ok bytes) = Some bytes
if_read (Err error) = None

-- the key that the word spells
abbrev pub key_of : List ℕ → Option (List ℕ)
key_of word = if bytes_eq word (codes "-") then Some [] else if_read (decode_of word)
