-- What a word behind the fixed ones stands for (pd-ctl; own choice of the bounds).
use Rattle.std.specs.Prelude.{ℕ, List, nat_le, if◌then◌else◌, codes, Option, Some, None, Result, Ok, Err, option_and_then}
use Rattle.std.specs.Str.{bytes_eq, is_utf8}
use Rattle.pd_lines.specs.Keys.{key_of}
use Rattle.pd_lines.specs.Numeral.{number_of}
use Rattle.store_limit.specs.declared.bucket.TheConstants.{MAX_RATE}
use Rattle.store_limit.specs.declared.limits.LimitKind.{LimitKind}
use Rattle.store_limit.specs.declared.limits.LimitKind.TheVariants.{AddPeer, RemovePeer}
use Rattle.pd_ctl.specs.declared.fault.CtlFault.{CtlFault}
use Rattle.pd_ctl.specs.declared.fault.CtlFault.TheVariants.{BadNumber}

-- what was read, or else the fault
abbrev pub or_bad : {A : Type 0} → Option A → Result A CtlFault
or_bad (Some read) = Ok read
or_bad None = Err BadNumber

-- a number of 64 bits
abbrev pub number : List ℕ → Result ℕ CtlFault
number word = or_bad (number_of word)

-- a number of peers a minute, at most 1,000,000
abbrev pub rate_of : List ℕ → Option ℕ
rate_of word = option_and_then (λ rate. if nat_le rate MAX_RATE then Some rate else None) (number_of word)

-- the same, or the fault
abbrev pub rate : List ℕ → Result ℕ CtlFault
rate word = or_bad (rate_of word)

-- which of a store's two limits
abbrev pub kind_of : List ℕ → Option LimitKind
kind_of word = if bytes_eq word (codes "add-peer") then Some AddPeer else if bytes_eq word (codes "remove-peer") then Some RemovePeer else None

-- the same, or the fault
abbrev pub kind : List ℕ → Result LimitKind CtlFault
kind word = or_bad (kind_of word)

-- a key in hexadecimal digits, or `-` for the empty one
abbrev pub key : List ℕ → Result (List ℕ) CtlFault
key word = or_bad (key_of word)

-- the name of a scheduler: any word in UTF-8
abbrev pub name : List ℕ → Result (List ℕ) CtlFault
name word = or_bad (if is_utf8 word then Some word else None)
