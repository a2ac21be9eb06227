-- The reasons by their numbers (own choice).
use Rattle.std.specs.Prelude.{ℕ}
use Rattle.pd_script.specs.declared.refusal.Reason.{Reason}
use Rattle.pd_script.specs.declared.refusal.Reason.TheVariants.{NoNewline, BadByte, UnknownWord, MissingWord, ExtraWord, BadNumber, OutOfRange, BadWord, Misplaced}

-- the number that is printed
abbrev pub reason_number : Reason → ℕ
reason_number NoNewline = 1
reason_number BadByte = 2
reason_number UnknownWord = 3
reason_number MissingWord = 4
reason_number ExtraWord = 5
reason_number BadNumber = 6
reason_number OutOfRange = 7
reason_number BadWord = 8
reason_number Misplaced = 9
