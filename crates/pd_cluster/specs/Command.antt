-- What the words of the command line ask for.
use Rattle.std.specs.Prelude.{ℕ, List, [], ◌∷◌, Bool, true, false, codes, Option, Some, None, if◌then◌else◌}
use Rattle.std.specs.Str.{bytes_eq}
use Rattle.pd_lines.specs.Numeral.{number_of}
use Rattle.pd_cluster.specs.declared.command.Command.{Command}
use Rattle.pd_cluster.specs.declared.command.Command.TheVariants.{Replay, Run, Tso}

-- `tso` with the number that is spelled
abbrev pub tso_of : Bool → Option ℕ → Option Command
tso_of true (Some timestamp) = Some (Tso timestamp)
tso_of true None = None
tso_of false number = None

-- one word, `replay` or `run`, or two, `tso` and a number
abbrev pub command_of : List (List ℕ) → Option Command
command_of (word ∷ []) = if bytes_eq word (codes "replay") then Some Replay else if bytes_eq word (codes "run") then Some Run else None
command_of (word ∷ number ∷ []) = tso_of (bytes_eq word (codes "tso")) (number_of number)
command_of _ = None
