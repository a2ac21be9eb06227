-- A response is the outcome that it stands for.
use Rattle.std.specs.Prelude.{◌≡◌, ◌≤◌, ℕ, List, Option, Result, IsErrOf, string_bytes}
use Rattle.pd_io.specs.Faults.{Rose}
use Rattle.pd_cluster.specs.Outcome.{AreHeededBy, Outcome, IsOutcome, Reads}
use Rattle.pd_cluster.specs.Talks.{Benches}
use Rattle.pd_script.specs.declared.script.Mode.{Mode}
use Rattle.pd_script.specs.declared.script.Mode.TheVariants.{Replay as ByLine, Run as OnThreads}
use Rattle.pd_cluster.specs.declared.command.Command.{Command}
use Rattle.pd_cluster.specs.declared.command.Command.TheVariants.{Replay, Run}
use Rattle.pd_cluster.specs.declared.response.Response.{Response}
use Rattle.pd_cluster.specs.declared.top.Failure.{Failure}
use Rattle.pd_cluster.specs.declared.top.Failure.TheVariants.{ReadFault as FailedRead}
use Rattle.pd_cluster.specs.declared.status.Status.{Status}
use Rattle.pd_cluster.specs.declared.status.Status.TheVariants.{ReadFault, WriteFault, NoMemory}

-- the status and the text are the outcome's
pub record Gives (outcome : Outcome) (response : Response) : Type 0 where
  pub status : response.status ≡ outcome.status
  pub text : string_bytes response.text ≡ outcome.text

-- the command that answers a script in this mode
abbrev pub command_in : Mode → Command
command_in ByLine = Replay
command_in OnThreads = Run

-- the outcome that a response stands for
abbrev pub outcome_of : Response → Outcome
outcome_of response = record { status = response.status; text = string_bytes response.text }

-- a status that only a text gives
abbrev pub IsFinal : Status → Type 0
IsFinal ReadFault = ⊥
IsFinal WriteFault = ⊥
IsFinal NoMemory = ⊥
IsFinal _ = Unit {0}

-- the response to the text that was taken
pub record Responds (benches : Benches) (command : Command) (left_old left_new : Option (List ℕ)) (response : Response) : Type 0 where
  pub text : List ℕ
  pub outcome : Outcome
  pub taken : Reads command left_old left_new text
  pub lawful : IsOutcome benches command text outcome
  pub heeded : AreHeededBy benches command text
  pub gives : Gives outcome response
  pub settled : IsFinal response.status

-- the count of faults never falls, and the end with that fault comes only where it rose
pub record HasEndCause (fault : Status) (before now : ℕ) (result : Status) : Type 0 where
  pub later : before ≤ now
  pub rose : result ≡ fault → Rose before now

-- the count of faults never falls, and a failed read comes only where it rose
pub record HasFailureCause {T : Type 0} (before now : ℕ) (result : Result T Failure) : Type 0 where
  pub later : before ≤ now
  pub failed : IsErrOf result FailedRead → Rose before now
