-- What a command answers to a text, and what a run of the program leaves of it (own choice).
use Rattle.std.specs.Prelude.{◌≡◌, ◌⊎◌, ℕ, ◌+◌, ◌<◌, List, [], ◌∷◌, ◌++◌, length, map, codes, Bool, true, false, Option, Result, Ok, Err, nat_lt, if◌then◌else◌}
use Rattle.std.specs.Fmt.{decimal}
use Rattle.std.specs.Io.KnownBytes.{Appends, Consumes, IsAtEnd, Keeps}
use Rattle.pd_lines.specs.declared.input.TheConstants.{PIECE}
use Rattle.pd_lines.specs.Input.{TakesFew}
use Rattle.pd_lines.specs.Output.{WritesPrefix}
use Rattle.pd_types.specs.Timestamp.{timestamp, physical, logical}
use Rattle.pd_types.specs.declared.stamp.TheConstants.{LOGICAL}
use Rattle.tso_laws.specs.Laws.{AreBounded}
use Rattle.pd_script.specs.Numbering.{reason_number}
use Rattle.pd_script.specs.Scripts.{script_of}
use Rattle.pd_script.specs.declared.refusal.Limited.{Limited}
use Rattle.pd_script.specs.declared.refusal.Limited.TheVariants.{Events, Drivers, Clients, Stores, Reports, Leads}
use Rattle.pd_script.specs.declared.refusal.ScriptRefusal.{ScriptRefusal}
use Rattle.pd_script.specs.declared.refusal.ScriptRefusal.TheVariants.{Fault, Limit as PastLimit, NoMemory as NoRoom}
use Rattle.pd_script.specs.declared.script.Mode.{Mode}
use Rattle.pd_script.specs.declared.script.Mode.TheVariants.{Replay as ByLine, Run as OnThreads}
use Rattle.pd_script.specs.declared.script.Script.{Script}
use Rattle.pd_script.specs.declared.act.Line.{Line}
use Rattle.pd_cluster.specs.Answers.{Answer, answers_text}
use Rattle.pd_cluster.specs.declared.top.TheConstants.{MAX_BYTES}
use Rattle.pd_cluster.specs.History.{IsSafe, windows_of}
use Rattle.pd_cluster.specs.Replay.{State, TakeTurns, answers_of, line_step, start, state_after}
use Rattle.pd_cluster.specs.RunOutcome.{AreLost, RunsHeeded, RunsSafeSteps, RunsSafely, TellsRun}
use Rattle.pd_cluster.specs.Sent.{HaveSafeSteps}
use Rattle.pd_cluster.specs.Talks.{AreHeeded, Benches, Talk, talks_of}
use Rattle.pd_cluster.specs.declared.command.Command.{Command}
use Rattle.pd_cluster.specs.declared.command.Command.TheVariants.{Replay, Run, Tso}
use Rattle.pd_cluster.specs.declared.status.Status.{Status}
use Rattle.pd_cluster.specs.declared.status.Status.TheVariants.{Done, Usage, Refused, ReadFault, WriteFault, NoMemory, Limit}

-- a status and all that is written with it
pub record Outcome : Type 0 where
  pub status : Status
  pub text : List ℕ

-- the answer to words that are no command
abbrev pub usage : Outcome
usage = record { status = Usage; text = codes "usage: pd_cluster replay | run | gen FROM N | tso N\n" }

-- the answer to a text that is too long
abbrev pub limit_bytes : Outcome
limit_bytes = record { status = Limit; text = codes "limit bytes 16777217\n" }

-- the answer of `tso`: both parts of the timestamp
abbrev pub tso_outcome : ℕ → Outcome
tso_outcome timestamp = record { status = Done; text = codes "physical " ++ decimal (physical timestamp) ++ codes " logical " ++ decimal (logical timestamp) ++ codes "\n" }

-- the text tells the parts of which the timestamp is made
abbrev pub TellsParts : ℕ → List ℕ → Type 0
TellsParts n text = (p l : ℕ) → l < LOGICAL → n ≡ timestamp p l → text ≡ codes "physical " ++ decimal p ++ codes " logical " ++ decimal l ++ codes "\n"

-- the word for what there is too much of
abbrev pub limited_text : Limited → List ℕ
limited_text Events = codes "events"
limited_text Drivers = codes "drivers"
limited_text Clients = codes "clients"
limited_text Stores = codes "stores"
limited_text Reports = codes "reports"
limited_text Leads = codes "leads"

-- the answer to a text that is no script; want of memory is never the text's own
abbrev pub refusal_outcome : ScriptRefusal → Outcome
refusal_outcome (Fault line reason) = record { status = Refused; text = codes "line " ++ decimal line ++ codes ": reason " ++ decimal (reason_number reason) ++ codes "\n" }
refusal_outcome (PastLimit what count) = record { status = Limit; text = codes "limit " ++ limited_text what ++ codes " " ++ decimal count ++ codes "\n" }
refusal_outcome NoRoom = record { status = NoMemory; text = [] }

-- what the benches of a script's drivers say in it
abbrev pub talks_in : Benches → Script → List Talk
talks_in benches script = talks_of (script.drivers + 1) benches.old benches.new

-- the answer to a script, or to a text that is none, where the benches say this
abbrev pub script_outcome : Benches → Result Script ScriptRefusal → Outcome
script_outcome benches (Ok script) = record { status = Done; text = answers_text (answers_of (talks_in benches script) script) }
script_outcome benches (Err refusal) = refusal_outcome refusal

-- the answer of `replay` to the text that was read
abbrev pub replay_outcome : Benches → List ℕ → Outcome
replay_outcome benches text = if nat_lt MAX_BYTES (length text) then limit_bytes else script_outcome benches (script_of ByLine text)

-- an outcome of `run` over a script and these benches is the text of any lawful run of it over them; over a text that is none it is the refusal
abbrev pub IsScriptRun : Benches → Result Script ScriptRefusal → Outcome → Type 0
IsScriptRun benches (Ok script) outcome = (outcome.status ≡ Done) × TellsRun benches script outcome.text
IsScriptRun benches (Err refusal) outcome = outcome ≡ refusal_outcome refusal

-- the same, where the text that was read may be too long
abbrev pub IsRunUnless : Benches → Bool → Result Script ScriptRefusal → Outcome → Type 0
IsRunUnless benches true read outcome = outcome ≡ limit_bytes
IsRunUnless benches false read outcome = IsScriptRun benches read outcome

-- a lawful outcome of a command over the text that it read
abbrev pub IsOutcome : Benches → Command → List ℕ → Outcome → Type 0
IsOutcome benches Replay text outcome = outcome ≡ replay_outcome benches text
IsOutcome benches Run text outcome = IsRunUnless benches (nat_lt MAX_BYTES (length text)) (script_of OnThreads text) outcome
IsOutcome benches (Tso timestamp) text outcome = outcome ≡ tso_outcome timestamp

-- Before and after each line, each cursor stands at most 64 milliseconds past the saved end, however many draws were refused
abbrev pub StaysBounded : State → List Line → Type 0
StaysBounded state [] = AreBounded state.oracle
StaysBounded state (line ∷ lines) = AreBounded state.oracle × StaysBounded (line_step state line).after lines

-- the answers to a script are a safe history, the windows that they tell are those of the oracle, and its cursors stay bounded
pub record IsSafeRun (talks : List Talk) (script : Script) : Type 0 where
  pub answers : IsSafe (answers_of talks script)
  pub told : windows_of (answers_of talks script) ≡ (state_after (start talks script) script.lines).oracle.windows
  pub cursors : StaysBounded (start talks script) script.lines

-- the oracle's part of the outcome is safe, where there is a script, whatever the benches say
abbrev pub SafeScript : Result Script ScriptRefusal → Type 0
SafeScript (Ok script) = (talks : List Talk) → IsSafeRun talks script
SafeScript (Err refusal) = Unit {0}

-- the answers to a script tell, in order, what the benches said, and each turn that its lines let schedulers take was taken
pub record IsHeeded (benches : Benches) (script : Script) : Type 0 where
  pub told : AreHeeded (answers_of (talks_in benches script) script) 1 benches.old benches.new
  pub turns : TakeTurns (start (talks_in benches script) script) script.lines

-- so it is with a script that is replayed, and of one that is run it is said of the run that its outcome tells; a text that is none asks no bench
abbrev pub AreHeededIn : Benches → Mode → Result Script ScriptRefusal → Type 0
AreHeededIn benches ByLine (Ok script) = IsHeeded benches script
AreHeededIn benches ByLine (Err refusal) = benches.new ≡ benches.old
AreHeededIn benches OnThreads (Ok script) = Unit {0}
AreHeededIn benches OnThreads (Err refusal) = benches.new ≡ benches.old

-- the same, where the text that was read may be too long
abbrev pub AreHeededUnless : Benches → Mode → Bool → Result Script ScriptRefusal → Type 0
AreHeededUnless benches mode true read = benches.new ≡ benches.old
AreHeededUnless benches mode false read = AreHeededIn benches mode read

-- the same of the text that a command read; `tso` asks no bench
abbrev pub AreHeededBy : Benches → Command → List ℕ → Type 0
AreHeededBy benches Replay text = AreHeededUnless benches ByLine (nat_lt MAX_BYTES (length text)) (script_of ByLine text)
AreHeededBy benches Run text = AreHeededUnless benches OnThreads (nat_lt MAX_BYTES (length text)) (script_of OnThreads text)
AreHeededBy benches (Tso timestamp) text = benches.new ≡ benches.old

-- What is left of the benches where a command wants memory for its answer: `run` lent none, or has lost them, and `tso` asked none; of `replay` nothing is said
abbrev pub AreLeft : Benches → Command → Type 0
AreLeft benches Replay = Unit {0}
AreLeft benches Run = AreLost benches
AreLeft benches (Tso timestamp) = benches.new ≡ benches.old

-- a command's outcome over the text that it read is safe; of `run` that is said of the run which its outcome tells
abbrev pub SafeOutcome : Command → List ℕ → Type 0
SafeOutcome Replay text = SafeScript (script_of ByLine text)
SafeOutcome Run text = Unit {0}
SafeOutcome (Tso timestamp) text = Unit {0}

-- this text was taken, and it is the whole, or longer than the limit
pub record Takes (old new : Option (List ℕ)) (text : List ℕ) : Type 0 where
  pub taken : Consumes old new text
  pub whole : (MAX_BYTES < length text) ⊎ IsAtEnd new

-- what a command takes of the source
abbrev pub Reads : Command → Option (List ℕ) → Option (List ℕ) → List ℕ → Type 0
Reads Replay old new text = Takes old new text
Reads Run old new text = Takes old new text
Reads (Tso timestamp) old new text = Keeps old new × (text ≡ [])

-- The outcome was written whole, or a fault of the sink or want of memory left a prefix of its text.
abbrev pub Leaves : Outcome → Status → Option (List ℕ) → Option (List ℕ) → Type 0
Leaves outcome WriteFault old new = WritesPrefix old new outcome.text
Leaves outcome NoMemory old new = WritesPrefix old new outcome.text
Leaves outcome status old new = (status ≡ outcome.status) × Appends old new outcome.text

-- the text that was taken, a lawful outcome, what was written of it, that it is safe, and what it asked of the benches
pub record Answers (benches : Benches) (command : Command) (status : Status) (left_old left_new held_old held_new : Option (List ℕ)) : Type 0 where
  pub text : List ℕ
  pub outcome : Outcome
  pub taken : Reads command left_old left_new text
  pub lawful : IsOutcome benches command text outcome
  pub written : Leaves outcome status held_old held_new
  pub safe : SafeOutcome command text
  pub heeded : AreHeededBy benches command text

-- each line of the script has an answer, in the order of the lines; their text is written in this way; and the answers are safe
pub record PrintsSafely (script : Script) (Writes : List ℕ → Type 0) : Type 0 where
  pub answers : List Answer
  pub lines : map (λ (answer : Answer). answer.line) answers ≡ script.lines
  pub printed : Writes (answers_text answers)
  pub safe : IsSafe answers

-- what a script answers in a mode is written in this way, and is safe
abbrev pub SafelyPrints : Mode → Script → (List ℕ → Type 0) → Type 0
SafelyPrints ByLine script Writes = PrintsSafely script Writes
SafelyPrints OnThreads script Writes = RunsSafely script Writes

-- each line of the script has an answer, in the order of the lines; their text is written in this way; and the steps in them are safe
pub record PrintsSafeSteps (script : Script) (Writes : List ℕ → Type 0) : Type 0 where
  pub answers : List Answer
  pub lines : map (λ (answer : Answer). answer.line) answers ≡ script.lines
  pub printed : Writes (answers_text answers)
  pub safe : HaveSafeSteps answers

-- each line of the script has an answer, in the order of the lines; their text is written in this way; and the proposals in the answers to a driver's lines
-- are, in order, what its bench said in this run
pub record PrintsHeeded (benches : Benches) (script : Script) (Writes : List ℕ → Type 0) : Type 0 where
  pub answers : List Answer
  pub lines : map (λ (answer : Answer). answer.line) answers ≡ script.lines
  pub printed : Writes (answers_text answers)
  pub heeded : AreHeeded answers 1 benches.old benches.new

-- this is said of a script and of what is written of it; a text that is none has one line: the first at fault, or the limit
abbrev pub Prints : (Script → (List ℕ → Type 0) → Type 0) → Result Script ScriptRefusal → (List ℕ → Type 0) → Type 0
Prints Says (Ok script) Writes = Says script Writes
Prints Says (Err refusal) Writes = Writes (refusal_outcome refusal).text

-- the same, where the text that was read may be too long
abbrev pub PrintsUnless : (Script → (List ℕ → Type 0) → Type 0) → Bool → Result Script ScriptRefusal → (List ℕ → Type 0) → Type 0
PrintsUnless Says true read Writes = Writes limit_bytes.text
PrintsUnless Says false read Writes = Prints Says read Writes

-- this is said of the text that was taken, read as a script of this mode, and of what is printed of it
pub record IsPrinted (mode : Mode) (Says : Script → (List ℕ → Type 0) → Type 0) (left_old left_new : Option (List ℕ)) (Writes : List ℕ → Type 0) : Type 0 where
  pub text : List ℕ
  pub taken : Takes left_old left_new text
  pub printed : PrintsUnless Says (nat_lt MAX_BYTES (length text)) (script_of mode text) Writes

-- The same by status: printed whole, or cut to a prefix by a fault of the sink or want of memory; nothing was printed after a failed
-- read, or where memory was wanting before that
abbrev pub EndsSaying : Mode → (Script → (List ℕ → Type 0) → Type 0) → Status → Option (List ℕ) → Option (List ℕ) → Option (List ℕ) → Option (List ℕ) → Type 0
EndsSaying mode Says WriteFault left_old left_new held_old held_new = IsPrinted mode Says left_old left_new (WritesPrefix held_old held_new)
EndsSaying mode Says NoMemory left_old left_new held_old held_new = Keeps held_old held_new ⊎ IsPrinted mode Says left_old left_new (WritesPrefix held_old held_new)
EndsSaying mode Says ReadFault left_old left_new held_old held_new = Keeps held_old held_new
EndsSaying mode Says status left_old left_new held_old held_new = IsPrinted mode Says left_old left_new (Appends held_old held_new)

-- The headline: what a command prints of the text that was taken are answers to its lines that grant no timestamp twice; `tso` prints
-- no answers
abbrev pub IsHeadline : Command → Status → Option (List ℕ) → Option (List ℕ) → Option (List ℕ) → Option (List ℕ) → Type 0
IsHeadline Replay status left_old left_new held_old held_new = EndsSaying ByLine (SafelyPrints ByLine) status left_old left_new held_old held_new
IsHeadline Run status left_old left_new held_old held_new = EndsSaying OnThreads (SafelyPrints OnThreads) status left_old left_new held_old held_new
IsHeadline (Tso timestamp) status left_old left_new held_old held_new = Unit {0}

-- The headline of placement steps: each that `replay` or `run` prints was sent by an entry of a driver's journal, and was safe there; `tso` prints none
abbrev pub IsStepHeadline : Command → Status → Option (List ℕ) → Option (List ℕ) → Option (List ℕ) → Option (List ℕ) → Type 0
IsStepHeadline Replay status left_old left_new held_old held_new = EndsSaying ByLine PrintsSafeSteps status left_old left_new held_old held_new
IsStepHeadline Run status left_old left_new held_old held_new = EndsSaying OnThreads RunsSafeSteps status left_old left_new held_old held_new
IsStepHeadline (Tso timestamp) status left_old left_new held_old held_new = Unit {0}

-- The same, with what is left of the benches where nothing was to be printed: after a failed read they are as they were
abbrev pub EndsHeeding : Benches → Command → Mode → (Script → (List ℕ → Type 0) → Type 0) → Status → Option (List ℕ) → Option (List ℕ) → Option (List ℕ) → Option (List ℕ) → Type 0
EndsHeeding benches command mode Says ReadFault left_old left_new held_old held_new = (benches.new ≡ benches.old) × Keeps held_old held_new
EndsHeeding benches command mode Says NoMemory left_old left_new held_old held_new = (AreLeft benches command × Keeps held_old held_new) ⊎ IsPrinted mode Says left_old left_new (WritesPrefix held_old held_new)
EndsHeeding benches command mode Says status left_old left_new held_old held_new = EndsSaying mode Says status left_old left_new held_old held_new

-- What `replay` and `run` print of schedulers: the proposals in the answers to a driver's lines are, in order, what its bench said; `tso` asks no bench
abbrev pub IsHeededBy : Benches → Command → Status → Option (List ℕ) → Option (List ℕ) → Option (List ℕ) → Option (List ℕ) → Type 0
IsHeededBy benches Replay status left_old left_new held_old held_new = EndsHeeding benches Replay ByLine (PrintsHeeded benches) status left_old left_new held_old held_new
IsHeededBy benches Run status left_old left_new held_old held_new = EndsHeeding benches Run OnThreads (RunsHeeded benches) status left_old left_new held_old held_new
IsHeededBy benches (Tso timestamp) status left_old left_new held_old held_new = benches.new ≡ benches.old

-- a read that failed took no more than the limit; `tso` reads nothing, so that none fails
abbrev pub IsUnread : Command → Option (List ℕ) → Option (List ℕ) → Type 0
IsUnread Replay old new = TakesFew old new MAX_BYTES
IsUnread Run old new = TakesFew old new MAX_BYTES
IsUnread (Tso timestamp) old new = ⊥

-- how a run of a command may end
abbrev pub Ends : Benches → Command → Status → Option (List ℕ) → Option (List ℕ) → Option (List ℕ) → Option (List ℕ) → Type 0
Ends benches command ReadFault left_old left_new held_old held_new = IsUnread command left_old left_new × Keeps held_old held_new
Ends benches command NoMemory left_old left_new held_old held_new = Keeps held_old held_new ⊎ Answers benches command NoMemory left_old left_new held_old held_new
Ends benches command status left_old left_new held_old held_new = Answers benches command status left_old left_new held_old held_new

-- what a command asks of the source, however it ends: `replay` and `run` at most the limit and one piece, `tso` nothing
abbrev pub Asks : Command → Option (List ℕ) → Option (List ℕ) → Type 0
Asks Replay old new = TakesFew old new (MAX_BYTES + PIECE)
Asks Run old new = TakesFew old new (MAX_BYTES + PIECE)
Asks (Tso timestamp) old new = Keeps old new
