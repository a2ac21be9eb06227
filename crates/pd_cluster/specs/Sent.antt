-- What is printed of placement steps: each step was sent by an entry of a driver's journal, and was safe there, whoever asked for it (PD, region heartbeats: a
-- step is sent to a region's leader only while a majority of its voters is live, and stays so). Each journal has its latest entry first.
use Rattle.std.specs.Prelude.{◌≡◌, ℕ, ◌+◌, max, nat_eq, Bool, true, false, if◌then◌else◌, List, [], ◌∷◌, ◌++◌, length, reverse, Option, Some, None, All, Contains}
use Rattle.pd_types.specs.declared.request.Request.{Request}
use Rattle.pd_types.specs.declared.step.Step.{Step}
use Rattle.pd_types.specs.declared.step.StepMsg.{StepMsg}
use Rattle.pd_script.specs.declared.act.Act.{Act}
use Rattle.pd_script.specs.declared.act.Act.TheVariants.{Ask, Pop}
use Rattle.pd_script.specs.declared.act.Line.{Line}
use Rattle.pd_state.specs.declared.entry.Entry.{Entry}
use Rattle.pd_state.specs.declared.part.Part.{Part}
use Rattle.pd_state.specs.declared.reply.Reply.{Reply}
use Rattle.pd_state.specs.Gates.{IsSafeThere}
use Rattle.pd_state.specs.Legal.{IsLegal}
use Rattle.pd_state.specs.State.{moment_of, part_after}
use Rattle.pd_state.specs.StepTold.{TellsStep}
use Rattle.pd_run.specs.declared.answer.DriverAnswer.{DriverAnswer}
use Rattle.pd_run.specs.declared.answer.DriverSays.{DriverSays}
use Rattle.pd_run.specs.declared.answer.DriverSays.TheVariants as drivers
use Rattle.pd_run.specs.declared.answer.StoreAnswer.{StoreAnswer}
use Rattle.pd_run.specs.declared.answer.StoreSays.{StoreSays}
use Rattle.pd_run.specs.declared.answer.StoreSays.TheVariants as stores
use Rattle.pd_run.specs.Runs.{DriverPart, Journal, Run, StorePart}
use Rattle.tso_core.specs.declared.reply.Reply.{Reply as Answered}
use Rattle.pd_cluster.specs.Answers.{Answer, driver_in}
use Rattle.pd_cluster.specs.Replay.{asked_besides, lead_after}
use Rattle.pd_cluster.specs.declared.lead.BegunLead.{BegunLead}
use Rattle.pd_cluster.specs.declared.said.Said.{Said}
use Rattle.pd_cluster.specs.declared.said.Said.TheVariants.{ByOracle, ByCluster, Popped}

-- An entry behind these sent the message, and its step is safe there: by the heartbeat that its region stands with after the entry, the stores before it, and
-- the clock with its moment, a majority of the region's voters is live before the step and after it, and its target is right
pub record SendsSafely (past : List Entry) (entry : Entry) (message : StepMsg) : Type 0 where
  pub sent : Contains entry.sends message
  pub before : Part
  pub after : Part
  pub stood : part_after past ≡ Some before
  pub stands : part_after (entry ∷ past) ≡ Some after
  pub safe : IsSafeThere before after (max before.clock (moment_of entry.request)) message

-- the entry of the journal that the message names, by its place from 1 on, sent it safely
pub record IsSafelySent (journal : List Entry) (message : StepMsg) : Type 0 where
  pub later : List Entry
  pub entry : Entry
  pub past : List Entry
  pub stands : journal ≡ later ++ entry ∷ past
  pub place : message.entry ≡ length past + 1
  pub safely : SendsSafely past entry message

-- the entry of a line, with this reply, sent a step safely that the reply tells
pub record IsToldSafely (journal : List Entry) (line : ℕ) (reply : Reply) : Type 0 where
  pub message : StepMsg
  pub told : TellsStep reply message.step
  pub sent : IsSafelySent journal message
  pub line_is : sent.entry.line ≡ line
  pub reply_is : sent.entry.reply ≡ reply

-- the line asked a driver's cluster, whose entry of that line sent a step safely that this reply tells
pub record IsAskedSafely (journals : ℕ → List Entry) (line : Line) (reply : Reply) : Type 0 where
  pub driver : ℕ
  pub request : Request
  pub asked : line.act ≡ Ask driver request
  pub told : IsToldSafely (journals driver) line.number reply

-- what is printed for a line: where a cluster's answer tells a step as sent, the line asked a cluster, and its own entry sent one that it tells; and a message
-- that a store took was sent by an entry of its driver
abbrev pub IsSafeSaid : (ℕ → List Entry) → Line → Said → Type 0
IsSafeSaid journals line (ByOracle reply) = Unit {0}
IsSafeSaid journals line (ByCluster reply) = (step : Step) → TellsStep reply step → IsAskedSafely journals line reply
IsSafeSaid journals line (Popped None) = Unit {0}
IsSafeSaid journals line (Popped (Some message)) = (line.act ≡ Pop message.to message.driver) × IsSafelySent (journals message.driver) message

-- an entry of this line, request and reply, and no other
pub record IsJust (line : ℕ) (request : Request) (reply : Reply) (made : List Entry) : Type 0 where
  pub entry : Entry
  pub one : made ≡ entry ∷ []
  pub line_is : entry.line ≡ line
  pub request_is : entry.request ≡ request
  pub reply_is : entry.reply ≡ reply

-- where it is this driver's cluster that was asked; else none
abbrev pub IsJustOf : Bool → ℕ → Request → Reply → List Entry → Type 0
IsJustOf true line request reply made = IsJust line request reply made
IsJustOf false line request reply made = made ≡ []

-- of a line that asks a cluster, the entry of that request with the reply that is answered
abbrev pub AsksIn : ℕ → ℕ → Act → Reply → List Entry → Type 0
AsksIn driver line (Ask asked request) reply made = IsJustOf (nat_eq asked driver) line request reply made
AsksIn driver line _ reply made = made ≡ []

-- the entry of what is asked besides a line at the oracle, which begins a term or ends it, whatever its reply; where nothing is asked none
abbrev pub IsTurnOf : ℕ → Option Request → List Entry → Type 0
IsTurnOf line None made = made ≡ []
IsTurnOf line (Some request) made = (reply : Reply) × IsJust line request reply made

-- what the oracle's answer asks of a driver's cluster besides, where the line is the driver's and its lead by single steps is this far
abbrev pub besides_of : ℕ → Option BegunLead → Line → Answered → Option Request
besides_of driver lead line reply = if nat_eq (driver_in line.actor) driver then asked_besides line.act reply lead else None

-- how far a driver's lead by single steps is behind an answer: only the oracle's answers to its own lines move it
abbrev pub lead_behind : ℕ → Option BegunLead → Line → Said → Option BegunLead
lead_behind driver lead line (ByOracle reply) = if nat_eq (driver_in line.actor) driver then lead_after line.act reply lead else lead
lead_behind driver lead line _ = lead

-- the entries that one answer makes in a driver's journal: at most one
abbrev pub MakesIn : ℕ → Option BegunLead → Line → Said → List Entry → Type 0
MakesIn driver lead line (ByOracle reply) made = IsTurnOf line.number (besides_of driver lead line reply) made
MakesIn driver lead line (ByCluster reply) made = AsksIn driver line.number line.act reply made
MakesIn driver lead line (Popped message) made = made ≡ []

-- the entries of a journal, the earliest first, are those that the answers make, one answer after the other, where the driver's lead is this far before them
abbrev pub AreMade : ℕ → Option BegunLead → List Answer → List Entry → Type 0
AreMade driver lead [] entries = entries ≡ []
AreMade driver lead (answer ∷ answers) entries =
    (made : List Entry) × (rest : List Entry) × (entries ≡ made ++ rest) × MakesIn driver lead answer.line answer.said made
    × AreMade driver (lead_behind driver lead answer.line answer.said) answers rest

-- The headline of steps, of the answers to a script: there are journals of the drivers, each legal and made of just the requests that lines asked of its cluster,
-- with the replies that were answered, and of each term that the oracle's answers begin and end; and by them each printed step is safe
pub record HaveSafeSteps (answers : List Answer) : Type 0 where
  pub journals : ℕ → List Entry
  pub legal : (driver : ℕ) → IsLegal driver (journals driver)
  pub made : (driver : ℕ) → AreMade driver None answers (reverse (journals driver))
  pub safe : All (λ answer. IsSafeSaid journals answer.line answer.said) answers

-- OF A RUN, whose text has the journals too

-- one of these journals is this driver's, and by it, the latest entry first, this holds
pub record IsByJournal (journals : List Journal) (driver : ℕ) (Holds : List Entry → Type 0) : Type 0 where
  pub journal : Journal
  pub one : Contains journals journal
  pub driver_is : journal.driver ≡ driver
  pub holds : Holds (reverse journal.entries)

-- where this reply of a driver's cluster tells a step as sent, the entry of its line sent one that it tells
abbrev pub TellsSafely : List Journal → ℕ → ℕ → Reply → Type 0
TellsSafely journals driver line reply = (step : Step) → TellsStep reply step → IsByJournal journals driver (λ (journal : List Entry). IsToldSafely journal line reply)

-- what a driver answers on a line: its cluster's reply tells steps safely; the oracle tells none
abbrev pub DriverTellsSafely : List Journal → ℕ → ℕ → DriverSays → Type 0
DriverTellsSafely journals driver line (drivers.Oracle said) = Unit {0}
DriverTellsSafely journals driver line (drivers.Cluster reply) = TellsSafely journals driver line reply
DriverTellsSafely journals driver line (drivers.Resigned reply held) = TellsSafely journals driver line reply

-- what a store answers on a line that goes to a driver's cluster: the reply tells steps safely, and a message that it took was sent to it by an entry of this
-- driver's journal
abbrev pub StoreTellsSafely : List Journal → ℕ → ℕ → ℕ → StoreSays → Type 0
StoreTellsSafely journals store driver line (stores.Cluster reply) = TellsSafely journals driver line reply
StoreTellsSafely journals store driver line (stores.Popped None) = Unit {0}
StoreTellsSafely journals store driver line (stores.Popped (Some message)) =
    (message.to ≡ store) × (message.driver ≡ driver) × IsByJournal journals driver (λ (journal : List Entry). IsSafelySent journal message)

-- The headline of steps, of a run: its journals are legal, and by them each printed step is safe, whether an entry of a journal tells it as sent, or an answer to
-- a driver or to a store, or a store took it
pub record HasSafeSteps (run : Run) : Type 0 where
  pub legal : All (λ (j : Journal). IsLegal j.driver (reverse j.entries)) run.journals
  pub entries : All (λ (j : Journal). All (λ (entry : Entry). TellsSafely run.journals j.driver entry.line entry.reply) j.entries) run.journals
  pub drivers_are : All (λ (p : DriverPart). All (λ (a : DriverAnswer). DriverTellsSafely run.journals p.number a.line a.says) p.answers) run.drivers
  pub stores_are : All (λ (p : StorePart). All (λ (a : StoreAnswer). StoreTellsSafely run.journals p.store a.driver a.line a.says) p.answers) run.stores
