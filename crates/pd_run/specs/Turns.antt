-- Which line an answer is to, and which entries of a cluster's journal it made.
use Rattle.std.specs.Prelude.{◌≡◌, ℕ, ◌==◌, List, [], ◌∷◌, true, false, All, Option, Some, None, flat_map, map, if◌then◌else◌}
use Rattle.pd_types.specs.declared.request.Request.{Request}
use Rattle.pd_types.specs.declared.step.StepMsg.{StepMsg}
use Rattle.pd_state.specs.declared.entry.Entry.{Entry}
use Rattle.pd_state.specs.declared.reply.Reply.{Reply}
use Rattle.tso_run.specs.Lines.{driver_ask}
use Rattle.pd_run.specs.Answers.{asked_besides, gave_up, taken}
use Rattle.pd_run.specs.declared.answer.DriverAnswer.{DriverAnswer}
use Rattle.pd_run.specs.declared.answer.DriverSays.{DriverSays}
use Rattle.pd_run.specs.declared.answer.DriverSays.TheVariants as drivers
use Rattle.pd_run.specs.declared.answer.StoreAnswer.{StoreAnswer}
use Rattle.pd_run.specs.declared.answer.StoreSays.{StoreSays}
use Rattle.pd_run.specs.declared.answer.StoreSays.TheVariants as stores
use Rattle.pd_run.specs.declared.line.DriverLine.{DriverLine}
use Rattle.pd_run.specs.declared.line.DriverTask.{DriverTask}
use Rattle.pd_run.specs.declared.line.DriverTask.TheVariants as tasks
use Rattle.pd_run.specs.declared.line.StoreLine.{StoreLine}
use Rattle.pd_run.specs.declared.line.StoreTask.{StoreTask}
use Rattle.pd_run.specs.declared.line.StoreTask.TheVariants as asks

-- one entry, of this line and request, with this reply
abbrev pub IsReplied : ℕ → Request → Reply → List Entry → Type 0
IsReplied line request reply own = (entry : Entry) × (own ≡ entry ∷ []) × (entry.line ≡ line) × (entry.request ≡ request) × (entry.reply ≡ reply)

-- one entry of this line and request, with whatever reply, where something is asked; else none
abbrev pub IsAsked : ℕ → Option Request → List Entry → Type 0
IsAsked line None own = own ≡ []
IsAsked line (Some request) own = (reply : Reply) × IsReplied line request reply own

-- A DRIVER'S LINES

-- A driver was asked this on a line, and answered so; the line made these entries of its cluster's journal. What the oracle answered is printed for a line of the
-- oracle, and the entry's reply for a line of the cluster
abbrev pub DriverDid : ℕ → DriverTask → DriverSays → List Entry → Type 0
DriverDid line (tasks.Oracle ask) (drivers.Oracle said) own = (driver_ask said ≡ ask) × IsAsked line (asked_besides said) own
DriverDid line (tasks.Oracle ask) (drivers.Cluster reply) own = ⊥
DriverDid line (tasks.Oracle ask) (drivers.Resigned reply held) own = ⊥
DriverDid line (tasks.Cluster request) (drivers.Oracle said) own = ⊥
DriverDid line (tasks.Cluster request) (drivers.Cluster reply) own = IsReplied line request reply own × (gave_up reply ≡ false)
DriverDid line (tasks.Cluster request) (drivers.Resigned reply held) own = IsReplied line request reply own × (gave_up reply ≡ true)

-- a line of a driver with its answer and the entries that it made
pub record DriverTurn : Type 0 where
  pub line : DriverLine
  pub says : DriverSays
  pub own : List Entry

-- the line was answered so, and made these entries
abbrev pub IsDriverTurn : DriverTurn → Type 0
IsDriverTurn turn = DriverDid turn.line.number turn.line.task turn.says turn.own

-- the answer with the number of its line
abbrev pub driver_answer : DriverTurn → DriverAnswer
driver_answer turn = record { line = turn.line.number; says = turn.says }

-- Each of the lines has one of the answers, in their order, and together they made these entries, in this order
pub record DriverAnswered (lines : List DriverLine) (answers : List DriverAnswer) (entries : List Entry) : Type 0 where
  pub turns : List DriverTurn
  pub lines_are : map (λ (turn : DriverTurn). turn.line) turns ≡ lines
  pub answers_are : map driver_answer turns ≡ answers
  pub entries_are : flat_map (λ (turn : DriverTurn). turn.own) turns ≡ entries
  pub did : All IsDriverTurn turns

-- A STORE'S LINES

-- a store was asked this on a line, and answered so; the line made these entries of the cluster's journal
abbrev pub StoreDid : ℕ → StoreTask → StoreSays → List Entry → Type 0
StoreDid line (asks.Ask request) (stores.Cluster reply) own = IsReplied line request reply own
StoreDid line (asks.Ask request) (stores.Popped message) own = ⊥
StoreDid line asks.Pop (stores.Cluster reply) own = ⊥
StoreDid line asks.Pop (stores.Popped message) own = own ≡ []

-- a line of a store with its answer and the entries that it made
pub record StoreTurn : Type 0 where
  pub line : StoreLine
  pub says : StoreSays
  pub own : List Entry

-- the line was answered so, and made these entries
abbrev pub IsStoreTurn : StoreTurn → Type 0
IsStoreTurn turn = StoreDid turn.line.number turn.line.task turn.says turn.own

-- the answer with the number of its line and the driver whose cluster was asked
abbrev pub store_answer : StoreTurn → StoreAnswer
store_answer turn = record { line = turn.line.number; driver = turn.line.driver; says = turn.says }

-- the entries that the line made of this driver's journal
abbrev pub own_at : ℕ → StoreTurn → List Entry
own_at driver turn = if turn.line.driver == driver then turn.own else []

-- the step of this driver's cluster that was taken on the line
abbrev pub taken_at : ℕ → StoreTurn → List StepMsg
taken_at driver turn = if turn.line.driver == driver then taken turn.says else []

-- Each of the lines has one of the answers, in their order; together they made, of each driver's journal, these entries, and took these of its cluster's steps,
-- in this order
pub record StoreAnswered (lines : List StoreLine) (answers : List StoreAnswer) (entries : ℕ → List Entry) (popped : ℕ → List StepMsg) : Type 0 where
  pub turns : List StoreTurn
  pub lines_are : map (λ (turn : StoreTurn). turn.line) turns ≡ lines
  pub answers_are : map store_answer turns ≡ answers
  pub did : All IsStoreTurn turns
  pub entries_are : (driver : ℕ) → flat_map (own_at driver) turns ≡ entries driver
  pub popped_are : (driver : ℕ) → flat_map (taken_at driver) turns ≡ popped driver
