-- What a run on threads leaves, and what of it is lawful, whatever the schedule of its threads was.
use Rattle.std.specs.Prelude.{◌≡◌, ℕ, ◌==◌, List, [], ◌∷◌, All, Contains, flat_map, if◌then◌else◌, map, reverse}
use Rattle.std.specs.List.{AllZip}
use mathlib.Core.List.{IsPrefix}
use Rattle.pd_types.specs.declared.oracle.Actor.TheVariants.{Driver, Store}
use Rattle.pd_types.specs.declared.oracle.Actor.{Actor}
use Rattle.pd_types.specs.declared.step.StepMsg.{StepMsg}
use Rattle.tso_model.specs.declared.view.Setup.{Setup}
use Rattle.tso_model.specs.Moves.{numbers_from}
use Rattle.tso_board.specs.Crews.{ledger_batches, ledger_windows}
use Rattle.tso_outcome.specs.Lawful.{IsLawful as IsLawfulOracle}
use Rattle.tso_outcome.specs.Runs.{ClientPart, DriverPart as OraclePart, Run as OracleRun}
use Rattle.tso_run.specs.declared.line.ClientLine.{ClientLine}
use Rattle.tso_run.specs.Lines.{client_line, lines_of_client}
use Rattle.tso_run.specs.Runs.{client_part}
use Rattle.meta_store.specs.declared.record.MetaEntry.{MetaEntry}
use Rattle.meta_store.specs.Past.{IsLegal as IsLegalMeta}
use Rattle.meta_store.specs.Seats.{heard_by}
use Rattle.pd_state.specs.Clusters.{ClusterValue}
use Rattle.pd_state.specs.declared.entry.Entry.{Entry}
use Rattle.pd_state.specs.Legal.{IsLegal}
use Rattle.pd_shared.specs.Kept.{answers_in}
use Rattle.pd_shared.specs.Outlets.{ArePushed, sends_to}
use Rattle.pd_shared.specs.Shares.{entries_of}
use Rattle.pd_run.specs.Answers.{oracle_answers, taken}
use Rattle.pd_run.specs.Turns.{DriverAnswered, StoreAnswered}
use Rattle.pd_run.specs.declared.answer.DriverAnswer.{DriverAnswer}
use Rattle.pd_run.specs.declared.answer.DriverAnswers.{DriverAnswers as DriverLeft}
use Rattle.pd_run.specs.declared.answer.StoreAnswer.{StoreAnswer}
use Rattle.pd_run.specs.declared.answer.StoreAnswers.{StoreAnswers as StoreLeft}
use Rattle.pd_run.specs.declared.line.DriverLine.{DriverLine}
use Rattle.pd_run.specs.declared.line.StoreLine.{StoreLine}
use Rattle.pd_run.specs.declared.line.StoreLines.{StoreLines}
use Rattle.pd_run.specs.declared.runner.Left.{Left}

-- WHAT A RUN LEAVES

-- a driver and its answers, in the order of its lines
pub record DriverPart : Type 0 where
  pub number : ℕ
  pub answers : List DriverAnswer

-- a store and its answers, in the order of its lines
pub record StorePart : Type 0 where
  pub store : ℕ
  pub answers : List StoreAnswer

-- the journal of a driver's cluster, its first entry first
pub record Journal : Type 0 where
  pub driver : ℕ
  pub entries : List Entry

-- all that a run leaves: the oracle's part of it, each driver's and each store's answers, and the journals of the clusters and of the metadata
pub record Run : Type 0 where
  pub oracle : OracleRun
  pub drivers : List DriverPart
  pub stores : List StorePart
  pub journals : List Journal
  pub metadata : List MetaEntry

-- what the oracle answered a driver
abbrev pub oracle_part : DriverPart → OraclePart
oracle_part part = record { number = part.number; answers = oracle_answers part.answers }

-- a driver's part of what is left
abbrev pub driver_part : DriverLeft → DriverPart
driver_part a = record { number = a.number; answers = a.answers.items }

-- a store's part of what is left
abbrev pub store_part : StoreLeft → StorePart
store_part a = record { store = a.store; answers = a.answers.items }

-- the journal of a cluster
abbrev pub journal_of : ClusterValue → Journal
journal_of cluster = record { driver = cluster.driver; entries = cluster.entries }

-- the run over this setup
abbrev pub run_of : Setup → Left → Run
run_of k left = record {
  oracle = record {
    setup = k;
    drivers = map (λ (a : DriverLeft). oracle_part (driver_part a)) left.drivers.items;
    clients = map client_part left.clients.items;
    post = left.post;
    windows = ledger_windows left.ledger;
    batches = ledger_batches left.ledger;
  };
  drivers = map driver_part left.drivers.items;
  stores = map store_part left.stores.items;
  journals = map journal_of left.clusters.items;
  metadata = left.meta;
}

-- WHAT OF IT IS LAWFUL

-- what a store took of a driver's cluster is the first part of what was pushed into its stream: of what the cluster's entries sent to it, in their order, each
-- once, where a send is left out only behind 64 others
abbrev pub ArePopped : List Entry → ℕ → List StepMsg → Type 0
ArePopped entries store popped = (pushed : List StepMsg) × ArePushed 0 (sends_to store entries) pushed × IsPrefix popped pushed

-- the step of this driver's cluster that an answer of a store tells as taken
abbrev pub taken_of : ℕ → StoreAnswer → List StepMsg
taken_of driver a = if a.driver == driver then taken a.says else []

-- the steps that a store took of a driver's cluster, by its answers
abbrev pub taken_by : ℕ → List StoreAnswer → List StepMsg
taken_by driver answers = flat_map (taken_of driver) answers

-- whose requests a driver's cluster serves: the driver's own and those of the stores that act
abbrev pub callers : ℕ → List StorePart → List Actor
callers driver stores = Driver driver ∷ map (λ (part : StorePart). Store part.store) stores

-- the journal is that of one thread: each reply is the one that it has to be behind the entries before it, and each entry is of an actor of the run
pub record IsLawfulJournal (stores : List StorePart) (metadata : List MetaEntry) (journal : Journal) : Type 0 where
  pub legal : IsLegal journal.driver (reverse journal.entries)
  pub served : All (λ (entry : Entry). Contains (callers journal.driver stores) entry.actor) journal.entries
  pub kept : heard_by journal.driver (reverse metadata) ≡ answers_in journal.entries
  pub popped : All (λ (part : StorePart). ArePopped journal.entries part.store (taken_by journal.driver part.answers)) stores

-- A lawful run: the oracle's part is lawful; the journal of each driver's cluster is one of a single thread, and the steps that stores took were sent by its
-- entries; the metadata answered each call by the calls before it, those of each driver are what its cluster's entries made, and nobody else made any
pub record IsLawful (run : Run) : Type 0 where
  pub oracle : IsLawfulOracle run.oracle
  pub told : run.oracle.drivers ≡ map oracle_part run.drivers
  pub journals : All (IsLawfulJournal run.stores run.metadata) run.journals
  pub metadata : IsLegalMeta (reverse run.metadata)
  pub alone : All (λ (entry : MetaEntry). Contains (map (λ (j : Journal). j.driver) run.journals) entry.driver) run.metadata

-- WHOSE LINES WERE ANSWERED

-- a driver answered its lines, and they made its own entries of its cluster's journal
pub record DriverAnswersLines (lines : List DriverLine) (part : DriverPart) (journal : Journal) : Type 0 where
  pub same : journal.driver ≡ part.number
  pub answered : DriverAnswered lines part.answers (entries_of (Driver part.number) journal.entries)

-- each driver did, by its place
abbrev pub DriversAnswer : List (List DriverLine) → List DriverPart → List Journal → Type 0
DriversAnswer [] [] [] = Unit {0}
DriversAnswer (lines ∷ more) (part ∷ parts) (journal ∷ journals) = DriverAnswersLines lines part journal × DriversAnswer more parts journals
DriversAnswer _ _ _ = ⊥

-- a store with its lines
abbrev pub lines_of : StoreLines → ℕ × List StoreLine
lines_of lines = (lines.store, lines.lines.items)

-- a store answered its lines, and they made its own entries of each cluster's journal
pub record StoreAnswersLines (journals : List Journal) (lines : ℕ × List StoreLine) (part : StorePart) : Type 0 where
  pub same : part.store ≡ lines.0
  pub entries : ℕ → List Entry
  pub popped : ℕ → List StepMsg
  pub answered : StoreAnswered lines.1 part.answers entries popped
  pub own : All (λ (journal : Journal). entries journal.driver ≡ entries_of (Store part.store) journal.entries) journals

-- All drivers and clients of the setup and all stores have a part, and each answered its own lines, one for each, in their order; a line made entries of its
-- actor's in its driver's journal, and all entries are made by lines
pub record AnswersTasks (drivers : List (List DriverLine)) (clients : List ClientLine) (stores : List (ℕ × List StoreLine)) (run : Run) : Type 0 where
  pub driver_numbers : map (λ (p : DriverPart). p.number) run.drivers ≡ numbers_from 1 run.oracle.setup.drivers
  pub client_numbers : map (λ (p : ClientPart). p.number) run.oracle.clients ≡ numbers_from 1 run.oracle.setup.clients
  pub drivers_answer : DriversAnswer drivers run.drivers run.journals
  pub client_lines : (p : ClientPart) → Contains run.oracle.clients p → map (client_line p.number) p.answers ≡ lines_of_client p.number clients
  pub stores_answer : AllZip (StoreAnswersLines run.journals) stores run.stores
