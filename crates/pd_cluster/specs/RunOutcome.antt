-- What `run` may answer to a script, and its headlines. The threads' schedule is free, so a script has many outcomes; each is that of a lawful run (pd_run,
-- `IsLawful`).
use Rattle.std.specs.Prelude.{◌≡◌, ◌⊎◌, ◌<◌, ◌++◌, ℕ, List, [], ◌∷◌, All, flat_map, map}
use Rattle.pd_types.specs.declared.oracle.Window.{Window}
use Rattle.pd_script.specs.declared.script.Script.{Script}
use Rattle.sched_api.specs.Benches.{Seats}
use Rattle.sched_api.specs.declared.scheduler.Said.{Said as Heeded}
use Rattle.tso_board.specs.declared.ledger.Ledger.{Ledger}
use Rattle.tso_board.specs.Crews.{ledger_batches, ledger_windows}
use Rattle.tso_model.specs.OneHistory.{LiesInOne}
use Rattle.tso_outcome.specs.Runs.{all_got}
use Rattle.tso_outcome.specs.Safe.{IsSafeRun}
use Rattle.pd_run.specs.declared.answer.DriverAnswer.{DriverAnswer}
use Rattle.pd_run.specs.Heard.{AreHeard}
use Rattle.pd_run.specs.Runs.{DriverPart, IsLawful, Journal, Run}
use Rattle.pd_cluster.specs.RunLines.{AnswersScript}
use Rattle.pd_cluster.specs.RunText.{driver_said, printed_windows, run_text}
use Rattle.pd_cluster.specs.Sent.{HasSafeSteps}
use Rattle.pd_cluster.specs.Talks.{Benches, heeded_by}

-- A lawful run of the script over these benches: each driver, each client and each store answered its own lines, and over each driver's bench the driver's own
-- entries of its cluster's journal were made, in their order
pub record RunsOver (benches : Benches) (script : Script) : Type 0 where
  pub run : Run
  pub answers : AnswersScript script run
  pub lawful : IsLawful run
  pub heard : AreHeard 1 (map (λ (journal : Journal). journal.entries) run.journals) benches.old benches.new

-- the text is that of such a run
pub record TellsRun (benches : Benches) (script : Script) (text : List ℕ) : Type 0 where
  pub ran : RunsOver benches script
  pub told : text ≡ run_text ran.run

-- the same of a run whose windows and batches are those of this ledger
pub record TellsLedger (benches : Benches) (script : Script) (ledger : Ledger) (text : List ℕ) : Type 0 where
  pub tells : TellsRun benches script text
  pub windows : tells.ran.run.oracle.windows ≡ ledger_windows ledger
  pub batches : tells.ran.run.oracle.batches ≡ ledger_batches ledger

-- Want of memory in a run: no bench was lent to a driver yet, or all are gone with the drivers
abbrev pub AreLost : Benches → Type 0
AreLost benches = (benches.new ≡ benches.old) ⊎ (benches.new ≡ [])

-- The headline: each driver, each client and each store answered its own lines; their text is written in this way; and the run grants no timestamp twice, each
-- batch inside a window that is printed, and each printed window of some length
pub record RunsSafely (script : Script) (Writes : List ℕ → Type 0) : Type 0 where
  pub run : Run
  pub lines : AnswersScript script run
  pub printed : Writes (run_text run)
  pub safe : IsSafeRun run.oracle
  pub inside : All (LiesInOne (printed_windows run.oracle.windows)) (all_got run.oracle.clients)
  pub saved : All (λ (w : Window). w.lo < w.hi) (printed_windows run.oracle.windows)

-- The headline of placement steps: each driver, each client and each store answered its own lines; their text is written in this way; and the steps in it are safe
pub record RunsSafeSteps (script : Script) (Writes : List ℕ → Type 0) : Type 0 where
  pub run : Run
  pub lines : AnswersScript script run
  pub printed : Writes (run_text run)
  pub safe : HasSafeSteps run

-- what a driver's answers tell that its schedulers said, in order
abbrev pub heeded_in : List DriverAnswer → List Heeded
heeded_in answers = flat_map (λ (a : DriverAnswer). heeded_by (driver_said a.says)) answers

-- What the drivers' benches said, the first driver's, the second one's, and so on, grew by just what these drivers' answers tell. A driver without a bench tells
-- nothing, and a bench without a driver stays
abbrev pub PartsHeed : List DriverPart → List Seats → List Seats → Type 0
PartsHeed [] [] [] = Unit {0}
PartsHeed [] [] (other ∷ new) = ⊥
PartsHeed [] (one ∷ old) [] = ⊥
PartsHeed [] (one ∷ old) (other ∷ new) = (other ≡ one) × PartsHeed [] old new
PartsHeed (part ∷ parts) [] [] = (heeded_in part.answers ≡ []) × PartsHeed parts [] []
PartsHeed (part ∷ parts) [] (other ∷ new) = ⊥
PartsHeed (part ∷ parts) (one ∷ old) [] = ⊥
PartsHeed (part ∷ parts) (one ∷ old) (other ∷ new) = (other.said ≡ one.said ++ heeded_in part.answers) × PartsHeed parts old new

-- Each driver, each client and each store answered its own lines; their text is written in this way; and the proposals in a driver's answers are, in order, what
-- its bench said in this run
pub record RunsHeeded (benches : Benches) (script : Script) (Writes : List ℕ → Type 0) : Type 0 where
  pub run : Run
  pub lines : AnswersScript script run
  pub printed : Writes (run_text run)
  pub heeded : PartsHeed run.drivers benches.old benches.new
