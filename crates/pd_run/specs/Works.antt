-- What the workers of drivers and stores begin with, and what they have done.
use Rattle.std.specs.Prelude.{◌≡◌, ℕ, ◌-◌, ◌<◌, ◌≤◌, zero, suc, List, [], ◌∷◌, ◌++◌, false, All, Option, get_or, length, map}
use Rattle.std.specs.Arc.{arc_value}
use Rattle.std.specs.List.{AllZip}
use Rattle.std.specs.Option.{is_some}
use Rattle.atomic_table.specs.Seated.{TableId}
use Rattle.pd_types.specs.declared.oracle.Actor.TheVariants.{Driver, Store}
use Rattle.pd_types.specs.declared.step.StepMsg.{StepMsg}
use Rattle.tso_board.specs.declared.board.Board.{Board}
use Rattle.tso_model.specs.Moves.{driver_view}
use Rattle.tso_board.specs.Boards.{setup_of}
use Rattle.tso_driver.specs.Drivers.{IsDriverOf, view_of}
use Rattle.tso_outcome.specs.Drives.{Drove}
use Rattle.pd_types.specs.declared.request.Request.{Request}
use Rattle.sched_api.specs.Benches.{Seats}
use Rattle.pd_state.specs.declared.entry.Entry.{Entry}
use Rattle.pd_state.specs.declared.reply.Reply.{Reply}
use Rattle.pd_shared.specs.Benches.{IsOver}
use Rattle.pd_shared.specs.Kept.{IsEntryOf}
use Rattle.pd_shared.specs.Shares.{ShareValue, SharedValue, gains}
use Rattle.pd_run.specs.Answers.{by_oracle, oracle_answers, taken}
use Rattle.pd_run.specs.Heard.{HeardAll, seats_of}
use Rattle.pd_run.specs.Tasks.{GoesTo}
use Rattle.pd_run.specs.Turns.{DriverAnswered, DriverDid, StoreAnswered, StoreDid, own_at, taken_at}
use Rattle.pd_run.specs.declared.answer.DriverSays.{DriverSays}
use Rattle.pd_run.specs.declared.driving.DriverWork.{DriverWork}
use Rattle.pd_run.specs.declared.driving.Means.{Means}
use Rattle.pd_run.specs.declared.line.DriverLine.{DriverLine}
use Rattle.pd_run.specs.declared.line.DriverTask.{DriverTask}
use Rattle.pd_run.specs.declared.answer.StoreSays.{StoreSays}
use Rattle.pd_run.specs.declared.line.StoreLine.{StoreLine}
use Rattle.pd_run.specs.declared.line.StoreTask.{StoreTask}
use Rattle.pd_run.specs.declared.storing.Port.{Port}
use Rattle.pd_run.specs.declared.storing.StoreWork.{StoreWork}

-- the cluster of this driver is the one that stands in its place, from the first driver's on
pub record IsClusterAt (clusters : List SharedValue) (driver : ℕ) (cluster : SharedValue) : Type 0 where
  pub first : 0 < driver
  pub within : driver ≤ length clusters
  pub there : (any : SharedValue) → get_or clusters (driver - 1) any ≡ cluster

-- DRIVERS

-- a call by a share of its cluster, over the bench: its list gained one entry, of this line and request, with this reply, which was made over the bench
pub record Made {B : Type 0} (seats : B → Seats) (line : ℕ) (request : Request) (reply : Reply) (old new : ShareValue) (bench_old bench_new : Option B) : Type 0 where
  pub entry : Entry
  pub entry_is : IsEntryOf entry old.actor line request reply
  pub gained : new ≡ gains entry old
  pub over : IsOver entry (seats_of seats bench_old) (seats_of seats bench_new)

-- a driver of this board with a share of this cluster
pub record IsAtWork {N B : Type 0} (board : Board) (cluster : SharedValue) (m : Means N B) : Type 0 where
  pub board_is : IsDriverOf m.driver board
  pub cluster_is : m.share.cluster ≡ cluster

-- it is still one, with the same share, and with a bench if it had one
pub record StaysAtWork {N B : Type 0} (board : Board) (old new : Means N B) : Type 0 where
  pub board_is : IsDriverOf new.driver board
  pub cluster_is : new.share.cluster ≡ old.share.cluster
  pub actor_is : new.share.actor ≡ old.share.actor
  pub bench : is_some new.bench ≡ is_some old.bench

-- a line was answered: its share gained the entries that the line made, which were made over its bench, and it made the calls at the oracle that are told
pub record LineDone {N B : Type 0} (seats : B → Seats) (line : ℕ) (task : DriverTask) (says : DriverSays) (old new : Means N B) : Type 0 where
  pub own : List Entry
  pub did : DriverDid line task says own
  pub list : new.share.list ≡ old.share.list ++ own
  pub drove : Drove (view_of old.driver) (by_oracle line says) (view_of new.driver)
  pub heard : HeardAll own (seats_of seats old.bench) (seats_of seats new.bench)

-- the same of a worker, whose answer stands behind those before
pub record LineAnswered {N B : Type 0} (seats : B → Seats) (line : DriverLine) (v w : DriverWork N B) : Type 0 where
  pub says : DriverSays
  pub done : LineDone seats line.number line.task says v.means w.means
  pub answers : w.answers.items ≡ v.answers.items ++ record { line = line.number; says = says } ∷ []

-- it answered these lines, where there was memory, in their order, from its first answer and its first entry on
pub record LinesAnswered {N B : Type 0} (seats : B → Seats) (board : Board) (lines : List DriverLine) (v w : DriverWork N B) : Type 0 where
  pub number : w.number ≡ v.number
  pub stays : StaysAtWork board v.means w.means
  pub drove : w.failed ≡ false → Drove (view_of v.means.driver) (oracle_answers w.answers.items) (view_of w.means.driver)
  pub answered : w.failed ≡ false → DriverAnswered lines w.answers.items w.means.share.list
  pub heard : w.failed ≡ false → HeardAll w.means.share.list (seats_of seats v.means.bench) (seats_of seats w.means.bench)

-- a driver of this board with a share of its own of its cluster that did nothing yet
pub record IsNewDriver {N B : Type 0} (board : Board) (clusters : List SharedValue) (w : DriverWork N B) : Type 0 where
  pub board_is : IsDriverOf w.means.driver board
  pub cluster : IsClusterAt clusters w.number w.means.share.cluster
  pub actor : w.means.share.actor ≡ Driver w.number
  pub view : view_of w.means.driver ≡ driver_view (setup_of board) w.number
  pub list : w.means.share.list ≡ []
  pub answers : w.answers.items ≡ []
  pub fine : w.failed ≡ false

-- it answered its own lines
abbrev pub DriverWorked : {N B : Type 0} → (B → Seats) → Board → DriverWork N B → DriverWork N B → Type 0
DriverWorked seats board v w = LinesAnswered seats board v.lines.items v w

-- STORES

-- a port of this store to this cluster, whose taker is that of its stream
pub record IsPort {N : Type 0} (store : ℕ) (cluster : SharedValue) (p : Port N) : Type 0 where
  pub cluster_is : p.share.cluster ≡ cluster
  pub actor_is : p.share.actor ≡ Store store
  pub stream_is : p.taker.stream ≡ arc_value p.stream

-- a port of this store to each of these clusters
abbrev pub ArePorts : {N : Type 0} → ℕ → List SharedValue → List (Port N) → Type 0
ArePorts {N} store clusters ports = AllZip (IsPort {N = N} store) clusters ports

-- the same port, with the same share and the same end of its stream
pub record StaysPort {N : Type 0} (old new : Port N) : Type 0 where
  pub cluster_is : new.share.cluster ≡ old.share.cluster
  pub actor_is : new.share.actor ≡ old.share.actor
  pub taker_is : new.taker.stream ≡ old.taker.stream
  pub stream_is : new.taker.stream ≡ arc_value new.stream

-- a line was answered by a port: its share gained the entries that the line made, and its taker the step that was taken
pub record PortDone {N : Type 0} (line : ℕ) (task : StoreTask) (says : StoreSays) (old new : Port N) : Type 0 where
  pub own : List Entry
  pub did : StoreDid line task says own
  pub list : new.share.list ≡ old.share.list ++ own
  pub popped : new.taker.list ≡ old.taker.list ++ taken says

-- the list that the port to this driver's cluster has, none where there is no port to it; the first port is the one to the first driver's
abbrev pub listed_at : {N X : Type 0} → (Port N → List X) → List (Port N) → ℕ → List X
listed_at list [] driver = []
listed_at list (p ∷ ports) zero = []
listed_at list (p ∷ ports) (suc zero) = list p
listed_at list (p ∷ ports) (suc (suc d)) = listed_at list ports (suc d)

-- the entries that were made by the port to this driver's cluster
abbrev pub made_at : {N : Type 0} → List (Port N) → ℕ → List Entry
made_at {N} ports driver = listed_at (λ (p : Port N). p.share.list) ports driver

-- the steps that were popped by the port to this driver's cluster
abbrev pub popped_at : {N : Type 0} → List (Port N) → ℕ → List StepMsg
popped_at {N} ports driver = listed_at (λ (p : Port N). p.taker.list) ports driver

-- which streams the ports pop
abbrev pub streams_at : {N : Type 0} → List (Port N) → List TableId
streams_at {N} ports = map (λ (p : Port N). p.taker.stream) ports

-- a line was answered: by the port to the cluster to which it goes, and by no other; the answer stands behind those before
pub record StoreLineAnswered {N : Type 0} (line : StoreLine) (v w : StoreWork N) : Type 0 where
  pub says : StoreSays
  pub own : List Entry
  pub did : StoreDid line.number line.task says own
  pub made : (driver : ℕ) → made_at w.ports.items driver ≡ made_at v.ports.items driver ++ own_at driver (record { line = line; says = says; own = own })
  pub popped : (driver : ℕ) → popped_at w.ports.items driver ≡ popped_at v.ports.items driver ++ taken_at driver (record { line = line; says = says; own = own })
  pub answers : w.answers.items ≡ v.answers.items ++ record { line = line.number; driver = line.driver; says = says } ∷ []

-- nothing was called by these ports, and nothing popped
pub record HasDoneNothing {N : Type 0} (ports : List (Port N)) : Type 0 where
  pub made : (driver : ℕ) → made_at ports driver ≡ []
  pub popped : (driver : ℕ) → popped_at ports driver ≡ []

-- it answered these lines, where there was memory, in their order, from its first answer on, and they made the entries of its shares, and took what its takers
-- have popped
pub record StoreLinesAnswered {N : Type 0} (clusters : List SharedValue) (lines : List StoreLine) (v w : StoreWork N) : Type 0 where
  pub store : w.store ≡ v.store
  pub ports : ArePorts v.store clusters w.ports.items
  pub streams : streams_at w.ports.items ≡ streams_at v.ports.items
  pub answered : w.failed ≡ false → StoreAnswered lines w.answers.items (made_at w.ports.items) (popped_at w.ports.items)

-- a store with a port to each of these clusters that did nothing yet, and whose lines go to these clusters
pub record IsNewStore {N : Type 0} (clusters : List SharedValue) (w : StoreWork N) : Type 0 where
  pub ports : ArePorts w.store clusters w.ports.items
  pub none : HasDoneNothing w.ports.items
  pub lines : All (GoesTo (length clusters)) w.lines.items
  pub answers : w.answers.items ≡ []
  pub fine : w.failed ≡ false

-- it answered its own lines
abbrev pub StoreWorked : {N : Type 0} → List SharedValue → StoreWork N → StoreWork N → Type 0
StoreWorked clusters v w = StoreLinesAnswered clusters v.lines.items v w
