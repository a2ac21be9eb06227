-- All workers of a run: before they begin, and when they have worked.
use Rattle.std.specs.Prelude.{◌≡◌, ℕ, ◌+◌, List, [], ◌∷◌, false, All, Contains, length, map}
use Rattle.std.specs.List.{AllZip}
use Rattle.atomic_table.specs.Seated.{TableId}
use Rattle.pd_turn.specs.Turns.{TurnValue}
use Rattle.tso_model.specs.Moves.{numbers_from, driver_view}
use Rattle.tso_board.specs.declared.board.Board.{Board}
use Rattle.tso_board.specs.Boards.{setup_of}
use Rattle.tso_board.specs.Seats.{IsSeatOf, seat_view}
use Rattle.tso_run.specs.declared.caller.ClientWork.{ClientWork}
use Rattle.tso_run.specs.declared.line.ClientLine.{ClientLine}
use Rattle.tso_run.specs.Works.{ClientWorked, IsNewClient}
use Rattle.sched_api.specs.Benches.{Seats}
use Rattle.meta_store.specs.Seats.{new_seat}
use Rattle.pd_shared.specs.Names.{StreamName, stream_name, streams_of}
use Rattle.pd_shared.specs.Shares.{SharedValue}
use Rattle.pd_run.specs.declared.begin.Start.{Start}
use Rattle.pd_run.specs.declared.begin.Workers.{Workers}
use Rattle.pd_run.specs.declared.driving.DriverWork.{DriverWork}
use Rattle.pd_run.specs.declared.storing.StoreWork.{StoreWork}
use Rattle.pd_run.specs.Pipes.{ArePipesTo, pipe_name}
use Rattle.pd_run.specs.Works.{ArePorts, DriverWorked, HasDoneNothing, IsNewDriver, IsNewStore, StoreWorked, streams_at}

-- BEFORE THEY BEGIN

-- what the driver behind so many others begins with: a new seat at the board and one at the metadata, and a new stream to each of these stores, which are all
-- streams that are listed for it
pub record IsStart {B : Type 0} (board : Board) (meta : TurnValue) (streams : List StreamName) (stores : List ℕ) (before : ℕ) (start : Start B) : Type 0 where
  pub driver : start.driver ≡ before + 1
  pub oracle_is : IsSeatOf start.oracle board
  pub view : seat_view start.oracle ≡ driver_view (setup_of board) (before + 1)
  pub meta_is : start.meta ≡ new_seat meta (before + 1)
  pub pipes : ArePipesTo stores start.pipes.items
  pub listed : streams_of (before + 1) streams ≡ map (pipe_name (before + 1)) start.pipes.items

-- what the drivers behind so many others begin with
abbrev pub AreStarts : {B : Type 0} → Board → TurnValue → List StreamName → List ℕ → ℕ → List (Start B) → Type 0
AreStarts board meta streams stores before [] = Unit {0}
AreStarts board meta streams stores before (start ∷ starts) = IsStart board meta streams stores before start × AreStarts board meta streams stores (before + 1) starts

-- these streams to a store are those of the drivers' clusters, from this driver's on
abbrev pub AreNamed : List StreamName → ℕ → ℕ → List TableId → Type 0
AreNamed names driver store [] = Unit {0}
AreNamed names driver store (stream ∷ streams) = Contains names (stream_name driver store stream) × AreNamed names (driver + 1) store streams

-- a store with a port to each of these clusters, the first ones, whose streams have these names
pub record IsLedStore {N : Type 0} (names : List StreamName) (clusters : List SharedValue) (w : StoreWork N) : Type 0 where
  pub ports : ArePorts w.store clusters w.ports.items
  pub none : HasDoneNothing w.ports.items
  pub named : AreNamed names 1 w.store (streams_at w.ports.items)
  pub answers : w.answers.items ≡ []
  pub fine : w.failed ≡ false

-- these stores, each with a port to each of these clusters
pub record AreLedStores {N : Type 0} (names : List StreamName) (stores : List ℕ) (clusters : List SharedValue) (works : List (StoreWork N)) : Type 0 where
  pub ids : map (λ (w : StoreWork N). w.store) works ≡ stores
  pub each : All (IsLedStore names clusters) works

-- the clusters of the first drivers, each with a share for its driver and one for each of these stores; these drivers, who did nothing yet; and the stores
pub record AreLed {N B : Type 0} (board : Board) (names : List StreamName) (stores : List ℕ) (clusters : List SharedValue) (drivers : List (DriverWork N B)) (works : List (StoreWork N)) : Type 0 where
  pub numbers : map (λ (c : SharedValue). c.driver) clusters ≡ numbers_from 1 (length clusters)
  pub shares : All (λ (c : SharedValue). c.turn.numbers ≡ 0 ∷ stores) clusters
  pub driver_numbers : map (λ (w : DriverWork N B). w.number) drivers ≡ numbers_from 1 (length clusters)
  pub new : All (IsNewDriver board clusters) drivers
  pub led_stores : AreLedStores names stores clusters works

-- a worker for each driver and each client of this board, by rising numbers, a cluster for each driver, and workers of stores, none of whom did anything; the board
-- and the streams have these names
pub record IsReady {N B : Type 0} (name : TableId) (names : List StreamName) (board : Board) (w : Workers N B) : Type 0 where
  pub count : length w.clusters.items ≡ (setup_of board).drivers
  pub led : AreLed board names (map (λ (s : StoreWork N). s.store) w.stores.items) w.clusters.items w.drivers.items w.stores.items
  pub clients : All (IsNewClient name board w.post) w.clients.items
  pub client_numbers : map (λ (c : ClientWork N). c.number) w.clients.items ≡ numbers_from 1 (setup_of board).clients
  pub new : All (IsNewStore w.clusters.items) w.stores.items

-- they are what such workers became by their work on their own lines, and on these of the clients
pub record HaveWorked {N B : Type 0} (seats : B → Seats) (board : Board) (clients : List ClientLine) (first w : Workers N B) : Type 0 where
  pub post : w.post ≡ first.post
  pub clusters : w.clusters.items ≡ first.clusters.items
  pub drove : AllZip (DriverWorked seats board) first.drivers.items w.drivers.items
  pub called : AllZip (ClientWorked board w.post clients) first.clients.items w.clients.items
  pub acted : AllZip (StoreWorked first.clusters.items) first.stores.items w.stores.items

-- workers that came from such workers, which began over this board and these streams, by all work on their lines
pub record CameFrom {N B : Type 0} (name : TableId) (names : List StreamName) (seats : B → Seats) (board : Board) (clients : List ClientLine) (first w : Workers N B) : Type 0 where
  pub ready : IsReady name names board first
  pub worked : HaveWorked seats board clients first w
