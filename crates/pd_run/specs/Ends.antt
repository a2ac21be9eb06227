-- What is known of a cluster once it is closed, beside what the stores did.
use Rattle.std.specs.Prelude.{◌≡◌, ℕ, ◌+◌, ◌<◌, List, [], ◌∷◌, ◌++◌, get_or, length, false, zip, All, Contains, Option, Some, None, map, reverse}
use Rattle.atomic_table.specs.Seated.{TableId}
use mathlib.Core.List.{IsPrefix}
use Rattle.pd_turn.specs.Turns.{TurnValue}
use Rattle.pd_types.specs.declared.oracle.Actor.TheVariants.{Driver, Store}
use Rattle.meta_store.specs.Seats.{SeatValue}
use Rattle.pd_state.specs.Clusters.{ClusterValue}
use Rattle.pd_state.specs.declared.entry.Entry.{Entry}
use Rattle.pd_state.specs.Legal.{IsLegal}
use Rattle.pd_shared.specs.Kept.{IsKept, answers_in}
use Rattle.pd_shared.specs.Names.{StreamName, stream_name}
use Rattle.pd_shared.specs.Outlets.{OutletValue}
use Rattle.pd_shared.specs.Shares.{IsInJournal, ShareValue, SharedValue, actor_of, actors_of, entries_of}
use Rattle.step_stream.specs.Streams.{TakerValue}
use Rattle.pd_run.specs.Crews.{AreNamed}
use Rattle.pd_run.specs.Runs.{ArePopped, DriverPart, StorePart}
use Rattle.pd_run.specs.Works.{ArePorts, IsPort, made_at, popped_at, streams_at}
use Rattle.pd_run.specs.declared.driving.DriverWork.{DriverWork}
use Rattle.pd_run.specs.declared.end.DriverParts.{DriverParts}
use Rattle.pd_run.specs.declared.storing.Port.{Port}
use Rattle.pd_run.specs.declared.storing.StoreWork.{StoreWork}

-- a store that lost its first port, and nothing else
pub record LostPort {N : Type 0} (port : Port N) (old new : StoreWork N) : Type 0 where
  pub store : new.store ≡ old.store
  pub ports : old.ports.items ≡ port ∷ new.ports.items
  pub answers : new.answers ≡ old.answers
  pub failed : new.failed ≡ old.failed

-- each store lost its first port, which is one of these
abbrev pub LostPorts : {N : Type 0} → List (Port N) → List (StoreWork N) → List (StoreWork N) → Type 0
LostPorts [] [] [] = Unit {0}
LostPorts (p ∷ ports) (old ∷ olds) (new ∷ news) = LostPort p old new × LostPorts ports olds news
LostPorts _ _ _ = ⊥

-- what was taken of the stores for one cluster: its shares, the driver's first, and with each store the end of its stream that popped
pub record EndsOf {N : Type 0} (share : ShareValue) (olds news : List (StoreWork N)) (shares : List ShareValue) (takers : List (ℕ × TakerValue)) : Type 0 where
  pub ports : List (Port N)
  pub lost : LostPorts ports olds news
  pub shares_are : shares ≡ share ∷ map (λ (p : Port N). p.share) ports
  pub takers_are : takers ≡ zip (map (λ (w : StoreWork N). w.store) olds) (map (λ (p : Port N). p.taker) ports)

-- there is an outlet to this store, of this stream
abbrev pub HasOutlet : List OutletValue → ℕ → TableId → Type 0
HasOutlet outlets store stream = (outlet : OutletValue) × Contains outlets outlet × (outlet.store ≡ store) × (outlet.stream ≡ stream)

-- the outlet in this place is the one to this store
pub record IsPlaceOf (outlets : List OutletValue) (store place : ℕ) : Type 0 where
  pub within : place < length outlets
  pub there : (any : OutletValue) → (get_or outlets place any).store ≡ store

-- what a store popped stands, in order, at the front of what was pushed into the outlet to it
abbrev pub IsSettled : List OutletValue → ℕ × TakerValue → Type 0
IsSettled outlets taker = (outlet : OutletValue) × Contains outlets outlet × (outlet.store ≡ taker.0) × IsPrefix taker.1.list outlet.pushed

-- a shared cluster was closed with these shares, and its streams were settled with these ends: its seat and some outlets are kept with it, each share's list is its
-- actor's entries in the journal, which are all, and what each store popped stands at the front of what was pushed
pub record IsClosing (meta : TurnValue) (streams : List StreamName) (shared : SharedValue) (shares : List ShareValue) (takers : List (ℕ × TakerValue)) (cluster : ClusterValue) (seat : SeatValue) : Type 0 where
  pub outlets : List OutletValue
  pub driver : cluster.driver ≡ shared.driver
  pub alive : cluster.dead ≡ false
  pub kept : IsKept meta streams cluster seat outlets
  pub lists : All (IsInJournal cluster.entries) shares
  pub callers : All (λ (e : Entry). Contains (actors_of shared) e.actor) cluster.entries
  pub settled : All (IsSettled outlets) takers

-- what a store's worker answered
abbrev pub part_of : {N : Type 0} → StoreWork N → StorePart
part_of w = record { store = w.store; answers = w.answers.items }

-- what a driver's worker answered
abbrev pub driver_part_of : {N B : Type 0} → DriverWork N B → DriverPart
driver_part_of w = record { number = w.number; answers = w.answers.items }

-- the bench that a driver hands back, if it had one
abbrev pub lent : {B : Type 0} → Option B → List B
lent None = []
lent (Some bench) = bench ∷ []

-- BEFORE A CLUSTER IS CLOSED

-- the cluster of the driver with this number, which has a share for its driver, by which the driver worked, and one for each of these stores
pub record IsDriverOfCluster {N B : Type 0} (stores : List ℕ) (number : ℕ) (w : DriverWork N B) (cluster : SharedValue) : Type 0 where
  pub number_is : w.number ≡ number
  pub driver : cluster.driver ≡ number
  pub cluster_is : w.means.share.cluster ≡ cluster
  pub actor : w.means.share.actor ≡ Driver number
  pub numbers : cluster.turn.numbers ≡ 0 ∷ stores

-- each of the drivers behind so many others has its cluster, by its place
abbrev pub AreDriversOf : {N B : Type 0} → List ℕ → ℕ → List (DriverWork N B) → List SharedValue → Type 0
AreDriversOf stores before [] [] = Unit {0}
AreDriversOf stores before (w ∷ ws) (cluster ∷ clusters) = IsDriverOfCluster stores (before + 1) w cluster × AreDriversOf stores (before + 1) ws clusters
AreDriversOf stores before _ _ = ⊥

-- a store with a port to each of these clusters, those behind so many others, whose streams have these names
pub record HasPorts {N : Type 0} (names : List StreamName) (before : ℕ) (clusters : List SharedValue) (w : StoreWork N) : Type 0 where
  pub ports : ArePorts w.store clusters w.ports.items
  pub named : AreNamed names (before + 1) w.store (streams_at w.ports.items)

-- the first port of a store is the one to this cluster, and its stream has one of these names
pub record HasPortTo {N : Type 0} (names : List StreamName) (cluster : SharedValue) (w : StoreWork N) : Type 0 where
  pub port : Port N
  pub others : List (Port N)
  pub ports : w.ports.items ≡ port ∷ others
  pub is : IsPort w.store cluster port
  pub named : Contains names (stream_name cluster.driver w.store port.taker.stream)

-- ONCE IT IS CLOSED

-- A driver's cluster that was closed behind the work of these stores: its journal is legal, its seat at the metadata has the answers to its entries; each store's
-- entries and each store's steps are what the store made and popped by its port in this place, counted from one; and no other store has an entry
pub record IsClosed {N : Type 0} (meta : TurnValue) (stores : List (StoreWork N)) (place : ℕ) (cluster : ClusterValue) (seat : SeatValue) : Type 0 where
  pub turn : seat.turn ≡ meta
  pub driver : seat.driver ≡ cluster.driver
  pub legal : IsLegal cluster.driver (reverse cluster.entries)
  pub answers : seat.list ≡ answers_in cluster.entries
  pub callers : All (λ (e : Entry). Contains (map (actor_of cluster.driver) (0 ∷ map (λ (w : StoreWork N). w.store) stores)) e.actor) cluster.entries
  pub made : All (λ (w : StoreWork N). made_at w.ports.items place ≡ entries_of (Store w.store) cluster.entries) stores
  pub popped : All (λ (w : StoreWork N). ArePopped cluster.entries w.store (popped_at w.ports.items place)) stores

-- of a driver: the entries of its share are its own in the journal of its cluster
pub record IsDriversOwn {N B : Type 0} (w : DriverWork N B) (cluster : ClusterValue) : Type 0 where
  pub driver : cluster.driver ≡ w.number
  pub own : w.means.share.list ≡ entries_of (Driver w.number) cluster.entries

-- one more driver's cluster was closed, and its seat at the metadata came back; each store lost its port to it
pub record ClosesOne {N B : Type 0} (meta : TurnValue) (work : DriverWork N B) (old new : DriverParts N B) : Type 0 where
  pub cluster : ClusterValue
  pub seat : SeatValue
  pub clusters_are : new.clusters.items ≡ old.clusters.items ++ cluster ∷ []
  pub seats_are : new.meta.items ≡ old.meta.items ++ seat ∷ []
  pub closed : IsClosed meta old.stores.items 1 cluster seat
  pub own : IsDriversOwn work cluster
  pub ports : List (Port N)
  pub lost : LostPorts ports old.stores.items new.stores.items

-- the clusters of the drivers from this one on were closed behind the work of these stores, each with its seat
abbrev pub AreClosed : {N : Type 0} → TurnValue → List (StoreWork N) → ℕ → List ClusterValue → List SeatValue → Type 0
AreClosed meta stores driver [] [] = Unit {0}
AreClosed meta stores driver (cluster ∷ clusters) (seat ∷ seats) = (cluster.driver ≡ driver) × IsClosed meta stores driver cluster seat × AreClosed meta stores (driver + 1) clusters seats
AreClosed meta stores driver _ _ = ⊥
