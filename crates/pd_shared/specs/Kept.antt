-- What the lock of a cluster keeps.
use Rattle.std.specs.Prelude.{◌≡◌, ◌++◌, ◌∷◌, [], ℕ, List, All, map, reverse, false}
use Rattle.std.specs.List.{flat_map}
use Rattle.pd_turn.specs.Turns.{TurnValue}
use Rattle.pd_types.specs.declared.oracle.Actor.{Actor}
use Rattle.pd_types.specs.declared.oracle.Actor.TheVariants.{Driver, Client, Store}
use Rattle.pd_types.specs.declared.request.Request.{Request}
use Rattle.meta_store.specs.declared.record.MetaAnswer.{MetaAnswer}
use Rattle.meta_store.specs.Seats.{SeatValue}
use Rattle.pd_state.specs.declared.entry.Entry.{Entry}
use Rattle.pd_state.specs.declared.reply.Reply.{Reply}
use Rattle.pd_state.specs.Clusters.{ClusterValue, Replays}
use Rattle.pd_state.specs.Legal.{IsLegal}
use Rattle.sched_api.specs.Benches.{Seats}
use Rattle.pd_shared.specs.Benches.{IsOver}
use Rattle.pd_shared.specs.Names.{StreamName}
use Rattle.pd_shared.specs.Outlets.{AreOutletsOf, IsServed, OutletValue}

-- what the metadata answered to the entries, in its order
abbrev pub answers_in : List Entry → List MetaAnswer
answers_in entries = flat_map (λ (entry : Entry). entry.answers) entries

-- the entry is of this actor, line and request, and has this reply
pub record IsEntryOf (entry : Entry) (actor : Actor) (line : ℕ) (request : Request) (reply : Reply) : Type 0 where
  pub actor_is : entry.actor ≡ actor
  pub line_is : entry.line ≡ line
  pub request_is : entry.request ≡ request
  pub reply_is : entry.reply ≡ reply

-- A cluster with the seat and the outlets that it has, which are those that the names say: its journal is legal and, unless want of memory ended it, replays to
-- its tables; unless want of memory ended it, its driver made no other calls of the metadata than those of the entries, in their order; and into each outlet was
-- pushed what the entries sent to its store, but for what found no room
pub record IsKept (meta : TurnValue) (streams : List StreamName) (cluster : ClusterValue) (seat : SeatValue) (outlets : List OutletValue) : Type 0 where
  pub turn_is : seat.turn ≡ meta
  pub driver_is : seat.driver ≡ cluster.driver
  pub outlets_are : AreOutletsOf streams cluster.driver outlets
  pub legal : IsLegal cluster.driver (reverse cluster.entries)
  pub replays : Replays cluster
  pub answers : cluster.dead ≡ false → seat.list ≡ answers_in cluster.entries
  pub served : All (IsServed cluster.entries) outlets

-- what lies behind the lock
pub record LockedValue : Type 0 where
  pub cluster : ClusterValue
  pub seat : SeatValue
  pub outlets : List OutletValue

-- the number of an actor's share: 0 for the driver, a store's id for the store; a client has none
abbrev pub number_of : Actor → ℕ
number_of (Driver driver) = 0
number_of (Client client) = 0
number_of (Store store) = store

-- each entry with the number of its actor's share
abbrev pub tale_of : List Entry → List (ℕ × Entry)
tale_of entries = map (λ (entry : Entry). (number_of entry.actor, entry)) entries

-- one entry was appended, of this actor, line and request, with this reply; it was made over a bench that was the one and is the other
pub record Appended (old new : List Entry) (bench_old bench_new : Seats) (actor : Actor) (line : ℕ) (request : Request) (reply : Reply) : Type 0 where
  pub entry : Entry
  pub entry_is : IsEntryOf entry actor line request reply
  pub entries_are : new ≡ old ++ entry ∷ []
  pub over : IsOver entry bench_old bench_new
