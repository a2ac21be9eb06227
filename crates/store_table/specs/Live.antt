-- When a store is live and when it is usable (PD documentation, "Store states": Up, Disconnected, Down, Offline, Tombstone).
-- A moment is in milliseconds. A store that sent no heartbeat in this term isn't live.
use Rattle.std.specs.Prelude.{◌≡◌, ◌≢◌, ℕ, ◌+◌, ◌≤◌, nat_le, Bool, true, false, ◌&&◌, if◌then◌else◌, max, Option, Some, None, IsSomeAnd}
use Rattle.pd_types.specs.declared.store.StoreState.{StoreState}
use Rattle.pd_types.specs.declared.store.StoreState.TheVariants as states
use Rattle.store_table.specs.declared.entry.TheConstants.{LIVE_MS, USABLE_MS}
use Rattle.store_table.specs.declared.entry.StoreEntry.{StoreEntry}
use Rattle.store_table.specs.declared.names.StateName.{StateName}
use Rattle.store_table.specs.declared.names.StateName.TheVariants as names

-- the later of a moment and the last heartbeat, where there is one
abbrev pub later : Option ℕ → ℕ → ℕ
later None moment = moment
later (Some beat) moment = max beat moment

-- the store is Up or Offline, and its last heartbeat came at most 20 seconds before `now`
pub record IsLive (entry : StoreEntry) (now : ℕ) : Type 0 where
  pub kept : entry.store.state ≢ states.Tombstone
  pub recent : IsSomeAnd entry.beat (λ beat. now ≤ beat + LIVE_MS)

-- the store is Up, and at most 30 minutes passed since its term began or it sent its last heartbeat
pub record IsUsable (entry : StoreEntry) (now : ℕ) : Type 0 where
  pub up : entry.store.state ≡ states.Up
  pub recent : now ≤ later entry.beat entry.began + USABLE_MS

-- the state is Up
abbrev pub is_up : StoreState → Bool
is_up states.Up = true
is_up states.Offline = false
is_up states.Tombstone = false

-- the state isn't Tombstone
abbrev pub is_kept : StoreState → Bool
is_kept states.Up = true
is_kept states.Offline = true
is_kept states.Tombstone = false

-- there is a heartbeat, at most 20 seconds old
abbrev pub heard_since : Option ℕ → ℕ → Bool
heard_since None now = false
heard_since (Some beat) now = nat_le now (beat + LIVE_MS)

-- the test of `IsLive`
abbrev pub live_test : StoreEntry → ℕ → Bool
live_test entry now = heard_since entry.beat now && is_kept entry.store.state

-- the test of `IsUsable`
abbrev pub usable_test : StoreEntry → ℕ → Bool
usable_test entry now = is_up entry.store.state && nat_le now (later entry.beat entry.began + USABLE_MS)

-- an Up store is Down where it isn't usable, Disconnected where it is usable and not live
abbrev pub name_of_up : Bool → Bool → StateName
name_of_up usable live = if usable then (if live then names.Up else names.Disconnected) else names.Down

-- Offline and Tombstone are named by the state alone
abbrev pub name_in : StoreState → Bool → Bool → StateName
name_in states.Up usable live = name_of_up usable live
name_in states.Offline usable live = names.Offline
name_in states.Tombstone usable live = names.Tombstone

-- how pd-ctl names the store's state at a moment
abbrev pub state_name : StoreEntry → ℕ → StateName
state_name entry now = name_in entry.store.state (usable_test entry now) (live_test entry now)
