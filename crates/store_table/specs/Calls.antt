-- What the calls on stores do, and why they refuse (PD documentation, "Store states"; pd-ctl, `store delete`).
use Rattle.std.specs.Prelude.{◌≡◌, ℕ, nat_le, if◌then◌else◌, List, length, Option, Some, None, ⊤}
use Rattle.pd_types.specs.declared.store.StoreState.{StoreState}
use Rattle.pd_types.specs.declared.store.StoreState.TheVariants as states
use Rattle.pd_types.specs.declared.store.StoreRec.{StoreRec}
use Rattle.store_table.specs.declared.table.TheConstants.{MOST_STORES}
use Rattle.store_table.specs.declared.entry.StoreEntry.{StoreEntry}
use Rattle.store_table.specs.declared.fault.StoreFault.{StoreFault}
use Rattle.store_table.specs.declared.fault.StoreFault.TheVariants as faults
use Rattle.store_table.specs.Live.{later}

-- a store that sent no heartbeat
abbrev pub loaded : StoreRec → ℕ → StoreEntry
loaded rec moment = record { store = rec; began = moment; beat = None }

-- the store with a heartbeat more
abbrev pub heard : ℕ → StoreEntry → StoreEntry
heard moment entry = record entry { beat = Some (later entry.beat moment) }

-- the store with another state
abbrev pub in_state : StoreState → StoreEntry → StoreEntry
in_state state entry = record entry { store = record entry.store { state = state } }

-- a known store's record with a heartbeat: its state and the beginning of its term stay
abbrev pub answered : StoreRec → ℕ → Option StoreEntry → StoreEntry
answered rec moment None = record { store = rec; began = moment; beat = Some moment }
answered rec moment (Some entry) =
    record { store = record rec { state = entry.store.state }; began = entry.began; beat = Some (later entry.beat moment) }

-- no store more than 256 is taken
abbrev pub full_refusal : List StoreEntry → Option StoreFault
full_refusal entries = if nat_le MOST_STORES (length entries) then Some faults.Limit else None

-- of taking a store in, by its known state
abbrev pub load_refusal : Option StoreState → List StoreEntry → Option StoreFault
load_refusal None entries = full_refusal entries
load_refusal (Some state) entries = None

-- of a record with a heartbeat: a tombstone stays one
abbrev pub put_refusal : Option StoreState → List StoreEntry → Option StoreFault
put_refusal None entries = full_refusal entries
put_refusal (Some states.Up) entries = None
put_refusal (Some states.Offline) entries = None
put_refusal (Some states.Tombstone) entries = Some faults.Tombstone

-- of a heartbeat, and of making a store Offline
abbrev pub known_refusal : Option StoreState → Option StoreFault
known_refusal None = Some faults.UnknownStore
known_refusal (Some states.Up) = None
known_refusal (Some states.Offline) = None
known_refusal (Some states.Tombstone) = Some faults.Tombstone

-- of making a store a tombstone: only an Offline one becomes one
abbrev pub bury_refusal : Option StoreState → Option StoreFault
bury_refusal None = Some faults.UnknownStore
bury_refusal (Some states.Up) = Some faults.NotOffline
bury_refusal (Some states.Offline) = None
bury_refusal (Some states.Tombstone) = Some faults.NotOffline

-- the fault is the refusal that applies, or want of memory
abbrev pub RefusedBy : Option StoreFault → StoreFault → Type 0
RefusedBy refusal faults.UnknownStore = refusal ≡ Some faults.UnknownStore
RefusedBy refusal faults.Tombstone = refusal ≡ Some faults.Tombstone
RefusedBy refusal faults.NotOffline = refusal ≡ Some faults.NotOffline
RefusedBy refusal faults.Limit = refusal ≡ Some faults.Limit
RefusedBy refusal faults.NoMemory = ⊤
