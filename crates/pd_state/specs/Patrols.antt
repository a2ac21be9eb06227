-- What a patrol leaves of the operators and of the stores, in words (PD's patrol of the regions; that it buries stores is our own choice).
use Rattle.std.specs.Prelude.{◌≡◌, ◌⊎◌, ℕ, ◌+◌, ◌≤◌, nat_eq, ⊤, Bool, true, false, List, length, codes, filter, All, Some}
use Rattle.std.specs.FinMap as map
use Rattle.std.specs.List.{list_any}
use Rattle.pd_types.specs.declared.store.StoreState.TheVariants as states
use Rattle.store_table.specs.declared.entry.StoreEntry.{StoreEntry}
use Rattle.store_table.specs.Entries.{state_at}
use Rattle.region_tree.specs.Cover.{covers_all}
use Rattle.heartbeat.specs.Counts.{region_count}
use Rattle.op_control.specs.declared.operator.Operator.{Operator}
use Rattle.op_control.specs.declared.adding.AddFault.{AddFault}
use Rattle.op_control.specs.declared.adding.AddFault.TheVariants as faults
use Rattle.op_control.specs.Adding.{refusal_of}
use Rattle.op_control.specs.Table.{Table}
use Rattle.pd_state.specs.Adding.{Around, Planning}
use Rattle.pd_state.specs.Checking.{Burial, Deed, Round, check_op, is_busy, patrol_deed, plans_in}
use Rattle.pd_state.specs.Known.{is_tombstone}
use Rattle.pd_state.specs.Lives.{AreLives}
use Rattle.pd_state.specs.declared.checking.TheConstants.{CHECK_PRIORITY}
use Rattle.pd_state.specs.declared.patrol.Planned.{Planned}

-- one of the plans is this region's
abbrev pub plans_region : ℕ → List Planned → Bool
plans_region region plans = list_any (λ one. nat_eq one.beat.region.id region) plans

-- the region's last operator is one that the checker asked for at this moment
pub record IsChecks (operators : Table) (region now : ℕ) : Type 0 where
  pub op : Operator
  pub last : map.get operators.last region ≡ Some op
  pub kind : op.kind ≡ codes "check"
  pub priority : op.priority ≡ CHECK_PRIORITY
  pub created : op.created ≡ now

-- the fault is a limit: that of a store, or that of all operators
abbrev pub IsLimit : AddFault → Type 0
IsLimit (faults.Limited available needed) = ⊤
IsLimit faults.Limit = ⊤
IsLimit faults.NoRegion = ⊥
IsLimit (faults.EpochMoved kept) = ⊥
IsLimit (faults.Busy priority) = ⊥
IsLimit faults.NoMemory = ⊥

-- What became of a plan: its region had an operator already; it has one by this patrol; a limit refused it as the operators and limits stood at its turn; or
-- the patrol had stopped, since an id was refused
pub data Fate (around : Around) (before : Planning) (round : Round) (one : Planned) : Type 0 where
  had_one : is_busy before one.beat.region.id ≡ true → Fate around before round one
  has_one : IsChecks round.planning.operators one.beat.region.id around.now → Fate around before round one
  at_limit : (turn : Planning) (fault : AddFault) → AreLives before.operators turn.operators → AreLives turn.operators round.planning.operators → refusal_of turn.operators (check_op one.beat one.steps) (Some one.beat) turn.limits around.now ≡ Some fault → IsLimit fault
      → Fate around before round one
  had_stopped : round.stopped ≡ true → Fate around before round one

-- What a patrol leaves of the operators: a region that has one keeps it; what is new of a region's was asked for by its plan; each plan has its fate; no more are
-- counted than there are plans; and where none is counted, operators and limits are as they were
pub record AddsOperators (around : Around) (before : Planning) (round : Round) : Type 0 where
  pub busy : (region : ℕ) → is_busy before region ≡ true → map.get round.planning.operators.last region ≡ map.get before.operators.last region
  pub changed : (region : ℕ) → (map.get round.planning.operators.last region ≡ map.get before.operators.last region) ⊎ ((plans_region region (plans_in around) ≡ true) × IsChecks round.planning.operators region around.now)
  pub each : All (Fate around before round) (plans_in around)
  pub few : round.added ≤ length (plans_in around)
  pub none : round.added ≡ 0 → (round.planning.operators ≡ before.operators) × (round.planning.limits ≡ before.limits)

-- the store may be buried: it is Offline, no held region has a peer on it, and the held regions leave no key out
pub record MayBeBuried (around : Around) (id : ℕ) : Type 0 where
  pub offline : state_at id around.stores ≡ Some states.Offline
  pub empty : region_count id around.held ≡ 0
  pub covered : covers_all around.held ≡ true

-- it may, and is a Tombstone now
pub record IsBuried (around : Around) (stores : List StoreEntry) (id : ℕ) : Type 0 where
  pub may : MayBeBuried around id
  pub now : state_at id stores ≡ Some states.Tombstone

-- how many of the stores are Tombstones
abbrev pub tombstones : List StoreEntry → ℕ
tombstones stores = length (filter (λ (entry : StoreEntry). is_tombstone entry.store.state) stores)

-- What a patrol leaves of the stores: each keeps its state, or may be buried and is a Tombstone; where no write was refused, all that may be buried are; and
-- just the new Tombstones are counted
pub record BuriesStores (around : Around) (burial : Burial) : Type 0 where
  pub kept : (id : ℕ) → (state_at id burial.stores ≡ state_at id around.stores) ⊎ IsBuried around burial.stores id
  pub all : burial.stopped ≡ false → (id : ℕ) → MayBeBuried around id → state_at id burial.stores ≡ Some states.Tombstone
  pub count : tombstones burial.stores ≡ tombstones around.stores + burial.buried

-- a patrol adds operators and buries stores, and tells how many: the one whatever comes of the other
pub record Patrols (around : Around) (before : Planning) (deed : Deed) : Type 0 where
  pub round : Round
  pub burial : Burial
  pub adds : AddsOperators around before round
  pub buries : BuriesStores around burial
  pub told : deed ≡ patrol_deed around round burial
