-- The operators of a term: the last one of each region, and the regions whose operator hasn't ended (PD, the operator
-- controller; pd-ctl, `operator show` and `operator check`).
use Rattle.std.specs.Prelude.{◌≡◌, ℕ, ◌<◌, nat_lt, ◌==◌, not, List, [], ◌∷◌, filter, if◌then◌else◌, is_some, Option, Some, None, slice_get}
use Rattle.std.specs.List.{list_any}
use Rattle.std.specs.Option.{option_map, option_and_then}
use Rattle.std.specs.Ordering.{nat_cmp}
use Rattle.std.specs.FinMap as map
use Rattle.pd_types.specs.declared.region.RegionBeat.{RegionBeat}
use Rattle.store_table.specs.declared.entry.StoreEntry.{StoreEntry}
use Rattle.op_control.specs.declared.operator.Operator.{Operator}
use Rattle.op_control.specs.declared.operator.OpState.{OpState}
use Rattle.op_control.specs.declared.operator.OpState.TheVariants.{Canceled}
use Rattle.op_control.specs.declared.turn.Dispatch.{Dispatch}
use Rattle.op_control.specs.declared.turn.Dispatch.TheVariants as dispatch
use Rattle.op_control.specs.Life.{is_active}
use Rattle.op_control.specs.Turn.{answer_of, turned}

-- the last operator of each region, and the ids of the regions whose operator hasn't ended
pub record Table : Type 0 where
  pub last : map.FinMap nat_cmp Operator
  pub busy : List ℕ

-- the operator, where it hasn't ended
abbrev pub active_by : Option Operator → Option Operator
active_by None = None
active_by (Some op) = if is_active op.state then Some op else None

-- the region's operator that hasn't ended
abbrev pub active_at : Table → ℕ → Option Operator
active_at table region = active_by (map.get table.last region)

-- all ids are greater than the first
abbrev pub IsAbove : ℕ → List ℕ → Type 0
IsAbove least [] = Unit {0}
IsAbove least (one ∷ more) = (least < one) × IsAbove least more

-- each id is below those behind it
abbrev pub AreRising : List ℕ → Type 0
AreRising [] = Unit {0}
AreRising (one ∷ more) = IsAbove one more × AreRising more

-- the listed regions rise, and are just those whose operator hasn't ended
pub record IsListed (table : Table) : Type 0 where
  pub rising : AreRising table.busy
  pub active : (region : ℕ) → list_any (λ one. one == region) table.busy ≡ is_some (active_at table region)

-- the ids without one
abbrev pub without : ℕ → List ℕ → List ℕ
without region busy = filter (λ one. not (one == region)) busy

-- the ids with one more, before the first that is greater
abbrev pub joined : ℕ → List ℕ → List ℕ
joined region [] = region ∷ []
joined region (one ∷ more) = if nat_lt region one then region ∷ (one ∷ more) else one ∷ joined region more

-- the busy regions, once the region's operator is in that state
abbrev pub listed : OpState → ℕ → List ℕ → List ℕ
listed state region busy = if is_active state then busy else without region busy

-- the operators with another state of the region's
abbrev pub with_op : Table → ℕ → Operator → Table
with_op table region op = record { last = map.insert table.last region op; busy = listed op.state region table.busy }

-- the same, for the region's operator
abbrev pub turned_by : Option Operator → Table → RegionBeat → List StoreEntry → ℕ → Table
turned_by None table beat stores now = table
turned_by (Some op) table beat stores now = with_op table beat.region.id (turned op beat stores now)

-- the operators after a heartbeat of a region
abbrev pub dispatched : Table → RegionBeat → List StoreEntry → ℕ → Table
dispatched table beat stores now = turned_by (active_at table beat.region.id) table beat stores now

-- the same, for the region's operator
abbrev pub answered_by : Option Operator → RegionBeat → List StoreEntry → ℕ → Dispatch
answered_by None beat stores now = dispatch.NoOperator
answered_by (Some op) beat stores now = answer_of op beat stores now

-- the answer to a heartbeat of a region
abbrev pub dispatch_answer : Table → RegionBeat → List StoreEntry → ℕ → Dispatch
dispatch_answer table beat stores now = answered_by (active_at table beat.region.id) beat stores now

-- the operator, canceled
abbrev pub cancel : Operator → Operator
cancel op = record op { state = Canceled }

-- the same, for the region's operator
abbrev pub canceled_by : Option Operator → Table → ℕ → Table
canceled_by None table region = table
canceled_by (Some op) table region = with_op table region (cancel op)

-- the operators after that of the region was canceled
abbrev pub canceled : Table → ℕ → Table
canceled table region = canceled_by (active_at table region) table region

-- the state of the region's last operator
abbrev pub state_of : Table → ℕ → Option OpState
state_of table region = option_map (λ op. op.state) (map.get table.last region)

-- the operator that hasn't ended at a place by rising region
abbrev pub op_at : Table → ℕ → Option Operator
op_at table place = option_and_then (λ region. map.get table.last region) (slice_get table.busy place)
