-- The report of each command that only reads (pd-ctl), by a driver's tables.
use Rattle.std.specs.Prelude.{ℕ, nat_eq, Bool, true, false, List, length, map, codes, Option, Some, None}
use Rattle.std.specs.List.{filter_map, find}
use Rattle.serde_json.specs.Data.{Data, string, array, object, member, no_members}
use Rattle.serde_json.specs.View.{items_of}
use Rattle.pd_types.specs.Timestamp.{physical, logical}
use Rattle.pd_types.specs.declared.region.RegionBeat.{RegionBeat}
use Rattle.region_tree.specs.Ranges.{holds}
use Rattle.store_table.specs.Entries.{entry_at}
use Rattle.store_table.specs.Live.{state_name}
use Rattle.store_table.specs.declared.entry.StoreEntry.{StoreEntry}
use Rattle.op_control.specs.Table.{Table, active_at, state_of}
use Rattle.op_control.specs.declared.operator.Operator.{Operator}
use Rattle.op_control.specs.declared.operator.OpState.{OpState}
use Rattle.pd_ctl.specs.Trees.{count, fault_tree, operator_tree, region_tree, single, store_tree}
use Rattle.op_control.specs.StateText.{op_state_text}
use Rattle.pd_ctl.specs.declared.command.Command.{Command}
use Rattle.pd_ctl.specs.declared.command.Command.TheVariants.{Stores, Store, StoreDelete, StoreLimit, Region, RegionKey, OperatorShow, OperatorAdd, OperatorRemove, OperatorCheck, SchedulerShow, SchedulerRemove, LeaderShow, LeaderResign, Tso}
use Rattle.pd_ctl.specs.declared.parts.Parts.{Parts}

-- a known store as it stands at a moment, beside these regions
abbrev pub entry_tree : List RegionBeat → ℕ → StoreEntry → Data
entry_tree held now entry = store_tree entry.store (state_name entry now) held

-- `store`: all stores by rising id
abbrev pub stores_report : List StoreEntry → List RegionBeat → ℕ → Data
stores_report stores held now =
    object (member (codes "count") (count (length stores)) (member (codes "stores") (array (items_of (map (entry_tree held now) stores))) no_members))

-- `store ID`
abbrev pub store_report : Option StoreEntry → List RegionBeat → ℕ → Data
store_report None held now = fault_tree (codes "unknown-store")
store_report (Some entry) held now = entry_tree held now entry

-- `region ID` and `region key KEY`
abbrev pub region_report : Option RegionBeat → Data
region_report None = fault_tree (codes "no-region")
region_report (Some beat) = region_tree beat

-- the operators that haven't ended, by rising region
abbrev pub shown : Table → List Operator
shown table = filter_map (active_at table) table.busy

-- `operator show`
abbrev pub operators_report : Table → Data
operators_report table = single (codes "operators") (array (items_of (map operator_tree (shown table))))

-- `operator check REGION`: the state of the region's last operator in this term
abbrev pub check_report : ℕ → Option OpState → Data
check_report region None = fault_tree (codes "absent")
check_report region (Some state) = object (member (codes "region") (count region) (member (codes "state") (string (op_state_text state)) no_members))

-- `scheduler show`
abbrev pub schedulers_report : List (List ℕ) → Data
schedulers_report names = single (codes "schedulers") (array (items_of (map string names)))

-- `member leader show`
abbrev pub leader_report : ℕ → ℕ → Data
leader_report driver term = object (member (codes "driver") (count driver) (member (codes "term") (count term) no_members))

-- `tso TIMESTAMP`
abbrev pub tso_report : ℕ → Data
tso_report ts = object (member (codes "logical") (count (logical ts)) (member (codes "physical") (count (physical ts)) no_members))

-- the report of a command that only reads; the others have none
abbrev pub report_of : Command → Parts → Option Data
report_of Stores parts = Some (stores_report parts.stores.now parts.standing.now parts.clock)
report_of (Store id) parts = Some (store_report (entry_at id parts.stores.now) parts.standing.now parts.clock)
report_of (StoreDelete id) parts = None
report_of (StoreLimit id rate kind) parts = None
report_of (Region id) parts = Some (region_report (find (λ beat. nat_eq beat.region.id id) parts.standing.now))
report_of (RegionKey key) parts = Some (region_report (find (λ beat. holds beat key) parts.standing.now))
report_of OperatorShow parts = Some (operators_report parts.operators.now)
report_of (OperatorAdd region wish) parts = None
report_of (OperatorRemove region) parts = None
report_of (OperatorCheck region) parts = Some (check_report region (state_of parts.operators.now region))
report_of SchedulerShow parts = Some (schedulers_report parts.names.now)
report_of (SchedulerRemove name) parts = None
report_of LeaderShow parts = Some (leader_report parts.driver parts.term)
report_of LeaderResign parts = None
report_of (Tso ts) parts = Some (tso_report ts)

-- the command only reads
abbrev pub only_reads : Command → Bool
only_reads Stores = true
only_reads (Store id) = true
only_reads (StoreDelete id) = false
only_reads (StoreLimit id rate kind) = false
only_reads (Region id) = true
only_reads (RegionKey key) = true
only_reads OperatorShow = true
only_reads (OperatorAdd region wish) = false
only_reads (OperatorRemove region) = false
only_reads (OperatorCheck region) = true
only_reads SchedulerShow = true
only_reads (SchedulerRemove name) = false
only_reads LeaderShow = true
only_reads LeaderResign = false
only_reads (Tso ts) = true
