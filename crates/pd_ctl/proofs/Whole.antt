-- The tree of a report has no float.
use Rattle.std.proofs.Common.{ℕ, ◌≡◌, refl, List, [], ◌∷◌, map, false, Option, Some, None, nat_eq}
use Rattle.std.specs.List.{find}
use Rattle.region_tree.specs.Ranges.{holds}
use Rattle.store_table.specs.Entries.{entry_at}
use Rattle.op_control.specs.Table.{state_of}
use Rattle.serde_json.specs.Data.{Data, string}
use Rattle.serde_json.specs.View.{items_of}
use Rattle.serde_json.specs.Written.{has_float, items_have_float}
use Rattle.pd_types.specs.declared.region.RegionBeat.{RegionBeat}
use Rattle.store_table.specs.declared.entry.StoreEntry.{StoreEntry}
use Rattle.op_control.specs.declared.operator.Operator.{Operator}
use Rattle.op_control.specs.declared.operator.OpState.{OpState}
use Rattle.pd_ctl.specs.declared.command.Command.{Command}
use Rattle.pd_ctl.specs.declared.command.Command.TheVariants.{Stores, Store, StoreDelete, StoreLimit, Region, RegionKey, OperatorShow, OperatorAdd, OperatorRemove, OperatorCheck, SchedulerShow, SchedulerRemove, LeaderShow, LeaderResign, Tso}
use Rattle.pd_ctl.specs.declared.parts.Parts.{Parts}
use Rattle.pd_ctl.specs.Trees.{label_tree, operator_tree, peer_tree, region_tree, step_tree}
use Rattle.pd_ctl.specs.Reports.{check_report, entry_tree, region_report, report_of, shown, store_report}

-- a list of values without floats
all_whole : {X : Type 0} (tree : X → Data) → ((x : X) → has_float (tree x) ≡ false) → (xs : List X) → items_have_float (items_of (map tree xs)) ≡ false
all_whole tree each [] = refl
all_whole tree each (x ∷ xs) = rw (each x) (all_whole tree each xs)

entry_whole : (held : List RegionBeat) (now : ℕ) (entry : StoreEntry) → has_float (entry_tree held now entry) ≡ false
entry_whole held now entry = rw (all_whole label_tree (λ label. refl) entry.store.labels) refl

region_whole : (beat : RegionBeat) → has_float (region_tree beat) ≡ false
region_whole beat = rw (all_whole peer_tree (λ peer. refl) beat.region.peers) refl

operator_whole : (op : Operator) → has_float (operator_tree op) ≡ false
operator_whole op = rw (all_whole step_tree (λ step. refl) op.steps) refl

store_whole : (held : List RegionBeat) (now : ℕ) (entry : Option StoreEntry) → has_float (store_report entry held now) ≡ false
store_whole held now None = refl
store_whole held now (Some entry) = entry_whole held now entry

held_whole : (beat : Option RegionBeat) → has_float (region_report beat) ≡ false
held_whole None = refl
held_whole (Some beat) = region_whole beat

check_whole : (region : ℕ) (state : Option OpState) → has_float (check_report region state) ≡ false
check_whole region None = refl
check_whole region (Some state) = refl

-- the report of a command that has one
tree_whole : (tree : Data) (told : Data) → Some tree ≡ Some told → has_float tree ≡ false → has_float told ≡ false
tree_whole tree told same whole = cc (same, whole)

pub report_whole : (command : Command) (parts : Parts) (told : Data) → report_of command parts ≡ Some told → has_float told ≡ false
report_whole Stores parts told is = tree_whole _ told is (rw (all_whole (entry_tree parts.standing.now parts.clock) (entry_whole parts.standing.now parts.clock) parts.stores.now) refl)
report_whole (Store id) parts told is = tree_whole _ told is (store_whole parts.standing.now parts.clock (entry_at id parts.stores.now))
report_whole (StoreDelete id) parts told is = absurd (cc is)
report_whole (StoreLimit id rate kind) parts told is = absurd (cc is)
report_whole (Region id) parts told is = tree_whole _ told is (held_whole (find (λ beat. nat_eq beat.region.id id) parts.standing.now))
report_whole (RegionKey key) parts told is = tree_whole _ told is (held_whole (find (λ beat. holds beat key) parts.standing.now))
report_whole OperatorShow parts told is = tree_whole _ told is (rw (all_whole operator_tree operator_whole (shown parts.operators.now)) refl)
report_whole (OperatorAdd region wish) parts told is = absurd (cc is)
report_whole (OperatorRemove region) parts told is = absurd (cc is)
report_whole (OperatorCheck region) parts told is = tree_whole _ told is (check_whole region (state_of parts.operators.now region))
report_whole SchedulerShow parts told is = tree_whole _ told is (rw (all_whole string (λ name. refl) parts.names.now) refl)
report_whole (SchedulerRemove name) parts told is = absurd (cc is)
report_whole LeaderShow parts told is = tree_whole _ told is refl
report_whole LeaderResign parts told is = absurd (cc is)
report_whole (Tso ts) parts told is = tree_whole _ told is refl
