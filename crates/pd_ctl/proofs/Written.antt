-- Reports byte by byte.
use Rattle.std.proofs.Common.{◌≡◌, ◌∙◌, sym, refl, ℕ, List, [], ◌∷◌, ◌++◌, map, codes, true, false, append_assoc, append-nil, length, ◌%◌, ◌/◌, Some}
use Rattle.std.specs.Fmt.{decimal}
use Rattle.std.specs.Prelude.{is_some}
use Rattle.hex.specs.Hex.{encode_lower}
use Rattle.json.specs.Print.{quoted, escape_byte}
use Rattle.serde_json.specs.Data.{Data, string}
use Rattle.serde_json.specs.View.{items_of}
use Rattle.serde_json.specs.Written.{compact_text, items_text}
use Rattle.pd_types.specs.declared.region.Peer.{Peer}
use Rattle.pd_types.specs.declared.region.RegionBeat.{RegionBeat}
use Rattle.pd_types.specs.declared.store.Label.{Label}
use Rattle.pd_types.specs.declared.store.StoreRec.{StoreRec}
use Rattle.heartbeat.specs.Counts.{leader_count, region_count}
use Rattle.op_control.specs.Table.{Table}
use Rattle.op_control.specs.declared.operator.Operator.{Operator}
use Rattle.op_control.specs.declared.operator.OpState.{OpState}
use Rattle.store_table.specs.Live.{state_name}
use Rattle.store_table.specs.StateText.{state_text}
use Rattle.store_table.specs.declared.entry.StoreEntry.{StoreEntry}
use Rattle.store_table.specs.declared.names.StateName.{StateName}
use Rattle.pd_ctl.specs.declared.command.Command.{Command}
use Rattle.pd_ctl.specs.declared.command.Command.TheVariants.{Stores, Store, StoreDelete, StoreLimit, Region, RegionKey, OperatorShow, OperatorAdd, OperatorRemove, OperatorCheck, SchedulerShow, SchedulerRemove, LeaderShow, LeaderResign, Tso}
use Rattle.pd_ctl.specs.declared.parts.Parts.{Parts}
use Rattle.pd_ctl.specs.Reports.{check_report, entry_tree, leader_report, only_reads, operators_report, report_of, schedulers_report, shown, stores_report, tso_report}
use Rattle.pd_ctl.specs.Texts.{further, label_text, listed, separated, operator_text, peer_text, quoted_step, region_text, store_text}
use Rattle.pd_ctl.specs.Trees.{fault_tree, label_tree, operator_tree, peer_tree, region_tree, role_text, step_tree, store_tree}
use Rattle.op_control.specs.StateText.{op_state_text}

further_is : {X : Type 0} (tree : X → Data) (text : X → List ℕ) → ((x : X) → compact_text (tree x) ≡ text x) → (xs : List X) → items_text true (items_of (map tree xs)) ≡ further text xs ++ codes "]"
further_is {X} tree text each [] = refl
further_is {X} tree text each (x ∷ xs) = rw (each x, further_is tree text each xs) (simp append_assoc)

separated_is : {X : Type 0} (tree : X → Data) (text : X → List ℕ) → ((x : X) → compact_text (tree x) ≡ text x) → (xs : List X) → items_text false (items_of (map tree xs)) ≡ separated text xs ++ codes "]"
separated_is {X} tree text each [] = refl
separated_is {X} tree text each (x ∷ xs) = rw (each x, further_is tree text each xs) (simp append_assoc)

-- pieces one behind the other, grouped from the right
abbrev pub pieces : List (List ℕ) → List ℕ
pieces [] = []
pieces (one ∷ more) = one ++ pieces more

-- the same behind a text, grouped from the left
abbrev pub with_pieces : List ℕ → List (List ℕ) → List ℕ
with_pieces text [] = text
with_pieces text (one ∷ more) = with_pieces (text ++ one) more

grouped : (text : List ℕ) (all : List (List ℕ)) → text ++ pieces all ≡ with_pieces text all
grouped text [] = append-nil text
grouped text (one ∷ more) = sym (append_assoc text one (pieces more)) ∙ grouped (text ++ one) more

label_is : (label : Label) → compact_text (label_tree label) ≡ label_text label
unfolding escape_byte
label_is label = grouped (codes "{\"key\":") (quoted label.key ∷ codes ",\"value\":" ∷ quoted label.value ∷ codes "}" ∷ [])

pub store_is : (store : StoreRec) (name : StateName) (held : List RegionBeat) → compact_text (store_tree store name held) ≡ store_text store name held
unfolding escape_byte
store_is store name held =
    rw (separated_is label_tree label_text label_is store.labels)
    (grouped (codes "{\"address\":")
    (quoted store.address ∷ codes ",\"id\":" ∷ decimal store.id ∷ codes ",\"labels\":" ∷ listed label_text store.labels
    ∷ codes ",\"leader_count\":" ∷ decimal (leader_count store.id held) ∷ codes ",\"region_count\":" ∷ decimal (region_count store.id held)
    ∷ codes ",\"state_name\":" ∷ quoted (state_text name) ∷ codes "}" ∷ []))

peer_is : (peer : Peer) → compact_text (peer_tree peer) ≡ peer_text peer
unfolding escape_byte
peer_is peer = grouped (codes "{\"id\":") (decimal peer.id ∷ codes ",\"role\":" ∷ quoted (role_text peer.role) ∷ codes ",\"store_id\":" ∷ decimal peer.store ∷ codes "}" ∷ [])

pub region_is : (beat : RegionBeat) → compact_text (region_tree beat) ≡ region_text beat
unfolding escape_byte
region_is beat =
    rw (separated_is peer_tree peer_text peer_is beat.region.peers)
    (grouped (codes "{\"conf_ver\":")
    (decimal beat.region.epoch.conf_ver ∷ codes ",\"end_key\":" ∷ quoted (encode_lower beat.region.end) ∷ codes ",\"id\":" ∷ decimal beat.region.id
    ∷ codes ",\"leader\":" ∷ decimal beat.leader ∷ codes ",\"peers\":" ∷ listed peer_text beat.region.peers
    ∷ codes ",\"start_key\":" ∷ quoted (encode_lower beat.region.start) ∷ codes ",\"version\":" ∷ decimal beat.region.epoch.version ∷ codes "}" ∷ []))

operator_is : (op : Operator) → compact_text (operator_tree op) ≡ operator_text op
unfolding escape_byte
operator_is op =
    rw (separated_is step_tree quoted_step (λ step. refl) op.steps)
    (grouped (codes "{\"kind\":")
    (quoted op.kind ∷ codes ",\"region\":" ∷ decimal op.region ∷ codes ",\"state\":" ∷ quoted (op_state_text op.state)
    ∷ codes ",\"step\":" ∷ decimal op.passed ∷ codes ",\"steps\":" ∷ listed quoted_step op.steps ∷ codes "}" ∷ []))

pub stores_is : (stores : List StoreEntry) (held : List RegionBeat) (now : ℕ) →
    compact_text (stores_report stores held now) ≡ codes "{\"count\":" ++ decimal (length stores) ++ codes ",\"stores\":" ++ listed (λ (entry : StoreEntry). store_text entry.store (state_name entry now) held) stores ++ codes "}"
unfolding escape_byte
stores_is stores held now =
    let text : StoreEntry → List ℕ = λ (entry : StoreEntry). store_text entry.store (state_name entry now) held in
    rw (separated_is (entry_tree held now) text (λ (entry : StoreEntry). store_is entry.store (state_name entry now) held) stores)
    (grouped (codes "{\"count\":") (decimal (length stores) ∷ codes ",\"stores\":" ∷ listed text stores ∷ codes "}" ∷ []))

pub operators_is : (table : Table) → compact_text (operators_report table) ≡ codes "{\"operators\":" ++ listed operator_text (shown table) ++ codes "}"
unfolding escape_byte
operators_is table =
    rw (separated_is operator_tree operator_text operator_is (shown table)) (grouped (codes "{\"operators\":") (listed operator_text (shown table) ∷ codes "}" ∷ []))

pub check_is : (region : ℕ) (state : OpState) → compact_text (check_report region (Some state)) ≡ codes "{\"region\":" ++ decimal region ++ codes ",\"state\":" ++ quoted (op_state_text state) ++ codes "}"
unfolding escape_byte
check_is region state = grouped (codes "{\"region\":") (decimal region ∷ codes ",\"state\":" ∷ quoted (op_state_text state) ∷ codes "}" ∷ [])

pub schedulers_is : (names : List (List ℕ)) → compact_text (schedulers_report names) ≡ codes "{\"schedulers\":" ++ listed quoted names ++ codes "}"
unfolding escape_byte
schedulers_is names = rw (separated_is string quoted (λ name. refl) names) (grouped (codes "{\"schedulers\":") (listed quoted names ∷ codes "}" ∷ []))

pub leader_is : (driver term : ℕ) → compact_text (leader_report driver term) ≡ codes "{\"driver\":" ++ decimal driver ++ codes ",\"term\":" ++ decimal term ++ codes "}"
unfolding escape_byte
leader_is driver term = grouped (codes "{\"driver\":") (decimal driver ∷ codes ",\"term\":" ∷ decimal term ∷ codes "}" ∷ [])

pub tso_is : (ts : ℕ) → compact_text (tso_report ts) ≡ codes "{\"logical\":" ++ decimal (ts % 262144) ++ codes ",\"physical\":" ++ decimal (ts / 262144) ++ codes "}"
unfolding escape_byte
tso_is ts = grouped (codes "{\"logical\":") (decimal (ts % 262144) ∷ codes ",\"physical\":" ∷ decimal (ts / 262144) ∷ codes "}" ∷ [])

pub unknown_is : compact_text (fault_tree (codes "unknown-store")) ≡ codes "{\"fault\":\"unknown-store\"}"
unfolding escape_byte
unknown_is = refl

pub nowhere_is : compact_text (fault_tree (codes "no-region")) ≡ codes "{\"fault\":\"no-region\"}"
unfolding escape_byte
nowhere_is = refl

pub absent_is : compact_text (fault_tree (codes "absent")) ≡ codes "{\"fault\":\"absent\"}"
unfolding escape_byte
absent_is = refl

pub reads_is : (command : Command) (parts : Parts) → only_reads command ≡ is_some (report_of command parts)
reads_is Stores parts = refl
reads_is (Store id) parts = refl
reads_is (StoreDelete id) parts = refl
reads_is (StoreLimit id rate kind) parts = refl
reads_is (Region id) parts = refl
reads_is (RegionKey key) parts = refl
reads_is OperatorShow parts = refl
reads_is (OperatorAdd region wish) parts = refl
reads_is (OperatorRemove region) parts = refl
reads_is (OperatorCheck region) parts = refl
reads_is SchedulerShow parts = refl
reads_is (SchedulerRemove name) parts = refl
reads_is LeaderShow parts = refl
reads_is LeaderResign parts = refl
reads_is (Tso ts) parts = refl
