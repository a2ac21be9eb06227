-- What reports look like, byte by byte (pd-ctl's output). A text in them is quoted and escaped as JSON does it.
use Rattle.std.specs.Prelude.{◌≡◌, ℕ, List, [], ◌∷◌, ◌++◌, codes, decimal, IsSomeAnd}
use Rattle.json.specs.Print.{quoted}
use Rattle.hex.specs.Hex.{encode_lower}
use Rattle.serde_json.specs.Written.{compact_text}
use Rattle.pd_types.specs.StepText.{step_text}
use Rattle.pd_types.specs.declared.region.Peer.{Peer}
use Rattle.pd_types.specs.declared.region.RegionBeat.{RegionBeat}
use Rattle.pd_types.specs.declared.step.Step.{Step}
use Rattle.pd_types.specs.declared.store.Label.{Label}
use Rattle.pd_types.specs.declared.store.StoreRec.{StoreRec}
use Rattle.heartbeat.specs.Counts.{region_count, leader_count}
use Rattle.op_control.specs.declared.operator.Operator.{Operator}
use Rattle.store_table.specs.StateText.{state_text}
use Rattle.store_table.specs.declared.names.StateName.{StateName}
use Rattle.pd_ctl.specs.Reports.{report_of}
use Rattle.pd_ctl.specs.Trees.{role_text}
use Rattle.op_control.specs.StateText.{op_state_text}
use Rattle.pd_ctl.specs.declared.command.Command.{Command}
use Rattle.pd_ctl.specs.declared.parts.Parts.{Parts}

-- each with a comma before it
abbrev pub further : {X : Type 0} → (X → List ℕ) → List X → List ℕ
further {X} text [] = []
further {X} text (x ∷ xs) = codes "," ++ text x ++ further text xs

-- with commas between them
abbrev pub separated : {X : Type 0} → (X → List ℕ) → List X → List ℕ
separated {X} text [] = []
separated {X} text (x ∷ xs) = text x ++ further text xs

-- the same, in brackets
abbrev pub listed : {X : Type 0} → (X → List ℕ) → List X → List ℕ
listed {X} text xs = codes "[" ++ separated text xs ++ codes "]"

-- a label of a store
abbrev pub label_text : Label → List ℕ
label_text label = codes "{\"key\":" ++ quoted label.key ++ codes ",\"value\":" ++ quoted label.value ++ codes "}"

-- a store beside these regions, by the name of its state
abbrev pub store_text : StoreRec → StateName → List RegionBeat → List ℕ
store_text store name held =
    codes "{\"address\":" ++ quoted store.address ++ codes ",\"id\":" ++ decimal store.id ++ codes ",\"labels\":" ++ listed label_text store.labels
    ++ codes ",\"leader_count\":" ++ decimal (leader_count store.id held) ++ codes ",\"region_count\":" ++ decimal (region_count store.id held)
    ++ codes ",\"state_name\":" ++ quoted (state_text name) ++ codes "}"

-- a peer
abbrev pub peer_text : Peer → List ℕ
peer_text peer = codes "{\"id\":" ++ decimal peer.id ++ codes ",\"role\":" ++ quoted (role_text peer.role) ++ codes ",\"store_id\":" ++ decimal peer.store ++ codes "}"

-- a region
abbrev pub region_text : RegionBeat → List ℕ
region_text beat =
    codes "{\"conf_ver\":" ++ decimal beat.region.epoch.conf_ver ++ codes ",\"end_key\":" ++ quoted (encode_lower beat.region.end) ++ codes ",\"id\":" ++ decimal beat.region.id
    ++ codes ",\"leader\":" ++ decimal beat.leader ++ codes ",\"peers\":" ++ listed peer_text beat.region.peers
    ++ codes ",\"start_key\":" ++ quoted (encode_lower beat.region.start) ++ codes ",\"version\":" ++ decimal beat.region.epoch.version ++ codes "}"

-- a step
abbrev pub quoted_step : Step → List ℕ
quoted_step step = quoted (step_text step)

-- an operator
abbrev pub operator_text : Operator → List ℕ
operator_text op =
    codes "{\"kind\":" ++ quoted op.kind ++ codes ",\"region\":" ++ decimal op.region ++ codes ",\"state\":" ++ quoted (op_state_text op.state)
    ++ codes ",\"step\":" ++ decimal op.passed ++ codes ",\"steps\":" ++ listed quoted_step op.steps ++ codes "}"

-- the command only reads, and its report is this text
abbrev pub IsTold : Command → Parts → List ℕ → Type 0
IsTold command parts text = IsSomeAnd (report_of command parts) (λ tree. compact_text tree ≡ text)
