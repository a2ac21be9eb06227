-- The JSON trees of which a report is made (pd-ctl's output; which fields stand there is our own choice). Members stand in byte
-- order of their names.
use Rattle.std.specs.Prelude.{ℕ, List, map, codes}
use Rattle.hex.specs.Hex.{encode_lower}
use Rattle.serde_json.specs.Data.{Data, number, unsigned, string, array, object, member, no_members}
use Rattle.serde_json.specs.View.{items_of}
use Rattle.pd_types.specs.StepText.{step_text}
use Rattle.pd_types.specs.declared.region.Peer.{Peer}
use Rattle.pd_types.specs.declared.region.RegionBeat.{RegionBeat}
use Rattle.pd_types.specs.declared.region.Role.{Role}
use Rattle.pd_types.specs.declared.region.Role.TheVariants as roles
use Rattle.pd_types.specs.declared.step.Step.{Step}
use Rattle.pd_types.specs.declared.store.Label.{Label}
use Rattle.pd_types.specs.declared.store.StoreRec.{StoreRec}
use Rattle.heartbeat.specs.Counts.{region_count, leader_count}
use Rattle.op_control.specs.declared.operator.Operator.{Operator}
use Rattle.op_control.specs.StateText.{op_state_text}
use Rattle.store_table.specs.StateText.{state_text}
use Rattle.store_table.specs.declared.names.StateName.{StateName}

-- a number
abbrev pub count : ℕ → Data
count n = number (unsigned n)

-- a label of a store
abbrev pub label_tree : Label → Data
label_tree label = object (member (codes "key") (string label.key) (member (codes "value") (string label.value) no_members))

-- a store, with how many of these regions it has, how many of them it leads, and the name of its state
abbrev pub store_tree : StoreRec → StateName → List RegionBeat → Data
store_tree store name held =
    object (member (codes "address") (string store.address)
    (member (codes "id") (count store.id)
    (member (codes "labels") (array (items_of (map label_tree store.labels)))
    (member (codes "leader_count") (count (leader_count store.id held))
    (member (codes "region_count") (count (region_count store.id held))
    (member (codes "state_name") (string (state_text name)) no_members))))))

-- the name of a role
abbrev pub role_text : Role → List ℕ
role_text roles.Voter = codes "Voter"
role_text roles.Learner = codes "Learner"
role_text roles.Incoming = codes "IncomingVoter"
role_text roles.Demoting = codes "DemotingVoter"

-- a peer
abbrev pub peer_tree : Peer → Data
peer_tree peer = object (member (codes "id") (count peer.id) (member (codes "role") (string (role_text peer.role)) (member (codes "store_id") (count peer.store) no_members)))

-- a region with its leader's peer id, its peers in the order reported, its keys in hexadecimal digits
abbrev pub region_tree : RegionBeat → Data
region_tree beat =
    object (member (codes "conf_ver") (count beat.region.epoch.conf_ver)
    (member (codes "end_key") (string (encode_lower beat.region.end))
    (member (codes "id") (count beat.region.id)
    (member (codes "leader") (count beat.leader)
    (member (codes "peers") (array (items_of (map peer_tree beat.region.peers)))
    (member (codes "start_key") (string (encode_lower beat.region.start))
    (member (codes "version") (count beat.region.epoch.version) no_members)))))))

-- a step by its text
abbrev pub step_tree : Step → Data
step_tree step = string (step_text step)

-- an operator, with the number of its passed steps and all its steps
abbrev pub operator_tree : Operator → Data
operator_tree op =
    object (member (codes "kind") (string op.kind)
    (member (codes "region") (count op.region)
    (member (codes "state") (string (op_state_text op.state))
    (member (codes "step") (count op.passed)
    (member (codes "steps") (array (items_of (map step_tree op.steps))) no_members)))))

-- the one member of this name
abbrev pub single : List ℕ → Data → Data
single name value = object (member name value no_members)

-- a fault by its text
abbrev pub fault_tree : List ℕ → Data
fault_tree text = single (codes "fault") (string text)
