-- The steps that a request sends, and that each of them is safe where it is sent (PD, region heartbeats: a step is the response to the region's leader).
use Rattle.std.specs.Prelude.{ℕ, nat_eq, List, [], ◌∷◌, find, Option}
use Rattle.std.specs.Option.{option_map_or}
use Rattle.pd_types.specs.declared.region.Peer.{Peer}
use Rattle.pd_types.specs.declared.region.RegionBeat.{RegionBeat}
use Rattle.pd_types.specs.declared.step.StepMsg.{StepMsg}
use Rattle.op_control.specs.declared.turn.Dispatch.{Dispatch}
use Rattle.op_control.specs.declared.turn.Dispatch.TheVariants as dispatch
use Rattle.pd_state.specs.declared.sent.Sent.{Sent}

-- the region of this id, where it is held
abbrev pub region_in : ℕ → List RegionBeat → Option RegionBeat
region_in region held = find (λ beat. nat_eq beat.region.id region) held

-- the store of the region's leader; 0 where no peer leads, which no accepted heartbeat tells
abbrev pub leader_store : RegionBeat → ℕ
leader_store beat = option_map_or (λ (peer : Peer). peer.store) (find (λ peer. nat_eq peer.id beat.leader) beat.region.peers) 0

-- what a dispatch by this heartbeat sends: its step, to the store of the region's leader
abbrev pub sent_by : RegionBeat → Dispatch → List Sent
sent_by beat (dispatch.Send step) = record { region = beat.region.id; to = leader_store beat; step = step } ∷ []
sent_by beat dispatch.NoOperator = []
sent_by beat (dispatch.Wait held) = []
sent_by beat dispatch.Done = []
sent_by beat (dispatch.Ended state) = []

-- the message of a step that an entry of a driver's cluster sent, in this term; entries are numbered from 1
abbrev pub message : ℕ → ℕ → ℕ → Sent → StepMsg
message driver term entry sent = record { driver = driver; term = term; entry = entry; region = sent.region; to = sent.to; step = sent.step }
