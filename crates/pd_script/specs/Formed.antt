-- The forms of what a line asks of a cluster (own choice).
use Rattle.std.specs.Prelude.{◌≡◌, ◌⊎◌, ℕ, ◌<◌, ◌≤◌, ◌^◌, length, true, All}
use Rattle.pd_types.specs.declared.region.DownPeer.{DownPeer}
use Rattle.pd_types.specs.declared.region.Peer.{Peer}
use Rattle.pd_types.specs.declared.region.RegionBeat.{RegionBeat}
use Rattle.pd_types.specs.declared.region.Role.TheVariants.{Voter, Learner}
use Rattle.pd_types.specs.declared.request.Request.{Request}
use Rattle.pd_types.specs.declared.request.Request.TheVariants.{Hello, Alive, Beat, Rule, Unrule, Check, Patrol, Schedule, Ctl, Term, Retire}
use Rattle.pd_types.specs.declared.stamp.TheConstants.{MOMENT_END}
use Rattle.pd_lines.specs.declared.plain.TheConstants.{MOST_ADDRESS_BYTES}
use Rattle.pd_lines.specs.Labels.{AreLabels}
use Rattle.pd_lines.specs.Plain.{is_plain}
use Rattle.pd_script.specs.RuleLines.{is_name}
use Rattle.pd_script.specs.declared.place.TheConstants.{MAX_WORKERS}
use Rattle.pd_script.specs.declared.rules.TheConstants.{MAX_JSON}

-- the id of a store, a region or a peer: 1 to 2^63 - 1
pub record IsId (n : ℕ) : Type 0 where
  pub some : 0 < n
  pub low : n < 2 ^ 63

-- a voter or a learner, with its id and its store's
pub record IsPeer (peer : Peer) : Type 0 where
  pub id : IsId peer.id
  pub store : IsId peer.store
  pub role : (peer.role ≡ Voter) ⊎ (peer.role ≡ Learner)

-- a peer that is down, by its id, for less than 2^32 seconds
pub record IsDown (down : DownPeer) : Type 0 where
  pub peer : IsId down.peer
  pub seconds : down.seconds < 2 ^ 32

-- a region heartbeat: its ids and those of its peers, and an epoch below 2^63; the keys have no bound here
pub record IsReport (beat : RegionBeat) : Type 0 where
  pub region : IsId beat.region.id
  pub conf_ver : beat.region.epoch.conf_ver < 2 ^ 63
  pub version : beat.region.epoch.version < 2 ^ 63
  pub leader : IsId beat.leader
  pub peers : All IsPeer beat.region.peers
  pub down : All IsDown beat.down
  pub pending : All IsId beat.pending

-- a store that speaks, and a moment below 2^46
pub record IsSpoken (store moment : ℕ) : Type 0 where
  pub id : IsId store
  pub low : moment < MOMENT_END

-- what a line may ask: a store's request with an address of 1 to 64 plain characters and labels, alone, or with a region; of a
-- driver that a rule is set, by a text of at most 4,096 bytes, or removed, by its names; and of a driver
-- that a region is checked, by its id, or all of them, by 1 to 16 workers, that a scheduler proposes, or that any words of pd-ctl
-- are carried out
abbrev pub IsAsked : Request → Type 0
IsAsked (Hello store moment address labels) = IsSpoken store moment × (is_plain MOST_ADDRESS_BYTES address ≡ true) × AreLabels labels
IsAsked (Alive store moment) = IsSpoken store moment
IsAsked (Beat store moment beat) = IsSpoken store moment × IsReport beat
IsAsked (Rule moment json) = (moment < MOMENT_END) × (length json ≤ MAX_JSON)
IsAsked (Unrule moment group id) = (moment < MOMENT_END) × (is_name group ≡ true) × (is_name id ≡ true)
IsAsked (Check moment region) = (moment < MOMENT_END) × IsId region
IsAsked (Patrol moment workers) = (moment < MOMENT_END) × (0 < workers) × (workers ≤ MAX_WORKERS)
IsAsked (Schedule moment) = moment < MOMENT_END
IsAsked (Ctl moment words) = moment < MOMENT_END
IsAsked (Term term moment) = ⊥
IsAsked Retire = ⊥
