-- Admissible moves, and which of them is proposed (PD documentation, "Scheduling"; the tests and the ties are our own choice).
use Rattle.std.specs.Prelude.{◌≡◌, ℕ, ◌+◌, ◌≤◌, nat_lt, Bool, true, false, ◌&&◌, not, if◌then◌else◌, ◌==◌, length, map, Option, Some, None, Contains}
use Rattle.pd_types.specs.Numbers.{lesser_then}
use Rattle.pd_types.specs.declared.proposal.Proposal.{Proposal}
use Rattle.pd_types.specs.declared.proposal.Proposal.TheVariants.{MovePeer, MoveLeader}
use Rattle.pd_types.specs.declared.region.Peer.{Peer}
use Rattle.pd_types.specs.declared.region.RegionBeat.{RegionBeat}
use Rattle.store_table.specs.Entries.{is_live, is_usable}
use Rattle.heartbeat.specs.Counts.{is_on, leads_on}
use Rattle.rule_set.specs.InForce.{rules_at}
use Rattle.rule_fit.specs.Assignment.{Fits}
use Rattle.rule_fit.specs.Suits.{suits_in, counts_of}
use Rattle.op_step.specs.Peers.{peer_on}
use Rattle.op_step.specs.Wishes.{may_lead}
use Rattle.balance_sched.specs.declared.moves.Kind.{Kind}
use Rattle.balance_sched.specs.declared.moves.Kind.TheVariants.{Regions, Leaders}
use Rattle.balance_sched.specs.declared.moves.Move.{Move}
use Rattle.balance_sched.specs.Tables.{Tables, count_of}

-- each peer can be given one of the rules in force at the region's start, and each rule its count
abbrev pub FitsRules : Tables → RegionBeat → Type 0
FitsRules tables beat =
    Fits (suits_in beat (rules_at beat.region.start tables.rules) tables.stores tables.now) (length beat.region.peers) (counts_of (rules_at beat.region.start tables.rules))

-- what moves is on the store: a peer of the region, or its leader
abbrev pub is_source : Kind → ℕ → RegionBeat → Bool
is_source Regions store beat = is_on store beat
is_source Leaders store beat = leads_on store beat

-- there is a peer, and it may lead in the leader's place: another voter, on a live store, neither down nor pending
abbrev pub may_take : Tables → RegionBeat → Option Peer → Bool
may_take tables beat None = false
may_take tables beat (Some peer) = may_lead beat tables.stores tables.now peer

-- what moves may come to the store: it has no peer of the region, or one that may lead
abbrev pub is_target : Kind → Tables → ℕ → RegionBeat → Bool
is_target Regions tables store beat = not (is_on store beat)
is_target Leaders tables store beat = may_take tables beat (peer_on store beat)

-- the peer on the source goes to the target; its id and its role stay, and so does who leads
abbrev pub on_target : Move → Peer → Peer
on_target move peer = if peer.store == move.from then record peer { store = move.to } else peer

-- the id of a peer, where there is one
abbrev pub id_or : Option Peer → ℕ → ℕ
id_or None id = id
id_or (Some peer) id = peer.id

-- the region once the move is done
abbrev pub done : Kind → Move → RegionBeat → RegionBeat
done Regions move beat = record {
  region = record { id = beat.region.id; start = beat.region.start; end = beat.region.end; epoch = beat.region.epoch; peers = map (on_target move) beat.region.peers };
  leader = beat.leader;
  down = beat.down;
  pending = beat.pending;
}
done Leaders move beat = record {
  region = beat.region;
  leader = id_or (peer_on move.to beat) beat.leader;
  down = beat.down;
  pending = beat.pending;
}

-- the source has so many more than the target that a move evens them: at least two
abbrev pub IsWide : ℕ → Type 0
IsWide difference = 2 ≤ difference

-- An admissible move of this region: it has no operator and fits, and fits once the move is done; what moves is on the source and
-- may come to the target; both stores are live, and the target is usable; and the source has at least two more than the target.
pub record IsMoveOf (kind : Kind) (tables : Tables) (beat : RegionBeat) (move : Move) : Type 0 where
  pub region : move.region ≡ beat.region.id
  pub idle : Contains tables.busy move.region → ⊥
  pub source : is_source kind move.from beat ≡ true
  pub target : is_target kind tables move.to beat ≡ true
  pub from_live : is_live move.from tables.now tables.stores ≡ true
  pub to_live : is_live move.to tables.now tables.stores ≡ true
  pub to_usable : is_usable move.to tables.now tables.stores ≡ true
  pub difference : count_of kind move.to tables.held + move.difference ≡ count_of kind move.from tables.held
  pub wide : IsWide move.difference
  pub fits : FitsRules tables beat
  pub after : FitsRules tables (done kind move beat)

-- an admissible move of a region that stands
pub record IsAdmissible (kind : Kind) (tables : Tables) (move : Move) : Type 0 where
  pub beat : RegionBeat
  pub held : Contains tables.held beat
  pub moves : IsMoveOf kind tables beat move

-- the greatest difference goes first, then the least region, the least source, the least target
abbrev pub goes_before : Move → Move → Bool
goes_before one other =
    lesser_then other.difference one.difference (lesser_then one.region other.region (lesser_then one.from other.from (nat_lt one.to other.to)))

-- an admissible move before which no admissible one goes
pub record IsFirst (kind : Kind) (tables : Tables) (move : Move) : Type 0 where
  pub admissible : IsAdmissible kind tables move
  pub first : (other : Move) → IsAdmissible kind tables other → goes_before other move ≡ false

-- the move as it is proposed
abbrev pub proposal_of : Kind → Move → Proposal
proposal_of Regions move = MovePeer move.region move.from move.to
proposal_of Leaders move = MoveLeader move.region move.to

-- none exactly where no move is admissible; else the one before which none goes
abbrev pub Proposes : Kind → Tables → Option Proposal → Type 0
Proposes kind tables None = (move : Move) → IsAdmissible kind tables move → ⊥
Proposes kind tables (Some proposal) = (move : Move) × (IsFirst kind tables move × (proposal ≡ proposal_of kind move))
