-- A new peer on a store. Private contracts alone cite this.
use Rattle.std.specs.Prelude.{◌≡◌, ℕ, nat_lt, Bool, ◌&&◌, not, if◌then◌else◌, List, [], ◌∷◌, length, ⊤}
use Rattle.pd_types.specs.declared.beat.TheConstants.{MAX_PEERS}
use Rattle.pd_types.specs.declared.region.Role.{Role}
use Rattle.pd_types.specs.declared.region.Role.TheVariants.{Voter, Learner}
use Rattle.pd_types.specs.declared.region.Peer.{Peer}
use Rattle.pd_types.specs.declared.region.RegionBeat.{RegionBeat}
use Rattle.pd_types.specs.declared.rule.Rule.{Rule}
use Rattle.store_table.specs.declared.entry.StoreEntry.{StoreEntry}
use Rattle.store_table.specs.Live.{live_test, usable_test}
use Rattle.op_step.specs.Peers.{has_store}
use Rattle.rule_fit.specs.Question.{AreRoomsIn, Question}
use Rattle.rule_checker.specs.declared.class.Class.{Class}
use Rattle.rule_checker.specs.declared.class.Class.TheVariants.{AddVoter, AddLearner, Promote, Transfer, Remove}

-- the class adds a peer
abbrev pub Adds : Class → Type 0
Adds Promote = ⊥
Adds Transfer = ⊥
Adds AddVoter = ⊤
Adds AddLearner = ⊤
Adds Remove = ⊥

-- the role in which the steps of the class leave a new peer
abbrev pub role_by : Class → Role
role_by Promote = Learner
role_by Transfer = Learner
role_by AddVoter = Voter
role_by AddLearner = Learner
role_by Remove = Learner

-- the new peer as the steps leave it
abbrev pub arrived : Class → ℕ → Peer
arrived class store = record { id = 0; store = store; role = role_by class }

-- the store of which this is known is live and usable and has no peer of the region, which has room for one
abbrev pub takes_new : RegionBeat → StoreEntry → ℕ → Bool
takes_new beat entry now = live_test entry now && usable_test entry now && not (has_store entry.store.id beat) && nat_lt (length beat.region.peers) MAX_PEERS

-- the marked rules
abbrev pub with_room : List Rule → List Bool → List Rule
with_room [] rooms = []
with_room (rule ∷ rules) [] = []
with_room (rule ∷ rules) (room ∷ rooms) = if room then rule ∷ with_room rules rooms else with_room rules rooms

-- the roomy ones are the rules that have room for one peer more
pub record AreRoomy (q : Question) (rules roomy : List Rule) : Type 0 where
  pub rooms : List Bool
  pub right : AreRoomsIn q rooms
  pub same : roomy ≡ with_room rules rooms
