-- Which of two candidates of a class goes before the other.
use Rattle.std.specs.Prelude.{ℕ, nat_lt, Bool, ◌==◌, not, List, [], map, filter, find, Option, Some, None}
use Rattle.pd_types.specs.Numbers.{lesser_then}
use Rattle.pd_types.specs.declared.region.Peer.{Peer}
use Rattle.pd_types.specs.declared.region.RegionBeat.{RegionBeat}
use Rattle.pd_types.specs.declared.rule.Rule.{Rule}
use Rattle.pd_types.specs.declared.store.Label.{Label}
use Rattle.store_table.specs.declared.entry.StoreEntry.{StoreEntry}
use Rattle.heartbeat.specs.Counts.{region_count}
use Rattle.rule_fit.specs.Suits.{labels_of, satisfies_all}
use Rattle.rule_fit.specs.Isolation.{isolation_score}
use Rattle.rule_checker.specs.declared.class.Class.{Class}
use Rattle.rule_checker.specs.declared.class.Class.TheVariants.{Promote, Transfer, AddVoter, AddLearner, Remove}
use Rattle.rule_checker.specs.declared.class.Ranked.{Ranked}

-- the location labels of a rule, none without one
abbrev pub locations_in : Option Rule → List (List ℕ)
locations_in None = []
locations_in (Some rule) = rule.locations

-- the location labels for a store with these labels: those of the first rule whose constraints it satisfies, none without one
abbrev pub locations_by : List Rule → List Label → List (List ℕ)
locations_by rules own = locations_in (find (λ rule. satisfies_all own rule.constraints) rules)

-- the location labels for a store
abbrev pub locations_for : List Rule → List StoreEntry → ℕ → List (List ℕ)
locations_for rules stores store = locations_by rules (labels_of store stores)

-- the stores of the region's peers
abbrev pub stores_of : List Peer → List ℕ
stores_of peers = map (λ peer. peer.store) peers

-- the stores of the other peers
abbrev pub other_stores : Peer → List Peer → List ℕ
other_stores peer peers = stores_of (filter (λ one. not (one.id == peer.id)) peers)

-- the isolation score of the store beside others, by the location labels for it
abbrev pub score_beside : List Rule → List StoreEntry → ℕ → List ℕ → ℕ
score_beside rules stores store others = isolation_score stores store others (locations_for rules stores store)

-- how far the candidate's store is from those of the region's peers, without the one that goes; where the class asks for it
abbrev pub score_of : Class → RegionBeat → List Rule → List StoreEntry → Peer → ℕ
score_of Promote beat rules stores peer = 0
score_of Transfer beat rules stores peer = 0
score_of AddVoter beat rules stores peer = score_beside rules stores peer.store (stores_of beat.region.peers)
score_of AddLearner beat rules stores peer = score_beside rules stores peer.store (stores_of beat.region.peers)
score_of Remove beat rules stores peer = score_beside rules stores peer.store (other_stores peer beat.region.peers)

-- a new peer goes first by the greatest score, then the fewest regions on its store, then the least store
abbrev pub comes_first : List RegionBeat → Ranked → Ranked → Bool
comes_first held one other =
    lesser_then other.score one.score (lesser_then (region_count one.peer.store held) (region_count other.peer.store held) (nat_lt one.peer.store other.peer.store))

-- of two candidates of equal numbers
abbrev pub wins_tie : Class → List RegionBeat → Ranked → Ranked → Bool
wins_tie Promote held one other = nat_lt one.peer.id other.peer.id
wins_tie Transfer held one other = nat_lt one.peer.id other.peer.id
wins_tie AddVoter held one other = comes_first held one other
wins_tie AddLearner held one other = comes_first held one other
wins_tie Remove held one other = lesser_then one.score other.score (nat_lt one.peer.id other.peer.id)

-- the one candidate of the class goes before the other: by the resulting number, then by ties
abbrev pub is_before : Class → List RegionBeat → Ranked → Ranked → Bool
is_before class held one other = lesser_then one.to other.to (wins_tie class held one other)

-- where the classes stand
abbrev pub place_of : Class → ℕ
place_of Promote = 1
place_of Transfer = 2
place_of AddVoter = 3
place_of AddLearner = 4
place_of Remove = 5
