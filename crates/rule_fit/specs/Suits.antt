-- Which peer suits which rule (PD documentation, "Placement Rules": `role`, `label_constraints`).
use Rattle.std.specs.Prelude.{ℕ, Bool, false, ◌&&◌, ◌||◌, not, nat_eq, if◌then◌else◌, List, [], ◌∷◌, Option, Some, None, map, slice_get}
use Rattle.std.specs.List.{list_any, list_all}
use Rattle.pd_types.specs.declared.store.Label.{Label}
use Rattle.pd_types.specs.declared.rule.Op.{Op}
use Rattle.pd_types.specs.declared.rule.Op.TheVariants.{In, NotIn, Exists, NotExists}
use Rattle.pd_types.specs.declared.rule.Constraint.{Constraint}
use Rattle.pd_types.specs.declared.rule.RuleRole.{RuleRole}
use Rattle.pd_types.specs.declared.rule.RuleRole.TheVariants as asks
use Rattle.pd_types.specs.declared.rule.Rule.{Rule}
use Rattle.pd_types.specs.declared.region.Role.{Role}
use Rattle.pd_types.specs.declared.region.Peer.{Peer}
use Rattle.pd_types.specs.declared.region.RegionBeat.{RegionBeat}
use Rattle.pd_types.specs.Bytes.{is_empty}
use Rattle.pd_types.specs.Roles.{is_voter, is_learner}
use Rattle.std.specs.Str.{bytes_eq}
use Rattle.store_table.specs.declared.entry.StoreEntry.{StoreEntry}
use Rattle.store_table.specs.Entries.{entry_at, is_usable}
use Rattle.store_table.specs.Live.{usable_test}

-- the value of the first label with this key; an absent label has the empty value
abbrev pub value_of : List ℕ → List Label → List ℕ
value_of key [] = []
value_of key (label ∷ labels) = if bytes_eq label.key key then label.value else value_of key labels

-- the value is one of these
abbrev pub is_among : List ℕ → List (List ℕ) → Bool
is_among value values = list_any (λ one. bytes_eq one value) values

-- in: not empty and listed; notIn: empty or not listed; exists: not empty; notExists: empty
abbrev pub passes : Op → List ℕ → List (List ℕ) → Bool
passes In value values = not (is_empty value) && is_among value values
passes NotIn value values = is_empty value || not (is_among value values)
passes Exists value values = not (is_empty value)
passes NotExists value values = is_empty value

-- a store with these labels satisfies the constraint
abbrev pub satisfies : List Label → Constraint → Bool
satisfies labels constraint = passes constraint.op (value_of constraint.key labels) constraint.values

-- and all of them
abbrev pub satisfies_all : List Label → List Constraint → Bool
satisfies_all labels constraints = list_all (satisfies labels) constraints

-- the labels of a known store
abbrev pub labels_in : Option StoreEntry → List Label
labels_in None = []
labels_in (Some entry) = entry.store.labels

-- a store that isn't known has no labels
abbrev pub labels_of : ℕ → List StoreEntry → List Label
labels_of store stores = labels_in (entry_at store stores)

-- the labels of each of these stores
abbrev pub labels_of_all : List ℕ → List StoreEntry → List (List Label)
labels_of_all ids stores = map (λ id. labels_of id stores) ids

-- the store of which this is known is usable and satisfies all constraints of the rule
abbrev pub entry_suits : StoreEntry → ℕ → Rule → Bool
entry_suits entry now rule = usable_test entry now && satisfies_all entry.store.labels rule.constraints

-- the store is usable and satisfies all constraints of the rule
abbrev pub store_suits : List StoreEntry → ℕ → ℕ → Rule → Bool
store_suits stores now store rule = is_usable store now stores && satisfies_all (labels_of store stores) rule.constraints

-- a voter rule needs a Voter, a leader rule the leader, a follower rule a Voter that doesn't lead, a learner rule a Learner
abbrev pub role_suits : RuleRole → Role → Bool → Bool
role_suits asks.Voter role leads = is_voter role
role_suits asks.Leader role leads = leads
role_suits asks.Follower role leads = is_voter role && not leads
role_suits asks.Learner role leads = is_learner role

-- the peer's store suits the rule, and so does its role
abbrev pub peer_suits : ℕ → List StoreEntry → ℕ → Peer → Rule → Bool
peer_suits leader stores now peer rule =
    store_suits stores now peer.store rule && role_suits rule.role peer.role (nat_eq peer.id leader)

-- the peer suits the rule, where this is known of its store; on a store that isn't known it suits none
abbrev pub suits_on : ℕ → Option StoreEntry → ℕ → Peer → Rule → Bool
suits_on leader None now peer rule = false
suits_on leader (Some entry) now peer rule =
    entry_suits entry now rule && role_suits rule.role peer.role (nat_eq peer.id leader)

-- both are there, and the peer suits the rule
abbrev pub both_suit : ℕ → List StoreEntry → ℕ → Option Peer → Option Rule → Bool
both_suit leader stores now None rule = false
both_suit leader stores now (Some peer) None = false
both_suit leader stores now (Some peer) (Some rule) = peer_suits leader stores now peer rule

-- the peer at p suits the rule at r
abbrev pub suits_in : RegionBeat → List Rule → List StoreEntry → ℕ → ℕ → ℕ → Bool
suits_in beat rules stores now p r = both_suit beat.leader stores now (slice_get beat.region.peers p) (slice_get rules r)

-- the counts of the rules
abbrev pub counts_of : List Rule → List ℕ
counts_of rules = map (λ rule. rule.count) rules
