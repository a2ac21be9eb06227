-- Whether a peer suits a rule is said by what is known of its store.
use Rattle.std.proofs.Common.{refl, ◌≡◌, ℕ, nat_eq, Bool, false, ◌&&◌, List, Option, Some, None}
use Rattle.std.specs.Option.{option_map_or}
use Rattle.pd_types.specs.declared.region.Peer.{Peer}
use Rattle.pd_types.specs.declared.rule.Rule.{Rule}
use Rattle.store_table.specs.declared.entry.StoreEntry.{StoreEntry}
use Rattle.store_table.specs.Entries.{entry_at}
use Rattle.store_table.specs.Live.{usable_test}
use Rattle.rule_fit.specs.Suits.{entry_suits, labels_in, peer_suits, role_suits, satisfies_all, store_suits, suits_on}

-- the test of the entry, where there is one
abbrev pub suits_in_entry : Option StoreEntry → ℕ → Rule → Bool
suits_in_entry None now rule = false
suits_in_entry (Some entry) now rule = entry_suits entry now rule

store_one : (one : Option StoreEntry) (now : ℕ) (rule : Rule) → (option_map_or (λ entry. usable_test entry now) one false && satisfies_all (labels_in one) rule.constraints) ≡ suits_in_entry one now rule
store_one None now rule = refl
store_one (Some entry) now rule = refl

pub store_by_entry : (stores : List StoreEntry) (now store : ℕ) (rule : Rule) → store_suits stores now store rule ≡ suits_in_entry (entry_at store stores) now rule
store_by_entry stores now store rule = store_one (entry_at store stores) now rule

peer_one : (one : Option StoreEntry) (leader now : ℕ) (peer : Peer) (rule : Rule) → (suits_in_entry one now rule && role_suits rule.role peer.role (nat_eq peer.id leader)) ≡ suits_on leader one now peer rule
peer_one None leader now peer rule = refl
peer_one (Some entry) leader now peer rule = refl

pub peer_by_entry : (leader : ℕ) (stores : List StoreEntry) (now : ℕ) (peer : Peer) (rule : Rule) → peer_suits leader stores now peer rule ≡ suits_on leader (entry_at peer.store stores) now peer rule
peer_by_entry leader stores now peer rule =
    rw (store_by_entry stores now peer.store rule) (peer_one (entry_at peer.store stores) leader now peer rule)
