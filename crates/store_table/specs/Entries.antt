-- The known stores as a list of entries by rising id, and the entry of an id in it.
use Rattle.std.specs.Prelude.{ℕ, ◌<◌, nat_lt, ◌==◌, Bool, false, if◌then◌else◌, List, ◌∷◌, ◌++◌, Option, option_map, filter, find, map, AllPairs}
use Rattle.std.specs.Option.{option_map_or}
use Rattle.pd_types.specs.declared.store.StoreState.{StoreState}
use Rattle.store_table.specs.declared.entry.StoreEntry.{StoreEntry}
use Rattle.store_table.specs.Live.{live_test, usable_test}

-- each store has a lesser id than those behind it
abbrev pub AreRising : List StoreEntry → Type 0
AreRising entries = AllPairs (λ one later. one.store.id < later.store.id) entries

-- the entry of the store with this id
abbrev pub entry_at : ℕ → List StoreEntry → Option StoreEntry
entry_at id entries = find (λ entry. entry.store.id == id) entries

-- the state of the store with this id
abbrev pub state_at : ℕ → List StoreEntry → Option StoreState
state_at id entries = option_map (λ entry. entry.store.state) (entry_at id entries)

-- the entry behind those of lesser ids and before those of greater ids, in place of one with its id
abbrev pub placed : StoreEntry → List StoreEntry → List StoreEntry
placed entry entries =
    filter (λ one. nat_lt one.store.id entry.store.id) entries ++ (entry ∷ filter (λ one. nat_lt entry.store.id one.store.id) entries)

-- the entries, with that of this id changed
abbrev pub changed : ℕ → (StoreEntry → StoreEntry) → List StoreEntry → List StoreEntry
changed id change entries = map (λ entry. if entry.store.id == id then change entry else entry) entries

-- the store with this id is known and live
abbrev pub is_live : ℕ → ℕ → List StoreEntry → Bool
is_live id now entries = option_map_or (λ entry. live_test entry now) (entry_at id entries) false

-- the store with this id is known and usable
abbrev pub is_usable : ℕ → ℕ → List StoreEntry → Bool
is_usable id now entries = option_map_or (λ entry. usable_test entry now) (entry_at id entries) false
