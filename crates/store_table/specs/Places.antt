-- Places of ids in a rising list. Private contracts alone cite this.
use Rattle.std.specs.Prelude.{◌≡◌, ℕ, ◌+◌, ◌<◌, ◌≤◌, List, length, slice_index_or}
use Rattle.store_table.specs.declared.entry.StoreEntry.{StoreEntry}

-- the ids before the place are lesser, and those from `rest` on are greater
pub record Parts (id : ℕ) (entries : List StoreEntry) (place rest : ℕ) : Type 0 where
  pub within : place ≤ length entries
  pub before : (k : ℕ) (d : StoreEntry) → k < place → (slice_index_or entries k d).store.id < id
  pub after : (k : ℕ) (d : StoreEntry) → rest ≤ k → k < length entries → id < (slice_index_or entries k d).store.id

-- the store of this id stands at the place
pub record Stands (id : ℕ) (entries : List StoreEntry) (place : ℕ) : Type 0 where
  pub inside : place < length entries
  pub here : (d : StoreEntry) → (slice_index_or entries place d).store.id ≡ id
  pub parts : Parts id entries place (place + 1)
