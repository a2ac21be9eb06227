-- Places of keys in a rising list. Private contracts alone cite this.
use Rattle.std.specs.Prelude.{◌≡◌, ℕ, ◌+◌, ◌<◌, ◌≤◌, true, List, length, slice_index_or}
use Rattle.pd_types.specs.Keys.{is_below}
use Rattle.meta_store.specs.declared.record.Cell.{Cell}

-- the keys before the place are lesser, and those from `rest` on are greater
pub record Parts (key : List ℕ) (cells : List Cell) (place rest : ℕ) : Type 0 where
  pub within : place ≤ length cells
  pub before : (k : ℕ) (d : Cell) → k < place → is_below (slice_index_or cells k d).key key ≡ true
  pub after : (k : ℕ) (d : Cell) → rest ≤ k → k < length cells → is_below key (slice_index_or cells k d).key ≡ true

-- the record of this key stands at the place
pub record Stands (key : List ℕ) (cells : List Cell) (place : ℕ) : Type 0 where
  pub inside : place < length cells
  pub here : (d : Cell) → (slice_index_or cells place d).key ≡ key
  pub parts : Parts key cells place (place + 1)
