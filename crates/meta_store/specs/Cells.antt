-- Records as a list by rising key, and the record of a key in it (etcd: a range is answered by rising key).
use Rattle.std.specs.Prelude.{◌≡◌, ℕ, nat_eq, Bool, true, not, List, ◌∷◌, ◌++◌, Option, Some, None, filter, find, AllPairs}
use Rattle.std.specs.List.{starts_with}
use Rattle.std.specs.Str.{bytes_eq}
use Rattle.pd_types.specs.Keys.{is_below}
use Rattle.meta_store.specs.declared.record.Cell.{Cell}

-- each record has a lesser key than those behind it, byte by byte
abbrev pub AreRising : List Cell → Type 0
AreRising cells = AllPairs (λ one later. is_below one.key later.key ≡ true) cells

-- the key begins with this prefix
abbrev pub begins_with : List ℕ → List ℕ → Bool
begins_with prefix key = starts_with nat_eq key prefix

-- the record of a key
abbrev pub cell_at : List ℕ → List Cell → Option Cell
cell_at key cells = find (λ cell. bytes_eq cell.key key) cells

-- its revision; 0 where the key has no record
abbrev pub revision_in : Option Cell → ℕ
revision_in None = 0
revision_in (Some cell) = cell.revision

-- the record behind those of lesser keys and before those of greater keys, in place of one with its key
abbrev pub placed : Cell → List Cell → List Cell
placed cell cells = filter (λ one. is_below one.key cell.key) cells ++ (cell ∷ filter (λ one. is_below cell.key one.key) cells)

-- the records, without that of this key
abbrev pub without : List ℕ → List Cell → List Cell
without key cells = filter (λ one. not (bytes_eq one.key key)) cells
