-- How the lines of a script are dealt out to their actors, one after the other.
use Rattle.std.specs.Prelude.{◌≡◌, ℕ, ◌-◌, ◌<◌, ◌≤◌, List, [], ◌∷◌, ◌++◌, Contains, length, map, replicate, slice_index_or, slice_set}
use Rattle.std.specs.List.Sorted.{IsStrictlyIncreasing}
use Rattle.std.specs.Vec.{vec_items}
use Rattle.pd_run.specs.declared.line.StoreLine.{StoreLine}
use Rattle.pd_run.specs.Runs.{lines_of}
use Rattle.pd_cluster.specs.RunLines.{ids_of}
use Rattle.pd_cluster.specs.declared.run_lines.Dealt.{Dealt}
use Rattle.pd_cluster.specs.declared.run_lines.Own.{Own}
use Rattle.pd_cluster.specs.declared.run_lines.Own.TheVariants.{Driver as OfDriver, Client as OfClient, Store as OfStore, Nobody}

-- a store that has no lines yet
abbrev pub without_lines : ℕ → ℕ × List StoreLine
without_lines store = (store, [])

-- no driver, no client and no store has a line yet
pub record HasDealtNothing (drivers : ℕ) (dealt : Dealt) : Type 0 where
  pub drivers_are : map vec_items dealt.tasks.drivers.items ≡ replicate drivers []
  pub clients_are : dealt.tasks.clients.items ≡ []
  pub stores_are : map lines_of dealt.tasks.stores.items ≡ map without_lines dealt.ids.items

-- whoever the line is for has a place: a driver by its number, and a store by its id among those that rise
abbrev pub HasPlace : Dealt → Own → Type 0
HasPlace dealt (OfDriver driver line) = (0 < driver) × (driver ≤ length dealt.tasks.drivers.items)
HasPlace dealt (OfClient line) = Unit {0}
HasPlace dealt (OfStore store line) = Contains dealt.ids.items store × IsStrictlyIncreasing dealt.ids.items × (ids_of dealt.tasks ≡ dealt.ids.items)
HasPlace dealt Nobody = Unit {0}

-- the list at this place has an item more
abbrev pub with_item : {A : Type 0} → ℕ → A → List (List A) → List (List A)
with_item place item lists = slice_set lists place (slice_index_or lists place [] ++ item ∷ [])

-- the store at this place has a line more
abbrev pub with_line : ℕ → ℕ → StoreLine → List (ℕ × List StoreLine) → List (ℕ × List StoreLine)
with_line place store line stores = slice_set stores place (store, (slice_index_or stores place (without_lines store)).1 ++ line ∷ [])

-- the line stands behind those of the one whose it is, and all others have what they had
abbrev pub Deals : Own → Dealt → Dealt → Type 0
Deals (OfDriver driver line) old new =
    (map vec_items new.tasks.drivers.items ≡ with_item (driver - 1) line (map vec_items old.tasks.drivers.items))
    × (new.tasks.clients ≡ old.tasks.clients) × (new.tasks.stores ≡ old.tasks.stores) × (new.ids ≡ old.ids)
Deals (OfClient line) old new =
    (new.tasks.drivers ≡ old.tasks.drivers) × (new.tasks.clients.items ≡ old.tasks.clients.items ++ line ∷ [])
    × (new.tasks.stores ≡ old.tasks.stores) × (new.ids ≡ old.ids)
Deals (OfStore store line) old new =
    (new.tasks.drivers ≡ old.tasks.drivers) × (new.tasks.clients ≡ old.tasks.clients)
    × ((place : ℕ) × (place < length old.ids.items) × (slice_index_or old.ids.items place store ≡ store)
    × (map lines_of new.tasks.stores.items ≡ with_line place store line (map lines_of old.tasks.stores.items)))
    × (new.ids ≡ old.ids)
Deals Nobody old new = new ≡ old
