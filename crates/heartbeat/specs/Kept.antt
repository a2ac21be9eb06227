-- The numbers that are kept of each store, by its id.
use Rattle.std.specs.Prelude.{◌≡◌, ℕ, List}
use Rattle.std.specs.Ordering.{nat_cmp}
use Rattle.std.specs.Option.{option_map, unwrap_or}
use Rattle.std.specs.FinMap as map
use Rattle.pd_types.specs.declared.region.RegionBeat.{RegionBeat}
use Rattle.heartbeat.specs.Counts.{region_count, leader_count}
use Rattle.heartbeat.specs.declared.counts.StoreCount.{StoreCount}

-- how many regions are kept for a store; nothing kept counts as 0
abbrev pub regions_at : map.FinMap nat_cmp StoreCount → ℕ → ℕ
regions_at counts store = unwrap_or (option_map (λ count. count.regions) (map.get counts store)) 0

-- how many leaders are kept for a store
abbrev pub leaders_at : map.FinMap nat_cmp StoreCount → ℕ → ℕ
leaders_at counts store = unwrap_or (option_map (λ count. count.leaders) (map.get counts store)) 0

-- what is kept for each store is what these regions count
pub record AreCounted (counts : map.FinMap nat_cmp StoreCount) (held : List RegionBeat) : Type 0 where
  pub regions : (store : ℕ) → regions_at counts store ≡ region_count store held
  pub leaders : (store : ℕ) → leaders_at counts store ≡ leader_count store held
