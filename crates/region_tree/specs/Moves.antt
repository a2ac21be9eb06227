-- What a heartbeat displaces, and how the counts of regions move with it (PD, region heartbeats).
use Rattle.std.specs.Prelude.{◌≡◌, ℕ, ◌+◌, Bool, false, nat_eq, if◌then◌else◌, List, filter, find, count_by}
use Rattle.std.specs.Option.{option_map_or}
use Rattle.pd_types.specs.declared.region.RegionBeat.{RegionBeat}
use Rattle.region_tree.specs.Standing.{stays}
use Rattle.region_tree.specs.Stale.{removed_by}
use Rattle.region_tree.specs.declared.table.Displaced.{Displaced}

-- the region with its id, and those of other ids that it overlaps
abbrev pub displaced_by : RegionBeat → List RegionBeat → Displaced
displaced_by beat held = record {
  own = find (λ one. nat_eq one.region.id beat.region.id) held;
  others = removed_by beat held;
}

-- how many of the displaced pass a test
abbrev pub count_displaced : (RegionBeat → Bool) → Displaced → ℕ
count_displaced p displaced = (if option_map_or p displaced.own false then 1 else 0) + count_by p displaced.others

-- how many of the regions pass a test, once a heartbeat is put: what stays is what there was without the displaced, and the heartbeat comes to it
pub record CountMoves (p : RegionBeat → Bool) (beat : RegionBeat) (old new : List RegionBeat) : Type 0 where
  pub staying : count_by p (filter (stays beat) old) + count_displaced p (displaced_by beat old) ≡ count_by p old
  pub put : count_by p new ≡ count_by p (filter (stays beat) old) + (if p beat then 1 else 0)
