-- Where the regions of a table stand in its list.
use Rattle.std.specs.Prelude.{◌≡◌, ℕ, ◌-◌, ◌<◌, ◌≤◌, true, false, not, nat_eq, nat_lt, if◌then◌else◌, List, length, slice_index_or, filter, find, Option, Some, None, option_map, All}
use Rattle.std.specs.Ordering.{nat_cmp}
use Rattle.std.specs.FinMap as map
use Rattle.pd_types.specs.declared.region.RegionBeat.{RegionBeat}
use Rattle.pd_types.specs.Keys.{is_before_end}
use Rattle.region_tree.specs.Ranges.{overlaps}

-- the regions of other ids
abbrev pub others : ℕ → List RegionBeat → List RegionBeat
others id held = filter (λ one. not (nat_eq one.region.id id)) held

-- the region of this id stands at this place, or no region has it
abbrev pub IsPlace : List RegionBeat → ℕ → Option ℕ → Type 0
IsPlace held id (Some place) = (place < length held) × ((d : RegionBeat) → nat_eq (slice_index_or held place d).region.id id ≡ true)
IsPlace held id None = All (λ one. nat_eq one.region.id id ≡ false) held

-- the index has the start key of each region, by its id, and no other id
abbrev pub IsIndex : map.FinMap nat_cmp (List ℕ) → List RegionBeat → Type 0
IsIndex index held = (id : ℕ) → map.get index id ≡ option_map (λ one. one.region.start) (find (λ one. nat_eq one.region.id id) held)

-- a place, once the region at another place is gone
abbrev pub shifted : Option ℕ → ℕ → ℕ
shifted None place = place
shifted (Some own) place = place - (if nat_lt own place then 1 else 0)

-- the regions from one place up to another are those that the heartbeat overlaps: those before it end at its start or below it, those behind it begin at its end or above it
pub record IsRun (beat : RegionBeat) (held : List RegionBeat) (from upto : ℕ) : Type 0 where
  pub order : from ≤ upto
  pub bound : upto ≤ length held
  pub before : (k : ℕ) (d : RegionBeat) → k < from → k < length held → is_before_end beat.region.start (slice_index_or held k d).region.end ≡ false
  pub inside : (k : ℕ) (d : RegionBeat) → from ≤ k → k < upto → k < length held → overlaps beat (slice_index_or held k d) ≡ true
  pub behind : (k : ℕ) (d : RegionBeat) → upto ≤ k → k < length held → is_before_end (slice_index_or held k d).region.start beat.region.end ≡ false
