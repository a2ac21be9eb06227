-- The borders of placement rules inside a region: a region is split there before it is checked (PD documentation, "Placement Rules").
use Rattle.std.specs.Prelude.{◌≡◌, ℕ, Bool, true, ◌&&◌, List, ◌⊎◌, Contains, AllPairs}
use Rattle.pd_types.specs.declared.rule.Rule.{Rule}
use Rattle.pd_types.specs.declared.region.Region.{Region}
use Rattle.pd_types.specs.Keys.{is_before_end, is_below}
use Rattle.std.specs.Str.{bytes_eq}

-- the key lies inside the region's range and isn't its start
abbrev pub strictly_inside : Region → List ℕ → Bool
strictly_inside region key = is_below region.start key && is_before_end key region.end

-- the key is a start or an end of a rule, and strictly inside the region; so it isn't empty
pub record IsBorder (rules : List Rule) (region : Region) (key : List ℕ) : Type 0 where
  pub rule : Rule
  pub known : Contains rules rule
  pub edge : (key ≡ rule.start) ⊎ (key ≡ rule.end)
  pub inside : strictly_inside region key ≡ true

-- each key is less than those behind it
abbrev pub AreRising : List (List ℕ) → Type 0
AreRising keys = AllPairs (λ one later. is_below one later ≡ true) keys

-- two keys have the same bytes
abbrev pub is_tied : List ℕ → List ℕ → Bool
is_tied one other = bytes_eq one other

-- a key is listed where it lies strictly inside the region, and nothing else changes
pub record Takes (region : Region) (old new : List (List ℕ)) (key : List ℕ) : Type 0 where
  pub kept : (other : List ℕ) → Contains old other → Contains new other
  pub listed : strictly_inside region key ≡ true → Contains new key
  pub only : (other : List ℕ) → Contains new other → Contains old other ⊎ ((other ≡ key) × (strictly_inside region key ≡ true))
