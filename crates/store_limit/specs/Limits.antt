-- The limits of all stores: two buckets for each known store.
use Rattle.std.specs.Prelude.{ℕ, Option, Some, None}
use Rattle.std.specs.Option.{option_map_or}
use Rattle.std.specs.Ordering.{nat_cmp}
use Rattle.std.specs.FinMap as map
use Rattle.store_limit.specs.declared.bucket.TheConstants.{START_RATE}
use Rattle.store_limit.specs.declared.limits.LimitKind.{LimitKind}
use Rattle.store_limit.specs.declared.limits.LimitKind.TheVariants.{AddPeer, RemovePeer}
use Rattle.store_limit.specs.declared.bucket.Buckets.{Buckets}
use Rattle.store_limit.specs.Level.{Level, available_at, charged, rated, full_at}

-- the buckets of each known store
abbrev pub StoreLimits : Type 0
StoreLimits = map.FinMap nat_cmp Buckets

-- the bucket for new peers, or the one for peers that leave
abbrev pub level_of : LimitKind → Buckets → Level
level_of AddPeer buckets = buckets.add
level_of RemovePeer buckets = buckets.remove

-- the buckets with another level in that bucket's place
abbrev pub with_level : LimitKind → Level → Buckets → Buckets
with_level AddPeer level buckets = record { add = level; remove = buckets.remove }
with_level RemovePeer level buckets = record { add = buckets.add; remove = level }

-- what a store's bucket holds now, nothing where the store isn't known
abbrev pub available_in : StoreLimits → ℕ → LimitKind → ℕ → ℕ
available_in limits store kind now = option_map_or (λ buckets. available_at (level_of kind buckets) now) (map.get limits store) 0

-- the same, for what is known of the store
abbrev pub changed_by : Option Buckets → (Level → Level) → StoreLimits → ℕ → LimitKind → StoreLimits
changed_by None change limits store kind = limits
changed_by (Some buckets) change limits store kind = map.insert limits store (with_level kind (change (level_of kind buckets)) buckets)

-- the limits with one level of a store changed, where the store is known
abbrev pub changed : (Level → Level) → StoreLimits → ℕ → LimitKind → StoreLimits
changed change limits store kind = changed_by (map.get limits store) change limits store kind

-- the limits after a charge of a store
abbrev pub taken : StoreLimits → ℕ → LimitKind → ℕ → StoreLimits
taken limits store kind now = changed (λ level. charged level now) limits store kind

-- the limits after a new rate of a store
abbrev pub with_rate : StoreLimits → ℕ → LimitKind → ℕ → ℕ → StoreLimits
with_rate limits store kind rate now = changed (λ level. rated level rate now) limits store kind

-- the same, for what is known of the store
abbrev pub known_by : Option Buckets → StoreLimits → ℕ → ℕ → StoreLimits
known_by None limits store now = map.insert limits store (record { add = full_at START_RATE now; remove = full_at START_RATE now })
known_by (Some buckets) limits store now = limits

-- the limits after a store is known: a new one begins with full buckets at the first rate, a known one stays
abbrev pub known : StoreLimits → ℕ → ℕ → StoreLimits
known limits store now = known_by (map.get limits store) limits store now
