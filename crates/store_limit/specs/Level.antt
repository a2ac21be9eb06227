-- What a bucket of a store limit holds (PD documentation, "Store Limit"; pd-ctl `store limit`).
-- Moments are in milliseconds. A peer is 60000 units, so a rate of one peer a minute is one unit a millisecond.
use Rattle.std.specs.Prelude.{ℕ, ◌+◌, ◌-◌, ◌*◌, min, max}
use Rattle.store_limit.specs.declared.bucket.TheConstants.{PEER_UNITS}

-- a rate in peers a minute, and the content in units that the bucket had at a moment
pub record Level : Type 0 where
  pub rate : ℕ
  pub content : ℕ
  pub moment : ℕ

-- the most that a bucket of this rate holds: what it gains in a minute
abbrev pub cap_of : ℕ → ℕ
cap_of rate = rate * PEER_UNITS

-- what the bucket holds now: it gains `rate` units a millisecond, up to its cap; an earlier moment counts as the level's own
abbrev pub available_at : Level → ℕ → ℕ
available_at level now = min (cap_of level.rate) (level.content + level.rate * (now - level.moment))

-- a bucket that is full at a moment
abbrev pub full_at : ℕ → ℕ → Level
full_at rate now = record { rate = rate; content = cap_of rate; moment = now }

-- the level after a charge of one peer
abbrev pub charged : Level → ℕ → Level
charged level now = record { rate = level.rate; content = available_at level now - PEER_UNITS; moment = max level.moment now }

-- the level from a new rate on: it begins with what is available, at most its own cap
abbrev pub rated : Level → ℕ → ℕ → Level
rated level rate now = record { rate = rate; content = min (available_at level now) (cap_of rate); moment = max level.moment now }
