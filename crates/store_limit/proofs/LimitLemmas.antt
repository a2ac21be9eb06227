-- What one store's change makes of the limits of all.
use Rattle.std.proofs.Common.{◌≡◌, ◌≢◌, ℕ, ap, refl, ◌∙◌, arith, Option, Some, None}
use Rattle.std.specs.Option.{option_map_or}
use Rattle.std.specs.FinMap as map
use Rattle.id_map.proofs.Inserted.{other-insert, same-insert}
use Rattle.store_limit.specs.declared.bucket.TheConstants.{START_RATE}
use Rattle.store_limit.specs.declared.bucket.Buckets.{Buckets}
use Rattle.store_limit.specs.declared.limits.LimitKind.{LimitKind}
use Rattle.store_limit.specs.declared.limits.LimitKind.TheVariants.{AddPeer, RemovePeer}
use Rattle.store_limit.specs.Level.{Level, available_at, full_at}
use Rattle.store_limit.specs.Limits.{StoreLimits, available_in, changed_by, known, known_by, level_of, with_level}

-- a change of one store is none of another
pub others-changed : (found : Option Buckets) (change : Level → Level) (limits : StoreLimits) (store other : ℕ) (kind : LimitKind) → other ≢ store
    → map.get (changed_by found change limits store kind) other ≡ map.get limits other
others-changed None change limits store other kind away = refl
others-changed (Some buckets) change limits store other kind away = other-insert limits store (with_level kind (change (level_of kind buckets)) buckets) other away

pub others-known : (found : Option Buckets) (limits : StoreLimits) (store other now : ℕ) → other ≢ store → map.get (known_by found limits store now) other ≡ map.get limits other
others-known None limits store other now away = other-insert limits store (record { add = full_at START_RATE now; remove = full_at START_RATE now }) other away
others-known (Some buckets) limits store other now away = refl

-- what a full bucket at the first rate holds
full : (kind : LimitKind) (now : ℕ) → available_at (level_of kind (record { add = full_at START_RATE now; remove = full_at START_RATE now })) now ≡ 900000
full AddPeer now = omega arith
full RemovePeer now = omega arith

pub begins-full : (limits : StoreLimits) (store now : ℕ) (kind : LimitKind) → map.get limits store ≡ None → available_in (known limits store now) store kind now ≡ 900000
begins-full limits store now kind absent =
    let buckets : Buckets = record { add = full_at START_RATE now; remove = full_at START_RATE now } in
    ap (λ found. option_map_or (λ b. available_at (level_of kind b) now) (map.get (known_by found limits store now) store) 0) absent
    ∙ ap (λ found. option_map_or (λ b. available_at (level_of kind b) now) found 0) (same-insert limits store buckets)
    ∙ full kind now
