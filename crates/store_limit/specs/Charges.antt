-- What all charges since a rate began leave of a bucket (own words for PD's "Store Limit": a peer needs its units, and the
-- bucket gains them at its rate). Charges are the moments at which a peer was charged, the latest first.
use Rattle.std.specs.Prelude.{ℕ, ◌+◌, ◌-◌, ◌*◌, ◌≤◌, List, [], ◌∷◌, length, fold, min, nat_le, ◌&&◌, count_by}
use Rattle.store_limit.specs.declared.bucket.TheConstants.{PEER_UNITS}
use Rattle.store_limit.specs.Level.{Level, cap_of, charged}

-- for each charge: a bucket that was full at that charge, with what came since, less that charge and the `later` ones after it
abbrev pub bounds : Level → ℕ → List ℕ → ℕ → List ℕ
bounds level later [] now = []
bounds level later (charge ∷ earlier) now =
    (cap_of level.rate + level.rate * (now - charge) - PEER_UNITS * (later + 1)) ∷ bounds level (later + 1) earlier now

-- the least of the cap, of what the bucket began with and gained since less all charges, and of the bound of each charge
abbrev pub least_after : Level → List ℕ → ℕ → ℕ
least_after level charges now =
    fold min (cap_of level.rate) ((level.content + level.rate * (now - level.moment) - PEER_UNITS * length charges) ∷ bounds level 0 charges now)

-- the moment of the latest charge, or the one at which the level began
abbrev pub latest : Level → List ℕ → ℕ
latest level [] = level.moment
latest level (charge ∷ earlier) = charge

-- each charge came no earlier than the one before it, where all the charges before it left a peer's units
abbrev pub AreLawful : Level → List ℕ → Type 0
AreLawful level [] = Unit {0}
AreLawful level (charge ∷ earlier) = (latest level earlier ≤ charge) × (PEER_UNITS ≤ least_after level earlier charge) × AreLawful level earlier

-- the one level that is kept, after these charges
abbrev pub level_after : Level → List ℕ → Level
level_after level [] = level
level_after level (charge ∷ earlier) = charged (level_after level earlier) charge

-- how many charges came from one moment to another, both among them
abbrev pub count_between : ℕ → ℕ → List ℕ → ℕ
count_between from upto charges = count_by (λ charge. nat_le from charge && nat_le charge upto) charges
