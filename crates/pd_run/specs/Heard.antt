-- What the benches of schedulers said in a run (own choice: a driver's bench is asked by its own cluster alone, one request after the other).
use Rattle.std.specs.Prelude.{◌≡◌, ℕ, ◌+◌, List, [], ◌∷◌, Option, Some, None}
use Rattle.pd_types.specs.declared.oracle.Actor.TheVariants.{Driver}
use Rattle.sched_api.specs.Benches.{Seats}
use Rattle.pd_state.specs.BenchHeard.{names_left}
use Rattle.pd_state.specs.declared.entry.Entry.{Entry}
use Rattle.pd_shared.specs.Benches.{IsOver, removed_name}
use Rattle.pd_shared.specs.Shares.{entries_of}

-- a bench without schedulers, which says nothing
abbrev pub no_seats : Seats
no_seats = record { list = []; next = 0; last = None; said = [] }

-- the bench, where there is one; else one without schedulers
abbrev pub seats_of : {B : Type 0} → (B → Seats) → Option B → Seats
seats_of seats None = no_seats
seats_of seats (Some bench) = seats bench

-- these entries were made over a bench, one after the other: what it said grew by what each heard of it, and its names stay but for those that were taken out
abbrev pub HeardAll : List Entry → Seats → Seats → Type 0
HeardAll [] old new = new ≡ old
HeardAll (entry ∷ entries) old new = (mid : Seats) × IsOver entry old mid × HeardAll entries mid new

-- of a bench's names, those that are left behind these entries: each that an entry removed is gone, the first of that name
abbrev pub names_behind : List Entry → List (List ℕ) → List (List ℕ)
names_behind [] names = names
names_behind (entry ∷ entries) names = names_behind entries (names_left (removed_name entry) names)

-- The benches from that of this driver on, with the journals from this driver's on: over each bench its driver's own entries were made, a driver without a bench
-- made its own over one without schedulers, and a bench without a driver stays
abbrev pub AreHeard : ℕ → List (List Entry) → List Seats → List Seats → Type 0
AreHeard driver [] [] [] = Unit {0}
AreHeard driver [] [] (new ∷ news) = ⊥
AreHeard driver [] (old ∷ olds) [] = ⊥
AreHeard driver [] (old ∷ olds) (new ∷ news) = (new ≡ old) × AreHeard (driver + 1) [] olds news
AreHeard driver (entries ∷ journals) [] [] = HeardAll (entries_of (Driver driver) entries) no_seats no_seats × AreHeard (driver + 1) journals [] []
AreHeard driver (entries ∷ journals) [] (new ∷ news) = ⊥
AreHeard driver (entries ∷ journals) (old ∷ olds) [] = ⊥
AreHeard driver (entries ∷ journals) (old ∷ olds) (new ∷ news) = HeardAll (entries_of (Driver driver) entries) old new × AreHeard (driver + 1) journals olds news
