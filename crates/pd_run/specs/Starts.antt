-- What drivers get before a run begins: their seats at the metadata and their benches.
use Rattle.std.specs.Prelude.{◌≡◌, ℕ, ◌+◌, ◌-◌, List, [], ◌∷◌, ◌++◌, Option, Some, None, map}
use Rattle.pd_types.specs.declared.oracle.TheConstants.{MAX_DRIVERS}
use Rattle.pd_turn.specs.Turns.{TurnValue}
use Rattle.tso_model.specs.Moves.{numbers_from}
use Rattle.meta_store.specs.Seats.{SeatValue, new_seat}

-- the new seats of a turn that was opened: nobody's, with the number 0, and one for each of seven drivers
pub record AreNewSeats (meta : TurnValue) (seats : List SeatValue) : Type 0 where
  pub numbers : meta.numbers ≡ numbers_from 0 (MAX_DRIVERS + 1)
  pub seats_are : seats ≡ map (new_seat meta) (numbers_from 0 (MAX_DRIVERS + 1))

-- what is left of them once each of so many drivers has its own
pub record AreSpareSeats (meta : TurnValue) (drivers : ℕ) (seats : List SeatValue) : Type 0 where
  pub numbers : meta.numbers ≡ numbers_from 0 (MAX_DRIVERS + 1)
  pub seats_are : seats ≡ map (new_seat meta) (0 ∷ numbers_from (drivers + 1) (MAX_DRIVERS - drivers))

-- these seats behind the first were handed out
pub record AreHandedOut (given old new : List SeatValue) : Type 0 where
  pub first : SeatValue
  pub others : List SeatValue
  pub old_are : old ≡ first ∷ (given ++ others)
  pub new_are : new ≡ first ∷ others

-- each driver has the next bench, and none once none is left; the others stay
abbrev pub AreDealt : {B : Type 0} → List B → List (Option B) → List B → Type 0
AreDealt benches [] others = benches ≡ others
AreDealt [] (None ∷ given) others = AreDealt [] given others
AreDealt [] (Some bench ∷ given) others = ⊥
AreDealt (bench ∷ benches) (None ∷ given) others = ⊥
AreDealt (bench ∷ benches) (Some one ∷ given) others = (bench ≡ one) × AreDealt benches given others
