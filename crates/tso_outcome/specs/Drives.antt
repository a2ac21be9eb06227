-- What a driver's answers say together, and its calls in a row.
use Rattle.std.specs.Prelude.{◌≡◌, ℕ, List, [], ◌∷◌, ◌++◌, Option}
use Rattle.pd_types.specs.declared.oracle.Window.{Window}
use Rattle.tso_model.specs.declared.view.View.{View}
use Rattle.tso_driver.specs.Driving.{DriverDid, held_after, raises}
use Rattle.tso_outcome.specs.declared.said.DriverAnswer.{DriverAnswer}

-- the window that the driver d holds after all these answers, where it held this one before them
abbrev pub held_by : ℕ → Option Window → List DriverAnswer → Option Window
held_by d holds [] = holds
held_by d holds (a ∷ rest) = held_by d (held_after d a.said holds) rest

-- where these answers say that the cursor was raised to: the start of each window won, and each moment moved to
abbrev pub raised : List DriverAnswer → List ℕ
raised [] = []
raised (a ∷ rest) = raises a.said ++ raised rest

-- the calls of a driver's lines, one after the other, from what it knew to what it knows
abbrev pub Drove : View → List DriverAnswer → View → Type 0
Drove v [] w = v ≡ w
Drove v (a ∷ rest) w = (u : View) × DriverDid a.said v u × Drove u rest w
