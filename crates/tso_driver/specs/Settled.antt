-- When a seat can be a driver's between two calls.
use Rattle.std.specs.Prelude.{◌≡◌, true}
use Rattle.tso_model.specs.declared.view.View.{View}
use Rattle.tso_model.specs.Words.{IsOpen}
use Rattle.tso_model.specs.Steps.{held}

-- no term is held, or its window is open and marked as raised
abbrev pub IsSettled : View → Type 0
IsSettled v = v.holds ≡ true → (v.marked ≡ true) × IsOpen (held v)
