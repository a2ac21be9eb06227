-- What a seat in memory means.
use Rattle.std.specs.Prelude.{ℕ, ◌-◌}
use Rattle.tso_model.specs.declared.step.WordStep.{WordStep}
use Rattle.tso_model.specs.declared.view.View.{View}
use Rattle.tso_model.specs.Moves.{spent_view}
use Rattle.tso_model.specs.Steps.{view_after}

-- what an actor knows and did, and how many more entries each of its lists has room for
pub record Seated : Type 0 where
  pub view : View
  pub spare : ℕ

-- the view of a seat
abbrev pub view_of : Seated → View
view_of s = s.view

-- the seat with this view, and room for one entry less
abbrev pub with_view : View → Seated → Seated
with_view v s = record { view = v; spare = s.spare - 1 }

-- the seat after a step that found this word
abbrev pub seat_after : WordStep → ℕ → Seated → Seated
seat_after step found s = with_view (view_after step found s.view) s

-- where no seat is
abbrev pub no_seat : Seated
no_seat = record { view = spent_view; spare = 0 }
