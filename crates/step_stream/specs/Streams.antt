-- What the two ends of a stream know (own choice: 64 places, one end that pushes and one that pops).
use Rattle.std.specs.Prelude.{◌≡◌, ℕ, Bool, true, List, ◌++◌, if◌then◌else◌, length, nat_lt}
use mathlib.Core.List.{IsPrefix}
use mathlib.Core.Option.{some}
use lib.ListN.{get_elem?}
use Rattle.atomic_table.specs.Seated.{TableId}
use Rattle.pd_types.specs.declared.step.StepMsg.{StepMsg}
use Rattle.step_stream.specs.declared.rule.View.{View}

-- the view with these parts
abbrev pub view_of : Bool → Bool → List StepMsg → List StepMsg → List StepMsg → View
view_of gives takes pushed popped known = record { gives = gives; takes = takes; pushed = pushed; popped = popped; known = known }

-- the longer of two lists, the first where neither is
abbrev pub longer : List StepMsg → List StepMsg → List StepMsg
longer one other = if nat_lt (length one) (length other) then other else one

-- the view k has the list of all that was pushed where it is the end that pushes, which is the view `giver`; and so for what was popped; what it knows to have been
-- pushed are the first of what was
pub record Fits (giver taker : ℕ) (pushed popped : List StepMsg) (k : ℕ) (v : View) : Type 0 where
  pub gives : v.gives ≡ true → (k ≡ giver) × (v.pushed ≡ pushed)
  pub takes : v.takes ≡ true → (k ≡ taker) × (v.popped ≡ popped)
  pub known : IsPrefix v.known pushed

-- the rule: what was pushed is what was popped and then what the queue holds; one view at most pushes, and one pops
abbrev pub IsInOrder : List StepMsg → List View → Type 0
IsInOrder items views = (giver : ℕ) × (taker : ℕ) × (pushed : List StepMsg) × (popped : List StepMsg) × (pushed ≡ popped ++ items)
    × ((k : ℕ) (v : View) → get_elem? views k ≡ some v → Fits giver taker pushed popped k v)

-- what contracts see of the end that pushes, and of a note: which stream it is of, and what was pushed, or had been when the note was made
pub record EndValue : Type 0 where
  pub stream : TableId
  pub list : List StepMsg

-- the end of this stream, or a note of it, with this list
abbrev pub end_value : TableId → List StepMsg → EndValue
end_value stream list = record { stream = stream; list = list }

-- what contracts see of the end that pops: which stream it is of, what it popped, and what it knows to have been pushed
pub record TakerValue : Type 0 where
  pub stream : TableId
  pub list : List StepMsg
  pub known : List StepMsg

-- the end of this stream that popped these steps and knows those
abbrev pub taker_value : TableId → List StepMsg → List StepMsg → TakerValue
taker_value stream list known = record { stream = stream; list = list; known = known }
