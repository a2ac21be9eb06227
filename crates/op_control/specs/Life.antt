-- The life of an operator: from which state it goes to which, and where (PD, the states of an operator; pd-ctl, `operator check`).
use Rattle.std.specs.Prelude.{Bool, true, false, IsTrue}
use Rattle.op_control.specs.declared.operator.OpState.{OpState}
use Rattle.op_control.specs.declared.operator.OpState.TheVariants.{Created, Started, Success, Canceled, Replaced, Expired, Timeout}

-- where an operator changes its state
pub data Where : Type 0 where
  FirstSend : Where
  NoStepLeft : Where
  ConfVerGrew : Where
  RegionLeft : Where
  Removed : Where
  HigherPriority : Where
  TooLate : Where

-- the table of an operator's life, and no more
abbrev pub lives : OpState → OpState → Where → Bool
lives Created Started FirstSend = true
lives Created Success NoStepLeft = true
lives Started Success NoStepLeft = true
lives Created Canceled ConfVerGrew = true
lives Started Canceled ConfVerGrew = true
lives Created Canceled RegionLeft = true
lives Started Canceled RegionLeft = true
lives Created Canceled Removed = true
lives Started Canceled Removed = true
lives Created Replaced HigherPriority = true
lives Started Replaced HigherPriority = true
lives Created Expired TooLate = true
lives Started Timeout TooLate = true
lives _ _ _ = false

-- the operator may go from the one state to the other there
abbrev pub Lives : OpState → OpState → Where → Type 0
Lives from to at = IsTrue (lives from to at)

-- the operator hasn't ended
abbrev pub is_active : OpState → Bool
is_active Created = true
is_active Started = true
is_active Success = false
is_active Canceled = false
is_active Replaced = false
is_active Expired = false
is_active Timeout = false
