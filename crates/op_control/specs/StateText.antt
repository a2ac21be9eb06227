-- The names of operators' states (PD documentation, operator status).
use Rattle.std.specs.Prelude.{ℕ, List, codes}
use Rattle.op_control.specs.declared.operator.OpState.{OpState}
use Rattle.op_control.specs.declared.operator.OpState.TheVariants.{Created, Started, Success, Canceled, Replaced, Expired, Timeout}

-- the name of an operator's state
abbrev pub op_state_text : OpState → List ℕ
op_state_text Created = codes "Created"
op_state_text Started = codes "Started"
op_state_text Success = codes "Success"
op_state_text Canceled = codes "Canceled"
op_state_text Replaced = codes "Replaced"
op_state_text Expired = codes "Expired"
op_state_text Timeout = codes "Timeout"
