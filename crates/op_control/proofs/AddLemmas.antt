-- What follows where no refusal applies.
use Rattle.std.proofs.Common.{◌≡◌, ℕ, Bool, true, false, cond, refl, Option, Some, None}
use Rattle.pd_types.specs.declared.region.RegionBeat.{RegionBeat}
use Rattle.std.specs.Option.{option_or}
use Rattle.store_limit.specs.declared.limits.Limited.{Limited}
use Rattle.store_limit.specs.Limits.{StoreLimits}
use Rattle.op_control.specs.declared.operator.NewOp.{NewOp}
use Rattle.op_control.specs.declared.operator.Operator.{Operator}
use Rattle.op_control.specs.declared.adding.AddFault.{AddFault}
use Rattle.op_control.specs.Table.{Table}
use Rattle.op_control.specs.Charging.{first_refused}
use Rattle.op_control.specs.Adding.{refusal_of, room_refusal}

cond-none : (b : Bool) (fault : AddFault) (rest : Option AddFault) → cond b (Some fault) rest ≡ None → rest ≡ None
cond-none true fault rest e = cc
cond-none false fault rest e = e

or-none : (first rest : Option AddFault) → option_or first rest ≡ None → rest ≡ None
or-none (Some fault) rest e = cc
or-none None rest e = e

room-none : (limited : Option Limited) (active : Option Operator) (count : ℕ) → room_refusal limited active count ≡ None → limited ≡ None
room-none (Some limited) active count e = cc
room-none None active count e = refl

-- an accepted operator's steps are refused by no limit
pub accepted-limits : (table : Table) (op : NewOp) (kept : Option RegionBeat) (limits : StoreLimits) (now : ℕ) → refusal_of table op kept limits now ≡ None → first_refused op.steps limits now ≡ None
accepted-limits table op None limits now e = cc
accepted-limits table op (Some beat) limits now e = room-none _ _ _ (or-none _ _ (cond-none _ _ _ e))
