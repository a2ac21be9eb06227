use Rattle.std.proofs.Common.{◌≡◌, drop}
use Rattle.op_control.specs.Charging.{after_charges, first_refused}
use Rattle.std.proofs.Common.{None}
use Rattle.op_control.proofs.charging.charge_all.Given as goal

abbrev pub invariant-loop-step : goal.invariant-loop-step
invariant-loop-step l = (first_refused (drop l.step-index l.steps) l.limits l.now ≡ None) × (after_charges (drop l.step-index l.steps) l.limits l.now ≡ after_charges l.steps l.initial.limits l.now)
