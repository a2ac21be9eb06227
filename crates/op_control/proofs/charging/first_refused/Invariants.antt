use Rattle.std.proofs.Common.{◌≡◌, drop, take}
use Rattle.op_control.specs.Charging.{after_charges, first_refused}
use Rattle.op_control.proofs.charging.first_refused.Given as goal

abbrev pub invariant-loop-place : goal.invariant-loop-place
invariant-loop-place l = first_refused (drop l.place l.steps) (after_charges (take l.place l.steps) l.limits l.now) l.now ≡ first_refused l.steps l.limits l.now
