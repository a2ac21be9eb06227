use Rattle.std.proofs.Common.{arith}
use Rattle.pd_script.specs.Scripts.{driver_of}
use Rattle.pd_script.proofs.Greatest.{at_least_one}
use Rattle.pd_script.proofs.limits.drivers.Goals as goal

pub loop-numbered-init : goal.loop-numbered-init
loop-numbered-init c = record { most = omega arith; all = omega (arith, at_least_one driver_of c.args.events.now) }
