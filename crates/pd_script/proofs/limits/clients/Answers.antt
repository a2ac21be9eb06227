use Rattle.std.proofs.Common.{arith}
use Rattle.pd_script.specs.Scripts.{client_of}
use Rattle.pd_script.proofs.Greatest.{at_least_one}
use Rattle.pd_script.proofs.limits.clients.Goals as goal

pub loop-numbered-init : goal.loop-numbered-init
loop-numbered-init c = record { most = omega arith; all = omega (arith, at_least_one client_of c.args.events.now) }
