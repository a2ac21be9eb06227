use Rattle.std.proofs.Common.{◌≡◌, map, take}
use Rattle.sched_api.proofs.bench.Bench.names.Given as goal

abbrev pub invariant-loop-one : goal.invariant-loop-one
invariant-loop-one g l = l.names ≡ map (λ one. (goal.Scheduler-dyn g (one.vtable, one.value)).name one.value) (take l.one-index l.one-items)
