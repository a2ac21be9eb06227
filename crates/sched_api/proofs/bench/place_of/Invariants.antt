use Rattle.std.proofs.Common.{◌≢◌, map, take, All}
use Rattle.sched_api.specs.Benches.{Seat, seat_of}
use Rattle.sched_api.proofs.bench.place_of.Given as goal

abbrev pub invariant-loop-place : goal.invariant-loop-place
invariant-loop-place g l = All (λ (other : Seat). other.name ≢ l.wanted) (take l.place (map (λ one. seat_of ((goal.Scheduler-dyn g (one.vtable, one.value)).name one.value) ((goal.Scheduler-dyn g (one.vtable, one.value)).last one.value) ((goal.Scheduler-dyn g (one.vtable, one.value)).asks one.value) ((goal.Scheduler-dyn g (one.vtable, one.value)).at one.value) ((goal.Scheduler-dyn g (one.vtable, one.value)).heard one.value)) l.schedulers))
