use Rattle.sched_api.specs.Benches.{seat_of}
use Rattle.sched_api.proofs.TurnLemmas.{all_names}
use Rattle.sched_api.proofs.bench.Bench.names.Goals as goal

pub returns : goal.returns
returns g c = record { value = all_names c.args.self.now.schedulers.items c.deref-one-items.result.now (λ one. seat_of ((goal.Scheduler-dyn g (one.vtable, one.value)).name one.value) ((goal.Scheduler-dyn g (one.vtable, one.value)).last one.value) ((goal.Scheduler-dyn g (one.vtable, one.value)).asks one.value) ((goal.Scheduler-dyn g (one.vtable, one.value)).at one.value) ((goal.Scheduler-dyn g (one.vtable, one.value)).heard one.value)) c.loop-one.one-index c.loop-one.names c.deref-one-items.ensures.value c.loop-one-test.false c.loop-one.invariant }
