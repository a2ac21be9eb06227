use Rattle.std.proofs.Common.{sym, ◌∙◌}
use Rattle.std.proofs.lemmas.Bool.{true≢false}
use Rattle.sched_api.specs.Benches.{seat_of}
use Rattle.sched_api.proofs.TurnLemmas.{name_more, name_nowhere}
use Rattle.sched_api.proofs.bench.place_of.Goals as goal

pub loop-place-preserved : goal.loop-place-preserved
loop-place-preserved g c = name_more c.args.schedulers.now (λ one. seat_of ((goal.Scheduler-dyn g (one.vtable, one.value)).name one.value) ((goal.Scheduler-dyn g (one.vtable, one.value)).last one.value) ((goal.Scheduler-dyn g (one.vtable, one.value)).asks one.value) ((goal.Scheduler-dyn g (one.vtable, one.value)).at one.value) ((goal.Scheduler-dyn g (one.vtable, one.value)).heard one.value)) c.loop-place.place c.index-schedulers-place.result c.args.wanted.now c.loop-place-test.true c.index-schedulers-place.is (λ e. true≢false (sym (c.is_named.ensures.1 e) ∙ c.if-is_named.false)) c.loop-place.invariant

pub returns : goal.returns
returns g c = name_nowhere c.args.schedulers.now (λ one. seat_of ((goal.Scheduler-dyn g (one.vtable, one.value)).name one.value) ((goal.Scheduler-dyn g (one.vtable, one.value)).last one.value) ((goal.Scheduler-dyn g (one.vtable, one.value)).asks one.value) ((goal.Scheduler-dyn g (one.vtable, one.value)).at one.value) ((goal.Scheduler-dyn g (one.vtable, one.value)).heard one.value)) c.loop-place.place c.args.wanted.now c.loop-place-test.false c.loop-place.invariant
