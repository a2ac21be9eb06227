use Rattle.std.proofs.Common.{refl, sym}
use Rattle.std.proofs.lemmas.Bool.{true≢false}
use Rattle.sched_api.specs.Benches.{seat_of}
use Rattle.sched_api.proofs.TurnLemmas.{drops, none_named, one_named}
use Rattle.sched_api.proofs.bench.Bench.remove.Goals as goal

pub returns-in_default-clause-absent : goal.returns-in_default-clause-absent
returns-in_default-clause-absent g c = rw (← c.deref.ensures.value) ((λ _. none_named _ _ c.in_default.ensures), (λ _. refl))

pub returns-clause-absent : goal.returns-clause-absent
returns-clause-absent g c = rw (← c.deref.ensures.value) ((λ e. absurd (true≢false (sym e))), (λ all. absurd (one_named _ _ _ c.in-Some.ensures all)))

pub returns-clause-ok : goal.returns-clause-ok
returns-clause-ok g c =
    let first = c.in-Some.ensures in
    rw (c.next_without-self.ensures, c.len.ensures, c.remove.new.self.ok.0, c.remove.ensures.items) (drops c.args.self.now.schedulers.items (λ one. seat_of ((goal.Scheduler-dyn g (one.vtable, one.value)).name one.value) ((goal.Scheduler-dyn g (one.vtable, one.value)).last one.value) ((goal.Scheduler-dyn g (one.vtable, one.value)).asks one.value) ((goal.Scheduler-dyn g (one.vtable, one.value)).at one.value) ((goal.Scheduler-dyn g (one.vtable, one.value)).heard one.value)) c.in-Some.place c.args.self.now.next c.args.self.now.last c.last_without-self.result c.remove.result c.args.name.now c.args.self.now.said.items c.args.self.now.in_turn c.remove.ensures.value (rw (← c.deref.ensures.value) first) c.last_without-self.ensures)
