use Rattle.std.proofs.Common.{sym}
use Rattle.sched_api.specs.Benches.{seat_of}
use Rattle.sched_api.proofs.TurnLemmas.{tells_last, told_seat}
use Rattle.sched_api.proofs.bench.Bench.tell_last.Goals as goal

pub returns-in-Some : goal.returns-in-Some
returns-in-Some g c =
    record {
      tells = tells_last c.args.self.now.schedulers.items (λ one. seat_of ((goal.Scheduler-dyn g (one.vtable, one.value)).name one.value) ((goal.Scheduler-dyn g (one.vtable, one.value)).last one.value) ((goal.Scheduler-dyn g (one.vtable, one.value)).asks one.value) ((goal.Scheduler-dyn g (one.vtable, one.value)).at one.value) ((goal.Scheduler-dyn g (one.vtable, one.value)).heard one.value)) c.args.self.now.last c.in-Some.place c.args.self.now.next c.index_mut.result.now c.tell.new.one c.args.fate c.args.self.now.said.items
          c.in-Some.is c.args.self.now.in_list (sym c.index_mut.ensures.value) (told_seat _ _ _ _ _ _ _ _ _ _ c.tell.ensures.name c.tell.ensures.last c.tell.ensures.asks c.tell.ensures.at c.tell.ensures.heard);
    }
