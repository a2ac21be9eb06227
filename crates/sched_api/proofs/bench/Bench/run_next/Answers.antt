use Rattle.std.proofs.Common.{◌<◌, sym, arith, length}
use Rattle.std.proofs.lemmas.Bool.Decides.{nat_tests}
use Rattle.sched_api.specs.Benches.{seat_of}
use Rattle.sched_api.proofs.TurnLemmas.{takes_turn, asks_in_vain, asks_nobody, on_err}
use Rattle.sched_api.proofs.bench.Bench.run_next.Goals as goal

pub returns-clause-turn : goal.returns-clause-turn
returns-clause-turn g c =
    let inside : c.args.self.now.next < length c.args.self.now.schedulers.items = let e = c.if-is_empty.ensures in let k = c.args.self.now.schedulers.ok in let n = c.args.self.now.in_turn in grind (arith, nat_tests, e, k, n) in
    rw (c.push_reserved.ensures.items, c.reserve.ensures.items, c.in_ok-said.ensures, c.behind-self.ensures, c.len.ensures, c.args.self.now.schedulers.ok.0)
    (takes_turn c.args.self.now.schedulers.items (λ one. seat_of ((goal.Scheduler-dyn g (one.vtable, one.value)).name one.value) ((goal.Scheduler-dyn g (one.vtable, one.value)).last one.value) ((goal.Scheduler-dyn g (one.vtable, one.value)).asks one.value) ((goal.Scheduler-dyn g (one.vtable, one.value)).at one.value) ((goal.Scheduler-dyn g (one.vtable, one.value)).heard one.value)) c.args.self.now.next c.args.self.now.last c.index_mut.result.now c.ask.new.one c.args.now c.in_ok-answer.answer c.args.self.now.said.items
    inside (sym c.index_mut.ensures.value) c.in_ok-answer.ensures.name c.in_ok-answer.ensures.asks c.in_ok-answer.ensures.at c.in_ok-answer.ensures.heard c.in_ok-answer.ensures.named c.in_ok-answer.ensures.answer)

pub returns-in_err-answer-clause-err : goal.returns-in_err-answer-clause-err
returns-in_err-answer-clause-err g c =
    rw c.reserve.ensures.items (on_err c.from_residual-in_err-answer.result (asks_in_vain c.args.self.now.schedulers.items (λ one. seat_of ((goal.Scheduler-dyn g (one.vtable, one.value)).name one.value) ((goal.Scheduler-dyn g (one.vtable, one.value)).last one.value) ((goal.Scheduler-dyn g (one.vtable, one.value)).asks one.value) ((goal.Scheduler-dyn g (one.vtable, one.value)).at one.value) ((goal.Scheduler-dyn g (one.vtable, one.value)).heard one.value)) c.args.self.now.next c.args.self.now.last c.index_mut.result.now c.ask.new.one c.args.self.now.said.items (sym c.index_mut.ensures.value) c.ask.ensures.name))

pub returns-in_err-said-clause-err : goal.returns-in_err-said-clause-err
returns-in_err-said-clause-err g c =
    rw c.reserve.ensures.items (on_err c.from_residual-in_err-said.result (asks_in_vain c.args.self.now.schedulers.items (λ one. seat_of ((goal.Scheduler-dyn g (one.vtable, one.value)).name one.value) ((goal.Scheduler-dyn g (one.vtable, one.value)).last one.value) ((goal.Scheduler-dyn g (one.vtable, one.value)).asks one.value) ((goal.Scheduler-dyn g (one.vtable, one.value)).at one.value) ((goal.Scheduler-dyn g (one.vtable, one.value)).heard one.value)) c.args.self.now.next c.args.self.now.last c.index_mut.result.now c.ask.new.one c.args.self.now.said.items (sym c.index_mut.ensures.value) c.in_ok-answer.ensures.name))

pub returns-in_err-reserve-clause-err : goal.returns-in_err-reserve-clause-err
returns-in_err-reserve-clause-err g c = rw c.reserve.ensures.items (on_err c.from_residual.result (asks_nobody _))
