use Rattle.std.proofs.Common.{ap}
use Rattle.pd_state.specs.Scheduling.{schedule_of}
use Rattle.pd_state.specs.declared.heard.Done.{Done}
use Rattle.pd_state.specs.declared.part.Part.{Part}
use Rattle.pd_state.proofs.Carried.{asked_is, reply_is, sents_is}
use Rattle.pd_state.proofs.Scheduled.{after_turn, turn_becomes, turn_counts, turn_does}
use Rattle.pd_state.proofs.scheduling.schedule.Goals as goal

pub returns-clause-reply : goal.returns-clause-reply
returns-clause-reply g c =
    let part = c.args.part.now in
    let was = c.in_ok-reply.field-0 in
    let d : Done = record { reply = was.reply; heard = record { answers = was.heard.answers; bench = c.in_ok-bench.bench; names = c.in_ok-names.names }; sents = was.sents } in
    reply_is (schedule_of part c.args.moment d.heard.bench) part c.heed.new.part c.args.moment c.args.driver d (g.M.Door.said c.args.door.now) (g.M.Door.said c.heed.new.door) (g.M.Door.told c.args.door.now) (g.M.Door.told c.heed.new.door)
    (turn_does part c.advance.new.self c.heed.new.part c.args.moment c.in-Some.said c.in_ok-bench.bench d c.args.driver (g.M.Door.said c.args.door.now) (g.M.Door.said c.heed.new.door) (g.M.Door.told c.args.door.now) (g.M.Door.told c.heed.new.door)
    c.advance.ensures.value c.in_ok-bench.ensures.value c.in_ok-reply.ensures.does)

pub returns-clause-asked : goal.returns-clause-asked
returns-clause-asked g c =
    let part = c.args.part.now in
    let was = c.in_ok-reply.field-0 in
    let d : Done = record { reply = was.reply; heard = record { answers = was.heard.answers; bench = c.in_ok-bench.bench; names = c.in_ok-names.names }; sents = was.sents } in
    asked_is (schedule_of part c.args.moment d.heard.bench) part c.heed.new.part c.args.moment c.args.driver d (g.M.Door.said c.args.door.now) (g.M.Door.said c.heed.new.door) (g.M.Door.told c.args.door.now) (g.M.Door.told c.heed.new.door)
    (turn_does part c.advance.new.self c.heed.new.part c.args.moment c.in-Some.said c.in_ok-bench.bench d c.args.driver (g.M.Door.said c.args.door.now) (g.M.Door.said c.heed.new.door) (g.M.Door.told c.args.door.now) (g.M.Door.told c.heed.new.door)
    c.advance.ensures.value c.in_ok-bench.ensures.value c.in_ok-reply.ensures.does)

pub returns-clause-turns : goal.returns-clause-turns
returns-clause-turns g c = turn_counts _ _ _ c.in_ok-asked.asked c.in-Some.said c.in_ok-bench.bench c.in_ok-names.names c.in-Some.is c.in_ok-asked.ensures.turn c.in_ok-bench.ensures.value c.in_ok-names.ensures.value

pub returns-clause-becomes : goal.returns-clause-becomes
returns-clause-becomes g c =
    turn_becomes c.args.part.now c.args.moment c.advance.new.self.clock c.in_ok-reply.field-0.reply c.in_ok-asked.asked c.in-Some.said c.in_ok-bench.bench c.in_ok-names.names _ _ _ c.in-Some.is (ap (λ (p : Part). p.clock) c.advance.ensures.value) c.in_ok-bench.ensures.value c.in_ok-asked.ensures.turn c.tell.ensures.told

pub returns-clause-after : goal.returns-clause-after
returns-clause-after g c =
    let part = c.args.part.now in
    let was = c.in_ok-reply.field-0 in
    let d : Done = record { reply = was.reply; heard = record { answers = was.heard.answers; bench = c.in_ok-bench.bench; names = c.in_ok-names.names }; sents = was.sents } in
    after_turn part c.advance.new.self c.heed.new.part c.args.moment c.args.driver d (g.M.Door.said c.args.door.now) (g.M.Door.said c.heed.new.door) (g.M.Door.told c.args.door.now) (g.M.Door.told c.heed.new.door) c.advance.ensures.value
    c.in_ok-reply.ensures.rest
    (turn_does part c.advance.new.self c.heed.new.part c.args.moment c.in-Some.said c.in_ok-bench.bench d c.args.driver (g.M.Door.said c.args.door.now) (g.M.Door.said c.heed.new.door) (g.M.Door.told c.args.door.now) (g.M.Door.told c.heed.new.door)
    c.advance.ensures.value c.in_ok-bench.ensures.value c.in_ok-reply.ensures.does)

pub returns-clause-sents : goal.returns-clause-sents
returns-clause-sents g c =
    let part = c.args.part.now in
    let was = c.in_ok-reply.field-0 in
    let d : Done = record { reply = was.reply; heard = record { answers = was.heard.answers; bench = c.in_ok-bench.bench; names = c.in_ok-names.names }; sents = was.sents } in
    sents_is (schedule_of part c.args.moment d.heard.bench) part c.heed.new.part c.args.moment c.args.driver d (g.M.Door.said c.args.door.now) (g.M.Door.said c.heed.new.door) (g.M.Door.told c.args.door.now) (g.M.Door.told c.heed.new.door)
    (turn_does part c.advance.new.self c.heed.new.part c.args.moment c.in-Some.said c.in_ok-bench.bench d c.args.driver (g.M.Door.said c.args.door.now) (g.M.Door.said c.heed.new.door) (g.M.Door.told c.args.door.now) (g.M.Door.told c.heed.new.door)
    c.advance.ensures.value c.in_ok-bench.ensures.value c.in_ok-reply.ensures.does)
