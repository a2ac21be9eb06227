use Rattle.std.proofs.Common.{ap}
use Rattle.rule_checker.specs.Told.{tells}
use Rattle.pd_state.proofs.Carried.{plan_whole}
use Rattle.pd_state.proofs.checking.carry_out.Goals as goal

pub returns-clause-does : goal.returns-clause-does
returns-clause-does g c =
    plan_whole c.args.part.now c.add_op.new.part c.args.beat.now c.in-Plan.class c.in-Plan.steps c.in-Plan.from c.in-Plan.to c.with_log.result c.in_ok-adding-in-Plan.adding c.in_ok-op-in-Plan.op c.new-log.result.sents c.add_op.new.log.sents c.new-log.result.answers
    c.add_op.new.log.answers (tells c.args.verdict) c.args.driver (g.M.Door.said c.args.door.now) (g.M.Door.said c.add_op.new.door) (g.M.Door.told c.args.door.now) (g.M.Door.told c.add_op.new.door) c.in_ok-op-in-Plan.ensures.value c.new-log.ensures.sents
    c.new-log.ensures.answers (ap tells c.in-Plan.is) c.in_ok-adding-in-Plan.ensures.rest c.in_ok-adding-in-Plan.ensures.adds c.with_log.ensures.reply c.with_log.ensures.sents c.with_log.ensures.heard
