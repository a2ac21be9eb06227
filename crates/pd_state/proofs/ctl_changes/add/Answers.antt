use Rattle.std.proofs.Common.{◌∙◌}
use Rattle.pd_state.proofs.Commanded.{add_does}
use Rattle.pd_state.proofs.ctl_changes.add.Goals as goal

pub returns-clause-does : goal.returns-clause-does
returns-clause-does g c =
    add_does c.args.part.now c.try_wished.new.part c.args.region c.args.wish.now c.in_ok-asker.asker c.in_ok-found.found c.steps_in.result c.with_log.result c.in_ok-adding.adding c.new-log.result.sents c.try_wished.new.log.sents c.new-log.result.answers
    c.try_wished.new.log.answers c.args.driver (g.M.Door.said c.args.door.now) (g.M.Door.said c.try_wished.new.door) (g.M.Door.told c.args.door.now) (g.M.Door.told c.try_wished.new.door) c.in_ok-asker.ensures.value c.in_ok-found.ensures.value
    c.steps_in.ensures.value c.new-log.ensures.sents c.new-log.ensures.answers c.in_ok-adding.ensures.rest c.in_ok-adding.ensures.tries (c.with_log.ensures.reply ∙ c.in_ok-reply.ensures.value) c.with_log.ensures.sents c.with_log.ensures.heard
