use Rattle.pd_state.proofs.Scheduled.{heed_does}
use Rattle.pd_state.proofs.scheduling.heed.Goals as goal

pub returns-clause-does : goal.returns-clause-does
returns-clause-does g c =
    heed_does c.args.part.now c.try_wished.new.part c.args.said.now c.in-Some.proposal c.in_ok-name.name c.in_ok-asker.asker c.region_of.result c.wish_of.result c.in_ok-found.found c.with_log.result c.in_ok-adding.adding c.new-log.result.sents
    c.try_wished.new.log.sents c.new-log.result.answers c.try_wished.new.log.answers c.args.driver (g.M.Door.said c.args.door.now) (g.M.Door.said c.try_wished.new.door) (g.M.Door.told c.args.door.now) (g.M.Door.told c.try_wished.new.door) c.in-Some.is
    c.in_ok-name.ensures c.in_ok-asker.ensures.value c.region_of.ensures.value c.wish_of.ensures.value c.in_ok-found.ensures.value c.new-log.ensures.sents c.new-log.ensures.answers c.in_ok-adding.ensures.rest c.in_ok-adding.ensures.tries
    c.with_log.ensures.reply c.with_log.ensures.sents c.with_log.ensures.heard
