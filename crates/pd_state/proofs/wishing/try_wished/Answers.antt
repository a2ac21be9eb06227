use Rattle.pd_state.specs.Adding.{around_of, planning_of}
use Rattle.pd_state.specs.Asking.{ear}
use Rattle.pd_state.proofs.Scheduled.{tries_none}
use Rattle.pd_state.proofs.wishing.try_wished.Goals as goal

pub returns-in-Err-clause-tries : goal.returns-in-Err-clause-tries
returns-in-Err-clause-tries g c =
    let part = c.args.part.now in
    tries_none (around_of part) c.args.asker c.args.found.now (planning_of part) c.args.log.now.sents c.in-Err.why c.args.driver (ear c.args.log.now.answers part.known (g.M.Door.said c.args.door.now) (g.M.Door.told c.args.door.now)) c.in-Err.is
