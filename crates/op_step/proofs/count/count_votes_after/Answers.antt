use Rattle.std.proofs.Common.{sym, ◌∙◌}
use Rattle.op_step.proofs.CountLemmas.{live-after, voters-after}
use Rattle.op_step.proofs.count.count_votes_after.Goals as goal

pub returns-clause-live : goal.returns-clause-live
returns-clause-live c = c.count_live_after.ensures ∙ sym (live-after c.args.step.now c.args.beat.now c.args.stores.now c.args.now)

pub returns-clause-voters : goal.returns-clause-voters
returns-clause-voters c = c.count_voters_after.ensures ∙ sym (voters-after c.args.step.now c.args.beat.now)
