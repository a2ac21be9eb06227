use Rattle.std.proofs.Common.{◌∙◌, ap, sym}
use Rattle.pd_state.specs.Adding.{around_of}
use Rattle.pd_state.specs.Asking.{ear}
use Rattle.pd_state.specs.Checking.{check_op, round_at}
use Rattle.pd_state.proofs.Deeds.{visit_busy, visit_stopped}
use Rattle.pd_state.proofs.Visits.{visit_whole}
use Rattle.pd_state.proofs.patrol.visit.Goals as goal
use Rattle.pd_state.proofs.patrol.visit.Goals.{then-round-via-then-round, then-round-via-else-round+then-has_operator}

pub returns-then-round-clause-talks : goal.returns-then-round-clause-talks
returns-then-round-clause-talks g c =
    let part = c.args.part.now in
    let round = round_at part c.args.log.now.sents c.args.round in
    let at = ear c.args.log.now.answers part.known (g.M.Door.said c.args.door.now) (g.M.Door.told c.args.door.now) in
    elim c.then-round.branch [ then-round-via-then-round w ↦ visit_stopped (around_of part) c.args.planned.now round c.args.driver at w.if-round.true | then-round-via-else-round+then-has_operator w ↦ visit_busy (around_of part) c.args.planned.now round c.args.driver at w.if-round.false (sym w.has_operator.ensures ∙ w.if-has_operator.true) ]

pub returns-clause-talks : goal.returns-clause-talks
returns-clause-talks g c =
    let part = c.args.part.now in
    visit_whole (around_of part) c.args.planned.now part c.add_op.new.part c.args.round c.tally.result c.args.log.now.sents c.add_op.new.log.sents c.in_ok-op.op c.in_ok-adding.adding c.args.driver
    (ear c.args.log.now.answers part.known (g.M.Door.said c.args.door.now) (g.M.Door.told c.args.door.now)) (ear c.add_op.new.log.answers c.add_op.new.part.known (g.M.Door.said c.add_op.new.door) (g.M.Door.told c.add_op.new.door)) c.if-round.false
    (sym c.has_operator.ensures ∙ c.if-has_operator.false) (c.in_ok-op.ensures.value ∙ ap (check_op c.args.planned.now.beat) c.in_ok-copy.ensures) c.tally.ensures.value c.in_ok-adding.ensures.adds
