use Rattle.std.proofs.Common.{◌≡◌, ◌+◌, ◌<◌, length, get_or, arith, ◌∙◌, Some, None}
use Rattle.rule_fit.specs.Table.{suits}
use Rattle.rule_fit.specs.Trail.{peer_at}
use Rattle.rule_fit.proofs.Moves.{moved_room, placed_kept, placed_new}
use Rattle.rule_fit.proofs.TrailLemmas.{trail_set, moved_here}
use Rattle.rule_fit.proofs.search.augment.Goals as goal

pub returns-in-None-clause-assigned : goal.returns-in-None-clause-assigned
returns-in-None-clause-assigned c =
    let inv = c.loop-link.invariant in
    moved_here (suits c.args.table.now) c.args.counts.now c.loop-link.given (peer_at c.args.queue.now c.loop-link.at) c.loop-link.freed inv.assigned (inv.trail.inside c.loop-link.at (omega arith)) inv.known inv.suited inv.room

pub loop-link-preserved : goal.loop-link-preserved
loop-link-preserved c =
    let inv = c.loop-link.invariant in
    let at = c.loop-link.at in
    let given = c.loop-link.given in
    let queue = c.args.queue.now in
    let rule = c.loop-link.freed in
    let link = c.in-Some.link in
    let below = inv.trail.inside at (omega arith) in
    let back : link.place < at = inv.trail.back at link (omega arith) c.in-Some.is in
    let leaves : get_or given (peer_at queue at) None ≡ Some link.rule = inv.trail.leaves at link (omega arith) c.in-Some.is in
    record {
      assigned = moved_here (suits c.args.table.now) c.args.counts.now given (peer_at queue at) rule inv.assigned below inv.known inv.suited inv.room;
      trail = trail_set (suits c.args.table.now) given queue at (link.place + 1) rule inv.trail (omega arith);
      known = inv.assigned.known (peer_at queue at) link.rule leaves;
      suited = inv.trail.suited at link (omega arith) c.in-Some.is;
      room = moved_room (suits c.args.table.now) (length given) c.args.counts.now given (peer_at queue at) rule link.rule inv.assigned below inv.room leaves;
      same = placed_kept given (peer_at queue at) rule link.rule below leaves ∙ inv.same;
    }

pub returns-in-None-clause-placed : goal.returns-in-None-clause-placed
returns-in-None-clause-placed c =
    let inv = c.loop-link.invariant in
    let below = inv.trail.inside c.loop-link.at (omega arith) in
    let none = inv.trail.start c.loop-link.at (omega arith) c.in-None.is in
    let more = placed_new c.loop-link.given (peer_at c.args.queue.now c.loop-link.at) c.loop-link.freed below none in
    omega (arith, more, inv.same)
