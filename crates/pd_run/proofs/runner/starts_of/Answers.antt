use Rattle.std.proofs.Common.{rules, ◌≡◌, ◌+◌, length, refl, ap, arith}
use Rattle.std.specs.Vec.Iter.{into_iter_items, into_iter_len}
use Rattle.pd_run.proofs.Starting.{begun_more, begun_none, metas_count, seats_count, took_next}
use Rattle.pd_run.specs.declared.begin.Start.{Start}
use Rattle.pd_run.proofs.runner.starts_of.Goals as goal

pub loop-oracle-init : goal.loop-oracle-init
loop-oracle-init g c = begun_none {B = g.row.B.Denot} c.args.oracle.items (into_iter_items c.into_iter-oracle-iterator.result) c.args.pipes.items (into_iter_items c.into_iter-pipes.result) c.args.lines.items (into_iter_items c.into_iter-lines.result)
    c.args.metas.now.seats.items (into_iter_items c.args.benches.now) c.new-starts.result.items c.into_iter-oracle-iterator.ensures.into_iter_gives.0 c.into_iter-pipes.ensures.rest c.into_iter-lines.ensures.rest (let e = c.requires.seats in omega (arith, e)) c.new-starts.ensures.items

pub loop-oracle-preserved : goal.loop-oracle-preserved
loop-oracle-preserved g c =
    let l = c.loop-oracle in
    let B = g.row.B.Denot in
    let oracles = into_iter_items l.oracle-iterator in
    let pipes = into_iter_items l.pipes in
    let lines = into_iter_items l.lines in
    let benches = into_iter_items l.benches in
    let start : Start B = record { driver = l.driver + 1; oracle = c.in-Some.oracle; meta = c.remove.result; pipes = c.in-Some-next.pipes; lines = c.in-Some-next-2.lines; bench = c.next-in-loop-oracle-3.result } in
    let left = metas_count {B = B} c.args.oracle.items oracles c.args.pipes.items pipes c.args.lines.items lines c.args.metas.now.seats.items l.metas.seats.items (into_iter_items c.args.benches.now) benches l.driver l.starts.items l.invariant in
    let done = seats_count {B = B} c.args.oracle.items oracles c.args.pipes.items pipes c.args.lines.items lines c.args.metas.now.seats.items l.metas.seats.items (into_iter_items c.args.benches.now) benches l.driver l.starts.items l.invariant in
    let long : into_iter_len l.benches ≡ length benches = search rules in
    begun_more {B = B} c.args.oracle.items oracles (into_iter_items c.next.new.self) c.args.pipes.items pipes (into_iter_items c.next-in-loop-oracle.new.self) c.args.lines.items lines (into_iter_items c.next-in-loop-oracle-2.new.self)
    c.args.metas.now.seats.items l.metas.seats.items c.remove.new.self.items (into_iter_items c.args.benches.now) benches (into_iter_items c.next-in-loop-oracle-3.new.self) l.driver l.starts.items c.push.new.self.items start l.invariant
    c.in_ok-push.ensures.items refl c.in-Some.ensures.steps.0 c.in-Some-next.ensures.cases.0 c.in-Some-next-2.ensures.cases.0
    (let one = ap length c.in-Some.ensures.steps.0 in let few = c.requires.count in let eight = c.requires.seats in omega (arith, one, few, eight, left, done)) c.remove.ensures.value c.remove.ensures.items
    (took_next benches (into_iter_items c.next-in-loop-oracle-3.new.self) c.next-in-loop-oracle-3.result (into_iter_len l.benches) c.next-in-loop-oracle-3.ensures.items c.next-in-loop-oracle-3.ensures.variant long)
