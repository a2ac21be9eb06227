use Rattle.std.proofs.Common.{rules, ◌≡◌, length, refl, ap, arith}
use Rattle.std.specs.Vec.Iter.{into_iter_items, into_iter_len}
use Rattle.pd_run.proofs.Handing.{handed_more}
use Rattle.pd_run.proofs.begin.hand_out.Goals as goal

pub unreachable-requires : goal.unreachable-requires
unreachable-requires g c =
    let long : into_iter_len c.loop-store.ports ≡ length (into_iter_items c.loop-store.ports) = search rules in
    omega (arith, c.loop-store.invariant.same, ap length c.in-Some.ensures.steps.0, long, c.in_default.ensures.cases.0)

pub loop-store-preserved : goal.loop-store-preserved
loop-store-preserved g c =
    handed_more {N = g.row.N.Denot} (into_iter_items c.into_iter-ports.result) (into_iter_items c.loop-store.ports) (into_iter_items c.next-in-loop-store.new.self)
    (into_iter_items c.into_iter-store-iterator.result) (into_iter_items c.loop-store.store-iterator) (into_iter_items c.next.new.self) c.loop-store.works.items c.push-in-loop-store.new.self.items
    c.in-Some-next.port c.in-Some.store _ c.loop-store.invariant c.in-Some-next.ensures.cases.0 c.in-Some.ensures.steps.0
    (record { store = refl; ports = c.in_ok-push.ensures.items; lines_are = refl; answers = refl; failed = refl }) c.in_ok-push-2.ensures.items
