use Rattle.std.proofs.Common.{◌≤◌, ◌∙◌, List, sym, ap, arith, cond, nat_eq, None, vec_capacity, refl, ◌-◌}
use Rattle.std.specs.FinMap as map
use Rattle.std.specs.List.{list_any, slice_range}
use Rattle.std.specs.Vec.Iter.{drain_items}
use Rattle.pd_types.specs.declared.region.RegionBeat.{RegionBeat}
use Rattle.region_tree.proofs.Puts.{no_room, slice_short, shifted, index_step}
use Rattle.region_tree.proofs.exchange.take_run.Goals as goal

pub unreachable-requires : goal.unreachable-requires
unreachable-requires c =
    let all = ap (λ d. drain_items d) c.into_iter-one-iterator.ensures.into_iter_gives ∙ c.drain-one-items.ensures.rest in
    let fits : c.args.run.upto - c.args.run.from ≤ vec_capacity c.loop-one.removed = omega (arith, c.requires.room, c.loop-one.invariant.room) in
    no_room c.loop-one.removed.items (drain_items c.loop-one.one-iterator) (drain_items c.next.new.self) (slice_range c.args.held.now.items c.args.run.from c.args.run.upto) c.in-Some.one (c.args.run.upto - c.args.run.from) c.loop-one.removed.len (vec_capacity c.loop-one.removed)
    (c.loop-one.invariant.so_far ∙ all) c.in-Some.ensures.steps.0 (slice_short c.args.held.now.items c.args.run.from c.args.run.upto) c.loop-one.removed.ok.0 fits c.in_default.ensures.full

pub loop-one-preserved : goal.loop-one-preserved
loop-one-preserved c =
    let pushed = c.in-Ok.ensures.items in
    record {
      so_far = shifted c.push.new.self.items c.loop-one.removed.items (drain_items c.loop-one.one-iterator) (drain_items c.next.new.self) (drain_items c.into_iter-one-iterator.result) c.in-Some.one c.into_beat-beat.result pushed c.into_beat-beat.ensures.value c.in-Some.ensures.steps.0 c.loop-one.invariant.so_far;
      room = omega (arith, c.in-Ok.ensures.capacity, c.loop-one.invariant.room);
      index = λ q. index_step c.args.index.now c.loop-one.index c.remove.new.self c.loop-one.removed.items c.into_beat-beat.result c.into_beat-beat.result.region.id refl c.remove.ensures.value c.loop-one.invariant.index q
          ∙ ap (λ (l : List RegionBeat). cond (list_any (λ one. nat_eq one.region.id q) l) None (map.get c.args.index.now q)) (sym pushed);
    }
