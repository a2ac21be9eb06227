use Rattle.std.proofs.Common.{◌≡◌, ◌∙◌, List, Option, sym, ap, subst, cond, nat_eq, None}
use Rattle.std.specs.FinMap as map
use Rattle.std.specs.List.{list_any, find, All}
use Rattle.pd_types.specs.declared.region.RegionBeat.{RegionBeat}
use Rattle.region_tree.specs.Places.{IsIndex}
use Rattle.region_tree.specs.Ranges.{HasRange}
use Rattle.region_tree.specs.Stale.{removed_by, put_beat}
use Rattle.region_tree.specs.Standing.{AreApart}
use Rattle.region_tree.proofs.Puts.{index_put}
use Rattle.region_tree.proofs.Stand.{apart_put, ranges_put, checked_range}
use Rattle.region_tree.proofs.table.put_in.Goals as goal

pub returns-clause-displaced : goal.returns-clause-displaced
returns-clause-displaced c =
    let own_is =
    c.replace-own.ensures.own ∙ ap (λ (b : RegionBeat). find (λ one. nat_eq one.region.id b.region.id) c.make_room.new.held.items) c.in-Ok.ensures.beat
    ∙ ap (λ (l : List RegionBeat). find (λ one. nat_eq one.region.id c.args.beat.region.id) l) c.make_room.ensures.same
    in
    let gone =
    c.of.ensures.value ∙ c.replace-own.ensures.removed ∙ ap (λ (b : RegionBeat). removed_by b c.make_room.new.held.items) c.in-Ok.ensures.beat ∙ ap (removed_by c.args.beat) c.make_room.ensures.same
    in
    ap (λ (o : Option RegionBeat). record { own = o; others = c.of.result }) own_is ∙ ap (λ (l : List RegionBeat). record { own = find (λ one. nat_eq one.region.id c.args.beat.region.id) c.args.held.now.items; others = l }) gone

pub returns-clause-apart : goal.returns-clause-apart
returns-clause-apart c =
    subst AreApart (sym (c.replace-own.ensures.value ∙ ap (λ (b : RegionBeat). put_beat b c.make_room.new.held.items) c.in-Ok.ensures.beat ∙ ap (put_beat c.args.beat) c.make_room.ensures.same))
    (apart_put c.args.beat c.args.held.now.items (checked_range c.args.beat c.requires.checked) c.requires.ranges c.requires.apart)

pub returns-clause-ranges : goal.returns-clause-ranges
returns-clause-ranges c =
    subst (All HasRange) (sym (c.replace-own.ensures.value ∙ ap (λ (b : RegionBeat). put_beat b c.make_room.new.held.items) c.in-Ok.ensures.beat ∙ ap (put_beat c.args.beat) c.make_room.ensures.same))
    (ranges_put c.args.beat c.args.held.now.items (checked_range c.args.beat c.requires.checked) c.requires.ranges)

pub returns-clause-index : goal.returns-clause-index
returns-clause-index c =
    let same : put_beat c.in-Ok.room.beat c.make_room.new.held.items ≡ put_beat c.args.beat c.args.held.now.items =
    ap (λ (b : RegionBeat). put_beat b c.make_room.new.held.items) c.in-Ok.ensures.beat ∙ ap (put_beat c.args.beat) c.make_room.ensures.same
    in
    let gone : removed_by c.in-Ok.room.beat c.make_room.new.held.items ≡ removed_by c.args.beat c.args.held.now.items =
    ap (λ (b : RegionBeat). removed_by b c.make_room.new.held.items) c.in-Ok.ensures.beat ∙ ap (removed_by c.args.beat) c.make_room.ensures.same
    in
    subst (λ (l : List RegionBeat). IsIndex c.replace-own.new.index l) (sym (c.replace-own.ensures.value ∙ same))
    (index_put c.args.beat c.args.held.now.items c.args.index.now c.make_room.new.index c.replace-own.new.index c.requires.apart c.requires.index c.in-Ok.ensures.index
    (λ q. c.replace-own.ensures.index q ∙ ap (λ (l : List RegionBeat). cond (list_any (λ one. nat_eq one.region.id q) l) None (map.get c.make_room.new.index q)) gone))
