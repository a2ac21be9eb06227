use Rattle.std.proofs.Common.{◌≡◌, ◌∙◌, ◌≤◌, List, ap, arith, length, cond, nat_eq, None}
use Rattle.std.specs.FinMap as map
use Rattle.std.specs.List.{list_any, insert, remove_range}
use Rattle.pd_types.specs.declared.region.RegionBeat.{RegionBeat}
use Rattle.region_tree.specs.Places.{others}
use Rattle.region_tree.proofs.Shift.{run_left, put_is, gone_is, gone_length, at_left}
use Rattle.region_tree.proofs.exchange.replace.Goals as goal

pub take_run-requires-clause-bound : goal.take_run-requires-clause-bound
take_run-requires-clause-bound c =
    let are : c.take_own-before.new.held.items ≡ others c.args.beat.region.id c.args.held.now.items = c.take_own-before.ensures.value ∙ ap (λ (b : RegionBeat). others b.region.id c.args.held.now.items) c.beat.ensures.value in
    let run =
    run_left c.args.beat c.args.held.now.items c.take_own-before.new.held.items c.shifted.result c.shifted-2.result are c.args.own c.args.run.from c.args.run.upto
    c.requires.apart c.requires.place c.requires.run c.shifted.ensures.value c.shifted-2.ensures.value
    in
    let bound : c.shifted-2.result ≤ length c.take_own-before.new.held.items = run.bound in omega (arith, bound, c.take_own-before.new.held.ok.0)

pub take_run-requires-clause-room : goal.take_run-requires-clause-room
take_run-requires-clause-room c =
    let are : c.take_own-before.new.held.items ≡ others c.args.beat.region.id c.args.held.now.items = c.take_own-before.ensures.value ∙ ap (λ (b : RegionBeat). others b.region.id c.args.held.now.items) c.beat.ensures.value in
    let run =
    run_left c.args.beat c.args.held.now.items c.take_own-before.new.held.items c.shifted.result c.shifted-2.result are c.args.own c.args.run.from c.args.run.upto
    c.requires.apart c.requires.place c.requires.run c.shifted.ensures.value c.shifted-2.ensures.value
    in
    let long = gone_length c.args.beat c.args.held.now.items c.take_own-before.new.held.items c.shifted.result c.shifted-2.result are run in omega (arith, long, c.requires.room_removed)

pub insert-requires : goal.insert-requires
insert-requires c =
    let are : c.take_own-before.new.held.items ≡ others c.args.beat.region.id c.args.held.now.items = c.take_own-before.ensures.value ∙ ap (λ (b : RegionBeat). others b.region.id c.args.held.now.items) c.beat.ensures.value in
    let run =
    run_left c.args.beat c.args.held.now.items c.take_own-before.new.held.items c.shifted.result c.shifted-2.result are c.args.own c.args.run.from c.args.run.upto
    c.requires.apart c.requires.place c.requires.run c.shifted.ensures.value c.shifted-2.ensures.value
    in
    let low = at_left c.args.beat c.args.held.now.items c.take_own-before.new.held.items c.shifted.result c.shifted-2.result are run in let same : length c.take_run.new.held.items ≡ length (remove_range c.take_own-before.new.held.items c.shifted.result c.shifted-2.result) = ap (λ (l : List RegionBeat). length l) c.take_run.ensures.value in omega (arith, low, same, c.take_run.new.held.ok.0)

pub returns-clause-value : goal.returns-clause-value
returns-clause-value c =
    let are : c.take_own-before.new.held.items ≡ others c.args.beat.region.id c.args.held.now.items = c.take_own-before.ensures.value ∙ ap (λ (b : RegionBeat). others b.region.id c.args.held.now.items) c.beat.ensures.value in
    let run =
    run_left c.args.beat c.args.held.now.items c.take_own-before.new.held.items c.shifted.result c.shifted-2.result are c.args.own c.args.run.from c.args.run.upto
    c.requires.apart c.requires.place c.requires.run c.shifted.ensures.value c.shifted-2.ensures.value
    in
    c.in-Ok.ensures.items ∙ ap (λ (l : List RegionBeat). insert l c.shifted.result c.args.beat) c.take_run.ensures.value ∙ put_is c.args.beat c.args.held.now.items c.take_own-before.new.held.items c.shifted.result c.shifted-2.result are c.requires.range c.requires.ranges run

pub returns-clause-removed : goal.returns-clause-removed
returns-clause-removed c =
    let are : c.take_own-before.new.held.items ≡ others c.args.beat.region.id c.args.held.now.items = c.take_own-before.ensures.value ∙ ap (λ (b : RegionBeat). others b.region.id c.args.held.now.items) c.beat.ensures.value in
    let run =
    run_left c.args.beat c.args.held.now.items c.take_own-before.new.held.items c.shifted.result c.shifted-2.result are c.args.own c.args.run.from c.args.run.upto
    c.requires.apart c.requires.place c.requires.run c.shifted.ensures.value c.shifted-2.ensures.value
    in
    c.take_run.ensures.removed ∙ gone_is c.args.beat c.args.held.now.items c.take_own-before.new.held.items c.shifted.result c.shifted-2.result are run

pub returns-clause-index : goal.returns-clause-index
returns-clause-index c q =
    let are : c.take_own-before.new.held.items ≡ others c.args.beat.region.id c.args.held.now.items = c.take_own-before.ensures.value ∙ ap (λ (b : RegionBeat). others b.region.id c.args.held.now.items) c.beat.ensures.value in
    let run =
    run_left c.args.beat c.args.held.now.items c.take_own-before.new.held.items c.shifted.result c.shifted-2.result are c.args.own c.args.run.from c.args.run.upto
    c.requires.apart c.requires.place c.requires.run c.shifted.ensures.value c.shifted-2.ensures.value
    in
    c.take_run.ensures.index q ∙ ap (λ (l : List RegionBeat). cond (list_any (λ one. nat_eq one.region.id q) l) None (map.get c.args.index.now q)) (gone_is c.args.beat c.args.held.now.items c.take_own-before.new.held.items c.shifted.result c.shifted-2.result are run)
