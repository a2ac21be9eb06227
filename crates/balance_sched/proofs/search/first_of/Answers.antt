use Rattle.std.proofs.Common.{ap, sym, ◌∙◌, List}
use Rattle.std.specs.List.{slice_get}
use Rattle.pd_types.specs.declared.region.RegionBeat.{RegionBeat}
use Rattle.balance_sched.specs.Tables.{tables_of}
use Rattle.balance_sched.proofs.SearchLemmas.{best_more}
use Rattle.balance_sched.proofs.search.first_of.Goals as goal

pub loop-place-preserved : goal.loop-place-preserved
loop-place-preserved c =
    best_more c.args.on.view.kind (tables_of c.args.on.view.stores.now c.args.on.view.standing.now c.args.on.view.rules.now c.args.on.view.busy.now c.args.on.view.now) c.loop-place.place c.in-Some.beat.now c.loop-place.found c.in_ok-found.found
    (sym (c.in-Some.ensures.value ∙ ap (λ (held : List RegionBeat). slice_get held c.loop-place.place) c.regions-regions.ensures.value))
    c.in_ok-found.ensures.follows c.in_ok-found.ensures.lose c.loop-place.invariant
