use Rattle.std.proofs.Common.{◌∙◌, sym, ap, set}
use Rattle.pd_types.specs.declared.region.RegionBeat.{RegionBeat}
use Rattle.region_tree.proofs.Puts.{in_place, none_removed}
use Rattle.region_tree.proofs.Spots.{own_found}
use Rattle.region_tree.proofs.exchange.set_own.Goals as goal

pub returns-clause-value : goal.returns-clause-value
returns-clause-value c =
    ap (λ (b : RegionBeat). set c.args.held.now.items c.args.place b) c.replace.ensures.after
    ∙ sym (in_place c.args.beat c.args.held.now.items c.args.place c.requires.apart c.requires.ranges c.requires.range c.requires.place c.requires.run)

pub returns-clause-none : goal.returns-clause-none
returns-clause-none c = none_removed c.args.beat c.args.held.now.items c.args.place c.requires.apart c.requires.place c.requires.run

pub returns-clause-own : goal.returns-clause-own
returns-clause-own c =
    own_found c.args.held.now.items c.args.place c.args.beat.region.id c.into_beat.result c.index_mut.result.now c.requires.apart c.requires.place
    (c.into_beat.ensures.value ∙ c.replace.ensures.value ∙ c.index_mut.ensures.value)
