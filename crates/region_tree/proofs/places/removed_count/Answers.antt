use Rattle.std.proofs.Common.{◌∙◌, ap, List, length}
use Rattle.pd_types.specs.declared.region.RegionBeat.{RegionBeat}
use Rattle.region_tree.proofs.Puts.{removed_run}
use Rattle.region_tree.proofs.places.removed_count.Goals as goal

pub returns : goal.returns
returns c = record {
  value = c.others.ensures.value ∙ ap (λ (l : List RegionBeat). length l) (removed_run c.args.beat.now c.args.held.now c.args.run.from c.args.run.upto c.requires.run);
}
