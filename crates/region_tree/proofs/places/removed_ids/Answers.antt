use Rattle.std.proofs.Common.{◌∙◌, ap}
use Rattle.std.proofs.lemmas.Result.{IfOk-weaker}
use Rattle.region_tree.specs.Stale.{ids_of}
use Rattle.region_tree.proofs.Puts.{removed_run}
use Rattle.region_tree.proofs.places.removed_ids.Goals as goal

pub returns : goal.returns
returns c = record {
  value = IfOk-weaker c.other_ids.result _ _ (λ ids is. is ∙ ap ids_of (removed_run c.args.beat.now c.args.held.now c.args.run.from c.args.run.upto c.requires.run)) c.other_ids.ensures.value;
}
