use Rattle.std.proofs.Common.{◌∙◌}
use Rattle.pd_cluster.proofs.Serving.{term_is}
use Rattle.pd_cluster.proofs.replay.has_term.Goals as goal

pub returns : goal.returns
returns c = record {
  value = c.is_some.ensures ∙ term_is c.args.clusters.now.items c.args.driver c.index.result.now c.part.result c.requires.within c.index.ensures c.requires.alive c.part.ensures.value c.part.ensures.replays;
}
