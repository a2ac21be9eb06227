use Rattle.std.proofs.Common.{◌∙◌, sym, ap}
use Rattle.heartbeat.specs.Counts.{region_count, leader_count}
use Rattle.heartbeat.specs.Kept.{regions_at, leaders_at}
use Rattle.heartbeat.proofs.CountLemmas.{nothing_kept}
use Rattle.heartbeat.proofs.standing.Standing.new.Goals as goal

pub invariant_of-result : goal.invariant_of-result
invariant_of-result c = record {
  regions = λ store. ap (λ m. regions_at m store) c.new-2.ensures.value ∙ nothing_kept (λ row. row.regions) store ∙ ap (region_count store) (sym c.new.ensures.value);
  leaders = λ store. ap (λ m. leaders_at m store) c.new-2.ensures.value ∙ nothing_kept (λ row. row.leaders) store ∙ ap (leader_count store) (sym c.new.ensures.value);
}
