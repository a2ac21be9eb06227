use Rattle.std.proofs.Common.{◌≡◌, ◌-◌, ℕ, take, count_by, IsSome}
use Rattle.std.specs.FinMap as map
use Rattle.heartbeat.specs.Counts.{is_on, leads_on}
use Rattle.heartbeat.specs.Kept.{regions_at, leaders_at}
use Rattle.heartbeat.proofs.counts.lose_all.Given as goal

abbrev pub invariant-loop-other : goal.invariant-loop-other
invariant-loop-other l = record {
  regions : (s : ℕ) → regions_at l.counts s ≡ regions_at l.initial.counts s - count_by (is_on s) (take l.other-index l.other-items);
  leaders : (s : ℕ) → leaders_at l.counts s ≡ leaders_at l.initial.counts s - count_by (leads_on s) (take l.other-index l.other-items);
  kept : (s : ℕ) → IsSome (map.get l.initial.counts s) → IsSome (map.get l.counts s);
}
