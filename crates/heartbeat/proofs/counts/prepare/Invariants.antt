use Rattle.std.proofs.Common.{◌≡◌, ℕ, take, true, IsSome}
use Rattle.std.specs.FinMap as map
use Rattle.pd_types.specs.BeatCheck.{has_store}
use Rattle.heartbeat.specs.Kept.{regions_at, leaders_at}
use Rattle.heartbeat.proofs.counts.prepare.Given as goal

abbrev pub invariant-loop-peer : goal.invariant-loop-peer
invariant-loop-peer l = record {
  regions : (s : ℕ) → regions_at l.counts s ≡ regions_at l.initial.counts s;
  leaders : (s : ℕ) → leaders_at l.counts s ≡ leaders_at l.initial.counts s;
  known : (s : ℕ) → has_store (take l.peer-index l.peer-items) s ≡ true → IsSome (map.get l.counts s);
}
