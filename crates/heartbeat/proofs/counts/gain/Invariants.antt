use Rattle.std.proofs.Common.{◌≡◌, ◌+◌, ◌&&◌, ℕ, cond, take, true, IsSome}
use Rattle.std.specs.FinMap as map
use Rattle.pd_types.specs.BeatCheck.{has_store}
use Rattle.heartbeat.specs.Counts.{is_on, leads_on}
use Rattle.heartbeat.specs.Kept.{regions_at, leaders_at}
use Rattle.heartbeat.proofs.counts.gain.Given as goal

abbrev pub invariant-loop-place : goal.invariant-loop-place
invariant-loop-place l = record {
  regions : (s : ℕ) → regions_at l.counts s ≡ regions_at l.initial.counts s + cond (has_store (take l.place l.peers) s) 1 0;
  leaders : (s : ℕ) → leaders_at l.counts s ≡ leaders_at l.initial.counts s + cond (has_store (take l.place l.peers) s && leads_on s l.beat) 1 0;
  known : (s : ℕ) → is_on s l.beat ≡ true → IsSome (map.get l.counts s);
}
