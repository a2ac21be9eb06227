use Rattle.std.proofs.Common.{◌≡◌, ◌≤◌, drop, max}
use Rattle.pd_script.specs.Scripts.{greatest, driver_of}
use Rattle.pd_script.proofs.limits.drivers.Given as goal

abbrev pub invariant-loop-numbered : goal.invariant-loop-numbered
invariant-loop-numbered l = record {
  most : 1 ≤ l.most;
  all : max (greatest driver_of (drop l.numbered-index l.events)) l.most ≡ greatest driver_of l.events;
}
