use Rattle.std.proofs.Common.{◌≡◌, ◌≤◌, take}
use Rattle.pd_script.specs.Scripts.{reports_in}
use Rattle.pd_script.proofs.limits.reports.Given as goal

abbrev pub invariant-loop-numbered : goal.invariant-loop-numbered
invariant-loop-numbered l = record {
  fits : l.count ≤ l.numbered-index;
  count : l.count ≡ reports_in (take l.numbered-index l.events);
}
