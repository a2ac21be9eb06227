use Rattle.std.proofs.Common.{◌≡◌, ◌≤◌, ◌++◌, All, map}
use Rattle.std.specs.Vec.Iter.{into_iter_items}
use Rattle.pd_script.specs.Scripts.{client_of, driver_of, line_of}
use Rattle.pd_script.proofs.reading.lines_of.Given as goal

abbrev pub invariant-loop-numbered : goal.invariant-loop-numbered
invariant-loop-numbered l = record {
  lines : map line_of l.fn.events.items ≡ l.lines.items ++ map line_of (into_iter_items l.numbered-iterator);
  drivers : All (λ e. driver_of e.event ≤ 7) (into_iter_items l.numbered-iterator);
  clients : All (λ e. client_of e.event ≤ 64) (into_iter_items l.numbered-iterator);
}
