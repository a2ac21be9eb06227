use Rattle.std.proofs.Common.{◌≡◌, ◌≤◌, ◌+◌}
use Rattle.pd_script.specs.Grammar.{events_of}
use Rattle.pd_script.proofs.Readings.{after_events, is_first, rest_of}
use Rattle.pd_script.proofs.reading.read_events.Given as goal

abbrev pub invariant-loop-i : goal.invariant-loop-i
invariant-loop-i l = record {
  within : l.start ≤ l.i;
  number : l.number ≤ l.i + 1;
  events : events_of l.mode l.text ≡ after_events l.events.items (rest_of l.mode l.text l.number (is_first l.events.items) l.start l.i);
}
