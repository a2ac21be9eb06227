use Rattle.std.proofs.Common.{◌≡◌, ◌<◌, ℕ, length, true}
use Rattle.std.specs.Prelude.{◌↔◌}
use Rattle.rule_fit.specs.Room.{HasRoom}
use Rattle.rule_fit.specs.Search.{marked}
use Rattle.rule_fit.specs.Table.{suits}
use Rattle.rule_fit.proofs.room.rooms_beside.Given as goal

abbrev pub invariant-loop-rule : goal.invariant-loop-rule
invariant-loop-rule l = record {
  each : length l.rooms.items ≡ l.rule;
  right : (r : ℕ) → r < length l.rooms.items → (marked l.rooms.items r ≡ true) ↔ HasRoom (suits l.table) (length l.table) l.counts r;
}
