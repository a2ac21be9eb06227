use Rattle.std.proofs.Common.{◌≡◌, ◌==◌, drop}
use Rattle.std.specs.List.{list_any}
use Rattle.op_step.proofs.peers.is_down.Given as goal

abbrev pub invariant-loop-down : goal.invariant-loop-down
invariant-loop-down l = list_any (λ down. down.peer == l.id) (drop l.down-index l.down-items) ≡ list_any (λ down. down.peer == l.id) l.down-items
