use Rattle.std.proofs.Common.{◌≡◌, ◌==◌, drop}
use Rattle.std.specs.List.{list_any}
use Rattle.op_step.proofs.peers.is_pending.Given as goal

abbrev pub invariant-loop-pending : goal.invariant-loop-pending
invariant-loop-pending l = list_any (λ pending. pending == l.id) (drop l.pending-index l.pending-items) ≡ list_any (λ pending. pending == l.id) l.pending-items
