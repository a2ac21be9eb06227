use Rattle.std.proofs.Common.{◌≡◌, ◌++◌, drop, map}
use Rattle.tso_model.specs.declared.entries.Grant.{Grant}
use Rattle.tso_board.proofs.ledger.add_batches.Given as goal

abbrev pub invariant-loop-grant : goal.invariant-loop-grant
invariant-loop-grant l = l.batches.items ++ map (λ (g : Grant). g.batch) (drop l.grant-index l.grants) ≡ l.initial.batches.items ++ map (λ (g : Grant). g.batch) l.grants
