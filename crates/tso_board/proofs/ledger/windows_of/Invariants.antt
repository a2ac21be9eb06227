use Rattle.std.proofs.Common.{◌≡◌, ◌++◌, drop, map}
use Rattle.tso_model.specs.declared.entries.Claim.{Claim}
use Rattle.tso_board.proofs.ledger.windows_of.Given as goal

abbrev pub invariant-loop-claim : goal.invariant-loop-claim
invariant-loop-claim l = l.windows.items ++ map (λ (c : Claim). c.window) (drop l.claim-index l.claims) ≡ map (λ (c : Claim). c.window) l.claims
