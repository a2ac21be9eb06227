use Rattle.std.proofs.Common.{◌≡◌, ◌++◌, drop, map}
use Rattle.tso_board.specs.Ledger.{all_batches}
use Rattle.tso_board.specs.Passes.{pass_view}
use Rattle.tso_board.proofs.ledger.batches_of.Given as goal

abbrev pub invariant-loop-pass : goal.invariant-loop-pass
invariant-loop-pass l = l.batches.items ++ all_batches (map pass_view (drop l.pass-index l.passes)) ≡ all_batches (map pass_view l.passes)
