use Rattle.std.proofs.Common.{◌≡◌}
use Rattle.tso_model.specs.Moves.{numbers_from}
use Rattle.tso_client.proofs.post.numbers.Given as goal

abbrev pub invariant-loop-index : goal.invariant-loop-index
invariant-loop-index l = l.numbers ≡ numbers_from 1 l.index
