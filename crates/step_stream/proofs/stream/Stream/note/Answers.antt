use Rattle.step_stream.proofs.Passing.{notes}
use Rattle.step_stream.proofs.stream.Stream.note.Goals as goal

pub another-requires-clause-rule : goal.another-requires-clause-rule
another-requires-clause-rule c = let one = c.giver.inside.pass in notes one.id one.me.0.client c.giver.invariant.1
