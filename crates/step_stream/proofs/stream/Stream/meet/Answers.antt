use Rattle.step_stream.proofs.Passing.{meets}
use Rattle.step_stream.proofs.stream.Stream.meet.Goals as goal

pub absorb-requires-clause-rule : goal.absorb-requires-clause-rule
absorb-requires-clause-rule c = let one = c.taker.inside.pass in let pass = c.note.inside.pass in meets one.id one.me.0.client pass.id pass.me.0.client
