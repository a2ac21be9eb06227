use Rattle.std.specs.Prelude.{All}
use Rattle.std.specs.Vec.Iter.{into_iter_items}
use Rattle.tso_threads.specs.Workers.{IsClientOf, IsWorkerOf}
use Rattle.tso_threads.proofs.crew.add_drawers.Given as goal

abbrev pub invariant-loop-pass : goal.invariant-loop-pass
invariant-loop-pass l = All (IsClientOf l._board) (into_iter_items l.pass-iterator) × All (IsWorkerOf l._board) l.workers.items
