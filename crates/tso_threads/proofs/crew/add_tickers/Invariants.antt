use Rattle.std.specs.Prelude.{All}
use Rattle.std.specs.Vec.Iter.{into_iter_items}
use Rattle.tso_threads.specs.Workers.{IsIdleOf, IsWorkerOf}
use Rattle.tso_threads.proofs.crew.add_tickers.Given as goal

abbrev pub invariant-loop-seat : goal.invariant-loop-seat
invariant-loop-seat l = All (IsIdleOf l.board) (into_iter_items l.seat-iterator) × All (IsWorkerOf l.board) l.workers.items
