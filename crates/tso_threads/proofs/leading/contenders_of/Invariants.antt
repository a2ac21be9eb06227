use Rattle.std.specs.Prelude.{All}
use Rattle.std.specs.Vec.Iter.{into_iter_items}
use Rattle.tso_threads.specs.Workers.{IsContenderOf, IsIdleOf}
use Rattle.tso_threads.proofs.leading.contenders_of.Given as goal

abbrev pub invariant-loop-seat : goal.invariant-loop-seat
invariant-loop-seat l = All (IsIdleOf l.board) (into_iter_items l.seat-iterator) × All (IsContenderOf l.board) l.all.items
