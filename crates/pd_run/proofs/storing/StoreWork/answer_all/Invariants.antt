use Rattle.std.proofs.Common.{◌≡◌, ◌++◌, List, All, false, length}
use Rattle.std.specs.Vec.Iter.{into_iter_items}
use Rattle.pd_run.specs.Tasks.{GoesTo}
use Rattle.pd_run.specs.Turns.{StoreAnswered}
use Rattle.pd_run.specs.Works.{ArePorts, made_at, popped_at, streams_at}
use Rattle.pd_run.specs.declared.line.StoreLine.{StoreLine}
use Rattle.pd_run.proofs.storing.StoreWork.answer_all.Given as goal

abbrev pub invariant-loop-line : goal.invariant-loop-line
invariant-loop-line g l = record {
  ports : ArePorts {N = g.row.N.Denot} l.fn.self.store l.clusters l.self.ports.items;
  store : l.self.store ≡ l.fn.self.store;
  fine : l.self.failed ≡ false;
  lines : All (GoesTo (length l.clusters)) (into_iter_items l.line-iterator);
  streams : streams_at {N = g.row.N.Denot} l.self.ports.items ≡ streams_at {N = g.row.N.Denot} l.fn.self.ports.items;
  answered : (done : List StoreLine) × (done ++ into_iter_items l.line-iterator ≡ into_iter_items l.initial.line-iterator) × StoreAnswered done l.self.answers.items (made_at {N = g.row.N.Denot} l.self.ports.items) (popped_at {N = g.row.N.Denot} l.self.ports.items);
}
