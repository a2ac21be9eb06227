use Rattle.std.proofs.Common.{◌≡◌, ◌++◌, List, false}
use Rattle.std.specs.Vec.Iter.{into_iter_items}
use Rattle.tso_driver.specs.Drivers.{view_of}
use Rattle.tso_outcome.specs.Drives.{Drove}
use Rattle.pd_run.specs.Answers.{oracle_answers}
use Rattle.pd_run.specs.Heard.{HeardAll, seats_of}
use Rattle.pd_run.specs.Turns.{DriverAnswered}
use Rattle.pd_run.specs.Works.{IsAtWork, StaysAtWork}
use Rattle.pd_run.specs.declared.line.DriverLine.{DriverLine}
use Rattle.pd_run.proofs.driving.DriverWork.answer_all.Given as goal

abbrev pub invariant-loop-line : goal.invariant-loop-line
invariant-loop-line g l = record {
  at_work : IsAtWork {N = g.row.N.Denot} {B = g.row.B.Denot} l.shared.board.now l.cluster l.self.means;
  stays : StaysAtWork {N = g.row.N.Denot} {B = g.row.B.Denot} l.shared.board.now l.fn.self.means l.self.means;
  number : l.self.number ≡ l.fn.self.number;
  fine : l.self.failed ≡ false;
  drove : Drove (view_of l.fn.self.means.driver) (oracle_answers l.self.answers.items) (view_of l.self.means.driver);
  heard : HeardAll l.self.means.share.list (seats_of g.B.Seated.seats l.fn.self.means.bench) (seats_of g.B.Seated.seats l.self.means.bench);
  answered : (done : List DriverLine) × (done ++ into_iter_items l.line-iterator ≡ into_iter_items l.initial.line-iterator) × DriverAnswered done l.self.answers.items l.self.means.share.list;
}
