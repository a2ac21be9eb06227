use Rattle.std.proofs.Common.{◌≡◌, false, take}
use Rattle.std.specs.Prelude.{map}
use Rattle.tso_outcome.specs.Clients.{Drew}
use Rattle.tso_run.specs.Lines.{client_line, lines_of_client}
use Rattle.tso_run.specs.Works.{IsClientAtWork, client_of}
use Rattle.tso_run.proofs.caller.ClientWork.call.Given as goal

abbrev pub invariant-loop-line : goal.invariant-loop-line
invariant-loop-line g l = record {
  kept : IsClientAtWork g.N.BoardName.board l.board l.post l.self;
  number : l.self.number ≡ l.fn.self.number;
  fine : l.self.failed ≡ false;
  drew : Drew (client_of l.fn.self.pass l.fn.self.slip) l.self.answers.items (client_of l.self.pass l.self.slip);
  asked : map (client_line l.fn.self.number) l.self.answers.items ≡ lines_of_client l.fn.self.number (take l.line-index l.lines);
}
