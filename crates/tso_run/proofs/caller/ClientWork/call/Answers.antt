use Rattle.std.proofs.Common.{◌∙◌, arith}
use Rattle.tso_run.specs.Works.{client_of}
use Rattle.tso_run.proofs.Lines.{called_line, drew_line}
use Rattle.tso_run.proofs.caller.ClientWork.call.Goals as goal

pub loop-line-preserved : goal.loop-line-preserved
loop-line-preserved g c =
    let one = c.in-Ok.ensures.ok in
    record {
      kept = c.in-Ok.ensures.kept;
      number = c.in-Ok.ensures.number ∙ c.loop-line.invariant.number;
      fine = c.in-Ok.ensures.failed ∙ c.loop-line.invariant.fine;
      drew = drew_line _ (client_of c.loop-line.self.pass c.loop-line.self.slip) _ _ _ _ one.said one.answers c.loop-line.invariant.drew one.did;
      asked = called_line _ _ c.loop-line.line-index _ _ _ one.said c.loop-line-test.true (omega (arith, c.if-line-self.false, c.loop-line.invariant.number)) one.answers c.loop-line.invariant.asked one.asked;
    }
