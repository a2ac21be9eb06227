use Rattle.std.proofs.Common.{arith}
use Rattle.pd_lines.proofs.Pieces.{appends_more, appends_all}
use Rattle.pd_lines.proofs.output.put_all.Goals as goal

pub loop-at-preserved : goal.loop-at-preserved
loop-at-preserved g c = record {
  within = omega (arith, c.in-Ok.ensures.bound);
  written = appends_more _ _ _ _ _ _ c.loop-at.invariant.written c.in-Ok.ensures.bytes;
  later = omega (arith, c.in-Ok.ensures.cause.later);
}

pub returns-clause-ok : goal.returns-clause-ok
returns-clause-ok g c = appends_all _ _ _ _ c.loop-at.invariant.written c.loop-at-test.false
