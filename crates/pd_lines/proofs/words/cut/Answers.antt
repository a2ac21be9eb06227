use Rattle.pd_lines.proofs.Cutting.{part_ends, part_goes_on, part_is_all}
use Rattle.pd_lines.proofs.words.cut.Goals as goal

pub returns-then-b-byte-clause-value : goal.returns-then-b-byte-clause-value
returns-then-b-byte-clause-value c = part_ends _ _ _ c.loop-i-test.true c.if-b-byte.true c.loop-i.invariant

pub loop-i-preserved : goal.loop-i-preserved
loop-i-preserved c = part_goes_on _ _ _ c.loop-i-test.true c.if-b-byte.false c.loop-i.invariant

pub returns-clause-value : goal.returns-clause-value
returns-clause-value c = part_is_all _ _ _ c.loop-i-test.false c.loop-i.invariant
