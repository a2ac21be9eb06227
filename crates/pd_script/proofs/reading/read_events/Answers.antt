use Rattle.std.proofs.Common.{arith, sym}
use Rattle.pd_script.proofs.Readings.{reading_adds, reading_goes_on}
use Rattle.pd_script.proofs.reading.read_events.Goals as goal

pub loop-i-preserved-then-byte-ne10 : goal.loop-i-preserved-then-byte-ne10
loop-i-preserved-then-byte-ne10 c = record {
  within = omega arith;
  number = omega arith;
  events = reading_goes_on _ _ _ _ _ _ _ _ c.loop-i.invariant.within c.loop-i-test.true c.if-byte-ne10.true c.loop-i.invariant.events;
}

pub loop-i-preserved : goal.loop-i-preserved
loop-i-preserved c = record {
  within = omega arith;
  number = omega (arith, c.loop-i.invariant.number, c.loop-i.invariant.within);
  events = rw (c.in-Ok-keep.ensures.ok) (reading_adds _ c.loop-i.events.items c.args.mode c.args.text.now c.loop-i.number c.loop-i.start c.loop-i.i c.in-Ok.said c.loop-i-test.true c.if-byte-ne10.false (sym (rw (c.is_empty-first.ensures, c.as_slice.ensures.value) at c.in-Ok.ensures.ok)) c.loop-i.invariant.events);
}
