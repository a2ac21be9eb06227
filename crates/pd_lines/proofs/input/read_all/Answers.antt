use Rattle.std.proofs.Common.{ℕ, ◌++◌, take, arith, length-append, length-take}
use Rattle.std.proofs.KnownBytes.{Consumes-trans}
use Rattle.pd_lines.proofs.input.read_all.Goals as goal

pub returns-in-Err-extend_from_slice-clause-asked : goal.returns-in-Err-extend_from_slice-clause-asked
returns-in-Err-extend_from_slice-clause-asked g c = record {
  front = c.loop-piece.text.items ++ take c.in-Ok.count c.take.new.buf;
  taken = Consumes-trans _ _ _ _ _ c.loop-piece.invariant.taken c.in-Ok.ensures.bytes.0;
  few = omega (arith, length-append {A = ℕ}, length-take {A = ℕ}, c.in-Ok.ensures.bound);
}
