use Rattle.op_control.proofs.TableLemmas.{empty-listed}
use Rattle.op_control.proofs.table.Operators.new.Goals as goal

pub invariant_of-result : goal.invariant_of-result
invariant_of-result c = rw (c.new.ensures.value, c.new-2.ensures.value) empty-listed
