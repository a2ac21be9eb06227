use Rattle.pd_lines.proofs.Cutting.{too_many_parts}
use Rattle.pd_lines.proofs.label.label.Goals as goal

pub returns-in_default-Some-clause-refused : goal.returns-in_default-Some-clause-refused
returns-in_default-Some-clause-refused c = too_many_parts c.args.part.now _ c.in-Some.rest.now _ c.in_default-Some.field-0-1.now (rw c.in-Some.is at c.cut.ensures.value) (rw c.in_default-Some.is-1 at c.cut-2.ensures.value)
