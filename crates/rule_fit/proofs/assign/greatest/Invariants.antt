use Rattle.std.proofs.Common.{◌-◌, length}
use Rattle.rule_fit.specs.Assignment.{placed, IsAssignment}
use Rattle.rule_fit.specs.Table.{suits}
use Rattle.rule_fit.proofs.assign.greatest.Given as goal

abbrev pub invariant-loop-given : goal.invariant-loop-given
invariant-loop-given l = IsAssignment (suits l.table) (length l.table) l.counts l.given.items

abbrev pub decreases-loop-given : goal.decreases-loop-given
decreases-loop-given l = length l.table - placed l.given.items
