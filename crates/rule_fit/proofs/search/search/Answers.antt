use Rattle.std.proofs.Common.{arith}
use Rattle.rule_fit.specs.Table.{suits}
use Rattle.rule_fit.proofs.search.search.Goals as goal

pub loop-at-init : goal.loop-at-init
loop-at-init c = record {
  search = c.in_ok-queue.ensures (suits c.args.table.now);
  inside = omega arith;
  full = λ i r h. absurd (omega arith);
  holders = λ i q r h. absurd (omega arith);
}
