use Rattle.std.proofs.Common.{arith}
use Rattle.rule_set.proofs.SetLemmas.{still_set}
use Rattle.rule_set.proofs.set.remove_in.Goals as goal

pub returns-clause-rules : goal.returns-clause-rules
returns-clause-rules c =
    rw c.take_out.ensures.value (still_set c.args.group.now c.args.id.now c.args.rules.now.items c.requires.rules (λ one. c.if-len-eq1.false (omega arith)))
