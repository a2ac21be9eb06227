use Rattle.rule_set.proofs.RuleLemmas.{found_short}
use Rattle.rule_set.proofs.set.in_force.Goals as goal

pub returns-clause-fewer : goal.returns-clause-fewer
returns-clause-fewer c = found_short c.args.key.now c.loop-at.found c.args.rules.now c.loop-at.at c.loop-at.invariant
