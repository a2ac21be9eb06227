use Rattle.std.proofs.Common.{length}
use Rattle.rule_fit.specs.Suits.{suits_in, counts_of}
use Rattle.rule_fit.proofs.LawLemmas.{number_fits, fit_number}
use Rattle.rule_checker.proofs.inspect.judge.Goals as goal

pub returns-then-from-eq0 : goal.returns-then-from-eq0
returns-then-from-eq0 c = number_fits (suits_in c.args.on.beat.now c.args.on.rules.now c.args.on.stores.now c.args.on.now) (length c.args.on.beat.now.region.peers) (counts_of c.args.on.rules.now) c.in_ok-from.from c.in_ok-from.ensures.value c.if-from-eq0.true

pub mend-requires-clause-misfit : goal.mend-requires-clause-misfit
mend-requires-clause-misfit c = λ fit. c.if-from-eq0.false (fit_number (suits_in c.args.on.beat.now c.args.on.rules.now c.args.on.stores.now c.args.on.now) (length c.args.on.beat.now.region.peers) (counts_of c.args.on.rules.now) c.in_ok-from.from c.in_ok-from.ensures.value fit)
