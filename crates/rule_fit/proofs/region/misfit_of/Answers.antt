use Rattle.std.proofs.Common.{◌≡◌, ◌≤◌, length, arith, sum}
use Rattle.rule_fit.specs.Suits.{suits_in, counts_of}
use Rattle.rule_fit.specs.Assignment.{placed}
use Rattle.rule_fit.proofs.FitLemmas.{placed_total}
use Rattle.rule_fit.proofs.region.misfit_of.Goals as goal

pub overflow_sub-open : goal.overflow_sub-open
overflow_sub-open c =
    let most : placed c.in_ok-given.field-0.given.items ≤ sum (counts_of c.args.rules.now) = placed_total (suits_in c.args.beat.now c.args.rules.now c.args.stores.now c.args.now) (length c.args.beat.now.region.peers) (counts_of c.args.rules.now) c.in_ok-given.field-0.given.items c.in_ok-given.ensures.assigned in
    let same : c.placed-placed.result ≡ placed c.in_ok-given.field-0.given.items = cc in
    let whole : c.total.result ≡ sum (counts_of c.args.rules.now) = c.total.ensures.value in omega arith
