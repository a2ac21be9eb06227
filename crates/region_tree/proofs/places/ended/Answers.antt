use Rattle.std.proofs.Common.{rules, of_calls, arith, not}
use Rattle.std.proofs.lemmas.Fn.{always_returns_same}
use Rattle.pd_types.proofs.Bools.{not_false, not_true}
use Rattle.pd_types.specs.Keys.{is_before_end}
use Rattle.region_tree.proofs.Runs.{ended_parted}
use Rattle.region_tree.proofs.places.ended.Goals as goal

pub returns-clause-before : goal.returns-clause-before
returns-clause-before c k d low =
    let point = c.partition_point.ensures.partitioned (λ one. not (is_before_end c.args.key.now one.region.end)) (always_returns_same _ _ _ (λ a r f k. search (rules, of_calls))) (ended_parted c.args.key.now c.args.held.now c.requires.apart c.requires.ranges) in
    not_true _ (point.0 k d (omega arith) low)

pub returns-clause-after : goal.returns-clause-after
returns-clause-after c k d high low =
    let point = c.partition_point.ensures.partitioned (λ one. not (is_before_end c.args.key.now one.region.end)) (always_returns_same _ _ _ (λ a r f k. search (rules, of_calls))) (ended_parted c.args.key.now c.args.held.now c.requires.apart c.requires.ranges) in
    not_false _ (point.1 k d high low)
