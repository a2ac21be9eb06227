use Rattle.std.proofs.Common.{rules, of_calls, arith}
use Rattle.std.proofs.lemmas.Fn.{always_returns_same}
use Rattle.pd_types.specs.Keys.{is_before_end}
use Rattle.region_tree.proofs.Runs.{begun_parted}
use Rattle.region_tree.proofs.places.begun.Goals as goal

pub returns-clause-before : goal.returns-clause-before
returns-clause-before c k d low =
    let point = c.partition_point.ensures.partitioned (λ one. is_before_end one.region.start c.args.end.now) (always_returns_same _ _ _ (λ a r f k. search (rules, of_calls))) (begun_parted c.args.end.now c.args.held.now c.requires.apart c.requires.ranges) in
    point.0 k d (omega arith) low

pub returns-clause-after : goal.returns-clause-after
returns-clause-after c k d high low =
    let point = c.partition_point.ensures.partitioned (λ one. is_before_end one.region.start c.args.end.now) (always_returns_same _ _ _ (λ a r f k. search (rules, of_calls))) (begun_parted c.args.end.now c.args.held.now c.requires.apart c.requires.ranges) in
    point.1 k d high low
