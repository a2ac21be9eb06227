use Rattle.std.proofs.Common.{rules, of_calls, arith}
use Rattle.std.proofs.lemmas.Fn.{always_returns_same}
use Rattle.pd_types.specs.Keys.{is_below}
use Rattle.meta_store.proofs.Order.{parted}
use Rattle.meta_store.proofs.records.lesser.Goals as goal

pub returns-clause-before : goal.returns-clause-before
returns-clause-before c k d low =
    let point = c.partition_point.ensures.partitioned (λ one. is_below one.key c.args.key.now) (always_returns_same _ _ _ (λ a r f k. search (rules, of_calls))) (parted c.args.key.now c.args.held.now c.requires) in
    point.0 k d (omega arith) low

pub returns-clause-after : goal.returns-clause-after
returns-clause-after c k d high low =
    let point = c.partition_point.ensures.partitioned (λ one. is_below one.key c.args.key.now) (always_returns_same _ _ _ (λ a r f k. search (rules, of_calls))) (parted c.args.key.now c.args.held.now c.requires) in
    point.1 k d high low
