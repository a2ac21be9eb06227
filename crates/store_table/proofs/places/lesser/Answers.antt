use Rattle.std.proofs.Common.{rules, of_calls, arith, nat_lt}
use Rattle.std.proofs.lemmas.Fn.{always_returns_same}
use Rattle.std.proofs.lemmas.Bool.{ltb-true, ltb-false}
use Rattle.store_table.proofs.EntryLemmas.{lesser_first}
use Rattle.store_table.proofs.places.lesser.Goals as goal

pub returns-clause-before : goal.returns-clause-before
returns-clause-before c k d low =
    let point = c.partition_point.ensures.partitioned (λ e. nat_lt e.store.id c.args.id) (always_returns_same _ _ _ (λ a r f k. search (rules, of_calls))) (lesser_first c.args.id c.args.entries.now c.requires) in
    ltb-true _ _ (point.0 k d (omega arith) low)

pub returns-clause-after : goal.returns-clause-after
returns-clause-after c k d high low =
    let point = c.partition_point.ensures.partitioned (λ e. nat_lt e.store.id c.args.id) (always_returns_same _ _ _ (λ a r f k. search (rules, of_calls))) (lesser_first c.args.id c.args.entries.now c.requires) in
    ltb-false _ _ (point.1 k d high low)
