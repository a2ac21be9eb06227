use Rattle.std.proofs.Common.{rules}
use Rattle.std.proofs.lemmas.List.Sorted.{IsNonDecreasingBy-from_sort_by_key}
use Rattle.pd_types.specs.declared.oracle.Batch.{Batch}
use Rattle.tso_board.proofs.Risings.{same_total}
use Rattle.tso_board.proofs.ledger.sort_batches.Goals as goal

pub returns-clause-sorted : goal.returns-clause-sorted
returns-clause-sorted c = IsNonDecreasingBy-from_sort_by_key (λ (x : Batch). x.last) _ c.in_ok-sort_by_key.ensures.sorted (λ a r q k. search rules)

pub returns-clause-same : goal.returns-clause-same
returns-clause-same c = same_total c.args.batches.now.items c.sort_by_key.new.self.items c.sort_by_key.ensures.permutation
