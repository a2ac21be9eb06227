use Rattle.std.proofs.Common.{rules, leb}
use Rattle.std.proofs.lemmas.List.Sorted.{IsPartitionPoint-from_clause, IsPartitionedBy-leb}
use Rattle.pd_types.specs.declared.oracle.Batch.{Batch}
use Rattle.tso_core.proofs.Placing.{at_end}
use Rattle.tso_core.proofs.run.place_of.Goals as goal

pub returns-then-batches-len-clause-place : goal.returns-then-batches-len-clause-place
returns-then-batches-len-clause-place c = at_end c.args.term c.args.batches.now _ c.requires.sorted c.if-batches-len.true

pub returns-clause-place : goal.returns-clause-place
returns-clause-place c = IsPartitionPoint-from_clause (λ (b : Batch). leb b.term c.args.term) _ _ c.partition_point.ensures.partitioned (IsPartitionedBy-leb (λ (b : Batch). b.term) _ c.args.term c.requires.sorted) (λ a r q k. search rules)
