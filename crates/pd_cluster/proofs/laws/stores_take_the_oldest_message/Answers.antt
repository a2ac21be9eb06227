use Rattle.pd_cluster.proofs.Taking.{in_order, most_wait, replayed}
use Rattle.pd_cluster.proofs.laws.stores_take_the_oldest_message.Goals as goal

pub returns-clause-order : goal.returns-clause-order
returns-clause-order c = in_order

pub returns-clause-most : goal.returns-clause-most
returns-clause-most c = most_wait

pub returns-clause-replayed : goal.returns-clause-replayed
returns-clause-replayed c = replayed
