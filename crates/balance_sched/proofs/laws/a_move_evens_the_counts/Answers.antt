use Rattle.balance_sched.proofs.CountLemmas.{other_counts, source_counts, squares_after, target_counts}
use Rattle.balance_sched.proofs.laws.a_move_evens_the_counts.Goals as goal

pub returns : goal.returns
returns c = record {
  source = source_counts;
  target = target_counts;
  others = λ kind tables beat move new store sound moves moved. other_counts kind tables beat move new sound moves moved store;
  squares = squares_after;
}
