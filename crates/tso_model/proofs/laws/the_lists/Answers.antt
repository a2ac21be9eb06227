use Rattle.tso_model.proofs.Ledgers.{window_list, draw_list}
use Rattle.tso_model.proofs.Closing.{gathers, gathers_parts}
use Rattle.tso_model.proofs.Sorted.{sorted_claims, sorted_batches, gathered_lists}
use Rattle.tso_model.proofs.laws.the_lists.Goals as goal

pub returns : goal.returns
returns c = record { windows = window_list; draws = draw_list; gathered = gathers; gathered_parts = gathers_parts; sorted_windows = sorted_claims; sorted_batches = sorted_batches; sorted = gathered_lists }
