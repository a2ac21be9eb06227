use Rattle.pd_run.proofs.Hearing.{names_left_by, names_of_entry, said_by_all}
use Rattle.pd_run.proofs.laws.what_entries_hear_of_a_bench.Goals as goal

pub returns : goal.returns
returns c = record { names = names_of_entry; said = said_by_all; left = names_left_by }
