use Rattle.meta_store.proofs.Stored.{store_read, store_written}
use Rattle.pd_state.proofs.ToldLemmas.{are_told}
use Rattle.pd_state.proofs.laws.the_stores_are_those_that_were_handed_out.Goals as goal

pub returns : goal.returns
returns c = record {
  told = are_told;
  stored = λ store revision good. store_written store good;
  only = λ cell store told. (let read = store_read cell.key cell.bytes store told in (read.1, read.2));
}
