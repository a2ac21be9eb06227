use Rattle.meta_store.proofs.Stored.{store_read, store_written}
use Rattle.meta_store.proofs.store.stores_are_read_as_they_are_written.Goals as goal

pub returns : goal.returns
returns c = record { read = store_read; written = store_written }
