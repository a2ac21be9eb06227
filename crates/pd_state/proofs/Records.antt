-- The records of the stores after a journal's entries.
use Rattle.std.specs.Prelude.{List}
use Rattle.pd_types.specs.declared.store.StoreRec.{StoreRec}
use Rattle.pd_state.specs.State.{kept_after}
use Rattle.pd_state.specs.declared.entry.Entry.{Entry}

abbrev pub records_of : List Entry → List StoreRec
records_of entries = (kept_after entries).records
