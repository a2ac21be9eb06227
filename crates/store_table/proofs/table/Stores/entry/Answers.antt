use Rattle.std.proofs.Common.{Some, sym, ap, subst, ◌∙◌, List}
use Rattle.store_table.specs.declared.entry.StoreEntry.{StoreEntry}
use Rattle.store_table.specs.Entries.{entry_at}
use Rattle.store_table.specs.Places.{Parts, Stands}
use Rattle.store_table.proofs.EntryLemmas.{entry_found, entry_absent}
use Rattle.store_table.proofs.table.Stores.entry.Goals as goal

pub returns-in-Ok : goal.returns-in-Ok
returns-in-Ok c =
    let stands = subst (λ (xs : List StoreEntry). Stands c.args.id xs c.in-Ok.place) c.deref.ensures.value c.in-Ok.ensures.found in
    record { value = ap Some c.index.ensures ∙ sym (entry_found c.index.result.now stands) ∙ ap (entry_at c.args.id) c.self.view_is }

pub returns-in-Err : goal.returns-in-Err
returns-in-Err c =
    let parts = subst (λ (xs : List StoreEntry). Parts c.args.id xs c.in-Err.field-0 c.in-Err.field-0) c.deref.ensures.value c.in-Err.ensures.absent in
    record { value = sym (entry_absent parts) ∙ ap (entry_at c.args.id) c.self.view_is }
