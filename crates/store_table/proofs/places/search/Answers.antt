use Rattle.std.proofs.Common.{arith, sym, ap, ◌∙◌}
use Rattle.std.proofs.lemmas.Bool.{ltb-true}
use Rattle.store_table.specs.declared.entry.StoreEntry.{StoreEntry}
use Rattle.store_table.proofs.EntryLemmas.{stands_at, parts_absent}
use Rattle.store_table.proofs.places.search.Goals as goal

pub returns-in-Some-clause-found : goal.returns-in-Some-clause-found
returns-in-Some-clause-found c =
    let lookup = c.in-Some.ensures.lookup in
    stands_at c.args.entries.now c.requires (ltb-true _ _ (sym lookup.0)) c.lesser-place.ensures.before (λ d. sym (ap (λ (s : StoreEntry). s.store.id) (lookup.4 (omega arith) d)) ∙ c.if-entry-id.true)

pub returns-in_default-clause-absent : goal.returns-in_default-clause-absent
returns-in_default-clause-absent c =
    let lookup = c.in-Some.ensures.lookup in
    parts_absent c.args.entries.now c.requires c.lesser-place.ensures.bound c.lesser-place.ensures.before c.lesser-place.ensures.after (λ d inside same. c.if-entry-id.false (ap (λ (s : StoreEntry). s.store.id) (lookup.4 (omega arith) d) ∙ same))
