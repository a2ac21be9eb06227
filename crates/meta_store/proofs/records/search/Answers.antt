use Rattle.std.proofs.Common.{◌∙◌, arith, sym, ap}
use Rattle.std.proofs.lemmas.Bool.{ltb-true}
use Rattle.pd_types.proofs.Bools.{both}
use Rattle.pd_types.proofs.KeyLemmas.{equal_keys, same_keys}
use Rattle.meta_store.specs.declared.record.Cell.{Cell}
use Rattle.meta_store.proofs.Spots.{stands_at, parts_absent}
use Rattle.meta_store.proofs.records.search.Goals as goal

pub returns-in-Some-clause-found : goal.returns-in-Some-clause-found
returns-in-Some-clause-found c =
    let lookup = c.in-Some.ensures.lookup in
    stands_at c.args.held.now c.requires (ltb-true _ _ (sym lookup.0)) c.lesser-place.ensures.before
    (λ d. sym (ap (λ (s : Cell). s.key) (lookup.4 (omega arith) d)) ∙ sym (c.as_slice.ensures.value ∙ ap (λ (s : Cell). s.key) c.cell.ensures.value) ∙ same_keys c.as_slice.result.now c.args.key.now (sym c.eq.ensures ∙ c.if-eq.true))

pub returns-in_default-clause-absent : goal.returns-in_default-clause-absent
returns-in_default-clause-absent c =
    let lookup = c.in-Some.ensures.lookup in
    parts_absent c.args.held.now c.requires c.lesser-place.ensures.bound c.lesser-place.ensures.before c.lesser-place.ensures.after
    (λ d inside same. both (c.eq.ensures ∙ equal_keys c.as_slice.result.now c.args.key.now (c.as_slice.ensures.value ∙ ap (λ (s : Cell). s.key) (c.cell.ensures.value ∙ lookup.4 (omega arith) d) ∙ same)) c.if-eq.false)
