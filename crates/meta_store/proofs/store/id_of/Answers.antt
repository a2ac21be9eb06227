use Rattle.std.proofs.Common.{◌∙◌, sym, ap, arith}
use Rattle.std.specs.Str.Parse.{digits_value}
use Rattle.pd_types.proofs.Bools.{not_false, not_true}
use Rattle.meta_store.proofs.Stored.{behind, no_id, other_id, same_id}
use Rattle.meta_store.proofs.store.id_of.Goals as goal

pub returns-in_default : goal.returns-in_default
returns-in_default c = record { value = sym (no_id c.args.key.now (rw (behind c.args.key.now) at c.in_default.ensures.none)) }

pub returns-then-ne : goal.returns-then-ne
returns-then-ne c = record {
  value = sym (other_id c.args.key.now c.as_slice.result.now c.in-Some.id (c.in-Some.ensures.some.1 ∙ ap (digits_value 10) (behind c.args.key.now))
      (c.as_slice.ensures.value ∙ c.in_ok-written.ensures.value) (not_true _ (sym c.ne.ensures ∙ c.if-ne.true)));
}

pub returns : goal.returns
returns c = record {
  value = sym (same_id c.args.key.now c.as_slice.result.now c.in-Some.id (c.in-Some.ensures.some.1 ∙ ap (digits_value 10) (behind c.args.key.now))
      (omega (arith, c.if-id-eq0.false)) (omega (arith, c.if-id.false)) (c.as_slice.ensures.value ∙ c.in_ok-written.ensures.value) (not_false _ (sym c.ne.ensures ∙ c.if-ne.false)));
}
