use Rattle.meta_store.proofs.Stored.{too_many}
use Rattle.meta_store.proofs.store.three.Goals as goal

pub returns-in_default-Some : goal.returns-in_default-Some
returns-in_default-Some c = record {
  value = too_many c.args.bytes.now _ c.in-Some.rest.now _ c.in-Some-last.listed.now _ c.in_default-Some.field-0-1.now
      (rw c.in-Some.is at c.cut.ensures.value) (rw c.in-Some-last.is at c.cut-2.ensures.value) (rw c.in_default-Some.is-1 at c.cut-3.ensures.value);
}
