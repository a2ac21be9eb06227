use Rattle.std.proofs.Common.{ℕ, List, ◌++◌, Vec, Global, ap, ◌∙◌}
use Rattle.std.specs.Prelude.{codes}
use Rattle.std.specs.Fmt.{styled_decimal}
use Rattle.meta_store.proofs.Stored.{laid_out}
use Rattle.meta_store.proofs.store.store_key.Goals as goal

pub returns : goal.returns
returns c = record {
  value = c.of.ensures.value ∙ ap (λ (v : Vec ℕ Global). v.items) c.into_bytes.ensures.value ∙ c.in_ok-key.ensures.ok
      ∙ ap (λ s. codes "store/" ++ styled_decimal s c.args.id) c.laid_out.ensures
      ∙ ap (λ (l : List ℕ). codes "store/" ++ l) (laid_out c.args.id);
}
