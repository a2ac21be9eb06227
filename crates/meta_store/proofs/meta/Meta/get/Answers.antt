use Rattle.std.proofs.Common.{◌∙◌, sym, ap, Some}
use Rattle.std.specs.Option.{option_copied}
use Rattle.meta_store.specs.declared.record.Cell.{Cell}
use Rattle.meta_store.proofs.Refines.{looked_up}
use Rattle.meta_store.proofs.meta.Meta.get.Goals as goal

pub returns-in-None : goal.returns-in-None
returns-in-None c = record {
  value = sym (ap option_copied c.in-None.is) ∙ c.get.ensures.value ∙ looked_up c.self.inside.entries.items c.args.self.now c.self.inside.tables c.args.key.now c.self.invariant.0 c.self.view_is;
}

pub returns-in_ok-copy-in-Some : goal.returns-in_ok-copy-in-Some
returns-in_ok-copy-in-Some c = record {
  value = ap (λ (one : Cell). Some one) c.in_ok-copy-in-Some.ensures ∙ sym (ap option_copied c.in-Some.is) ∙ c.get.ensures.value ∙ looked_up c.self.inside.entries.items c.args.self.now c.self.inside.tables c.args.key.now c.self.invariant.0 c.self.view_is;
}
