use Rattle.std.proofs.Common.{◌==◌, not, ap, ◌∙◌, rules, of_calls}
use Rattle.std.proofs.lemmas.Fn.{filter_same}
use Rattle.op_control.specs.Table.{without}
use Rattle.op_control.proofs.busy.unlist.Goals as goal

pub returns : goal.returns
returns c = c.of.ensures.value ∙ filter_same _ (λ one. not (one == c.args.region)) _ (λ x b f h. search (rules, of_calls)) _ _ c.retain.ensures.filtered ∙ ap (without c.args.region) (c.into_vec-ids.ensures.value ∙ c.replace.ensures.value)
