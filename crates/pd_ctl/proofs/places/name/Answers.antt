use Rattle.std.proofs.Common.{◌≡◌, inr, ◌∙◌, sym, ap, Ok}
use Rattle.pd_ctl.proofs.Utf8.{name_is, no_name}
use Rattle.pd_ctl.proofs.places.name.Goals as goal

pub returns-in_ok-from_str-in-Ok-clause-ok : goal.returns-in_ok-from_str-in-Ok-clause-ok
returns-in_ok-from_str-in-Ok-clause-ok c =
    let same : c.of.result ≡ c.args.word.now = (c.of.ensures.value ∙ c.in_ok-from_str-in-Ok.ensures.ok) ∙ c.in-Ok.ensures.cases.0 in
    name_is c.args.word.now c.in-Ok.ensures.cases.1 ∙ ap (λ text. Ok text) (sym same)

pub returns-in-Err-clause-refused : goal.returns-in-Err-clause-refused
returns-in-Err-clause-refused c = inr (no_name c.args.word.now c.in-Err.ensures.cases.0)
