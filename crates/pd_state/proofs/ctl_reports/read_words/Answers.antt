use Rattle.std.proofs.Common.{List, ℕ, ◌∙◌, ap, subst, sym}
use Rattle.std.specs.Prelude.{Ok}
use Rattle.pd_ctl.specs.Commands.{IsRefusal, command_of}
use Rattle.pd_state.proofs.Rates.{read_rates, told_err, told_ok}
use Rattle.pd_state.proofs.ctl_reports.read_words.Goals as goal

pub returns-in-Ok-clause-value : goal.returns-in-Ok-clause-value
returns-in-Ok-clause-value c = told_ok c.args.words.now c.in-Ok.command (sym (ap command_of c.as_slice.ensures.value) ∙ c.in-Ok.ensures.ok)

pub returns-in-Ok-clause-rates : goal.returns-in-Ok-clause-rates
returns-in-Ok-clause-rates c = read_rates (Ok c.in-Ok.command) c.args.words.now (told_ok c.args.words.now c.in-Ok.command (sym (ap command_of c.as_slice.ensures.value) ∙ c.in-Ok.ensures.ok))

pub returns-in_ok-why-in-Err-clause-value : goal.returns-in_ok-why-in-Err-clause-value
returns-in_ok-why-in-Err-clause-value c =
    told_err c.args.words.now c.in-Err.fault c.in_ok-why-in-Err.why (subst (λ (w : List ℕ). IsRefusal (command_of w) c.in-Err.fault) c.as_slice.ensures.value c.in-Err.ensures.refused) c.in_ok-why-in-Err.ensures.kept c.in_ok-why-in-Err.ensures.same
