use Rattle.std.proofs.Common.{◌∙◌, ap, refl, sym}
use Rattle.std.specs.Prelude.{Ok}
use Rattle.pd_state.specs.declared.heard.Heard.{Heard}
use Rattle.pd_state.proofs.Commanded.{carries_change, carries_report}
use Rattle.pd_state.proofs.Removals.{no_value}
use Rattle.pd_state.proofs.ctl.obey.Goals as goal

pub returns-in-Some-clause-does : goal.returns-in-Some-clause-does
returns-in-Some-clause-does g c =
    carries_report c.args.driver c.args.part.now c.args.names (Ok c.args.command.now) c.in-Some.reply c.with_names.result (g.M.Door.said c.args.door.now) (g.M.Door.told c.args.door.now) (sym c.in-Some.is ∙ c.in_ok-report.ensures.value) c.with_names.ensures.reply
    c.with_names.ensures.sents (ap (λ (h : Heard). h.answers) c.with_names.ensures.heard)

pub returns-clause-does : goal.returns-clause-does
returns-clause-does g c =
    carries_change c.args.driver c.args.part.now c.change.new.part c.args.names (Ok c.args.command.now) c.args.command.now _ (g.M.Door.said c.args.door.now) (g.M.Door.said c.change.new.door) (g.M.Door.told c.args.door.now) (g.M.Door.told c.change.new.door)
    (sym (no_value c.in_ok-report.report c.in_default.not-Some) ∙ c.in_ok-report.ensures.value) refl c.in_ok-reply.ensures.does
