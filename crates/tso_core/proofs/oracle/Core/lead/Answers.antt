use Rattle.std.proofs.Common.{subst, ap, sym, ◌∙◌}
use Rattle.pd_types.specs.declared.oracle.Actor.TheVariants.{Driver}
use Rattle.tso_model.specs.declared.view.Setup.{Setup}
use Rattle.tso_model.specs.Steps.{held}
use Rattle.tso_core.specs.Rows.{lead_of, won_by, call_of, lead_kinds}
use Rattle.tso_core.specs.Sound.{HasDriver}
use Rattle.tso_core.specs.Whole.{Whole, view_at}
use Rattle.tso_core.proofs.oracle.Core.lead.Goals as goal

pub won-requires-clause-driver : goal.won-requires-clause-driver
won-requires-clause-driver c = subst (λ (k : Setup). HasDriver k c.args.driver) (sym (c.call.ensures.setup ∙ ap (λ (w : Whole). w.setup) c.self.view_is)) c.requires.driver

pub returns-clause-reply : goal.returns-clause-reply
returns-clause-reply c =
    let d = c.args.driver in
    let reply = c.in_ok-answer.ensures.reply ∙ ap (λ (w : Whole). (call_of w (Driver d) (lead_kinds c.args.now)).reply) c.self.view_is in
    let after = c.in_ok-answer.ensures.after ∙ ap (λ (w : Whole). (call_of w (Driver d) (lead_kinds c.args.now)).after) c.self.view_is in
    c.won.ensures.value ∙ (λ i. won_by (held (view_at (after i) d)) (reply i))

pub returns-clause-after : goal.returns-clause-after
returns-clause-after c = c.in_ok-answer.ensures.after ∙ ap (λ (w : Whole). (lead_of w c.args.driver c.args.now).after) c.self.view_is

pub returns-clause-setup : goal.returns-clause-setup
returns-clause-setup c = c.call.ensures.setup ∙ ap (λ (w : Whole). w.setup) c.self.view_is
