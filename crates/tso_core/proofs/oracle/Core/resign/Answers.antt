use Rattle.std.proofs.Common.{◌≡◌, subst, ap, ◌∙◌}
use Rattle.std.specs.Prelude.{IfOk}
use Rattle.tso_core.specs.Rows.{resigned_of}
use Rattle.tso_core.specs.Whole.{Whole}
use Rattle.tso_core.specs.declared.reply.Reply.{Reply}
use Rattle.tso_core.proofs.oracle.Core.resign.Goals as goal

pub returns-clause-reply : goal.returns-clause-reply
returns-clause-reply c = subst (λ (w : Whole). IfOk c.call.result (λ (reply : Reply). reply ≡ (resigned_of w c.args.driver).reply)) c.self.view_is c.call.ensures.reply

pub returns-clause-setup : goal.returns-clause-setup
returns-clause-setup c = c.call.ensures.setup ∙ ap (λ (w : Whole). w.setup) c.self.view_is
