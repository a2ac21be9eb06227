use Rattle.std.proofs.Common.{ap, sym, ◌∙◌}
use Rattle.pd_types.specs.declared.oracle.Actor.TheVariants.{Client}
use Rattle.tso_core.specs.Steps.{Stepped, due_of}
use Rattle.tso_core.specs.Whole.{Whole}
use Rattle.tso_core.proofs.Going.{take_goes}
use Rattle.tso_core.proofs.oracle.Core.take.Goals as goal

pub returns-clause-reply : goal.returns-clause-reply
returns-clause-reply c =
    ap (λ (r : Stepped). r.reply) (take_goes c.args.self.now c.args.client c.args.driver c.args.n c.due-due.result c.reserve.new.self c.go-looked.new.self c.go-armed.new.self c.go.new.self c.go-looked.result c.go-armed.result c.go.result
    (c.due-due.ensures.value ∙ ap (λ (w : Whole). due_of w (Client c.args.client)) c.self.view_is) (sym c.is.ensures.value ∙ c.if-not-is.false) (c.reserve.ensures.whole ∙ c.self.view_is)
    c.go-looked.ensures.goes.answers c.go-armed.ensures.goes.answers c.go.ensures.goes.answers)

pub returns-clause-after : goal.returns-clause-after
returns-clause-after c =
    ap (λ (r : Stepped). r.after) (take_goes c.args.self.now c.args.client c.args.driver c.args.n c.due-due.result c.reserve.new.self c.go-looked.new.self c.go-armed.new.self c.go.new.self c.go-looked.result c.go-armed.result c.go.result
    (c.due-due.ensures.value ∙ ap (λ (w : Whole). due_of w (Client c.args.client)) c.self.view_is) (sym c.is.ensures.value ∙ c.if-not-is.false) (c.reserve.ensures.whole ∙ c.self.view_is)
    c.go-looked.ensures.goes.answers c.go-armed.ensures.goes.answers c.go.ensures.goes.answers)
