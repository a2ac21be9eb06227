use Rattle.std.proofs.Common.{IfOk, [], Some, ap, subst, sym}
use Rattle.std.specs.Prelude.{Err, Result}
use Rattle.pd_ctl.specs.declared.command.Command.{Command}
use Rattle.pd_ctl.specs.declared.fault.CtlFault.{CtlFault}
use Rattle.pd_state.specs.Adding.{planning_of}
use Rattle.pd_state.specs.Asking.{ear}
use Rattle.pd_state.specs.Ctl.{Carries}
use Rattle.pd_state.specs.declared.heard.Heard.{Heard}
use Rattle.pd_state.specs.declared.reply.Reply.{Reply}
use Rattle.pd_state.proofs.Commanded.{carries_report, has_rate}
use Rattle.pd_state.proofs.ctl.carry_out.Goals as goal

pub obey-requires-clause-rate : goal.obey-requires-clause-rate
obey-requires-clause-rate g c = has_rate c.args.told.now c.in-Ok.command c.in-Ok.is c.requires.rate

pub returns-in-Ok-clause-does : goal.returns-in-Ok-clause-does
returns-in-Ok-clause-does g c =
    subst (λ (told : Result Command CtlFault). IfOk c.obey.result (λ done. Carries c.args.driver c.args.part.now c.args.names told (planning_of c.obey.new.part) c.obey.new.part.stores done (ear [] c.args.part.now.known (g.M.Door.said c.args.door.now) (g.M.Door.told c.args.door.now))
    (ear done.heard.answers c.obey.new.part.known (g.M.Door.said c.obey.new.door) (g.M.Door.told c.obey.new.door)))) (sym c.in-Ok.is) c.obey.ensures.does

pub returns-in_ok-reply-in-Err-clause-does : goal.returns-in_ok-reply-in-Err-clause-does
returns-in_ok-reply-in-Err-clause-does g c =
    subst (λ (told : Result Command CtlFault). Carries c.args.driver c.args.part.now c.args.names told (planning_of c.args.part.now) c.args.part.now.stores c.with_names.result (ear [] c.args.part.now.known (g.M.Door.said c.args.door.now) (g.M.Door.told c.args.door.now))
    (ear c.with_names.result.heard.answers c.args.part.now.known (g.M.Door.said c.args.door.now) (g.M.Door.told c.args.door.now))) (sym c.in-Err.is)
    (carries_report c.args.driver c.args.part.now c.args.names (Err c.in-Err.why) c.in_ok-reply-in-Err.reply c.with_names.result (g.M.Door.said c.args.door.now) (g.M.Door.told c.args.door.now) (ap (λ (r : Reply). Some r) c.in_ok-reply-in-Err.ensures.value)
    c.with_names.ensures.reply c.with_names.ensures.sents (ap (λ (h : Heard). h.answers) c.with_names.ensures.heard))
