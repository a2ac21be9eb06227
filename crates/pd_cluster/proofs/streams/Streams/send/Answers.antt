use Rattle.std.proofs.Common.{◌∙◌, ap, sym, subst, List}
use Rattle.std.specs.Prelude.{IsSome}
use Rattle.std.specs.FinMap as map
use Rattle.pd_types.specs.declared.step.StepMsg.{StepMsg}
use Rattle.id_map.proofs.Inserted.{known-insert}
use Rattle.pd_cluster.specs.Streams.{Waiting}
use Rattle.pd_cluster.proofs.Waits.{sent_on}
use Rattle.pd_cluster.proofs.streams.Streams.send.Goals as goal

pub set-requires : goal.set-requires
set-requires c = record { known = subst (λ (w : Waiting). IsSome (map.get w c.args.message.to)) (sym c.swap-messages.ensures.value) (known-insert _ c.args.message.to _) }

pub returns-in_ok-push : goal.returns-in_ok-push
returns-in_ok-push c = record {
  ok = sent_on c.args.self.now c.swap-messages.new.self c.set.new.self c.args.message c.swap-messages.result c.push.new.self (sym c.has_room.ensures.value ∙ c.if-has_room.true)
      (ap (λ (w : Waiting). map.get w c.args.message.to) (sym c.self.view_is) ∙ c.swap-messages.ensures.old)
      (c.swap-messages.ensures.value ∙ ap (λ (w : Waiting). map.insert w c.args.message.to c.new.result) c.self.view_is ∙ ap (λ (l : List StepMsg). map.insert c.args.self.now c.args.message.to l) c.new.ensures.value)
      c.in_ok-push.ensures.ok c.set.ensures.value;
}
