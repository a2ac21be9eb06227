use Rattle.std.proofs.Common.{◌≡◌, ◌∙◌, ap, sym, subst, true, List, Some}
use Rattle.std.specs.Prelude.{IsSome, is_some, remove}
use Rattle.std.specs.FinMap as map
use Rattle.pd_types.specs.declared.step.StepMsg.{StepMsg}
use Rattle.id_map.proofs.Inserted.{known-insert}
use Rattle.pd_cluster.specs.Streams.{Waiting, oldest_in}
use Rattle.pd_cluster.proofs.Waits.{taken_left, waits_len}
use Rattle.pd_cluster.proofs.streams.Streams.pop.Goals as goal

pub set-requires : goal.set-requires
set-requires c = record { known = subst (λ (w : Waiting). IsSome (map.get w c.args.store)) (sym c.swap.ensures.value) (known-insert _ c.args.store _) }

pub returns-clause-left : goal.returns-clause-left
returns-clause-left c =
    let got : map.get c.args.self.now c.args.store ≡ Some c.swap.result = ap (λ (w : Waiting). map.get w c.args.store) (sym c.self.view_is) ∙ c.swap.ensures.old in
    let waits : is_some (oldest_in c.args.self.now c.args.store) ≡ true = sym c.has_message.ensures.value ∙ c.if-not-has_message.false in
    taken_left c.args.self.now c.swap.new.self c.set.new.self c.args.store c.swap.result c.of.result got (waits_len c.args.self.now c.args.store c.swap.result waits got)
    (c.swap.ensures.value ∙ ap (λ (w : Waiting). map.insert w c.args.store c.new.result) c.self.view_is ∙ ap (λ (l : List StepMsg). map.insert c.args.self.now c.args.store l) c.new.ensures.value)
    (c.of.ensures.value ∙ c.remove-oldest.ensures.items ∙ ap (λ (l : List StepMsg). remove l 0) c.into_vec-messages.ensures.value) c.set.ensures.value
