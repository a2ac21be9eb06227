use Rattle.std.proofs.Common.{[], ◌∷◌, ◌++◌, ap, ◌∙◌, sym, subst}
use Rattle.std.specs.Prelude.{None}
use Rattle.pd_turn.specs.Turns.{made_by, ticket_value}
use Rattle.pd_types.specs.declared.oracle.Actor.{Actor}
use Rattle.pd_shared.specs.Kept.{IsEntryOf, number_of, tale_of}
use Rattle.pd_shared.specs.Shares.{actor_of}
use Rattle.pd_shared.proofs.Keeping.{tale_more}
use Rattle.pd_shared.proofs.Sharing.{number_actor}
use Rattle.pd_shared.proofs.shared.call_by.Goals as goal

pub give-requires-clause-adds : goal.give-requires-clause-adds
give-requires-clause-adds g c =
    let taken = c.take-locked.ensures.ticket in
    let before = c.take-locked.result.cluster.entries in
    let served = rw c.in-Ok.is at c.serve-locked.ensures.ok in
    let e = served.entry in
    let number = ap number_of (served.entry_is.actor_is ∙ c.actor_of-actor.ensures.value) ∙ number_actor c.args.driver c.number.result ∙ c.number.ensures ∙ sym (ap (λ t. t.number) taken) in
    (e ∷ [], (tale_of before, ap (λ t. t.taken) taken, tale_more before c.serve-locked.result.0.cluster.entries e served.entries_are ∙ ap (λ n. tale_of before ++ made_by n (e ∷ [])) number))

pub returns-in-Ok-clause-ok : goal.returns-in-Ok-clause-ok
returns-in-Ok-clause-ok g c =
    let taken = c.take-locked.ensures.ticket in
    let before = c.take-locked.result.cluster.entries in
    let served = rw c.in-Ok.is at c.serve-locked.ensures.ok in
    let e = served.entry in
    let number = ap number_of (served.entry_is.actor_is ∙ c.actor_of-actor.ensures.value) ∙ number_actor c.args.driver c.number.result ∙ c.number.ensures ∙ sym (ap (λ t. t.number) taken) in
    let actor = c.actor_of-actor.ensures.value ∙ ap (actor_of c.args.driver) c.number.ensures in (
      e,
      subst (λ (a : Actor). IsEntryOf e a c.args.line c.args.request c.in-Ok.reply) actor served.entry_is,
      c.give.ensures.ticket (e ∷ []) (tale_of before, ap (λ t. t.taken) taken, tale_more before c.serve-locked.result.0.cluster.entries e served.entries_are ∙ ap (λ n. tale_of before ++ made_by n (e ∷ [])) number) ∙ (λ i. ticket_value (sym c.requires.turn i) (ap (λ t. t.number) taken i) (ap (λ t. t.list) taken i ++ e ∷ []) None),
      served.over,
    )
