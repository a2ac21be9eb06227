use Rattle.std.proofs.Common.{◌++◌, ◌∙◌, ap, reverse, sym}
use Rattle.std.specs.Prelude.{None}
use Rattle.pd_turn.specs.Turns.{made_by, ticket_value}
use Rattle.meta_store.specs.Seats.{lead_adds, tale_of}
use Rattle.meta_store.proofs.Seating.{lead_tale}
use Rattle.meta_store.proofs.seats.lead_by.Goals as goal

pub give-requires-clause-adds : goal.give-requires-clause-adds
give-requires-clause-adds g c =
    let taken = c.take-meta.ensures.ticket in
    let adds = lead_adds c.args.term c.lead-answer.result in
    (adds, (tale_of (reverse c.take-meta.result), ap (λ t. t.taken) taken, lead_tale c.take-meta.result c.lead-answer.new.self c.number-driver.result c.args.term c.lead-answer.result c.lead-answer.ensures.ok c.lead-answer.ensures.accepted c.lead-answer.ensures.value c.lead-answer.ensures.refused ∙ ap (λ n. tale_of (reverse c.take-meta.result) ++ made_by n adds) (c.number-driver.ensures ∙ sym (ap (λ t. t.number) taken))))

pub returns-clause-ticket : goal.returns-clause-ticket
returns-clause-ticket g c =
    let taken = c.take-meta.ensures.ticket in
    let adds = lead_adds c.args.term c.lead-answer.result in
    c.give.ensures.ticket adds (tale_of (reverse c.take-meta.result), ap (λ t. t.taken) taken, lead_tale c.take-meta.result c.lead-answer.new.self c.number-driver.result c.args.term c.lead-answer.result c.lead-answer.ensures.ok c.lead-answer.ensures.accepted c.lead-answer.ensures.value c.lead-answer.ensures.refused ∙ ap (λ n. tale_of (reverse c.take-meta.result) ++ made_by n adds) (c.number-driver.ensures ∙ sym (ap (λ t. t.number) taken)))
    ∙ (λ i. ticket_value c.args.turn.now (ap (λ t. t.number) taken i) (ap (λ t. t.list) taken i ++ adds) None)
