use Rattle.std.proofs.Common.{◌++◌, ◌∙◌, ap, reverse, sym}
use Rattle.std.specs.Prelude.{None}
use Rattle.pd_turn.specs.Turns.{made_by, ticket_value}
use Rattle.meta_store.specs.declared.record.MetaCall.TheVariants as calls
use Rattle.meta_store.specs.Seats.{tale_of, write_adds}
use Rattle.meta_store.proofs.Seating.{delete_tale}
use Rattle.meta_store.proofs.seats.delete_by.Goals as goal

pub give-requires-clause-adds : goal.give-requires-clause-adds
give-requires-clause-adds g c =
    let taken = c.take-meta.ensures.ticket in
    let adds = write_adds (calls.Delete c.args.term c.args.key.now c.args.expected) c.delete_if-answer.result in
    (adds, (tale_of (reverse c.take-meta.result), ap (λ t. t.taken) taken, delete_tale c.take-meta.result c.delete_if-answer.new.self c.number-driver.result c.args.term c.args.key.now c.args.expected c.delete_if-answer.result c.delete_if-answer.ensures.ok c.delete_if-answer.ensures.value c.delete_if-answer.ensures.refused ∙ ap (λ n. tale_of (reverse c.take-meta.result) ++ made_by n adds) (c.number-driver.ensures ∙ sym (ap (λ t. t.number) taken))))

pub returns : goal.returns
returns g c =
    let taken = c.take-meta.ensures.ticket in
    let adds = write_adds (calls.Delete c.args.term c.args.key.now c.args.expected) c.delete_if-answer.result in
    record {
      ticket = c.give.ensures.ticket adds (tale_of (reverse c.take-meta.result), ap (λ t. t.taken) taken, delete_tale c.take-meta.result c.delete_if-answer.new.self c.number-driver.result c.args.term c.args.key.now c.args.expected c.delete_if-answer.result c.delete_if-answer.ensures.ok c.delete_if-answer.ensures.value c.delete_if-answer.ensures.refused ∙ ap (λ n. tale_of (reverse c.take-meta.result) ++ made_by n adds) (c.number-driver.ensures ∙ sym (ap (λ t. t.number) taken)))
          ∙ (λ i. ticket_value c.args.turn.now (ap (λ t. t.number) taken i) (ap (λ t. t.list) taken i ++ adds) None);
    }
