use Rattle.std.proofs.Common.{[], ◌∷◌, ◌++◌, ap, ◌∙◌, sym}
use Rattle.std.specs.Prelude.{None}
use Rattle.pd_turn.specs.Turns.{ticket_value}
use Rattle.tso_client.specs.Logs.{tale_of, what_of}
use Rattle.tso_client.specs.Slips.{entry_of}
use Rattle.tso_client.proofs.Posting.{tale_more}
use Rattle.tso_client.proofs.post.hear_by.Goals as goal

pub give-requires-clause-adds : goal.give-requires-clause-adds
give-requires-clause-adds g c =
    let taken = c.take-log.ensures.ticket in
    let e = entry_of c.number-client.result c.args.line (what_of c.in-Ok.heard) in
    (e ∷ [], (tale_of c.take-log.result, ap (λ t. t.taken) taken, ap tale_of c.in-Ok.ensures.ok ∙ tale_more c.take-log.result e ∙ ap (λ n. tale_of c.take-log.result ++ (n, e) ∷ []) (c.number-client.ensures ∙ sym (ap (λ t. t.number) taken))))

pub returns-in-Ok-clause-ok : goal.returns-in-Ok-clause-ok
returns-in-Ok-clause-ok g c =
    let taken = c.take-log.ensures.ticket in
    let e = entry_of c.number-client.result c.args.line (what_of c.in-Ok.heard) in
    c.give.ensures.ticket (e ∷ []) (tale_of c.take-log.result, ap (λ t. t.taken) taken, ap tale_of c.in-Ok.ensures.ok ∙ tale_more c.take-log.result e ∙ ap (λ n. tale_of c.take-log.result ++ (n, e) ∷ []) (c.number-client.ensures ∙ sym (ap (λ t. t.number) taken)))
    ∙ (λ i. ticket_value (sym c.requires.turn i) (ap (λ t. t.number) taken i) (ap (λ t. t.list) taken i ++ entry_of (c.number-client.ensures i) c.args.line (what_of c.in-Ok.heard) ∷ []) None)
