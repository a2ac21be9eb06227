use Rattle.pd_cluster.proofs.Endings.{ends}
use Rattle.pd_cluster.proofs.Headline.{headline, heeded_headline, step_headline}
use Rattle.pd_cluster.proofs.Lawful.{safe_outcome}
use Rattle.pd_cluster.proofs.top.pd_top.Goals as goal

pub returns-in-Ok-respond-clause-answer : goal.returns-in-Ok-respond-clause-answer
returns-in-Ok-respond-clause-answer g c =
    let r = c.in-Ok-respond.ensures.answered in
    rw (← c.of.ensures.value, c.in-Some.is)
    (ends _ c.in-Some.command _ _ _ _ _ c.write_out-in-Ok-respond.ensures.read
    (record { text = r.text; outcome = r.outcome; taken = r.taken; lawful = r.lawful; written = c.write_out-in-Ok-respond.ensures.written _ r.gives; safe = safe_outcome c.in-Some.command r.text; heeded = r.heeded }))

pub returns-in-Ok-respond-clause-history : goal.returns-in-Ok-respond-clause-history
returns-in-Ok-respond-clause-history g c =
    let r = c.in-Ok-respond.ensures.answered in
    rw (← c.of.ensures.value, c.in-Some.is)
    (headline _ c.in-Some.command r.text r.outcome _ _ r.taken r.lawful (safe_outcome c.in-Some.command r.text) _ _ _ c.write_out-in-Ok-respond.ensures.read (c.write_out-in-Ok-respond.ensures.written _ r.gives))

pub returns-in-Ok-respond-clause-steps : goal.returns-in-Ok-respond-clause-steps
returns-in-Ok-respond-clause-steps g c =
    let r = c.in-Ok-respond.ensures.answered in
    rw (← c.of.ensures.value, c.in-Some.is)
    (step_headline _ c.in-Some.command r.text r.outcome _ _ r.taken r.lawful r.heeded _ _ _ c.write_out-in-Ok-respond.ensures.read (c.write_out-in-Ok-respond.ensures.written _ r.gives))

pub returns-in-Ok-respond-clause-heeded : goal.returns-in-Ok-respond-clause-heeded
returns-in-Ok-respond-clause-heeded g c =
    let r = c.in-Ok-respond.ensures.answered in
    rw (← c.of.ensures.value, c.in-Some.is)
    (heeded_headline _ c.in-Some.command r.text r.outcome _ _ r.taken r.lawful r.heeded _ _ _ c.write_out-in-Ok-respond.ensures.read (c.write_out-in-Ok-respond.ensures.written _ r.gives))
