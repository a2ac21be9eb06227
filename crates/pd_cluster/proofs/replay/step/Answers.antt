use Rattle.pd_cluster.proofs.replay.step.Goals as goal

pub returns-in-Lead-clause-reply : goal.returns-in-Lead-clause-reply
returns-in-Lead-clause-reply c = rw (c.in-Lead.is) (c.lead.ensures.reply)

pub returns-in-Lead-clause-after : goal.returns-in-Lead-clause-after
returns-in-Lead-clause-after c = rw (c.in-Lead.is) (c.lead.ensures.after)

pub returns-in-Tick-clause-reply : goal.returns-in-Tick-clause-reply
returns-in-Tick-clause-reply c = rw (c.in-Tick.is) (c.tick.ensures.reply)

pub returns-in-Tick-clause-after : goal.returns-in-Tick-clause-after
returns-in-Tick-clause-after c = rw (c.in-Tick.is) (c.tick.ensures.after)

pub returns-in-Resign-clause-reply : goal.returns-in-Resign-clause-reply
returns-in-Resign-clause-reply c = rw (c.in-Resign.is) (c.resign.ensures.reply)

pub returns-in-Take-clause-reply : goal.returns-in-Take-clause-reply
returns-in-Take-clause-reply c = rw (c.in-Take.is) (c.take.ensures.reply)

pub returns-in-Take-clause-after : goal.returns-in-Take-clause-after
returns-in-Take-clause-after c = rw (c.in-Take.is) (c.take.ensures.after)

pub returns-in-Tell-clause-reply : goal.returns-in-Tell-clause-reply
returns-in-Tell-clause-reply c = rw (c.in-Tell.is) (c.tell.ensures.reply)

pub returns-in-Hear-clause-reply : goal.returns-in-Hear-clause-reply
returns-in-Hear-clause-reply c = rw (c.in-Hear.is) (c.hear.ensures.reply)

pub returns-in-Raise-clause-reply : goal.returns-in-Raise-clause-reply
returns-in-Raise-clause-reply c = rw (c.in-Raise.is) (c.step-in-Raise.ensures.reply)

pub returns-in-Arm-clause-reply : goal.returns-in-Arm-clause-reply
returns-in-Arm-clause-reply c = rw (c.in-Arm.is) (c.step-in-Arm.ensures.reply)

pub returns-in-Draw-clause-reply : goal.returns-in-Draw-clause-reply
returns-in-Draw-clause-reply c = rw (c.in-Draw.is) (c.step-in-Draw.ensures.reply)
