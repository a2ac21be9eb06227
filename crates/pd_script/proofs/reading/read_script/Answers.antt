use Rattle.std.proofs.Common.{rules, sym, ◌∙◌}
use Rattle.pd_script.proofs.Lawful.{lawful}
use Rattle.pd_script.proofs.Unbroken.{clients_within, drivers_within}
use Rattle.pd_script.proofs.reading.read_script.Goals as goal

pub lines_of-requires-clause-drivers : goal.lines_of-requires-clause-drivers
lines_of-requires-clause-drivers c = drivers_within _ (sym c.in-Ok-None.field-0-is ∙ rw (c.deref-3.ensures.value) at c.in-Ok-None.ensures.value)

pub lines_of-requires-clause-clients : goal.lines_of-requires-clause-clients
lines_of-requires-clause-clients c = clients_within _ (sym c.in-Ok-None.field-0-is ∙ rw (c.deref-3.ensures.value) at c.in-Ok-None.ensures.value)

pub returns-in-Ok-lines_of-clause-lawful : goal.returns-in-Ok-lines_of-clause-lawful
returns-in-Ok-lines_of-clause-lawful c = lawful c.args.mode c.args.text.now _ (search rules)
