use Rattle.rule_set.proofs.NameLemmas.{others_left}
use Rattle.rule_set.proofs.set.set_reserved.Goals as goal

pub place-requires-clause-other : goal.place-requires-clause-other
place-requires-clause-other c =
    rw (c.take_out.ensures.value, c.as_bytes.ensures.value, c.as_bytes-2.ensures.value) (others_left c.args.rule c.args.rules.now.items)
