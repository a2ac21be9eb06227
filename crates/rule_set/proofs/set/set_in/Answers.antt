use Rattle.std.proofs.Common.{sym, ◌∙◌, ap, length, arith, ◌≤◌}
use Rattle.rule_set.proofs.RuleLemmas.{few_at_limit, few_known}
use Rattle.rule_set.proofs.SetLemmas.{set_more}
use Rattle.rule_set.proofs.set.set_in.Goals as goal
use Rattle.rule_set.proofs.set.set_in.Goals.{else-not-knows-via-then-not-knows+else-len-ge-MAX_RULES, else-not-knows-via-else-not-knows}

pub returns-clause-rules : goal.returns-clause-rules
returns-clause-rules c =
    let few : length c.set_reserved.new.rules.items ≤ 64 = elim c.else-not-knows.branch [
      | else-not-knows-via-then-not-knows+else-len-ge-MAX_RULES w ↦
          few_at_limit c.args.rule c.args.rules.now.items c.reserve.new.self.items c.set_reserved.new.rules.items c.in-Ok.ensures.items c.set_reserved.ensures.value
          (let same = ap length c.deref.ensures.value in omega arith)
      | else-not-knows-via-else-not-knows w ↦
          few_known c.args.rule c.args.rules.now.items c.reserve.new.self.items c.set_reserved.new.rules.items c.in-Ok.ensures.items c.set_reserved.ensures.value c.requires.rules.few
          (rw (← c.as_bytes.ensures.value, ← c.as_bytes-2.ensures.value, ← c.deref.ensures.value) (sym c.knows.ensures ∙ w.if-not-knows.false))
    ] in
    set_more c.args.rule c.args.rules.now.items c.reserve.new.self.items c.set_reserved.new.rules.items c.in-Ok.ensures.items c.set_reserved.ensures.value c.requires.rules c.requires.locations c.set_reserved.ensures.order c.set_reserved.ensures.names few
