use Rattle.std.proofs.Common.{sym, ◌∙◌, length, arith, ap, ◌≤◌}
use Rattle.rule_set.proofs.RuleLemmas.{placed_at, order_at, names_at}
use Rattle.rule_set.proofs.places.place.Goals as goal

pub returns-clause-value : goal.returns-clause-value
returns-clause-value c = c.in-Ok.ensures.items ∙ sym (placed_at c.args.rule _ _ _ c.deref.ensures.value c.earlier-at.ensures.before c.earlier-at.ensures.after)

pub returns-clause-order : goal.returns-clause-order
returns-clause-order c =
    rw c.in-Ok.ensures.items (order_at c.args.rule _ _ _ c.deref.ensures.value c.earlier-at.ensures.bound c.requires.order c.requires.other c.earlier-at.ensures.before c.earlier-at.ensures.after)

pub returns-clause-names : goal.returns-clause-names
returns-clause-names c =
    let within : c.earlier-at.result ≤ length c.args.rules.now.items = (let same = ap length c.deref.ensures.value in let low = c.earlier-at.ensures.bound in omega arith) in
    rw c.in-Ok.ensures.items (names_at c.args.rule c.args.rules.now.items c.earlier-at.result within c.requires.names c.requires.other)
