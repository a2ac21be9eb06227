use Rattle.std.proofs.Common.{◌∙◌, sym, subst, ℕ}
use Rattle.std.proofs.lemmas.Bool.{true≢false}
use Rattle.balance_sched.specs.Tables.{tables_of}
use Rattle.balance_sched.specs.Search.{IsAllowed}
use Rattle.balance_sched.proofs.MoveLemmas.{not_allowed, one_of}
use Rattle.balance_sched.proofs.search.weigh.Goals as goal

pub returns-then-not-branch-clause-lose : goal.returns-then-not-branch-clause-lose
returns-then-not-branch-clause-lose c =
    let no = c.if-not-branch.true in
    let only = c.in_ok-is_allowed.ensures in
    not_allowed c.args.of.on.view.kind (tables_of c.args.of.on.view.stores.now c.args.of.on.view.standing.now c.args.of.on.view.rules.now c.args.of.on.view.busy.now c.args.of.on.view.now) c.args.of.beat.now c.args.from c.args.target.store c.args.have c.args.target.count c.args.best c.requires.have c.requires.count
    (λ allowed. true≢false (sym (only.1 (subst (λ (n : ℕ). IsAllowed c.args.of.on.view.kind (tables_of c.args.of.on.view.stores.now c.args.of.on.view.standing.now c.args.of.on.view.rules.now c.args.of.on.view.busy.now c.args.of.on.view.now) c.args.of.beat.now (one_of c.args.of.beat.now c.args.from c.args.target.store n)) (sym c.saturating_sub.ensures) allowed)) ∙ no))
