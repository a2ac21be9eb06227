use Rattle.std.proofs.Common.{List, ap, sym, ◌∙◌}
use Rattle.std.specs.List.{list_any}
use Rattle.pd_types.specs.declared.rule.Rule.{Rule}
use Rattle.rule_checker.specs.Best.{tells_leader}
use Rattle.rule_checker.proofs.LeadLemmas.{no_transfer}
use Rattle.rule_checker.proofs.best.best_leader.Goals as goal

pub returns-then-not-tells_leader : goal.returns-then-not-tells_leader
returns-then-not-tells_leader c =
    let on = c.args.on in
    λ k one low at lowers. no_transfer on.beat.now on.rules.now on.stores.now on.now c.args.from one
    (ap (λ (rules : List Rule). list_any tells_leader rules) (sym c.as_slice.ensures.value) ∙ sym c.tells_leader.ensures ∙ c.if-not-tells_leader.true) c.requires.number lowers
