use Rattle.std.proofs.Common.{◌≡◌, sym, ap, ◌∙◌, Some, arith}
use Rattle.store_limit.specs.Limits.{available_in}
use Rattle.op_control.specs.Charging.{after_charges, charge_of, refused_at, refused_by}
use Rattle.op_control.proofs.LimitLemmas.{available-after}
use Rattle.op_control.proofs.charging.refused.Goals as goal

pub returns : goal.returns
returns c =
    let limits = after_charges c.args.before.now c.args.limits.now c.args.now in
    let after = available-after c.args.before.now c.args.limits.now c.in_ok-kind.store c.in_ok-kind.kind c.args.now in
    let left : c.saturating_sub.result ≡ available_in limits c.in_ok-kind.store c.in_ok-kind.kind c.args.now = omega arith in
    let asked : charge_of c.args.step.now ≡ Some (c.in_ok-kind.kind, c.in_ok-kind.store) = sym c.charge_of.ensures ∙ c.in_ok-kind.was in
    c.refused_at.ensures ∙ ap refused_at left ∙ sym (ap (λ o. refused_by o limits c.args.now) asked)
