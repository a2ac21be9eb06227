use Rattle.std.proofs.Common.{◌≡◌, ◌+◌, sym, ap, ◌∙◌, get_or, take, drop, None}
use Rattle.std.proofs.lemmas.List.{drop_more, take_more}
use Rattle.pd_types.specs.declared.step.Step.TheVariants as steps
use Rattle.std.specs.Option.{option_or}
use Rattle.op_control.specs.Charging.{after_charges, charge_of, charged_by, first_refused, refused_by}
use Rattle.op_control.proofs.LimitLemmas.{charges-push}
use Rattle.op_control.proofs.charging.first_refused.Goals as goal

pub loop-place-preserved : goal.loop-place-preserved
loop-place-preserved c =
    let xs = c.args.steps.now in
    let p = c.loop-place.place in
    let one = get_or xs p (steps.AddLearner 0 0) in
    let limits = after_charges (take p xs) c.args.limits.now c.args.now in
    let rest = first_refused (drop (p + 1) xs) (charged_by (charge_of one) limits c.args.now) c.args.now in
    let none : refused_by (charge_of one) limits c.args.now ≡ None = sym c.refused.ensures ∙ c.in_default.is in
    ap (λ l. first_refused (drop (p + 1) xs) l c.args.now) (ap (λ ys. after_charges ys c.args.limits.now c.args.now) (take_more xs p (steps.AddLearner 0 0) c.loop-place-test.true) ∙ charges-push (take p xs) one c.args.limits.now c.args.now)
    ∙ sym (ap (λ ys. first_refused ys limits c.args.now) (drop_more xs p (steps.AddLearner 0 0) c.loop-place-test.true) ∙ ap (λ o. option_or o rest) none)
    ∙ c.loop-place.invariant
