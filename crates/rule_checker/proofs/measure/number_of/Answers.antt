use Rattle.std.proofs.Common.{◌≤◌, length, subst, sym, List, ◌∙◌, ap}
use Rattle.pd_types.specs.declared.region.RegionBeat.{RegionBeat}
use Rattle.pd_types.specs.declared.step.Step.{Step}
use Rattle.rule_checker.specs.Candidates.{after_all}
use Rattle.rule_checker.proofs.StepLemmas.{few_left}
use Rattle.rule_checker.proofs.measure.number_of.Goals as goal

pub misfit_number-requires-clause-peers : goal.misfit_number-requires-clause-peers
misfit_number-requires-clause-peers c =
    let few = few_left c.args.class c.args.on.beat.now c.args.on.rules.now c.args.on.stores.now c.args.on.now c.args.peer.now c.args.on.peers c.requires.passes in
    subst (λ (left : RegionBeat). length left.region.peers ≤ 15) (sym (c.in_ok-left.ensures ∙ ap (λ (steps : List Step). after_all steps c.args.on.beat.now) (c.as_slice.ensures.value ∙ c.in_ok-steps.ensures))) few
