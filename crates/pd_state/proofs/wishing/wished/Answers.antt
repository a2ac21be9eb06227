use Rattle.std.proofs.Common.{◌∙◌, List, ap, sym}
use Rattle.pd_types.specs.declared.region.RegionBeat.{RegionBeat}
use Rattle.pd_state.specs.Adding.{around_of}
use Rattle.pd_state.specs.Sends.{region_in}
use Rattle.pd_state.proofs.Scheduled.{wished_err, wished_ok}
use Rattle.pd_state.proofs.Short.{built_few}
use Rattle.pd_state.proofs.wishing.wished.Goals as goal

pub returns-in_ok-copy-in-Ok-clause-value : goal.returns-in_ok-copy-in-Ok-clause-value
returns-in_ok-copy-in-Ok-clause-value c =
    let part = c.args.part.now in
    wished_ok (around_of part) c.args.region c.args.wish.now c.in-Some.beat.now c.in_ok-copy-in-Ok.field-0 c.in-Ok.steps (sym (ap (λ (held : List RegionBeat). region_in c.args.region held) c.regions.ensures.value) ∙ sym c.in-Some.ensures.value)
    c.in-Ok.ensures.ok c.in_ok-copy-in-Ok.ensures

pub returns-in_ok-copy-in-Ok-clause-few : goal.returns-in_ok-copy-in-Ok-clause-few
returns-in_ok-copy-in-Ok-clause-few c = built_few c.args.wish.now c.in-Some.beat.now c.args.part.now.stores c.args.part.now.clock c.in-Ok.steps c.in-Ok.ensures.ok

pub returns-in_ok-why-in-Err-clause-value : goal.returns-in_ok-why-in-Err-clause-value
returns-in_ok-why-in-Err-clause-value c =
    let part = c.args.part.now in
    wished_err (around_of part) c.args.region c.args.wish.now c.in-Some.beat.now c.in-Err.fault c.in_ok-why-in-Err.why (sym (ap (λ (held : List RegionBeat). region_in c.args.region held) c.regions.ensures.value) ∙ sym c.in-Some.ensures.value)
    c.in-Err.ensures.fault c.in_ok-why-in-Err.ensures.kept c.in_ok-why-in-Err.ensures.value
