use Rattle.std.proofs.Common.{◌∙◌, ap, arith, slice_get, sym, take, List}
use Rattle.pd_types.specs.declared.region.RegionBeat.{RegionBeat}
use Rattle.rule_checker.proofs.BeatLemmas.{checked_apart, checked_few}
use Rattle.rule_checker.specs.Told.{Told}
use Rattle.pd_state.specs.Adding.{around_of}
use Rattle.pd_state.specs.Checking.{survey_more, told_in}
use Rattle.pd_state.specs.declared.patrol.Survey.{Survey}
use Rattle.pd_state.proofs.Walks.{counts_of, room_of, survey_next}
use Rattle.pd_state.proofs.patrol.survey_all.Goals as goal

pub check-requires-clause-peers : goal.check-requires-clause-peers
check-requires-clause-peers c = checked_few c.in-Some.beat.now c.in-Some.ensures.checked

pub check-requires-clause-apart : goal.check-requires-clause-apart
check-requires-clause-apart c = checked_apart c.in-Some.beat.now c.in-Some.ensures.checked

pub count-requires-clause-counts : goal.count-requires-clause-counts
count-requires-clause-counts c = counts_of (around_of c.args.part.now) (take c.loop-place.place c.args.part.now.standing) c.loop-place.survey c.loop-place.invariant

pub count-requires-clause-room : goal.count-requires-clause-room
count-requires-clause-room c =
    let few = room_of (around_of c.args.part.now) c.args.part.now.standing c.loop-place.place c.loop-place.survey c.loop-place.invariant in
    omega (arith, few)

pub loop-place-preserved : goal.loop-place-preserved
loop-place-preserved c =
    let part = c.args.part.now in
    let l = c.loop-place in
    let beat = c.in-Some.beat.now in
    c.in_ok-count.ensures.ok ∙ ap (λ (t : Told). survey_more l.survey beat t) c.in_ok-verdict.ensures.tells ∙ ap (λ (s : Survey). survey_more s beat (told_in (around_of part) beat)) l.invariant
    ∙ survey_next (around_of part) part.standing l.place beat (sym (ap (λ (held : List RegionBeat). slice_get held l.place) c.regions-regions.ensures.value) ∙ sym c.in-Some.ensures.value)
