use Rattle.std.proofs.Common.{◌∷◌, ◌+◌, ◌∙◌, ap, arith, drop, sym}
use Rattle.std.proofs.lemmas.List.{drop_more}
use Rattle.pd_state.specs.Adding.{around_of, planning_of, replanned}
use Rattle.pd_state.specs.Asking.{ear}
use Rattle.pd_state.specs.Checking.{round_at}
use Rattle.pd_state.specs.declared.part.Part.{Part}
use Rattle.pd_state.specs.declared.patrol.Planned.{Planned}
use Rattle.pd_state.proofs.Deeds.{sweep_turn}
use Rattle.pd_state.proofs.patrol.sweep.Goals as goal

pub loop-planned-preserved : goal.loop-planned-preserved
loop-planned-preserved g c =
    let l = c.loop-planned in
    let new = c.visit.new.part in
    let plans = c.args.plans.now in
    let p = c.planned-item.result in
    let at = drop_more plans l.planned-index p (omega arith) ∙ ap (λ (x : Planned). x ∷ drop (l.planned-index + 1) plans) (sym c.planned-item.is) in
    record {
      on = λ value last rest.
          l.invariant.on value last (sweep_turn plans l.planned-index p (around_of c.args.part.now) (around_of l.part) (round_at l.part l.log.sents l.round) (round_at new c.visit.new.log.sents c.in_ok-round.round) value c.args.driver
          (ear l.log.answers l.part.known (g.M.Door.said l.door) (g.M.Door.told l.door)) (ear c.visit.new.log.answers new.known (g.M.Door.said c.visit.new.door) (g.M.Door.told c.visit.new.door)) last at (ap around_of l.invariant.rest)
          c.in_ok-round.ensures.talks rest);
      few = omega (arith, c.in_ok-round.ensures.more, l.invariant.few);
      rest = c.in_ok-round.ensures.rest ∙ ap (λ (p : Part). replanned p (planning_of new) new.known) l.invariant.rest;
      place = c.in_ok-round.ensures.place ∙ l.invariant.place;
    }
