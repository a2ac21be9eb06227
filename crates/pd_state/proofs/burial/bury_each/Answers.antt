use Rattle.std.proofs.Common.{◌∷◌, ◌+◌, ◌∙◌, ap, arith, drop, sym}
use Rattle.std.proofs.lemmas.List.{drop_more}
use Rattle.pd_types.specs.declared.store.StoreRec.{StoreRec}
use Rattle.pd_state.specs.Asking.{ear}
use Rattle.pd_state.specs.Checking.{burial_at}
use Rattle.pd_state.specs.declared.part.Part.{Part}
use Rattle.pd_state.proofs.Deeds.{bury_turn}
use Rattle.pd_state.proofs.Graves.{left_first, left_offline, left_rise}
use Rattle.pd_state.proofs.burial.bury_each.Goals as goal

pub bury_one-requires-clause-offline : goal.bury_one-requires-clause-offline
bury_one-requires-clause-offline g c =
    let l = c.loop-grave in
    let graves = c.args.graves.now in
    let p = c.grave-item.result in
    left_first graves l.grave-index p l.part.stores (drop_more graves l.grave-index p (omega arith) ∙ ap (λ (x : StoreRec). x ∷ drop (l.grave-index + 1) graves) (sym c.grave-item.is)) l.invariant.offline

pub loop-grave-preserved : goal.loop-grave-preserved
loop-grave-preserved g c =
    let l = c.loop-grave in
    let new = c.bury_one.new.part in
    let graves = c.args.graves.now in
    let p = c.grave-item.result in
    let at = drop_more graves l.grave-index p (omega arith) ∙ ap (λ (x : StoreRec). x ∷ drop (l.grave-index + 1) graves) (sym c.grave-item.is) in
    record {
      on = λ value last rest.
          l.invariant.on value last (bury_turn graves l.grave-index p c.args.part.now.term l.part.term (burial_at l.part l.burial) (burial_at new c.in_ok-burial.burial) value c.args.driver
          (ear l.answers l.part.known (g.M.Door.said l.door) (g.M.Door.told l.door)) (ear c.bury_one.new.answers new.known (g.M.Door.said c.bury_one.new.door) (g.M.Door.told c.bury_one.new.door)) last at
          (ap (λ (q : Part). q.term) l.invariant.rest) c.in_ok-burial.ensures.talks rest);
      few = omega (arith, c.in_ok-burial.ensures.more, l.invariant.few);
      offline = left_offline graves l.grave-index p l.part.stores new.stores at l.invariant.apart l.invariant.offline c.in_ok-burial.ensures.others;
      apart = left_rise graves l.grave-index p at l.invariant.apart;
      rest = c.in_ok-burial.ensures.rest ∙ ap (λ (q : Part). record q { stores = new.stores; known = new.known }) l.invariant.rest;
      place = c.in_ok-burial.ensures.place ∙ l.invariant.place;
    }
