use Rattle.std.proofs.Common.{◌≡◌, ◌++◌, ◌∷◌, ◌∙◌, [], List, true, false, append-nil, ap, arith, subst, sym}
use Rattle.std.specs.List.{All, AllPairs}
use Rattle.pd_types.specs.declared.store.StoreRec.{StoreRec}
use Rattle.pd_state.specs.Checking.{is_grave, tombstone}
use Rattle.pd_state.proofs.Graves.{Below, IsOffline, graves_end, graves_offline, graves_rise, rise_end}
use Rattle.pd_state.proofs.Walks.{graves_at}
use Rattle.pd_state.proofs.burial.graves.Goals as goal

pub loop-place-preserved-then-not-is_grave : goal.loop-place-preserved-then-not-is_grave
loop-place-preserved-then-not-is_grave c =
    let part = c.args.part.now in
    let l = c.loop-place in
    let rec = c.in-Some.store.now in
    let left : is_grave part.standing rec ≡ false = cc (c.if-not-is_grave.true, c.is_grave.ensures) in
    record {
      found = sym (append-nil l.graves) ∙ ap (λ (gs : List StoreRec). gs ++ []) l.invariant.found ∙ graves_at part.standing false part.stores l.place rec (sym c.in-Some.ensures.value) left;
      rising = λ low. c.at.ensures.rising;
    }

pub loop-place-preserved : goal.loop-place-preserved
loop-place-preserved c =
    let part = c.args.part.now in
    let l = c.loop-place in
    let rec = c.in-Some.store.now in
    let here : is_grave part.standing rec ≡ true = cc (c.if-not-is_grave.false, c.is_grave.ensures) in
    record {
      found = c.in_ok-push.ensures.ok ∙ ap (λ (r : StoreRec). l.graves ++ tombstone r ∷ []) c.in_ok-grave.ensures ∙ ap (λ (gs : List StoreRec). gs ++ tombstone rec ∷ []) l.invariant.found
          ∙ graves_at part.standing true part.stores l.place rec (sym c.in-Some.ensures.value) here;
      rising = λ low. c.at.ensures.rising;
    }

pub returns-clause-offline : goal.returns-clause-offline
returns-clause-offline c =
    let part = c.args.part.now in
    let l = c.loop-place in
    subst (λ (gs : List StoreRec). All (IsOffline part.stores) gs) (sym (l.invariant.found ∙ graves_end part.standing part.stores l.place (omega arith)))
    (graves_offline part.standing part.stores (rise_end part.stores l.place (omega arith) l.invariant.rising))

pub returns-clause-apart : goal.returns-clause-apart
returns-clause-apart c =
    let part = c.args.part.now in
    let l = c.loop-place in
    subst (λ (gs : List StoreRec). AllPairs Below gs) (sym (l.invariant.found ∙ graves_end part.standing part.stores l.place (omega arith)))
    (graves_rise part.standing part.stores (rise_end part.stores l.place (omega arith) l.invariant.rising))
