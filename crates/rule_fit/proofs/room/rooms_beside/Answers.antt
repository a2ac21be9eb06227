use Rattle.std.proofs.Common.{◌≡◌, ◌<◌, true, length, sym, subst, List, ℕ, Bool, ap, arith, [], ◌∷◌, length-append}
use Rattle.std.specs.Prelude.{◌↔◌}
use Rattle.rule_fit.specs.Room.{HasRoom}
use Rattle.rule_fit.specs.Search.{marked}
use Rattle.rule_fit.specs.Table.{suits}
use Rattle.rule_fit.proofs.RoomLemmas.{rooms_push}
use Rattle.rule_fit.proofs.room.rooms_beside.Goals as goal

pub loop-rule-preserved : goal.loop-rule-preserved
loop-rule-preserved c =
    let inv = c.loop-rule.invariant in
    let rooms = c.loop-rule.rooms.items in
    let room = c.in_ok-room.room in
    let items = c.in_ok-push.ensures.items in
    let long = length-append rooms (room ∷ []) in
    let same = ap length items in
    let each = inv.each in
    record {
      each = omega arith;
      right = subst (λ (xs : List Bool). (r : ℕ) → r < length xs → (marked xs r ≡ true) ↔ HasRoom (suits c.args.table.now) (length c.args.table.now) c.args.counts.now r) (sym items)
          (rooms_push (suits c.args.table.now) (length c.args.table.now) c.args.counts.now rooms room inv.right
          (subst (λ (k : ℕ). (room ≡ true) ↔ HasRoom (suits c.args.table.now) (length c.args.table.now) c.args.counts.now k) (sym inv.each) c.in_ok-room.ensures));
    }

pub returns : goal.returns
returns c =
    let inv = c.loop-rule.invariant in
    record {
      each = let each = inv.each in omega arith;
      right = λ r low. inv.right r (let each = inv.each in omega arith);
    }
