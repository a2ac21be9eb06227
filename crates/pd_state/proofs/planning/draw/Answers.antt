use Rattle.std.proofs.Common.{◌≡◌}
use Rattle.std.specs.Prelude.{true, false}
use Rattle.id_alloc.specs.Windows.{is_spent, is_used_up}
use Rattle.pd_state.specs.Asking.{ear}
use Rattle.pd_state.proofs.Deeds.{draw_spent, draw_took}
use Rattle.pd_state.proofs.planning.draw.Goals as goal

pub returns-then-not-is_used_up-clause-talks : goal.returns-then-not-is_used_up-clause-talks
returns-then-not-is_used_up-clause-talks g c =
    let left : is_used_up c.args.part.now.window ≡ false = cc (c.if-not-is_used_up.true, c.is_used_up.ensures.value) in
    draw_took c.args.part.now.term c.args.part.now.window c.take.new.self c.take.result c.args.driver (ear c.args.answers.now c.args.part.now.known (g.M.Door.said c.args.door.now) (g.M.Door.told c.args.door.now)) left c.take.ensures.value c.take.ensures.id

pub returns-then-is_spent-clause-talks : goal.returns-then-is_spent-clause-talks
returns-then-is_spent-clause-talks g c =
    let used : is_used_up c.args.part.now.window ≡ true = cc (c.if-not-is_used_up.false, c.is_used_up.ensures.value) in
    let spent : is_spent c.args.part.now.window ≡ true = cc (c.if-is_spent.true, c.is_spent.ensures.value) in
    draw_spent c.args.part.now.term c.args.part.now.window c.args.driver (ear c.args.answers.now c.args.part.now.known (g.M.Door.said c.args.door.now) (g.M.Door.told c.args.door.now)) used spent
