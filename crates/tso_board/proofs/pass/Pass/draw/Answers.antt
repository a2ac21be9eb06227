use Rattle.std.proofs.Common.{arith, ap, ◌∙◌, sym}
use Rattle.tso_model.specs.Steps.{hand_or}
use Rattle.tso_board.proofs.Allowed.{draws}
use Rattle.tso_board.proofs.pass.Pass.draw.Goals as goal

pub fetch_add-at-requires : goal.fetch_add-at-requires
fetch_add-at-requires c =
    let it = c.args.self.now in
    let same = ap hand_or (it.in_hand ∙ c.in-Some.is) in (
      c.requires.board,
      omega (arith, (it.hand_fits c.in-Some.limit c.in-Some.is).0, ap (λ t. t.words) c.requires.board),
      draws _ _ _ _ _ _ (omega (arith, it.numbered, it.positive), c.requires.hand, c.requires.armed) (omega (arith, ap (λ l. l.driver) same)) (sym it.is_armed),
    )
