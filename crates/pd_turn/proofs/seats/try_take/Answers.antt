use Rattle.std.proofs.Common.{rules, arith, ◌∷◌, Some, sym, ap, ◌∙◌, subst, eqb}
use prog.Atomic.{either}
use Rattle.atomic_table.specs.Table.{Allows, rest}
use Rattle.pd_turn.specs.Rule.{Sound, Takes}
use Rattle.pd_turn.proofs.Laws.{takes_kept}
use Rattle.pd_turn.proofs.seats.try_take.Goals as goal

pub compare_exchange-requires : goal.compare_exchange-requires
compare_exchange-requires g c =
    let tale = g.T.Tale.tale in let seat = c.args.seat.now in let numbers = c.args.board.now.key in (
      c.requires.board.0,
      omega (arith, c.requires.board.1),
      subst (λ n. Allows (Sound tale numbers) n seat.id seat.me 0 (λ r. either (eqb r 0) 1 r) (Takes tale seat.me)) (sym c.requires.board.2) (takes_kept tale numbers seat.id seat.me),
    )

pub exchange-requires : goal.exchange-requires
exchange-requires g c = let t = c.compare_exchange.ensures.2.0 (search rules) in
    (c.compare_exchange.ensures.0 ∙ c.requires.board.0, (Some t.0, ap (λ m. m.1) t.1 ∙ ap (λ l. (0, Some t.0) ∷ rest l) (sym (ap (λ m. m.1) t.1))))
