use Rattle.std.proofs.Common.{arith, ◌≡◌, ◌<◌, ◌∷◌, ℕ, Option, Some, sym, ap, ◌∙◌, subst}
use Rattle.atomic_table.specs.Table.{Allows, Me, rest}
use Rattle.pd_turn.specs.declared.rule.View.{View}
use Rattle.pd_turn.specs.Rule.{Sound, Gives}
use Rattle.pd_turn.proofs.Laws.{gives_kept}
use Rattle.pd_turn.proofs.seats.give.Goals as goal

words_positive : (n : ℕ) → n ≡ 1 → 0 < n
words_positive n e = omega arith

pub store-requires : goal.store-requires
store-requires g c =
    let tale = g.T.Tale.tale in let seat = c.exchange.new.seat in let numbers = c.args.board.now.key in
    let r = c.requires.seat in let ns = c.args.seat.now.me.0.numbers in
    let S : Type 0 = Me (Option g.row.T.Denot) (View g.row.T-Item.Denot) in
    let is = ap {A = S} {B = S} (λ m. (m.0, (0, Some c.args.value) ∷ rest m.1)) r.4 in (
      c.exchange.ensures.0 ∙ c.requires.board.0,
      words_positive _ c.requires.board.1,
      subst (λ n. Allows (Sound tale numbers) n seat.id seat.me 0 (λ _. 0) (λ _. Gives tale seat.me)) (sym c.requires.board.2)
          (gives_kept tale numbers seat.id seat.me ns r.0 r.1 r.2 r.3 c.args.value (c.exchange.ensures.3 ∙ is) r.5),
    )
