use Rattle.std.proofs.Common.{◌∙◌, ap, reverse, sym, subst}
use Rattle.std.specs.Prelude.{All}
use Rattle.pd_turn.specs.Turns.{IsFree, IsToldBy}
use Rattle.meta_store.specs.Seats.{AreSeatsOf, IsHeard, SeatValue, tale_of}
use Rattle.meta_store.proofs.Seating.{are_free, are_told}
use Rattle.meta_store.proofs.seats.MetaSeats.close.Goals as goal

pub end-meta-requires-clause-turn : goal.end-meta-requires-clause-turn
end-meta-requires-clause-turn g c =
    subst (All (IsFree c.deref.result.now)) (sym c.in_ok-tickets.ensures.value)
    (are_free c.deref.result.now c.args.self.seats.items
    (subst (λ t. AreSeatsOf t c.args.self.seats.items) (sym (c.deref.ensures ∙ c.in_ok-turn.ensures.value ∙ ap (λ (s : SeatValue). s.turn) c.index.ensures ∙ c.requires.seats.1 0 c.index.result.now c.requires.some)) c.requires.seats.1))

pub returns-clause-lists : goal.returns-clause-lists
returns-clause-lists g c =
    subst (λ j. All (IsHeard j) c.args.self.seats.items) (sym c.into_journal.ensures.value)
    (are_told c.end-meta.result c.args.self.seats.items (subst (All (IsToldBy (tale_of (reverse c.end-meta.result)))) c.in_ok-tickets.ensures.value c.end-meta.ensures.lists))
