use Rattle.std.proofs.Common.{◌≡◌, ◌∙◌, sym, subst}
use Rattle.std.specs.Prelude.{All}
use Rattle.pd_turn.specs.Turns.{IsFree, IsToldBy}
use Rattle.tso_client.specs.Logs.{tale_of}
use Rattle.tso_client.specs.Slips.{IsInJournal, SlipValue}
use Rattle.tso_client.proofs.Slipping.{are_free, are_told}
use Rattle.tso_client.proofs.post.Post.close.Goals as goal

pub end-log-requires-clause-turn : goal.end-log-requires-clause-turn
end-log-requires-clause-turn g c = subst (All (IsFree c.self.inside.turn)) (sym c.in_ok-tickets.ensures.value) (are_free c.self.inside.turn c.args.slips.items (subst (λ t. All (λ (s : SlipValue). s.post ≡ t) c.args.slips.items) (sym c.self.view_is) c.requires.slips))

pub returns-clause-lists : goal.returns-clause-lists
returns-clause-lists g c = subst (λ j. All (IsInJournal j) c.args.slips.items) (sym (c.of.ensures.value ∙ c.into_journal.ensures.value)) (are_told c.end-log.result c.args.slips.items (subst (All (IsToldBy (tale_of c.end-log.result))) c.in_ok-tickets.ensures.value c.end-log.ensures.lists))
