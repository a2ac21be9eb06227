use Rattle.std.proofs.Common.{refl, sym, subst, ◌∙◌}
use Rattle.std.specs.Prelude.{All}
use Rattle.std.proofs.lemmas.List.Elements.{All-map}
use Rattle.pd_turn.specs.Turns.{IsFree, new_ticket}
use Rattle.tso_threads.proofs.turning.turns.Goals as goal

pub crowd-requires-clause-free : goal.crowd-requires-clause-free
crowd-requires-clause-free g c κs within = subst (All (IsFree c.in_ok-turn.turn)) (sym (c.deref_mut.ensures.value ∙ c.in_ok-turn.ensures.ok.1)) (All-map (IsFree c.in_ok-turn.turn) (new_ticket c.in_ok-turn.turn) c.in_ok-numbers.numbers (λ k d lt. record { turn_is = refl; none = refl }))
