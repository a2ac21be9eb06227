use Rattle.std.proofs.Common.{◌≡◌, List, ℕ, Option, subst}
use Rattle.atomic_table.specs.Table.{Me}
use Rattle.pd_turn.specs.declared.rule.View.{View}
use Rattle.pd_turn.specs.Rule.{Has}
use Rattle.pd_turn.specs.Turns.{items_of, IsMadeBy}
use Rattle.pd_turn.proofs.seats.take.Goals as goal

pub returns-in-Some-try_take-clause-lists : goal.returns-in-Some-try_take-clause-lists
returns-in-Some-try_take-clause-lists g c =
    let told = g.T.Tale.tale c.in-Some-try_take.value in
    let P : Me (Option g.row.T.Denot) (View g.row.T-Item.Denot) → Type 0 =
    λ m. (k : ℕ) (l : List g.row.T-Item.Denot) → Has m.0.lists k l → IsMadeBy m.0.numbers told × (l ≡ items_of k told) in
    subst P c.loop.invariant.3 c.in-Some-try_take.ensures.lists
