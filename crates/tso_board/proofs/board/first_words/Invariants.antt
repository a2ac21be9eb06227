use Rattle.std.specs.Prelude.{◌≡◌, ◌∷◌, replicate}
use Rattle.tso_model.specs.Words.{packed}
use Rattle.tso_board.proofs.board.first_words.Given as goal

abbrev pub invariant-loop : goal.invariant-loop
invariant-loop l = l.words.items ≡ packed l.fn.setup.cell.saved l.fn.setup.cell.term ∷ replicate l.counter 0
