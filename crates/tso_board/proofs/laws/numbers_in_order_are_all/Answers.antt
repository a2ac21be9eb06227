use Rattle.tso_board.proofs.Whose.{numbers_are_all}
use Rattle.tso_board.proofs.laws.numbers_in_order_are_all.Goals as goal

pub returns : goal.returns
returns c = record { each = numbers_are_all }
