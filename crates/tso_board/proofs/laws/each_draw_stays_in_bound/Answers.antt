use Rattle.tso_model.proofs.Learned.{in_bound}
use Rattle.tso_board.proofs.laws.each_draw_stays_in_bound.Goals as goal

pub returns : goal.returns
returns c = record { bound = λ k words views id v s at pos has. in_bound k words views s.history id v s.a s.b at pos has }
