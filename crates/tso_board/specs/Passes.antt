-- What a client's pass belongs to and knows.
use Rattle.std.specs.Prelude.{◌≡◌, ℕ, ◌-◌, vec_len}
use Rattle.std.specs.Vec.{vec_capacity}
use Rattle.tso_model.specs.declared.view.View.{View}
use Rattle.tso_board.specs.declared.board.Board.{Board}
use Rattle.tso_board.specs.declared.pass.Pass.{Pass}

-- the pass comes from this board
abbrev pub IsPassOf : Pass → Board → Type 0
IsPassOf p b = p.seat.table_id ≡ b.table.shared.table_id

-- what the client knows
abbrev pub pass_view : Pass → View
pass_view p = p.seat.me.0

-- for how many more batches there is memory
abbrev pub pass_spare : Pass → ℕ
pass_spare p = vec_capacity p.grants - vec_len p.grants
