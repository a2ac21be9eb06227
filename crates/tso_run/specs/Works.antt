-- What a client's worker begins with, and what it has done.
use Rattle.std.specs.Prelude.{◌≡◌, ◌++◌, ◌∷◌, List, [], false, map}
use Rattle.atomic_table.specs.Seated.{TableId}
use Rattle.pd_turn.specs.Turns.{TurnValue}
use Rattle.tso_model.specs.Steps.{AtRest}
use Rattle.tso_board.specs.declared.board.Board.{Board}
use Rattle.tso_board.specs.declared.pass.Pass.{Pass}
use Rattle.tso_model.specs.Moves.{client_view}
use Rattle.tso_board.specs.Boards.{board_id, setup_of}
use Rattle.tso_board.specs.Passes.{IsPassOf, pass_view}
use Rattle.tso_client.specs.Slips.{SlipValue, clients_of, new_slip}
use Rattle.tso_outcome.specs.declared.said.ClientSaid.{ClientSaid}
use Rattle.tso_outcome.specs.Clients.{Client, ClientDid, Drew}
use Rattle.tso_run.specs.declared.line.ClientLine.{ClientLine}
use Rattle.tso_run.specs.declared.caller.ClientWork.{ClientWork}
use Rattle.tso_run.specs.Lines.{client_ask, client_line, lines_of_client}

-- what a client's pass knows, with its entries in the journal of the post
abbrev pub client_of : Pass → SlipValue → Client
client_of pass slip = record { view = pass_view pass; slip = slip.list }

-- a client of this board, whose name is given, with a slip of its own of this post, between two calls
pub record IsClientAtWork {N : Type 0} (name : TableId) (board : Board) (post : TurnValue) (w : ClientWork N) : Type 0 where
  pub named : board_id board ≡ name
  pub board_is : IsPassOf w.pass board
  pub rest : AtRest (pass_view w.pass)
  pub post_is : w.slip.post ≡ post
  pub clients : clients_of post ≡ (setup_of board).clients
  pub own : w.slip.client ≡ (pass_view w.pass).client

-- one that did nothing yet
pub record IsNewClient {N : Type 0} (name : TableId) (board : Board) (post : TurnValue) (w : ClientWork N) : Type 0 where
  pub named : board_id board ≡ name
  pub board_is : IsPassOf w.pass board
  pub view : pass_view w.pass ≡ client_view (setup_of board) w.number
  pub slip : w.slip ≡ new_slip post w.number
  pub clients : clients_of post ≡ (setup_of board).clients
  pub answers : w.answers.items ≡ []
  pub fine : w.failed ≡ false

-- it answered this line, after those before
pub record ClientAnswered {N : Type 0} (line : ClientLine) (v w : ClientWork N) : Type 0 where
  pub said : ClientSaid
  pub asked : client_ask said ≡ line.ask
  pub did : ClientDid line.number said (client_of v.pass v.slip) (client_of w.pass w.slip)
  pub answers : w.answers.items ≡ v.answers.items ++ record { line = line.number; said = said } ∷ []

-- It is the same client of the same board and post; where there was memory, it made the calls of its own lines, in their order, and its answers are to these
pub record ClientWorked {N : Type 0} (board : Board) (post : TurnValue) (lines : List ClientLine) (v w : ClientWork N) : Type 0 where
  pub number : w.number ≡ v.number
  pub board_is : IsPassOf w.pass board
  pub rest : AtRest (pass_view w.pass)
  pub post_is : w.slip.post ≡ post
  pub own : w.slip.client ≡ (pass_view w.pass).client
  pub drew : w.failed ≡ false → Drew (client_of v.pass v.slip) w.answers.items (client_of w.pass w.slip)
  pub asked : w.failed ≡ false → map (client_line v.number) w.answers.items ≡ lines_of_client v.number lines
