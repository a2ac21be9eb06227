use Rattle.tso_model.proofs.Whole.{starts, splits_driver, splits_client, splits_note, joins}
use Rattle.tso_model.proofs.Moves
use Rattle.tso_model.proofs.Joins
use Rattle.tso_model.proofs.laws.each_move_keeps.Goals as goal

pub returns : goal.returns
returns c = record {
  made = starts;
  driver = splits_driver;
  client = splits_client;
  note = splits_note;
  join = joins;
  driver_parts = Moves.driver_parts;
  client_parts = Moves.client_parts;
  note_parts = Moves.note_parts;
  join_parts = Joins.join_parts;
  made_lists = Moves.starts;
  driver_lists = Moves.splits_driver;
  client_lists = Moves.splits_client;
  note_lists = Moves.splits_note;
  join_lists = Joins.joins;
}
