use Rattle.rule_fit.proofs.RoomLemmas.{lowered_by_room, room_lowers}
use Rattle.rule_fit.proofs.laws.a_rule_with_room_takes_one_peer_more.Goals as goal

pub returns-clause-lowers : goal.returns-clause-lowers
returns-clause-lowers c = room_lowers

pub returns-clause-only : goal.returns-clause-only
returns-clause-only c = lowered_by_room
