use Rattle.op_control.proofs.RefusalLemmas.{moved, taken_by, limited, full, room, replaces}
use Rattle.op_control.proofs.laws.the_first_refusal_is_named.Goals as goal

pub returns-clause-moved : goal.returns-clause-moved
returns-clause-moved c = moved

pub returns-clause-busy : goal.returns-clause-busy
returns-clause-busy c = taken_by

pub returns-clause-limited : goal.returns-clause-limited
returns-clause-limited c = limited

pub returns-clause-full : goal.returns-clause-full
returns-clause-full c = full

pub returns-clause-room : goal.returns-clause-room
returns-clause-room c = room

pub returns-clause-replaces : goal.returns-clause-replaces
returns-clause-replaces c = replaces
