use Rattle.tso_laws.proofs.Granted.{ledger, bounded, grants}
use Rattle.tso_laws.proofs.Telling.{takes_grant}
use Rattle.tso_laws.proofs.laws.every_sound_state_tells.Goals as goal

pub returns : goal.returns
returns c = record { ledger = ledger; cursors = bounded; grants = grants; takes = takes_grant }
