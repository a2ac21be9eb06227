use Rattle.pd_ctl.proofs.Shown.{each_active, is_shown}
use Rattle.pd_ctl.proofs.laws.what_has_not_ended_is_shown.Goals as goal

pub returns : goal.returns
returns c = record { each = is_shown; ended = λ table. each_active table table.busy }
