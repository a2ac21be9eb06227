use Rattle.pd_state.proofs.Removals.{kept_fault, kept_other, removal_so}
use Rattle.pd_state.proofs.ctl.drop_named.Goals as goal

pub returns-in_default : goal.returns-in_default
returns-in_default g c = record { becomes = kept_fault c.args.told.now _ c.in_default.not-Ok }

pub returns-in_default-command : goal.returns-in_default-command
returns-in_default-command g c = record { becomes = kept_other c.args.told.now c.in-Ok.command _ c.in-Ok.is c.in_default-command.not-SchedulerRemove }

pub returns : goal.returns
returns g c = record {
  becomes = removal_so c.args.told.now c.in-Ok.command c.in-SchedulerRemove.name c.as_bytes.result.now c.remove.result _ _ c.in-Ok.is c.in-SchedulerRemove.is c.as_bytes.ensures.value c.remove.ensures.ok c.remove.ensures.absent c.remove.ensures.err;
}
