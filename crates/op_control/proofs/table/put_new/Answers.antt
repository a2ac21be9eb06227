use Rattle.std.proofs.Common.{ap, ◌∙◌}
use Rattle.op_control.specs.Table.{without}
use Rattle.op_control.proofs.ListLemmas.{without-joined}
use Rattle.op_control.proofs.table.put_new.Goals as goal

pub returns-in-Err-clause-busy_err : goal.returns-in-Err-clause-busy_err
returns-in-Err-clause-busy_err c =
    c.unlist.ensures ∙ ap (without c.args.region) c.in_ok-join.ensures.ok ∙ without-joined c.args.region c.args.busy.now c.requires
