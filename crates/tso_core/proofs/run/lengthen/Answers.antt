use Rattle.std.proofs.Common.{◌-◌, length, set, ap, ◌∙◌, arith}
use Rattle.pd_types.specs.declared.oracle.Window.{Window}
use Rattle.tso_core.proofs.Placing.{longer_set}
use Rattle.tso_core.proofs.run.lengthen.Goals as goal

pub returns : goal.returns
returns c =
    let ws = c.args.windows.now in
    record { value = ap (λ (w : Window). set ws (length ws - 1) w) c.lengthened.ensures.value ∙ longer_set c.args.hi ws (record { term = 0; driver = 0; lo = 0; hi = 0 }) (omega arith) }
