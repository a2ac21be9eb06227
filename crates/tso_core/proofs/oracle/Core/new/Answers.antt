use Rattle.std.proofs.Common.{sym, subst}
use Rattle.tso_model.specs.declared.view.Setup.{Setup}
use Rattle.tso_core.specs.Whole.{Whole}
use Rattle.tso_core.specs.Sound.{IsSound}
use Rattle.tso_core.proofs.Started.{opened_sound}
use Rattle.tso_core.proofs.oracle.Core.new.Goals as goal

pub returns-clause-sound : goal.returns-clause-sound
returns-clause-sound c =
    let k : Setup = record { drivers = c.args.drivers; clients = c.args.clients; cell = c.args.cell } in
    subst (λ (x : Whole). IsSound x) (sym c.in_ok-machine.ensures.value) (opened_sound k c.requires.setup)

pub invariant_of-result : goal.invariant_of-result
invariant_of-result c = returns-clause-sound c
