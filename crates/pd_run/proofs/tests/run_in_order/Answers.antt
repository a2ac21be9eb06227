use Rattle.std.proofs.Common.{arith, sym, subst, ◌≡◌}
use Rattle.tso_model.specs.declared.view.Setup.{Setup}
use Rattle.tso_model.specs.Sound.{IsSetup}
use Rattle.tso_board.specs.Opened.{IsOpened}
use Rattle.pd_run.specs.Tasks.{AreTasks}
use Rattle.pd_run.proofs.tests.run_in_order.Goals as goal

pub run-requires-clause-setup : goal.run-requires-clause-setup
run-requires-clause-setup g c κs within =
    subst IsSetup (sym c.in_ok-crew.ensures.opened.setup) (record { drivers = (omega arith, omega arith); clients = (omega arith, omega arith); cell = (omega arith, omega arith) })

pub run-requires-clause-opened : goal.run-requires-clause-opened
run-requires-clause-opened g c κs within = subst (λ (k : Setup). IsOpened k c.in_ok-crew.crew) (sym c.in_ok-crew.ensures.opened.setup) c.in_ok-crew.ensures.opened

pub run-requires-clause-tasks : goal.run-requires-clause-tasks
run-requires-clause-tasks g c κs within = subst (λ (k : Setup). AreTasks k c.args.tasks) (sym c.in_ok-crew.ensures.opened.setup) c.requires.tasks
