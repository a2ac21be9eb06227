use Rattle.std.proofs.Common.{◌≡◌, ◌++◌, take}
use Rattle.std.specs.Prelude.{flat_map, string_bytes}
use Rattle.pd_run.specs.declared.answer.DriverAnswers.{DriverAnswers}
use Rattle.pd_cluster.specs.RunText.{driver_section}
use Rattle.pd_cluster.proofs.run_text.put_drivers.Given as goal

abbrev pub invariant-loop-driver : goal.invariant-loop-driver
invariant-loop-driver l = string_bytes l.text ≡ string_bytes l.fn.text ++ flat_map (λ (d : DriverAnswers). driver_section d.number d.answers.items) (take l.driver-index l.drivers)
