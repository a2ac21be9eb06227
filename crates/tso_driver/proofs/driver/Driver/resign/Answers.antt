use Rattle.std.proofs.Common.{sym, ◌∙◌}
use Rattle.tso_driver.proofs.Driven.{did_resign, from_resigned}
use Rattle.tso_driver.proofs.driver.Driver.resign.Goals as goal

pub returns-clause-did : goal.returns-clause-did
returns-clause-did c = did_resign _ _ _ (from_resigned _ _ _ (sym c.held.ensures.value ∙ c.in-Some.is) c.resign.ensures.step)
