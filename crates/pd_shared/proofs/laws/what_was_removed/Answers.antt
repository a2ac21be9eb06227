use Rattle.pd_shared.proofs.Removing.{not_told, told}
use Rattle.pd_shared.proofs.laws.what_was_removed.Goals as goal

pub returns : goal.returns
returns c = record { removed = told; other = not_told }
