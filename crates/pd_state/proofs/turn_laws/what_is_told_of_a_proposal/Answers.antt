use Rattle.std.proofs.Common.{refl}
use Rattle.pd_state.proofs.Fates.{refused_told}
use Rattle.pd_state.proofs.turn_laws.what_is_told_of_a_proposal.Goals as goal

pub returns : goal.returns
returns c = record { added = λ name proposal answer. refl; refused = refused_told; silent = λ name. refl; nobody = refl }
