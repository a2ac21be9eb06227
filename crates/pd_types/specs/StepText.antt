-- The text of an operator's step: its name, then the peer and the store (own choice, after pd-ctl's operator names).
use Rattle.std.specs.Prelude.{ℕ, List, ◌++◌, codes}
use Rattle.std.specs.Fmt.{decimal}
use Rattle.pd_types.specs.declared.step.Step.{Step}
use Rattle.pd_types.specs.declared.step.Step.TheVariants.{AddLearner, PromoteLearner, TransferLeader, RemovePeer}

-- the peer and the store, in decimal
abbrev pub place_text : ℕ → ℕ → List ℕ
place_text peer store = codes " peer " ++ decimal peer ++ codes " store " ++ decimal store

-- the name of the step, then its peer and store
abbrev pub step_text : Step → List ℕ
step_text (AddLearner peer store) = codes "add-learner" ++ place_text peer store
step_text (PromoteLearner peer store) = codes "promote-learner" ++ place_text peer store
step_text (TransferLeader peer store) = codes "transfer-leader" ++ place_text peer store
step_text (RemovePeer peer store) = codes "remove-peer" ++ place_text peer store
