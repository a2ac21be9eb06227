-- The text of a proposal: what moves, the region, and the stores (own choice, after pd-ctl's operator names).
use Rattle.std.specs.Prelude.{ℕ, List, ◌++◌, codes}
use Rattle.std.specs.Fmt.{decimal}
use Rattle.pd_types.specs.declared.proposal.Proposal.{Proposal}
use Rattle.pd_types.specs.declared.proposal.Proposal.TheVariants.{MovePeer, MoveLeader, DropPeer}

-- the name of the proposal and its region, then its stores
abbrev pub proposal_text : Proposal → List ℕ
proposal_text (MovePeer region from to) = codes "move-peer region " ++ decimal region ++ codes " from " ++ decimal from ++ codes " to " ++ decimal to
proposal_text (MoveLeader region to) = codes "move-leader region " ++ decimal region ++ codes " store " ++ decimal to
proposal_text (DropPeer region store) = codes "drop-peer region " ++ decimal region ++ codes " store " ++ decimal store
