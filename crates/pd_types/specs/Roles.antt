-- What a peer's role lets it do (metapb, `PeerRole`). The two sides of a joint membership are neither voters nor learners.
use Rattle.std.specs.Prelude.{Bool, true, false}
use Rattle.pd_types.specs.declared.region.Role.{Role}
use Rattle.pd_types.specs.declared.region.Role.TheVariants.{Voter, Learner, Incoming, Demoting}

-- it has a vote
abbrev pub is_voter : Role → Bool
is_voter Voter = true
is_voter Learner = false
is_voter Incoming = false
is_voter Demoting = false

-- it takes the log and has no vote
abbrev pub is_learner : Role → Bool
is_learner Voter = false
is_learner Learner = true
is_learner Incoming = false
is_learner Demoting = false
