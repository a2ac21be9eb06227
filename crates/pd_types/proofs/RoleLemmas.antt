-- What a role lets a peer do.
use Rattle.std.proofs.Common.{refl, ◌≡◌, ◌↔◌, true}
use Rattle.pd_types.specs.Roles.{is_learner, is_voter}
use Rattle.pd_types.specs.declared.region.Role.{Role}
use Rattle.pd_types.specs.declared.region.Role.TheVariants.{Voter, Learner, Incoming, Demoting}

pub votes : (role : Role) → (is_voter role ≡ true) ↔ (role ≡ Voter)
votes Voter = (λ h. refl, λ h. refl)
votes Learner = (λ h. absurd (cc), λ h. absurd (cc))
votes Incoming = (λ h. absurd (cc), λ h. absurd (cc))
votes Demoting = (λ h. absurd (cc), λ h. absurd (cc))

pub learns : (role : Role) → (is_learner role ≡ true) ↔ (role ≡ Learner)
learns Voter = (λ h. absurd (cc), λ h. absurd (cc))
learns Learner = (λ h. refl, λ h. refl)
learns Incoming = (λ h. absurd (cc), λ h. absurd (cc))
learns Demoting = (λ h. absurd (cc), λ h. absurd (cc))
