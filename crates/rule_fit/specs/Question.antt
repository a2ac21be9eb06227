-- What is asked of a region: whether its peers fit the rules, over the stores at a moment. The definitions of Assignment,
-- Certificate and Fit, of one region.
use Rattle.std.specs.Prelude.{ℕ, Bool, List, length, Option}
use Rattle.pd_types.specs.declared.region.Peer.{Peer}
use Rattle.pd_types.specs.declared.region.RegionBeat.{RegionBeat}
use Rattle.pd_types.specs.declared.rule.Rule.{Rule}
use Rattle.store_table.specs.declared.entry.StoreEntry.{StoreEntry}
use Rattle.rule_fit.specs.declared.answer.Certificate.{Certificate}
use Rattle.rule_fit.specs.declared.answer.Fit.{Fit}
use Rattle.rule_fit.specs.Assignment.{Fits, IsAssignment, IsGreatest}
use Rattle.rule_fit.specs.Certificate.{Certifies, IsMisfitNumber}
use Rattle.rule_fit.specs.Fit.{HasItsKind, IsCertified}
use Rattle.rule_fit.specs.Room.{AreRooms}
use Rattle.rule_fit.specs.Suits.{counts_of, suits_in}

-- which peers suit which rules, the peers, and the counts of the rules
pub record Question : Type 0 where
  pub suits : ℕ → ℕ → Bool
  pub peers : List Peer
  pub counts : List ℕ

-- of a region, its rules, the stores and a moment
abbrev pub question : RegionBeat → List Rule → List StoreEntry → ℕ → Question
question beat rules stores now = record { suits = suits_in beat rules stores now; peers = beat.region.peers; counts = counts_of rules }

-- each peer can be given one rule that it suits so that each rule has exactly its count of peers
abbrev pub FitsIn : Question → Type 0
FitsIn q = Fits q.suits (length q.peers) q.counts

-- each peer has a rule that it suits, or none, and no rule has more peers than its count
abbrev pub IsAssignmentIn : Question → List (Option ℕ) → Type 0
IsAssignmentIn q given = IsAssignment q.suits (length q.peers) q.counts given

-- no assignment gives more peers a rule
abbrev pub IsGreatestIn : Question → List (Option ℕ) → Type 0
IsGreatestIn q given = IsGreatest q.suits (length q.peers) q.counts given

-- how far the region is from a fit
abbrev pub IsMisfitIn : Question → ℕ → Type 0
IsMisfitIn q number = IsMisfitNumber q.suits (length q.peers) q.counts number

-- the marked rules are those that have room for one peer more
abbrev pub AreRoomsIn : Question → List Bool → Type 0
AreRoomsIn q rooms = AreRooms q.suits (length q.peers) q.counts rooms

-- the certificate shows that there is no fit
abbrev pub CertifiesIn : Question → Certificate → Type 0
CertifiesIn q certificate = Certifies q.suits q.peers q.counts certificate

-- a misfit has a certificate that holds
abbrev pub IsCertifiedIn : Question → Fit → Type 0
IsCertifiedIn q fit = IsCertified q.suits q.peers q.counts fit

-- a misfit has a certificate of its kind
abbrev pub HasItsKindIn : Question → Fit → Type 0
HasItsKindIn q fit = HasItsKind q.peers q.counts fit
