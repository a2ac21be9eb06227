-- The other answers of a lawful run: what each lost campaign, each stale or missing limit and each note tells (own choice; a term is the one of a leader in PD's etcd guard).
use Rattle.std.specs.Prelude.{◌≡◌, ◌≢◌, ℕ, ◌<◌, true, false, List, [], ◌∷◌, ◌++◌, All, Option, option_to_list, Ok, Err, Contains}
use Rattle.pd_types.specs.declared.oracle.CellWord.{CellWord}
use Rattle.pd_types.specs.declared.oracle.Window.{Window}
use Rattle.tso_model.specs.Moves.{nothing_seen}
use Rattle.tso_model.specs.Ledger.{IsRisingBy}
use Rattle.tso_driver.specs.Driving.{ClaimsTerm}
use Rattle.tso_driver.specs.declared.said.DriverSaid.{DriverSaid}
use Rattle.tso_driver.specs.declared.said.DriverSaid.TheVariants.{Led, Ticked, Resigned}
use Rattle.tso_driver.specs.declared.reply.LeadReply.TheVariants.{Won, Beaten, Lost as LeadLost, TermsSpent, ClockRange as LeadPast}
use Rattle.tso_driver.specs.declared.reply.TickReply.TheVariants.{Moved, Idle, Lost as TickLost, ClockRange as TickPast, NotLeading}
use Rattle.tso_client.specs.declared.draw.DrawFault.TheVariants.{NotLeader, Stale, Again}
use Rattle.tso_client.specs.Posts.{IsPost, entries_of}
use Rattle.tso_outcome.specs.declared.said.DriverAnswer.{DriverAnswer}
use Rattle.tso_outcome.specs.declared.said.ClientAnswer.{ClientAnswer}
use Rattle.tso_outcome.specs.declared.said.ClientSaid.{ClientSaid}
use Rattle.tso_outcome.specs.declared.said.ClientSaid.TheVariants.{Took, Told, Heard}
use Rattle.tso_outcome.specs.Clients.{seen_by, posted}
use Rattle.tso_outcome.specs.Runs.{Run, DriverPart, ClientPart, EachAnswer}

-- the answer says that the driver gave a term up
abbrev pub GivesUp : DriverSaid → Type 0
GivesUp (Led now (Won term lo hi)) = ⊥
GivesUp (Led now (Beaten found)) = ⊥
GivesUp (Led now (LeadLost found)) = Unit {0}
GivesUp (Led now TermsSpent) = ⊥
GivesUp (Led now LeadPast) = ⊥
GivesUp (Ticked now (Moved next hi)) = ⊥
GivesUp (Ticked now Idle) = ⊥
GivesUp (Ticked now (TickLost found)) = Unit {0}
GivesUp (Ticked now TickPast) = ⊥
GivesUp (Ticked now NotLeading) = ⊥
GivesUp (Resigned true) = Unit {0}
GivesUp (Resigned false) = ⊥

-- the terms that a driver with these answers claimed, in order: that of each `won`, which tells it, and one for each `lost` of a lead, which doesn't
abbrev pub ClaimedBy : List DriverAnswer → List ℕ → Type 0
ClaimedBy [] terms = terms ≡ []
ClaimedBy (a ∷ rest) terms = (one : Option ℕ) × (later : List ℕ) × (terms ≡ option_to_list one ++ later) × ClaimsTerm a.said one × ClaimedBy rest later

-- the driver d had claimed these terms once it had given these answers: they rise, and each is the term of one of its windows
pub record HadClaimed (run : Run) (d : ℕ) (answers : List DriverAnswer) (terms : List ℕ) : Type 0 where
  pub claimed : ClaimedBy answers terms
  pub rise : IsRisingBy (λ (term : ℕ). term) terms
  pub own : All (λ term. (w : Window) × Contains run.windows w × (w.driver ≡ d) × (w.term ≡ term)) terms

-- the term of a found cell is that of another driver's window, and above each term that this driver had claimed, with these answers, the last of which tells the cell
pub record IsByAnother (run : Run) (d : ℕ) (answers : List DriverAnswer) (found : CellWord) : Type 0 where
  pub window : Window
  pub there : Contains run.windows window
  pub term_is : window.term ≡ found.term
  pub another : (0 < window.driver) × (window.driver ≢ d)
  pub terms : List ℕ
  pub claimed : HadClaimed run d answers terms
  pub above : All (λ term. term < found.term) terms

-- what the last of these answers of the driver d says of a cell that it found
abbrev pub KeepsFound : Run → ℕ → List DriverAnswer → DriverSaid → Type 0
KeepsFound run d answers (Led now (Won term lo hi)) = Unit {0}
KeepsFound run d answers (Led now (Beaten found)) = IsByAnother run d answers found
KeepsFound run d answers (Led now (LeadLost found)) = IsByAnother run d answers found
KeepsFound run d answers (Led now TermsSpent) = Unit {0}
KeepsFound run d answers (Led now LeadPast) = Unit {0}
KeepsFound run d answers (Ticked now (Moved next hi)) = Unit {0}
KeepsFound run d answers (Ticked now Idle) = Unit {0}
KeepsFound run d answers (Ticked now (TickLost found)) = IsByAnother run d answers found
KeepsFound run d answers (Ticked now TickPast) = Unit {0}
KeepsFound run d answers (Ticked now NotLeading) = Unit {0}
KeepsFound run d answers (Resigned held) = Unit {0}

-- `stale`: the term that was seen, and the driver has an earlier window
pub record IsStale (run : Run) (before : List ClientAnswer) (d term : ℕ) : Type 0 where
  pub seen : term ≡ (seen_by nothing_seen before).term
  pub window : Window
  pub there : Contains run.windows window
  pub driver : window.driver ≡ d
  pub earlier : window.term < term

-- `not-leader`: where the client had seen a term of this driver, the driver has an answer `lost` or `resigned`
abbrev pub IsNotLeader : Run → List ClientAnswer → ℕ → Type 0
IsNotLeader run before d = (w : Window) → Contains run.windows w → w.term ≡ (seen_by nothing_seen before).term → w.driver ≡ d
    → (p : DriverPart) × Contains run.drivers p × (p.number ≡ d) × ((a : DriverAnswer) × Contains p.answers a × GivesUp a.said)

-- what an answer of a client says where it is `stale` or `not-leader`
abbrev pub KeepsLooks : Run → List ClientAnswer → ClientSaid → Type 0
KeepsLooks run before (Took d n (Ok b)) = Unit {0}
KeepsLooks run before (Took d n (Err (Again at hi m))) = Unit {0}
KeepsLooks run before (Took d n (Err NotLeader)) = IsNotLeader run before d
KeepsLooks run before (Took d n (Err (Stale term))) = IsStale run before d term
KeepsLooks run before (Told to) = Unit {0}
KeepsLooks run before (Heard heard) = Unit {0}

-- `beaten` and `lost` name another's term, above all that their driver had claimed; `stale` and `not-leader` have their cause; the post is in order, and a client's entries in it are its answers, where the pair of a note that was left is what its sender had seen
pub record KeepTerms (run : Run) : Type 0 where
  pub found : (part : DriverPart) → Contains run.drivers part → EachAnswer (λ before a. KeepsFound run part.number (before ++ a ∷ []) a.said) part.answers
  pub looks : (part : ClientPart) → Contains run.clients part → EachAnswer (λ before a. KeepsLooks run before a.said) part.answers
  pub post : IsPost run.post
  pub told : (part : ClientPart) → Contains run.clients part → entries_of part.number run.post ≡ posted part.number nothing_seen part.answers
