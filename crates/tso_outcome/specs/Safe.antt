-- What of a run a reader needs to know to trust its timestamps: the headline, of the answers of all actors and the ledger's windows. It cites no step of the oracle.
use Rattle.std.specs.Prelude.{◌≡◌, true, List, Ok, Err, Contains}
use Rattle.tso_model.specs.Words.{passes}
use Rattle.tso_model.specs.Moves.{nothing_seen}
use Rattle.tso_model.specs.OneHistory.{IsAbove, IsOneHistory}
use Rattle.tso_client.specs.declared.draw.DrawFault.TheVariants.{NotLeader, Stale, Again}
use Rattle.tso_outcome.specs.declared.said.ClientAnswer.{ClientAnswer}
use Rattle.tso_outcome.specs.declared.said.ClientSaid.{ClientSaid}
use Rattle.tso_outcome.specs.declared.said.ClientSaid.TheVariants.{Took, Told, Heard}
use Rattle.tso_outcome.specs.Clients.{seen_by}
use Rattle.tso_outcome.specs.Runs.{Run, ClientPart, EachAnswer, all_got}

-- over what its client had seen before: a batch is above it, and an `again` passed the end of its window or of the logical part
abbrev pub IsFairAnswer : List ClientAnswer → ClientSaid → Type 0
IsFairAnswer before (Took d n (Ok b)) = IsAbove (seen_by nothing_seen before) b
IsFairAnswer before (Took d n (Err (Again at hi m))) = passes at hi m ≡ true
IsFairAnswer before (Took d n (Err NotLeader)) = Unit {0}
IsFairAnswer before (Took d n (Err (Stale term))) = Unit {0}
IsFairAnswer before (Told to) = Unit {0}
IsFairAnswer before (Heard heard) = Unit {0}

-- The batches of all clients and the windows of all drivers are one history; each batch is above all that its client had seen, notes included, and each `again` passed
pub record IsSafeRun (run : Run) : Type 0 where
  pub history : IsOneHistory run.windows (all_got run.clients)
  pub fair : (part : ClientPart) → Contains run.clients part → EachAnswer (λ before a. IsFairAnswer before a.said) part.answers
