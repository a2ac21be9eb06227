-- The batches of a lawful run: those that were answered, disjoint and rising, each above all that its client had seen (PD documentation, "Timestamp Oracle": timestamps rise and none is granted twice).
use Rattle.std.specs.Prelude.{◌≡◌, ℕ, List, map, Ok, Err, AllPairs, Contains}
use Rattle.pd_types.specs.declared.oracle.Batch.{Batch}
use Rattle.pd_types.specs.declared.oracle.Window.{Window}
use Rattle.tso_model.specs.declared.entries.Claim.{Claim}
use Rattle.tso_model.specs.Lists.{total}
use Rattle.tso_model.specs.Moves.{nothing_seen}
use Rattle.tso_model.specs.Ledger.{IsDrawList}
use Rattle.tso_model.specs.OneHistory.{AreApart, IsAbove}
use Rattle.tso_outcome.specs.declared.said.ClientAnswer.{ClientAnswer}
use Rattle.tso_outcome.specs.declared.said.ClientSaid.{ClientSaid}
use Rattle.tso_outcome.specs.declared.said.ClientSaid.TheVariants.{Took, Told, Heard}
use Rattle.tso_outcome.specs.Clients.{seen_by}
use Rattle.tso_outcome.specs.Runs.{Run, ClientPart, EachAnswer, all_got}

-- batches by term and first, each inside its term's open window and in one millisecond, and each last below the next first
pub record AreBatches (windows : List Window) (batches : List Batch) : Type 0 where
  pub claims : List Claim
  pub are : windows ≡ map (λ (c : Claim). c.window) claims
  pub draws : IsDrawList claims batches

-- what an answer of a client says of batches, over the answers before it: the batch has the count and the driver that were asked for, and is above all that was seen
abbrev pub KeepsAbove : List ClientAnswer → ClientSaid → Type 0
KeepsAbove before (Took d n (Ok b)) = (b.count ≡ n) × (b.driver ≡ d) × IsAbove (seen_by nothing_seen before) b
KeepsAbove before (Took d n (Err fault)) = Unit {0}
KeepsAbove before (Told to) = Unit {0}
KeepsAbove before (Heard heard) = Unit {0}

-- The batches of the ledger are those that were answered, each as often; they are disjoint and rise; each is what its client asked for, and above all that it had seen
pub record KeepBatches (run : Run) : Type 0 where
  pub draws : AreBatches run.windows run.batches
  pub got : (f : Batch → ℕ) → total f (all_got run.clients) ≡ total f run.batches
  pub apart : AllPairs AreApart (all_got run.clients)
  pub above : (part : ClientPart) → Contains run.clients part → EachAnswer (λ before a. KeepsAbove before a.said) part.answers
