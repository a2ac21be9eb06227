-- What a draw does to what the client knows, by its answer (pdpb, `TsoResponse`: the count and the last timestamp; what a client has seen, and the refusals, are own choice).
use Rattle.std.specs.Prelude.{◌≡◌, ◌≢◌, ℕ, ◌/◌, ◌%◌, ◌<◌, ◌≤◌, ◌⊎◌, List, [], ◌∷◌, ◌++◌, Result, Ok, Err, true}
use Rattle.pd_types.specs.declared.oracle.Batch.{Batch}
use Rattle.pd_types.specs.declared.oracle.Seen.{Seen}
use Rattle.pd_types.specs.declared.stamp.TheConstants.{LOGICAL}
use Rattle.tso_model.specs.declared.entries.Grant.{Grant}
use Rattle.tso_model.specs.declared.entries.Refusal.{Refusal}
use Rattle.tso_model.specs.declared.view.View.{View}
use Rattle.tso_model.specs.Words.{passes}
use Rattle.tso_model.specs.History.{added_by}
use Rattle.tso_model.specs.OneHistory.{IsAbove}
use Rattle.tso_model.specs.Moves.{seen_of}
use Rattle.tso_client.specs.declared.draw.DrawFault.{DrawFault}
use Rattle.tso_client.specs.declared.draw.DrawFault.TheVariants.{NotLeader, Stale, Again}

-- what a draw answers
abbrev pub Answer : Type 0
Answer = Result Batch DrawFault

-- what the client has seen afterwards: the pair of its batch, or what it had seen
abbrev pub seen_after : Answer → Seen → Seen
seen_after (Ok b) seen = seen_of b
seen_after (Err fault) seen = seen

-- the batches of the client c that an answer adds
abbrev pub grants_by : ℕ → Answer → List Grant
grants_by c (Ok b) = record { client = c; batch = b } ∷ []
grants_by c (Err fault) = []

-- the refusals that an answer at the driver d adds: of `again` alone, with all that the client had added at that driver before
abbrev pub refusals_by : ℕ → Answer → View → List Refusal
refusals_by d (Ok b) v = []
refusals_by d (Err NotLeader) v = []
refusals_by d (Err (Stale term)) v = []
refusals_by d (Err (Again at hi n)) v = record { client = v.client; driver = d; at = at; hi = hi; count = n; sum = added_by v.client d v.added } ∷ []

-- the sum at the driver stays
abbrev pub AddsNothing : View → View → Type 0
AddsNothing old new = new.added ≡ old.added

-- the sum at the driver grows by the count
abbrev pub AddsCount : ℕ → ℕ → View → View → Type 0
AddsCount d n old new = new.added ≡ old.added ++ record { client = old.client; driver = d; count = n } ∷ []

-- a batch adds its count, a refusal its count or nothing, the others nothing
abbrev pub Adds : ℕ → ℕ → Answer → View → View → Type 0
Adds d n (Ok b) old new = AddsCount d n old new
Adds d n (Err NotLeader) old new = AddsNothing old new
Adds d n (Err (Stale term)) old new = AddsNothing old new
Adds d n (Err (Again at hi m)) old new = AddsNothing old new ⊎ AddsCount d n old new

-- a batch of the count and the driver asked for, of the term of the limit that was found, above all that was seen
pub record IsGranted (d n word : ℕ) (seen : Seen) (b : Batch) : Type 0 where
  pub count : b.count ≡ n
  pub within : b.count ≤ b.last
  pub driver : b.driver ≡ d
  pub term : b.term ≡ word % LOGICAL
  pub above : IsAbove seen b

-- what an answer tells of the limit that was found at the driver, and of what the client had seen
abbrev pub Tells : ℕ → ℕ → ℕ → Answer → Seen → Type 0
Tells d n word (Ok b) seen = (word ≢ 0) × (seen.term ≤ word % LOGICAL) × IsGranted d n word seen b
Tells d n word (Err NotLeader) seen = word ≡ 0
Tells d n word (Err (Stale term)) seen = (word ≢ 0) × (word % LOGICAL < seen.term) × (term ≡ seen.term)
Tells d n word (Err (Again at hi m)) seen = (word ≢ 0) × (seen.term ≤ word % LOGICAL) × (hi ≡ word / LOGICAL) × (m ≡ n) × (passes at hi n ≡ true)

-- A draw of n at the driver d: its batches, refusals, looks and sums gain what the answer says, and nothing else
pub record Took (d n : ℕ) (answer : Answer) (old new : View) : Type 0 where
  pub client : new.client ≡ old.client
  pub seen : new.seen ≡ seen_after answer old.seen
  pub grants : new.grants ≡ old.grants ++ grants_by old.client answer
  pub refusals : new.refusals ≡ old.refusals ++ refusals_by d answer old
  pub word : ℕ
  pub looks : new.looks ≡ old.looks ++ record { client = old.client; driver = d; word = word; seen = old.seen } ∷ []
  pub added : Adds d n answer old new
  pub tells : Tells d n word answer old.seen
