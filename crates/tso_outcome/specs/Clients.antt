-- What a client's answers say together, and its calls in a row.
use Rattle.std.specs.Prelude.{◌≡◌, ℕ, ◌+◌, ◌<◌, List, [], ◌∷◌, ◌++◌, Some, None, Ok, Err, cond, ◌==◌}
use Rattle.pd_types.specs.declared.oracle.Batch.{Batch}
use Rattle.pd_types.specs.declared.oracle.Seen.{Seen}
use Rattle.tso_model.specs.declared.view.View.{View}
use Rattle.tso_model.specs.Moves.{greater, seen_of}
use Rattle.tso_board.specs.Told.{Met}
use Rattle.tso_client.specs.declared.draw.DrawFault.TheVariants.{NotLeader, Stale, Again}
use Rattle.tso_client.specs.declared.entry.PostEntry.{PostEntry}
use Rattle.tso_client.specs.declared.entry.PostWhat.TheVariants.{Told as ToldThere, Heard as HeardThere, Nothing}
use Rattle.tso_client.specs.Draws.{Took as HasTaken}
use Rattle.tso_outcome.specs.declared.said.ClientAnswer.{ClientAnswer}
use Rattle.tso_outcome.specs.declared.said.ClientSaid.{ClientSaid}
use Rattle.tso_outcome.specs.declared.said.ClientSaid.TheVariants.{Took, Told, Heard}

-- WHAT THE ANSWERS SAY BY THEMSELVES

-- the greatest pair, by term and then by the last timestamp, that a client has seen after an answer: of its own batches and of the notes that it heard
abbrev pub seen_after : ClientSaid → Seen → Seen
seen_after (Took d n (Ok b)) seen = greater seen (seen_of b)
seen_after (Took d n (Err fault)) seen = seen
seen_after (Told to) seen = seen
seen_after (Heard (Some note)) seen = greater seen note
seen_after (Heard None) seen = seen

-- after all these answers
abbrev pub seen_by : Seen → List ClientAnswer → Seen
seen_by seen [] = seen
seen_by seen (a ∷ rest) = seen_by (seen_after a.said seen) rest

-- the batch of an answer, or none
abbrev pub got : ClientSaid → List Batch
got (Took d n (Ok b)) = b ∷ []
got (Took d n (Err fault)) = []
got (Told to) = []
got (Heard heard) = []

-- the batches of all these answers, in their order
abbrev pub got_by : List ClientAnswer → List Batch
got_by [] = []
got_by (a ∷ rest) = got a.said ++ got_by rest

-- the count of a draw at the driver d that answered `got` or `again`
abbrev pub asked : ℕ → ClientSaid → ℕ
asked d (Took e n (Ok b)) = cond (e == d) n 0
asked d (Took e n (Err (Again at hi m))) = cond (e == d) n 0
asked d (Took e n (Err NotLeader)) = 0
asked d (Took e n (Err (Stale term))) = 0
asked d (Told to) = 0
asked d (Heard heard) = 0

-- the sum of these counts
abbrev pub asked_by : ℕ → List ClientAnswer → ℕ
asked_by d [] = 0
asked_by d (a ∷ rest) = asked d a.said + asked_by d rest

-- what an answer stands for in the journal of the post; the pair of a note that is left is what its sender had seen
abbrev pub posts : ℕ → ℕ → ClientSaid → Seen → List PostEntry
posts c line (Took d n answer) seen = []
posts c line (Told to) seen = record { client = c; line = line; what = ToldThere to seen } ∷ []
posts c line (Heard (Some note)) seen = record { client = c; line = line; what = HeardThere note } ∷ []
posts c line (Heard None) seen = record { client = c; line = line; what = Nothing } ∷ []

-- what all these answers stand for
abbrev pub posted : ℕ → Seen → List ClientAnswer → List PostEntry
posted c seen [] = []
posted c seen (a ∷ rest) = posts c a.line a.said seen ++ posted c (seen_after a.said seen) rest

-- WHAT THE CALLS DO

-- what a client's pass knows, and the client's own entries in the journal of the post
pub record Client : Type 0 where
  pub view : View
  pub slip : List PostEntry

-- what a call does to what the pass knows: a draw of one or more what tso_client says of it; a note that is left changes nothing, nor does hearing none; of a note that is heard the pass knows the pair
abbrev pub PassDid : ClientSaid → View → View → Type 0
PassDid (Took d n answer) old new = (0 < n) × HasTaken d n answer old new
PassDid (Told to) old new = new ≡ old
PassDid (Heard (Some note)) old new = Met note old new
PassDid (Heard None) old new = new ≡ old

-- the same with the client's entries, which gain the call's own
pub record ClientDid (line : ℕ) (said : ClientSaid) (old new : Client) : Type 0 where
  pub pass : PassDid said old.view new.view
  pub slip : new.slip ≡ old.slip ++ posts old.view.client line said old.view.seen

-- the calls of a client's lines, one after the other
abbrev pub Drew : Client → List ClientAnswer → Client → Type 0
Drew v [] w = v ≡ w
Drew v (a ∷ rest) w = (u : Client) × ClientDid a.line a.said v u × Drew u rest w
