-- What a run on threads leaves: each actor's answers in the order of its lines, the journal of the post, and the windows and batches of the ledger. Between two actors there is no order but what the answers tell (own choice: no clock orders threads).
use Rattle.std.specs.Prelude.{◌≡◌, ℕ, List, [], ◌∷◌, ◌++◌, cond, ◌==◌}
use Rattle.pd_types.specs.declared.oracle.Batch.{Batch}
use Rattle.pd_types.specs.declared.oracle.Window.{Window}
use Rattle.tso_model.specs.declared.view.Setup.{Setup}
use Rattle.tso_model.specs.Lists.{total}
use Rattle.tso_client.specs.declared.entry.PostEntry.{PostEntry}
use Rattle.tso_outcome.specs.declared.said.DriverAnswer.{DriverAnswer}
use Rattle.tso_outcome.specs.declared.said.ClientAnswer.{ClientAnswer}
use Rattle.tso_outcome.specs.Clients.{asked_by, got_by}

-- a driver and its answers, in the order of its lines
pub record DriverPart : Type 0 where
  pub number : ℕ
  pub answers : List DriverAnswer

-- a client and its answers, in the order of its lines
pub record ClientPart : Type 0 where
  pub number : ℕ
  pub answers : List ClientAnswer

-- all that a run leaves
pub record Run : Type 0 where
  pub setup : Setup
  pub drivers : List DriverPart
  pub clients : List ClientPart
  pub post : List PostEntry
  pub windows : List Window
  pub batches : List Batch

-- P of each answer, over the answers before it
abbrev pub EachAnswer : {A : Type 0} → (List A → A → Type 0) → List A → Type 0
EachAnswer {A} P answers = (before : List A) (a : A) (after : List A) → answers ≡ before ++ a ∷ after → P before a

-- an answer that stands in the list, with those before it
pub record Place {A : Type 0} (answers : List A) : Type 0 where
  pub before : List A
  pub one : A
  pub after : List A
  pub is : answers ≡ before ++ one ∷ after

-- all batches that were answered, client by client
abbrev pub all_got : List ClientPart → List Batch
all_got [] = []
all_got (p ∷ ps) = got_by p.answers ++ all_got ps

-- the sum of the counts of all draws at the driver d that answered `got` or `again`
abbrev pub asked_of_all : ℕ → List ClientPart → ℕ
asked_of_all d clients = total (λ (p : ClientPart). asked_by d p.answers) clients

-- the same of the other clients than c
abbrev pub asked_of_others : ℕ → ℕ → List ClientPart → ℕ
asked_of_others c d clients = total (λ (p : ClientPart). cond (p.number == c) 0 (asked_by d p.answers)) clients
