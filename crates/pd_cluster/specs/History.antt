-- What the printed answers keep, whatever the script is: no timestamp is granted twice. All of it is said of the lines of a script and
-- of their answers alone, as they stand on the paper.
use Rattle.std.specs.Prelude.{◌≡◌, ℕ, true, List, [], ◌∷◌, ◌++◌, map, All, AllPairs, option_to_list}
use Rattle.pd_types.specs.declared.oracle.Batch.{Batch}
use Rattle.pd_types.specs.declared.oracle.CellWord.{CellWord}
use Rattle.pd_types.specs.declared.oracle.Window.{Window}
use Rattle.tso_model.specs.Words.{passes}
use Rattle.tso_model.specs.OneHistory.{IsAbove, IsOneHistory}
use Rattle.tso_laws.specs.Laws.{seen_by, windows_told}
use Rattle.tso_core.specs.Says.{says}
use Rattle.tso_core.specs.declared.reply.Reply.{Reply}
use Rattle.tso_core.specs.declared.reply.Reply.TheVariants.{Got, Again}
use Rattle.pd_cluster.specs.Answers.{Answer, client_in, driver_in, opening_cell, oracle_reply}

-- the oracle's part of an answer
abbrev pub reply : Answer → Reply
reply answer = oracle_reply answer.said

-- the client that was answered; a driver's or a store's line has none, which is 0
abbrev pub caller : Answer → ℕ
caller answer = client_in answer.line.actor

-- the batches that were printed, in the order of their lines
abbrev pub batches_of : List Answer → List Batch
batches_of [] = []
batches_of (answer ∷ answers) = option_to_list (says (reply answer)).batch ++ batches_of answers

-- the windows that answers tell, behind those before: `won` and `claimed` begin one, `saved` and `moved` make it longer
abbrev pub windows_from : List Window → List Answer → List Window
windows_from windows [] = windows
windows_from windows (answer ∷ answers) = windows_from (windows_told (driver_in answer.line.actor) (reply answer) windows) answers

-- the window of an opening cell, which no driver has
abbrev pub opening_window : CellWord → Window
opening_window cell = record { term = cell.term; driver = 0; lo = cell.saved; hi = cell.saved }

-- the windows that the answers tell, from the opening one on
abbrev pub windows_of : List Answer → List Window
windows_of answers = windows_from (opening_window (opening_cell (map (λ (answer : Answer). answer.line) answers)) ∷ []) answers

-- what the later answer grants is above all that the earlier one showed the same client, a batch or a note, by term and by number
abbrev pub IsFairAfter : Answer → Answer → Type 0
IsFairAfter earlier later = caller earlier ≡ caller later → (batch : Batch) → reply later ≡ Got batch → All (λ seen. IsAbove seen batch) (seen_by (reply earlier))

-- an answer `again` passed the end of its window or of the logical part
abbrev pub HasPassed : Answer → Type 0
HasPassed answer = (at hi n : ℕ) → reply answer ≡ Again at hi n → passes at hi n ≡ true

-- what callers find: each batch above all that its caller had seen, notes included, and each `again` past an end
pub record AreFair (answers : List Answer) : Type 0 where
  pub exceed : AllPairs IsFairAfter answers
  pub passed : All HasPassed answers

-- The headline, of the answers to a script
pub record IsSafe (answers : List Answer) : Type 0 where
  pub history : IsOneHistory (windows_of answers) (batches_of answers)
  pub fair : AreFair answers
