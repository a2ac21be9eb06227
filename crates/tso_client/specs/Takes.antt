-- What a draw makes: its steps in a row, over the limit and the cursors that they find. So each answer comes exactly where it says.
use Rattle.std.specs.Prelude.{◌≡◌, ◌≢◌, ℕ, ◌/◌, ◌%◌, ◌<◌, ◌≤◌, ◌⊎◌, Ok, Err}
use Rattle.pd_types.specs.declared.stamp.TheConstants.{LOGICAL}
use Rattle.tso_model.specs.declared.view.View.{View}
use Rattle.tso_model.specs.Steps.{looked}
use Rattle.tso_board.specs.Told.{Armed, NotArmed, Drawn, NotDrawn}
use Rattle.tso_client.specs.declared.draw.DrawFault.TheVariants.{NotLeader, Stale, Again}
use Rattle.tso_client.specs.Draws.{Answer}

-- the limit that the look found is in hand: it isn't 0, nor of a term below the seen one
abbrev pub IsInHand : ℕ → View → Type 0
IsInHand word v = (word ≢ 0) × (v.seen.term ≤ word % LOGICAL)

-- the count fitted behind the loaded cursor, and was armed; and then the fetch-add was made
pub record ArmsFirst (d n word : ℕ) (old : View) (Then : View → Type 0) : Type 0 where
  pub at : ℕ
  pub armed : View
  pub fits : Armed n at (looked d word old) armed
  pub then : Then armed

-- what a draw of n answers over the limit that its look found at the driver d, and what it makes of what the client knows
abbrev pub TakesOver : ℕ → ℕ → ℕ → Answer → View → View → Type 0
TakesOver d n word (Err NotLeader) old new = (word ≡ 0) × (new ≡ looked d word old)
TakesOver d n word (Err (Stale term)) old new = (word ≢ 0) × (word % LOGICAL < old.seen.term) × (term ≡ old.seen.term) × (new ≡ looked d word old)
TakesOver d n word (Err (Again at hi m)) old new = IsInHand word old × (hi ≡ word / LOGICAL) × (m ≡ n) × (NotArmed n at (looked d word old) new ⊎ ArmsFirst d n word old (λ v. NotDrawn at v new))
TakesOver d n word (Ok b) old new = IsInHand word old × ArmsFirst d n word old (λ v. Drawn b v new)

-- a draw of n at the driver d: it looked at the driver's limit, and did over it what its answer says
pub record Takes (d n : ℕ) (answer : Answer) (old new : View) : Type 0 where
  pub word : ℕ
  pub does : TakesOver d n word answer old new
