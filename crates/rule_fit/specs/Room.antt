-- Which rules have room for one peer more (own choice).
use Rattle.std.specs.Prelude.{ℕ, Bool, true, ◌≡◌, ◌↔◌, ◌<◌, List, length, get_or, Option}
use Rattle.rule_fit.specs.Assignment.{IsGreatest, held}
use Rattle.rule_fit.specs.Search.{marked}

-- in some assignment that gives the most peers a rule, this rule has fewer than its count
pub record HasRoom (suits : ℕ → ℕ → Bool) (peers : ℕ) (counts : List ℕ) (rule : ℕ) : Type 0 where
  pub given : List (Option ℕ)
  pub greatest : IsGreatest suits peers counts given
  pub known : rule < length counts
  pub room : held given rule < get_or counts rule 0

-- there is a mark for each rule, which tells whether the rule has room
pub record AreRooms (suits : ℕ → ℕ → Bool) (peers : ℕ) (counts : List ℕ) (rooms : List Bool) : Type 0 where
  pub each : length rooms ≡ length counts
  pub right : (r : ℕ) → r < length counts → (marked rooms r ≡ true) ↔ HasRoom suits peers counts r
