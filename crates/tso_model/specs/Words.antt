-- The words of the oracle and its windows (PD documentation, "Timestamp Oracle": a leader saves an end of its time window and grants below it). One cell of saved time and term, and for each driver a limit and a cursor: own choice.
use Rattle.std.specs.Prelude.{◌≡◌, ℕ, ◌+◌, ◌-◌, ◌*◌, ◌/◌, ◌%◌, ◌<◌, ◌≤◌, Bool, true, false, List, [], ◌∷◌, cond, nat_lt}
use Rattle.pd_types.specs.declared.oracle.CellWord.{CellWord}
use Rattle.pd_types.specs.declared.oracle.Window.{Window}
use Rattle.pd_types.specs.declared.oracle.Batch.{Batch}
use Rattle.pd_types.specs.Timestamp.{logical}
use Rattle.pd_types.specs.declared.stamp.TheConstants.{LOGICAL}
use Rattle.pd_types.specs.declared.oracle.TheConstants.{CLOCK_END}
use Rattle.tso_model.specs.declared.entries.Claim.{Claim}

-- a time and a term in one word
abbrev pub packed : ℕ → ℕ → ℕ
packed time term = time * LOGICAL + term

-- the cell that a word holds
abbrev pub cell_of : ℕ → CellWord
cell_of n = record { saved = n / LOGICAL; term = n % LOGICAL }

-- the word that holds a cell
abbrev pub cell_word : CellWord → ℕ
cell_word c = packed c.saved c.term

-- a cell in range: a saved time below 2^45 milliseconds, a term up to 262143
pub record IsCell (c : CellWord) : Type 0 where
  pub saved : c.saved < CLOCK_END
  pub term : c.term < LOGICAL

-- the words of the driver d, from 1 on; the word 0 is the cell
abbrev pub limit_at : ℕ → ℕ
limit_at d = 2 * d - 1

-- the driver's cursor: the last timestamp drawn, or the start of a raise
abbrev pub cursor_at : ℕ → ℕ
cursor_at d = 2 * d

-- the window of these numbers
abbrev pub window : ℕ → ℕ → ℕ → ℕ → Window
window term driver lo hi = record { term = term; driver = driver; lo = lo; hi = hi }

-- the window with the saved time of its claim
abbrev pub claim : Window → ℕ → Claim
claim w at = record { window = w; at = at }

-- the opening cell counts as a window of driver 0, of no length
abbrev pub opening_claim : CellWord → Claim
opening_claim c = claim (window c.term 0 c.saved c.saved) c.saved

-- A window is open once a save of its term succeeded. Before that lo and hi are both the saved time at which it was claimed.
abbrev pub IsOpen : Window → Type 0
IsOpen w = w.lo < w.hi

-- n more than `at` is at the end or past it, or past the logical part
abbrev pub passes : ℕ → ℕ → ℕ → Bool
passes at hi n = cond (nat_lt (at + n) (hi * LOGICAL)) (cond (nat_lt (logical at + n) LOGICAL) false true) true

-- the end of the last window, or 0
abbrev pub last_end : List Window → ℕ
last_end [] = 0
last_end (w ∷ []) = w.hi
last_end (w ∷ x ∷ ws) = last_end (x ∷ ws)

-- c stands behind x in a window list: its term is the next, it was claimed at x's end and begins there or later, and before its first save it has no length and stands where it was claimed
pub record Follows (x c : Claim) : Type 0 where
  pub term : c.window.term ≡ x.window.term + 1
  pub at : c.at ≡ x.window.hi
  pub begins : x.window.hi ≤ c.window.lo
  pub ends : c.window.lo ≤ c.window.hi
  pub closed : c.window.lo ≡ c.window.hi → c.window.lo ≡ c.at
  pub driver : 0 < c.window.driver

-- A window list, the newest first
abbrev pub AreClaims : Claim → Claim → List Claim → Type 0
AreClaims first c [] = c ≡ first
AreClaims first c (x ∷ xs) = Follows x c × AreClaims first x xs

-- a batch is in one millisecond, and inside the window
abbrev pub Inside : Window → Batch → Type 0
Inside w b = (b.term ≡ w.term) × (b.driver ≡ w.driver) × (w.lo < w.hi) × (0 < b.count) × (w.lo * LOGICAL + b.count ≤ b.last) × (b.last < w.hi * LOGICAL) × (logical (b.last - b.count) + b.count < LOGICAL)

-- batches, the newest first: each is above those before it, and none is above c
abbrev pub Falls : ℕ → List Batch → Type 0
Falls c [] = Unit {0}
Falls c (b ∷ bs) = (b.last ≤ c) × Falls (b.last - b.count) bs
