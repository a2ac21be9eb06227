-- What each call tells its driver or client: the view after its one step, by the number that the step found, and what is known of that number. The steps are those of tso_model (Steps); that another cell names a later term is the rule of a guarded cell (PD keeps its saved timestamp under a guarded write of etcd).
use Rattle.std.specs.Prelude.{◌≡◌, ℕ, ◌+◌, ◌*◌, ◌<◌, ◌≤◌, ◌⊎◌, Option, Some, None, cond, true, false, All}
use Rattle.pd_types.specs.declared.oracle.Batch.{Batch}
use Rattle.pd_types.specs.declared.oracle.CellWord.{CellWord}
use Rattle.pd_types.specs.declared.oracle.Seen.{Seen}
use Rattle.pd_types.specs.declared.oracle.Window.{Window}
use Rattle.pd_types.specs.declared.stamp.TheConstants.{LOGICAL}
use Rattle.tso_model.specs.declared.entries.Claim.{Claim}
use Rattle.tso_model.specs.declared.view.View.{View}
use Rattle.tso_model.specs.Words.{passes, packed, IsOpen, IsCell}
use Rattle.tso_model.specs.History.{claims}
use Rattle.tso_model.specs.Moves.{blank, joined}
use Rattle.tso_model.specs.Steps.{held, hand, HasClaim, knows, claimed, saves, publishes, refused, adds, granted, batch_of}
use Rattle.tso_model.specs.Sound.{IsUnseen}

-- THE CELL

-- the cell that was found is at least the one known, in the term and in the saved time
pub record Rises (known found : CellWord) : Type 0 where
  pub term : known.term ≤ found.term
  pub saved : known.saved ≤ found.saved

-- the term is above the opening window's and above each that the driver has claimed
abbrev pub IsHigher : View → ℕ → Type 0
IsHigher v term = (v.opening.term < term) × All (λ (c : Claim). c.window.driver ≡ v.driver → c.window.term < term) (claims v)

-- the cell was loaded: the driver knows it from then on
pub record Read (found : CellWord) (old new : View) : Type 0 where
  pub view : new ≡ knows found old
  pub cell : IsCell found
  pub rises : Rises old.cell found

-- another cell was found than the one asked for: the driver knows it from then on, and another driver has a later term
pub record Missed (found : CellWord) (old new : View) : Type 0 where
  pub view : new ≡ knows found old
  pub cell : IsCell found
  pub rises : Rises old.cell found
  pub higher : IsHigher old found.term

-- the term after the known cell's was claimed
pub record Claimed (term : ℕ) (old new : View) : Type 0 where
  pub term_is : term ≡ old.cell.term + 1
  pub view : new ≡ claimed old

-- the end was saved; the driver had known no later cell than its window's
pub record Saved (hi : ℕ) (old new : View) : Type 0 where
  pub view : new ≡ saves hi old old.latest
  pub rises : Rises old.cell (record { saved = (held old).hi; term = (held old).term })

-- a cursor may be raised by 0, or to at most the end of the held window
abbrev pub MayRaise : ℕ → View → Type 0
MayRaise at v = (at ≡ 0) ⊎ ((v.holds ≡ true) × HasClaim v × (at ≤ (held v).hi * LOGICAL))

-- THE LIMIT

-- the held window, or none where no term is held
abbrev pub holding : View → Option Window
holding v = cond v.holds (Some (held v)) None

-- a window may be published that is held, is open, and to whose start the cursor was raised
pub record MayPublish (v : View) : Type 0 where
  pub holds : v.holds ≡ true
  pub marked : v.marked ≡ true
  pub claim : HasClaim v
  pub open_is : IsOpen (held v)

-- the view that stored its window's end and term as its limit
abbrev pub told_limit : View → View
told_limit v = publishes (packed (held v).hi (held v).term) v

-- the view that stored 0 as its limit and holds no term
abbrev pub given_up : View → View
given_up v = record (publishes 0 v) { holds = false; marked = false }

-- THE DRAW

-- the count fits behind the cursor, and is armed
pub record Armed (n at : ℕ) (old new : View) : Type 0 where
  pub fits : passes at (hand old).hi n ≡ false
  pub view : new ≡ record old { armed = n }

-- the count passes at the cursor, and the draw is over
pub record NotArmed (n at : ℕ) (old new : View) : Type 0 where
  pub passed : passes at (hand old).hi n ≡ true
  pub view : new ≡ refused at n old

-- the armed count was granted behind the cursor that was found, above all that was seen
pub record Drawn (b : Batch) (old new : View) : Type 0 where
  pub at : ℕ
  pub fits : passes at (hand old).hi old.armed ≡ false
  pub batch : b ≡ batch_of at old
  pub view : new ≡ granted at old
  pub unseen : IsUnseen old.seen (hand old).term at

-- the armed count was added, but passes at the cursor that was found: nothing is granted
pub record NotDrawn (at : ℕ) (old new : View) : Type 0 where
  pub passed : passes at (hand old).hi old.armed ≡ true
  pub view : new ≡ record (refused at old.armed old) { added = (adds old).added }

-- THE NOTE

-- a note was met: the client has seen the greater of both pairs
pub record Met (seen : Seen) (old new : View) : Type 0 where
  pub opening : CellWord
  pub view : new ≡ joined old (record (blank opening) { seen = seen })
