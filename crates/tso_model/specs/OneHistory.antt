-- What no timestamp granted twice means, of the windows and batches of a run alone: whoever granted them, one after the other or on threads. It cites no step of the oracle (PD documentation, "Timestamp Oracle": timestamps rise, and none is granted twice; windows and terms are own choice).
use Rattle.std.specs.Prelude.{◌≡◌, ◌⊎◌, ◌<◌, ◌≤◌, List, map, All, AllPairs, Contains}
use Rattle.pd_types.specs.declared.oracle.Batch.{Batch}
use Rattle.pd_types.specs.declared.oracle.CellWord.{CellWord}
use Rattle.pd_types.specs.declared.oracle.Seen.{Seen}
use Rattle.pd_types.specs.declared.oracle.Window.{Window}
use Rattle.pd_types.specs.Batch.{first_of}
use Rattle.tso_model.specs.declared.entries.Claim.{Claim}
use Rattle.tso_model.specs.Words.{Inside, opening_claim}
use Rattle.tso_model.specs.Ledger.{IsWindowList}

-- The batch is above what was seen: its term isn't lower, and its first timestamp is above the last seen one, whatever the terms are
pub record IsAbove (seen : Seen) (b : Batch) : Type 0 where
  pub term : seen.term ≤ b.term
  pub last : seen.last < first_of b

-- one batch lies below the other: its term isn't later, and its last timestamp is below the other's first, so no timestamp is in both (pd_types, `batches_apart_share_no_timestamp`)
pub record IsBelow (a b : Batch) : Type 0 where
  pub term : a.term ≤ b.term
  pub rises : a.last < first_of b

-- one of the two lies below the other
abbrev pub AreApart : Batch → Batch → Type 0
AreApart a b = IsBelow a b ⊎ IsBelow b a

-- the windows of all terms from some opening cell on, each at or behind the end of the one before
pub record AreWindows (windows : List Window) : Type 0 where
  pub opening : CellWord
  pub claims : List Claim
  pub are : windows ≡ map (λ (c : Claim). c.window) claims
  pub rise : IsWindowList (opening_claim opening) claims

-- the batch lies inside one of the windows, of its own term and driver
pub record LiesInOne (windows : List Window) (batch : Batch) : Type 0 where
  pub window : Window
  pub one : Contains windows window
  pub inside : Inside window batch

-- The one history: the batches are disjoint and rise by term and timestamp, the windows follow one another, and each batch lies
-- inside a window of its own term and driver
pub record IsOneHistory (windows : List Window) (batches : List Batch) : Type 0 where
  pub rises : AllPairs AreApart batches
  pub follow : AreWindows windows
  pub inside : All (LiesInOne windows) batches
