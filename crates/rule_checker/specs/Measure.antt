-- The misfit number of a region, and of what a candidate's steps leave of it.
use Rattle.std.specs.Prelude.{◌≡◌, ◌<◌, ℕ, List, length}
use Rattle.pd_types.specs.declared.region.Peer.{Peer}
use Rattle.pd_types.specs.declared.region.RegionBeat.{RegionBeat}
use Rattle.pd_types.specs.declared.rule.Rule.{Rule}
use Rattle.store_table.specs.declared.entry.StoreEntry.{StoreEntry}
use Rattle.rule_fit.specs.Certificate.{IsMisfitNumber}
use Rattle.rule_fit.specs.Suits.{suits_in, counts_of}
use Rattle.rule_checker.specs.declared.class.Class.{Class}
use Rattle.rule_checker.specs.declared.class.Ranked.{Ranked}
use Rattle.rule_checker.specs.Candidates.{IsCandidate, steps_of, after_all}
use Rattle.rule_checker.specs.Ranks.{score_of}

-- the region's misfit number
abbrev pub HasNumber : RegionBeat → List Rule → List StoreEntry → ℕ → ℕ → Type 0
HasNumber beat rules stores now number = IsMisfitNumber (suits_in beat rules stores now) (length beat.region.peers) (counts_of rules) number

-- the misfit number of the region that the steps of a peer leave
abbrev pub Leaves : Class → RegionBeat → List Rule → List StoreEntry → ℕ → Peer → ℕ → Type 0
Leaves class beat rules stores now peer number = HasNumber (after_all (steps_of class beat stores now peer) beat) rules stores now number

-- a candidate of the class with the number that it leaves, which is below the one from which it starts, and its score
pub record Lowers (class : Class) (beat : RegionBeat) (rules : List Rule) (stores : List StoreEntry) (now : ℕ) (from : ℕ) (one : Ranked) : Type 0 where
  pub candidate : IsCandidate class beat rules stores now one.peer
  pub leaves : Leaves class beat rules stores now one.peer one.to
  pub lower : one.to < from
  pub score : one.score ≡ score_of class beat rules stores one.peer
