-- Each step that an entry sends is safe there, whoever asked for its operator (PD, region heartbeats). Each list of entries has the latest first.
use Rattle.std.specs.Prelude.{◌≡◌, ℕ, max, List, ◌∷◌, All, Some}
use Rattle.pd_types.specs.declared.region.RegionBeat.{RegionBeat}
use Rattle.pd_types.specs.declared.step.StepMsg.{StepMsg}
use Rattle.op_step.specs.Safe.{IsSafe}
use Rattle.pd_state.specs.Sends.{leader_store, region_in}
use Rattle.pd_state.specs.State.{moment_of, part_after}
use Rattle.pd_state.specs.declared.entry.Entry.{Entry}
use Rattle.pd_state.specs.declared.part.Part.{Part}

-- The step of a message is safe: a majority of its region's voters is live before it and after it, and its target is right. The region is as the last accepted
-- heartbeat tells it, the entry's own among them; the stores are as they stand before the entry, and the clock has the entry's moment
pub record IsSafeThere (before after : Part) (now : ℕ) (message : StepMsg) : Type 0 where
  pub beat : RegionBeat
  pub held : region_in message.region after.standing ≡ Some beat
  pub leader : message.to ≡ leader_store beat
  pub safe : IsSafe message.step beat before.stores now

-- each step that an entry sends is safe there
abbrev pub IsGated : List Entry → Entry → Type 0
IsGated past entry =
    (before after : Part) → part_after past ≡ Some before → part_after (entry ∷ past) ≡ Some after
    → All (IsSafeThere before after (max before.clock (moment_of entry.request))) entry.sends
