-- An accepted heartbeat: which regions it displaced, what it is answered, and what it leaves.
use Rattle.std.proofs.Common.{◌≡◌, ℕ, Bool, true, false, List, length, fold, Option, Some, None, sym, ap, ◌∙◌}
use Rattle.std.specs.Prelude.{max, if◌then◌else◌}
use Rattle.pd_types.specs.BeatCheck.{first_fault}
use Rattle.pd_types.specs.declared.beat.BeatFault.{BeatFault}
use Rattle.pd_types.specs.declared.region.Epoch.{Epoch}
use Rattle.pd_types.specs.declared.region.RegionBeat.{RegionBeat}
use Rattle.pd_types.specs.declared.request.Request.TheVariants as ask
use Rattle.region_tree.specs.Stale.{ids_of, is_full, removed_by, stale_by}
use Rattle.heartbeat.specs.Intakes.{fresh_intake, intake_by, intake_of, left_by}
use Rattle.heartbeat.specs.declared.intake.Intake.{Intake}
use Rattle.heartbeat.specs.declared.intake.Intake.TheVariants as intakes
use Rattle.op_control.specs.Table.{canceled, dispatch_answer, dispatched}
use Rattle.op_control.specs.declared.turn.Dispatch.{Dispatch}
use Rattle.pd_state.specs.Heard.{nothing}
use Rattle.pd_state.specs.Legal.{beat_dispatch}
use Rattle.pd_state.specs.Replies.{beat_reply}
use Rattle.pd_state.specs.Steps.{changed_part}
use Rattle.pd_state.specs.declared.part.Part.{Part}
use Rattle.pd_state.specs.declared.reply.Reply.{Reply}
use Rattle.pd_state.specs.declared.reply.Reply.TheVariants as replies

by_room : (full : Bool) (ids those : List ℕ) → intakes.Accepted ids ≡ (if full then intakes.Full else intakes.Accepted those) → ids ≡ those
by_room true ids those h = absurd cc
by_room false ids those h = cc

by_epoch : (kept : Option Epoch) (ids : List ℕ) (beat : RegionBeat) (held : List RegionBeat) → intakes.Accepted ids ≡ fresh_intake kept beat held → ids ≡ ids_of (removed_by beat held)
by_epoch (Some kept) ids beat held h = absurd cc
by_epoch None ids beat held h = by_room (is_full beat held) ids (ids_of (removed_by beat held)) h

by_fault : (o : Option BeatFault) (ids : List ℕ) (beat : RegionBeat) (held : List RegionBeat) → intakes.Accepted ids ≡ intake_by o beat held → ids ≡ ids_of (removed_by beat held)
by_fault (Some fault) ids beat held h = absurd cc
by_fault None ids beat held h = by_epoch (stale_by beat held) ids beat held h

module _ (part now : Part) (moment : ℕ) (beat : RegionBeat) (ids : List ℕ) (same : now ≡ record part { clock = max part.clock moment }) (is : intakes.Accepted ids ≡ intake_of beat now.standing) where
  -- the answer names the regions that it displaced
  are : ids ≡ ids_of (removed_by beat part.standing)
  are = by_fault (first_fault beat) ids beat part.standing (is ∙ ap (λ (p : Part). intake_of beat p.standing) same)

  abbrev came : Dispatch
  came = dispatch_answer (fold canceled now.operators ids) beat now.stores now.clock

  came_is : came ≡ beat_dispatch part moment beat
  came_is = λ j. dispatch_answer (fold canceled (same j).operators (are j)) beat (same j).stores (same j).clock

  pub accepts : (reply : Reply) → reply ≡ replies.Accepted (length ids) came → reply ≡ beat_reply (intake_of beat part.standing) (beat_dispatch part moment beat)
  accepts reply said =
      said ∙ ap (λ (d : Dispatch). replies.Accepted (length ids) d) came_is
      ∙ ap (λ (i : Intake). beat_reply i (beat_dispatch part moment beat)) (is ∙ ap (λ (p : Part). intake_of beat p.standing) same)

  pub accepts_after : (store : ℕ) (new : Part) (reply : Reply) (left : List RegionBeat) → left ≡ left_by (intakes.Accepted ids) beat now.standing
      → new ≡ record now { standing = left; operators = dispatched (fold canceled now.operators ids) beat now.stores now.clock } → reply ≡ replies.Accepted (length ids) came
      → new ≡ changed_part part (ask.Beat store moment beat) reply nothing
  accepts_after store new reply left is_left is_new said =
      is_new
      ∙ (λ j. record now { standing = is_left j; operators = dispatched (fold canceled now.operators ids) beat now.stores now.clock })
      ∙ (λ j. record (same j) { standing = left_by (intakes.Accepted ids) beat (same j).standing; operators = dispatched (fold canceled (same j).operators (are j)) beat (same j).stores (same j).clock })
      ∙ sym (ap (λ (r : Reply). changed_part part (ask.Beat store moment beat) r nothing) said)
