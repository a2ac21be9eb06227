-- Accepted heartbeats passed their own tests, so what stands is their table.
use Rattle.std.proofs.Common.{refl, ◌≡◌, ℕ, Bool, true, false, cond, List, [], ◌∷◌, Option, Some, None, subst}
use Rattle.std.proofs.lemmas.List.Elements.{All-nil, All-cons}
use Rattle.std.specs.List.{All}
use Rattle.std.specs.Option.{option_map}
use Rattle.pd_types.specs.BeatCheck.{first_fault}
use Rattle.pd_types.specs.declared.beat.BeatFault.{BeatFault}
use Rattle.pd_types.specs.declared.oracle.Actor.{Actor}
use Rattle.pd_types.specs.declared.step.StepMsg.{StepMsg}
use Rattle.pd_types.specs.declared.region.RegionBeat.{RegionBeat}
use Rattle.pd_types.specs.declared.request.Request.{Request}
use Rattle.pd_types.specs.declared.request.Request.TheVariants as ask
use Rattle.region_tree.specs.Ranges.{HasRange}
use Rattle.region_tree.specs.Standing.{IsTable, table_of}
use Rattle.region_tree.proofs.Stand.{checked_range, every_table}
use Rattle.heartbeat.specs.Intakes.{intake_of, intake_by}
use Rattle.pd_state.specs.declared.entry.Entry.{Entry}
use Rattle.pd_state.specs.declared.reply.Reply.{Reply}
use Rattle.pd_state.specs.declared.reply.Reply.TheVariants as replies
use Rattle.pd_state.specs.Ctl.{resigns}
use Rattle.pd_state.specs.Since.{since_by, since}
use Rattle.pd_state.specs.State.{accepted_by, beats_of, part_of}
use Rattle.pd_state.specs.Heard.{heard_of}
use Rattle.pd_state.specs.Replies.{beat_reply}
use Rattle.op_control.specs.declared.turn.Dispatch.{Dispatch}
use Rattle.pd_state.specs.Legal.{beat_dispatch, first_reply, IsLegal}
use Rattle.pd_state.specs.declared.heard.Heard.{Heard}
use Rattle.pd_state.proofs.Refines.{entry_of}

checked_by : (o : Option BeatFault) (removed : ℕ) (answer came : Dispatch) (beat : RegionBeat) (held : List RegionBeat) → replies.Accepted removed answer ≡ beat_reply (intake_by o beat held) came → o ≡ None
checked_by None removed answer came beat held h = refl
checked_by (Some fault) removed answer came beat held h = absurd cc

ranged_beat : (bs : List RegionBeat) (beat : RegionBeat) (came : Dispatch) (p : Reply) → p ≡ beat_reply (intake_of beat (table_of bs)) came → All HasRange bs → All HasRange (accepted_by p beat bs)
ranged_beat bs beat came (replies.Accepted removed answer) is ranged = All-cons HasRange beat bs (checked_range beat (checked_by (first_fault beat) removed answer came beat (table_of bs) is)) ranged
ranged_beat bs beat came p is ranged = ranged

abbrev AreRanged : List Entry → Type 0
AreRanged es = All HasRange (beats_of es)

some_is : (es fs : List Entry) → Some es ≡ Some fs → AreRanged es → AreRanged fs
some_is es fs h ranged = let e : es ≡ fs = cc in subst AreRanged e ranged

ranged_kept : (t : Bool) (es fs : List Entry) → cond t None (Some es) ≡ Some fs → AreRanged es → AreRanged fs
ranged_kept true es fs h ranged = absurd cc
ranged_kept false es fs h ranged = let e : es ≡ fs = cc in subst AreRanged e ranged

ranged_none : (t : Bool) (fs : List Entry) → cond t None None ≡ Some fs → AreRanged fs
ranged_none true fs h = absurd cc
ranged_none false fs h = absurd cc

ranged_more : (driver : ℕ) (s : Option (List Entry)) (actor : Actor) (sends : List StepMsg) (line : ℕ) (r : Request) (known : Heard) (p : Reply) → ((es : List Entry) → s ≡ Some es → AreRanged es)
    → p ≡ first_reply driver (option_map part_of s) r known → (fs : List Entry) → since_by r (entry_of actor sends line r known p) s ≡ Some fs → AreRanged fs
ranged_more driver s actor sends line (ask.Term term moment) known (replies.Term t n m) ranged is fs h = some_is _ fs h (All-nil HasRange)
ranged_more driver s actor sends line (ask.Term term moment) known p ranged is fs h = absurd cc
ranged_more driver s actor sends line ask.Retire known p ranged is fs h = absurd cc
ranged_more driver (Some es) actor sends line (ask.Beat store moment beat) known p ranged is fs h =
    some_is (entry_of actor sends line (ask.Beat store moment beat) known p ∷ es) fs h (ranged_beat (beats_of es) beat (beat_dispatch (part_of es) moment beat) p is (ranged es refl))
ranged_more driver None actor sends line (ask.Ctl moment words) known p ranged is fs h = ranged_none (resigns words) fs h
ranged_more driver (Some es) actor sends line (ask.Ctl moment words) known p ranged is fs h = ranged_kept (resigns words) _ fs h (ranged es refl)
ranged_more driver None actor sends line _ known p ranged is fs h = absurd cc
ranged_more driver (Some es) actor sends line _ known p ranged is fs h = some_is _ fs h (ranged es refl)

ranged_after : (driver : ℕ) (past : List Entry) → IsLegal driver past → (es : List Entry) → since past ≡ Some es → AreRanged es
ranged_after driver [] legal es h = absurd cc
ranged_after driver (e ∷ past) legal es h = ranged_more driver (since past) e.actor e.sends e.line e.request (heard_of e) e.reply (ranged_after driver past legal.1) legal.0.reply_is es h

pub standing_is : (driver : ℕ) (past es : List Entry) → IsLegal driver past → since past ≡ Some es → IsTable (beats_of es) (part_of es).standing
standing_is driver past es legal h = every_table (beats_of es) (ranged_after driver past legal es h)
