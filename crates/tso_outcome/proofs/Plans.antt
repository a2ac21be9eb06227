-- Leads and ticks kept the moment's plan.
use Rattle.std.proofs.Common.{◌≡◌, ℕ, ◌+◌, ◌^◌, ◌≤◌, true, false, List, sym, ap, ◌∙◌, subst, inl, inr, arith}
use Rattle.std.specs.Prelude.{Contains}
use Rattle.std.proofs.lemmas.List.Elements.{All-contains}
use Rattle.std.proofs.lemmas.Bool.{leb-true}
use mathlib.Core.Logic.{dite}
use native.Mathlib.Decide.{dec_le}
use Rattle.tso_model.specs.declared.entries.Claim.{Claim}
use Rattle.tso_model.specs.declared.entries.Found.{Found}
use Rattle.tso_model.specs.declared.view.View.{View}
use Rattle.tso_model.specs.Words.{window, claim}
use Rattle.tso_model.specs.History.{greatest, added_at}
use Rattle.tso_model.specs.Plan.{lead_next, end_of}
use Rattle.tso_driver.specs.declared.said.DriverSaid.{DriverSaid}
use Rattle.tso_outcome.specs.declared.said.DriverAnswer.{DriverAnswer}
use Rattle.tso_driver.specs.declared.said.DriverSaid.TheVariants.{Led, Ticked, Resigned}
use Rattle.tso_driver.specs.declared.reply.LeadReply.TheVariants.{Won, Beaten, Lost as LeadLost, TermsSpent, ClockRange as LeadPast}
use Rattle.tso_driver.specs.declared.reply.TickReply.{TickReply}
use Rattle.tso_driver.specs.declared.reply.TickReply.TheVariants.{Moved, Idle, Lost as TickLost, ClockRange as TickPast, NotLeading}
use Rattle.tso_outcome.specs.Drives.{Drove, raised}
use Rattle.pd_types.specs.Numbers.{greatest_of}
use Rattle.tso_driver.specs.Driving.{DriverDid, DriverTold, HasTicked}
use Rattle.tso_outcome.specs.Runs.{Run, DriverPart}
use Rattle.tso_outcome.specs.Windows.{IsWon, IsPlanned, KeepsPlan, KeepWindows}
use Rattle.tso_outcome.proofs.Ended.{CameBack}
use Rattle.tso_outcome.specs.Ends.{DriverEnd}
use Rattle.tso_model.specs.Moves.{driver_view}
use Rattle.tso_outcome.proofs.Drives.{drove_driver, drove_cells, drove_kept, drove_starts, drove_founds, drove_holding, greatest_starts}
use Rattle.tso_outcome.proofs.Above.{to_map, lists_of}
use Rattle.tso_outcome.proofs.Known.{the_history, claim_in, claim_is, window_in, before_it, has_term, newest_ends, found_in, all_added}
use Rattle.tso_outcome.proofs.Terms.{driver_end, driver_at}

module _ (run : Run) (b : CameBack run) where
  -- the cell that a driver knew is at most the last window
  known : (e : DriverEnd) → Contains b.drivers e → (after : List DriverAnswer) (new : View) → Drove new after e.view → (new.cell.term ≤ (the_history run b).newest.window.term) × (new.cell.saved ≤ (the_history run b).newest.window.hi)
  known e h after new on =
      let last = b.unites.cells e.view (to_map (λ (x : DriverEnd). x.view) b.drivers e h) in
      let grows = drove_cells new after e.view on in
      (omega (arith, grows.0, last.0, b.gathered.a.known.0), omega (arith, grows.1, last.1, b.gathered.a.known.1))

  won : (e : DriverEnd) → Contains b.drivers e → (after : List DriverAnswer) (old new : View) → new.driver ≡ e.part.number → Drove new after e.view
      → (now term lo hi : ℕ) → DriverTold (Led now (Won term lo hi)) old new → IsWon run e.part.number now term lo hi
  won e h after old new driver_is on now term lo hi told =
      let c : Claim = claim (window term new.driver lo hi) told.saved in
      let last = drove_kept new after e.view on c told.stands in
      let there = claim_in run b e h last.0 last.1 in
      let range = claim_is run b e h last.0 last.1 in
      let p = before_it run b last.0 there range.1 in
      let at_is : told.saved ≡ p.0.window.hi = sym last.3 ∙ p.2.at in
      record {
        before = p.0.window;
        own = last.0.window;
        before_there = window_in run b p.0 p.1;
        own_there = window_in run b last.0 there;
        next = sym p.2.term ∙ last.2.term;
        is_own = (last.2.term, last.2.driver ∙ driver_is, last.2.lo (omega (arith, told.plan.1)), last.2.hi);
        plan = (subst (λ s. lo ≡ lead_next s now) at_is told.plan.0, told.plan.1);
      }

  planned : (e : DriverEnd) → Contains b.drivers e → (before after : List DriverAnswer) (old new : View) → Drove (driver_view run.setup e.part.number) before old → Drove new after e.view
      → (now : ℕ) (reply : TickReply) → HasTicked now reply old new → IsPlanned run e.part.number now before reply
  planned e h before after old new to on now reply told =
      let first : View = driver_view run.setup e.part.number in
      let d_is : old.driver ≡ e.part.number = drove_driver first before old to in
      let f : Found = record { driver = old.driver; cursor = told.cursor; start = greatest old.driver old.starts } in
      let bound = All-contains (λ (x : Found). (x.start ≤ x.cursor) × (x.cursor ≤ x.start + added_at x.driver (the_history run b).added)) (the_history run b).founds f b.gathered.c.founds (found_in run b e h f (drove_founds new after e.view on f told.found)) in
      let start_is : greatest old.driver old.starts ≡ greatest_of (raised before) = (λ i. greatest (d_is i) (drove_starts first before old to i)) ∙ greatest_starts e.part.number (raised before) in
      record {
        window = told.window;
        holds = sym (drove_holding first before old to) ∙ told.held_is;
        cursor = told.cursor;
        low = omega (arith, bound.0, start_is);
        high = omega (arith, bound.1, start_is, all_added run b old.driver, ap (λ d. Rattle.tso_outcome.specs.Runs.asked_of_all d run.clients) d_is);
        plan = told.plan;
      }

  keeps_plan : (e : DriverEnd) → Contains b.drivers e → (before : List DriverAnswer) (said : DriverSaid) (after : List DriverAnswer) (old new : View) → Drove (driver_view run.setup e.part.number) before old → DriverDid said old new → Drove new after e.view
      → KeepsPlan run e.part.number before said
  keeps_plan e h before (Led now (Won term lo hi)) after old new to did on = won e h after old new (did.driver ∙ drove_driver (driver_view run.setup e.part.number) before old to) on now term lo hi did.told
  keeps_plan e h before (Led now (Beaten found)) after old new to did on = tt
  keeps_plan e h before (Led now (LeadLost found)) after old new to did on = tt
  keeps_plan e h before (Led now TermsSpent) after old new to did on =
      let c = has_term run b 262143 (omega (arith, b.setup.cell.1)) (omega (arith, did.told, (known e h after new on).0)) in
      (c.0.window, window_in run b c.0 c.1, c.2)
  keeps_plan e h before (Led now LeadPast) after old new to did on =
      let past = leb-true (2 ^ 45) (end_of (lead_next new.cell.saved now)) did.told in
      let ends = newest_ends run b in
      let at_most = (known e h after new on).1 in
      dite (dec_le (2 ^ 45) (now + 3000)) (λ le. inl le) (λ gt. inr (omega (arith, past, gt, ends, at_most)))
  keeps_plan e h before (Ticked now (Moved next hi)) after old new to did on = planned e h before after old new to on now (Moved next hi) did.told
  keeps_plan e h before (Ticked now Idle) after old new to did on = planned e h before after old new to on now Idle did.told
  keeps_plan e h before (Ticked now (TickLost found)) after old new to did on = planned e h before after old new to on now (TickLost found) did.told.0
  keeps_plan e h before (Ticked now TickPast) after old new to did on = planned e h before after old new to on now TickPast did.told
  keeps_plan e h before (Ticked now NotLeading) after old new to did on = sym (drove_holding (driver_view run.setup e.part.number) before old to) ∙ did.told
  keeps_plan e h before (Resigned true) after old new to did on = (did.told.0, sym (drove_holding (driver_view run.setup e.part.number) before old to) ∙ did.told.1)
  keeps_plan e h before (Resigned false) after old new to did on = sym (drove_holding (driver_view run.setup e.part.number) before old to) ∙ did.told

pub keep_windows : (run : Run) → CameBack run → KeepWindows run
keep_windows run b = record {
  windows = record { claims = b.claims; are = b.windows_are; rise = (lists_of run b).0 };
  plans = λ part h before a after is. let e = driver_end run b part h in
      let s = driver_at run b e.0 e.1 before a after (ap (λ (p : DriverPart). p.answers) e.2 ∙ is) in
      subst (λ d. KeepsPlan run d before a.said) (ap (λ (p : DriverPart). p.number) e.2) (keeps_plan run b e.0 e.1 before a.said after s.old s.new s.to s.did s.on);
}
