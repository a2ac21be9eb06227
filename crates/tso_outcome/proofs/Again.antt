-- Each `again` has its cause.
use Rattle.std.proofs.Common.{◌≡◌, ℕ, ◌<◌, ◌≤◌, true, false, List, [], sym, refl, ap, ◌∙◌, subst, ⊎_elim, arith}
use Rattle.std.specs.Prelude.{Contains, None, Ok, Err}
use Rattle.std.proofs.lemmas.List.Elements.{All-contains}
use Rattle.tso_model.specs.declared.entries.Claim.{Claim}
use Rattle.tso_model.specs.declared.entries.Refusal.{Refusal}
use Rattle.tso_model.specs.declared.view.View.{View}
use Rattle.tso_model.specs.Words.{IsOpen, packed, passes, window, claim}
use Rattle.tso_model.specs.History.{claims, Extends, added_by}
use Rattle.tso_model.specs.Sound.{Bounded}
use Rattle.tso_model.proofs.Basics.{added_parts}
use Rattle.tso_driver.specs.declared.said.DriverSaid.{DriverSaid}
use Rattle.tso_outcome.specs.declared.said.ClientSaid.{ClientSaid}
use Rattle.tso_outcome.specs.declared.said.DriverAnswer.{DriverAnswer}
use Rattle.tso_outcome.specs.declared.said.ClientAnswer.{ClientAnswer}
use Rattle.tso_driver.specs.declared.said.DriverSaid.TheVariants.{Led, Ticked, Resigned}
use Rattle.tso_outcome.specs.declared.said.ClientSaid.TheVariants.{Took, Told, Heard}
use Rattle.tso_driver.specs.declared.reply.LeadReply.TheVariants.{Won, Beaten, Lost as LeadLost, TermsSpent, ClockRange as LeadPast}
use Rattle.tso_driver.specs.declared.reply.TickReply.TheVariants.{Moved, Idle, Lost as TickLost, ClockRange as TickPast, NotLeading}
use Rattle.tso_client.specs.declared.draw.DrawFault.TheVariants.{NotLeader, Stale, Again}
use Rattle.tso_outcome.specs.Drives.{Drove, held_by, raised}
use Rattle.tso_driver.specs.Driving.{DriverTold, ClaimsGrow, Publishes}
use Rattle.tso_outcome.specs.Clients.{Client, Drew, asked_by}
use Rattle.tso_outcome.proofs.Passes.{pass_kept, ClientTold}
use Rattle.tso_outcome.specs.Runs.{Run, ClientPart}
use Rattle.tso_outcome.specs.Refusals.{GaveEnd, IsAgain, KeepsAgain, KeepRefusals}
use Rattle.tso_outcome.proofs.Ended.{CameBack}
use Rattle.tso_outcome.specs.Ends.{DriverEnd, ClientEnd}
use Rattle.tso_model.specs.Moves.{driver_view, client_view}
use Rattle.tso_outcome.proofs.Chains.{drew_client, drew_asked, drew_refusals}
use Rattle.tso_outcome.proofs.Drives.{drove_split, drove_kept, drove_claimed, IsClaimed, WasPublished}
use Rattle.tso_outcome.proofs.Above.{client_end, client_at, to_map}
use Rattle.tso_model.proofs.Sorted.{one_key}
use Rattle.tso_outcome.proofs.Known.{open_made, once, the_history, claims_stand, driver_of_claim, claim_in, claim_is, driver_of_word, driver_of_start, refusal_in, others_added}

-- the answer that gave an end, with the window that it spoke of
record Gave (d : ℕ) (before : List DriverAnswer) (said : DriverSaid) (hi term : ℕ) (last : View) : Type 0 where
  lo : ℕ
  gave : GaveEnd d before said hi lo
  some : 0 < lo
  claim : Claim
  there : Contains (claims last) claim
  term_is : claim.window.term ≡ term
  lo_is : claim.window.lo ≡ lo

-- a claim that the driver has after the call, in the end
abbrev Lasts : View → View → Type 0
Lasts new last = (c : Claim) → Contains (claims new) c → (e : Claim) × Contains (claims last) e × Extends c e × (e.at ≡ c.at)

abbrev IsLow : View → Type 0
IsLow last = (e : Claim) → Contains (claims last) e → e.window.term < 262144

gave_end : (d hi term : ℕ) (before : List DriverAnswer) (said : DriverSaid) (old new last : View) → DriverTold said old new → ClaimsGrow old new → Lasts new last → IsLow last → IsClaimed (held_by d None before) old
    → 0 < term → term < 262144 → Publishes (held_by d None before) said (packed hi term) → Gave d before said hi term last
gave_end d hi term before (Led now (Won t lo h)) old new last told grow lasts low claimed pos most pub_ =
    let e = lasts (claim (window t new.driver lo h) told.saved) told.stands in
    let t_is : e.0.window.term ≡ t = e.2.term in
    let t_low : t < 262144 = omega (arith, low e.0 e.1, t_is) in
    let same : t ≡ term = omega (arith, pub_, t_low, most) in
    let end_is : h ≡ hi = omega (arith, pub_, t_low, most) in
    record { lo = lo; gave = (end_is, refl); some = omega (arith, told.plan.0); claim = e.0; there = e.1; term_is = t_is ∙ same; lo_is = e.2.lo (omega (arith, told.plan.1)) }
gave_end d hi term before (Led now (Beaten found)) old new last told grow lasts low claimed pos most pub_ = absurd pub_
gave_end d hi term before (Led now (LeadLost found)) old new last told grow lasts low claimed pos most pub_ = absurd (omega (arith, pub_, pos))
gave_end d hi term before (Led now TermsSpent) old new last told grow lasts low claimed pos most pub_ = absurd pub_
gave_end d hi term before (Led now LeadPast) old new last told grow lasts low claimed pos most pub_ = absurd pub_
gave_end d hi term before (Ticked now (Moved next h)) old new last told grow lasts low claimed pos most pub_ =
    let held = claimed pub_.0 pub_.1 in
    let f = grow.kept held.0 held.1 in
    let f_open : IsOpen f.0.window = omega (arith, f.2.lo held.4, f.2.hi, held.4) in
    let e = lasts f.0 f.1 in
    let t_is : e.0.window.term ≡ pub_.0.term = e.2.term ∙ f.2.term ∙ held.2 in
    let t_low : pub_.0.term < 262144 = omega (arith, low e.0 e.1, t_is) in
    let same : pub_.0.term ≡ term = omega (arith, pub_.2, t_low, most) in
    let end_is : h ≡ hi = omega (arith, pub_.2, t_low, most) in
    record { lo = pub_.0.lo; gave = (end_is, (pub_.0, pub_.1, refl)); some = held.5; claim = e.0; there = e.1; term_is = t_is ∙ same; lo_is = e.2.lo f_open ∙ f.2.lo held.4 ∙ held.3 }
gave_end d hi term before (Ticked now Idle) old new last told grow lasts low claimed pos most pub_ = absurd pub_
gave_end d hi term before (Ticked now (TickLost found)) old new last told grow lasts low claimed pos most pub_ = absurd (omega (arith, pub_, pos))
gave_end d hi term before (Ticked now TickPast) old new last told grow lasts low claimed pos most pub_ = absurd pub_
gave_end d hi term before (Ticked now NotLeading) old new last told grow lasts low claimed pos most pub_ = absurd pub_
gave_end d hi term before (Resigned true) old new last told grow lasts low claimed pos most pub_ = absurd (omega (arith, pub_, pos))
gave_end d hi term before (Resigned false) old new last told grow lasts low claimed pos most pub_ = absurd pub_

module _ (run : Run) (b : CameBack run) where
  -- the answer at which this limit was published
  gave_at : (e : DriverEnd) → Contains b.drivers e → (hi term : ℕ) → 0 < term → term < 262144 → (w : WasPublished e.part.number None e.part.answers (packed hi term)) → Gave e.part.number w.before w.one.said hi term e.view
  gave_at e h hi term pos most w =
      let first : View = driver_view run.setup e.part.number in
      let s = drove_split first w.before w.one w.after e.view (subst (λ l. Drove first l e.view) w.is (b.drove e h).1) in
      gave_end e.part.number hi term w.before w.one.said s.old s.new e.view s.did.told s.did.windows (drove_kept s.new w.after e.view s.on) (λ c z. (claim_is run b e h c z).2)
      (drove_claimed e.part.number None first w.before s.old s.to (λ x q. absurd (cc q))) pos most w.publishes

  again_by : (c d n at hi sum : ℕ) (before : List ClientAnswer) → sum ≤ asked_by d before → passes at hi n ≡ true → Bounded (the_history run b) (record { client = c; driver = d; at = at; hi = hi; count = n; sum = sum }) → (m : ℕ) → m ≡ n
      → IsAgain run c before d n at hi m
  again_by c d n at hi sum before less pass bounded m m_is =
      let claim_there = claims_stand run b bounded.claim bounded.stands in
      let driven : 0 < bounded.claim.window.driver = opened claim_there in
      let mine = driver_of_claim run b bounded.claim claim_there driven in
      let mine_is = claim_is run b mine.0 mine.1 bounded.claim mine.2 in
      let e = driver_of_word run b (record { driver = d; word = packed hi bounded.claim.window.term }) bounded.told in
      let g = gave_at e.0 e.1 hi bounded.claim.window.term (omega (arith, mine_is.1)) mine_is.2 e.3 in
      let same = one_key (λ (c : Claim). c.window.term) b.claims b.claims_rise g.claim bounded.claim (claim_in run b e.0 e.1 g.claim g.there) claim_there g.term_is in
      let lo_is : bounded.claim.window.lo ≡ g.lo = ap (λ (x : Claim). x.window.lo) (sym same) ∙ g.lo_is in
      let number : e.0.part.number ≡ d = sym e.2 in
      let raised_there : Contains (raised e.0.part.answers) bounded.start = ⊎_elim
      (λ (z : bounded.start ≡ 0). absurd (omega (arith, z, bounded.begins, lo_is, g.some)))
      (λ (z : Contains (the_history run b).starts (record { driver = d; at = bounded.start })). let f = driver_of_start run b d bounded.start z in
      let one : f.0 ≡ e.0 = once (λ (x : DriverEnd). x.part.number) b.drivers b.drivers_once f.0 e.0 f.1 e.1 (f.2 ∙ e.2) in
      subst (λ (x : DriverEnd). Contains (raised x.part.answers) bounded.start) one f.3)
      bounded.made in
      record {
        count = m_is;
        passed = subst (λ x. passes at hi x ≡ true) (sym m_is) pass;
        driver = e.0.part;
        there = subst (λ l. Contains l e.0.part) (sym b.drivers_are) (to_map (λ (x : DriverEnd). x.part) b.drivers e.0 e.1);
        number = number;
        place = record { before = e.3.before; one = e.3.one; after = e.3.after; is = e.3.is };
        lo = g.lo;
        gave = subst (λ x. GaveEnd x e.3.before e.3.one.said hi g.lo) number g.gave;
        start = bounded.start;
        raised_to = raised_there;
        begins = omega (arith, bounded.begins, lo_is);
        low = bounded.low;
        high = omega (arith, bounded.high, less, others_added run b c d);
      }
    where
      opened : Contains b.claims bounded.claim → 0 < bounded.claim.window.driver
      opened h = open_made run b bounded.claim h bounded.open_is

  keeps_again : (e : ClientEnd) → Contains b.clients e → (before : List ClientAnswer) (line : ℕ) (said : ClientSaid) (after : List ClientAnswer) → (old new : Client) → Drew (record { view = client_view run.setup e.part.number; slip = [] }) before old
      → ClientTold said old.view new.view → Drew new after e.last → KeepsAgain run e.part.number before said
  keeps_again e h before line (Took d n (Ok x)) after old new to told on = tt
  keeps_again e h before line (Took d n (Err NotLeader)) after old new to told on = tt
  keeps_again e h before line (Took d n (Err (Stale term))) after old new to told on = tt
  keeps_again e h before line (Took d n (Err (Again at hi m))) after old new to told on =
      let first : Client = record { view = client_view run.setup e.part.number; slip = [] } in
      let client_is : old.view.client ≡ e.part.number = drew_client first before old to in
      let r : Refusal = record { client = old.view.client; driver = d; at = at; hi = hi; count = n; sum = added_by old.view.client d old.view.added } in
      let there = refusal_in run b e h r (drew_refusals new after e.last on r told.0.refusal) in
      let known = All-contains (λ (x : Refusal). (passes x.at x.hi x.count ≡ true) × Bounded (the_history run b) x) (the_history run b).refusals r b.gathered.c.refusals there in
      again_by e.part.number d n at hi (added_by old.view.client d old.view.added) before
      (omega (arith, added_parts old.view.client d old.view.added, drew_asked d first before old to))
      known.0 (subst (λ c. Bounded (the_history run b) (record { client = c; driver = d; at = at; hi = hi; count = n; sum = added_by old.view.client d old.view.added })) client_is known.1) m told.0.count
  keeps_again e h before line (Told note) after old new to told on = tt
  keeps_again e h before line (Heard heard) after old new to told on = tt

pub keep_refusals : (run : Run) → CameBack run → KeepRefusals run
keep_refusals run b = record {
  again = λ part h before a after is. let e = client_end run b part h in
      let s = client_at run b e.0 e.1 before a after (ap (λ (p : ClientPart). p.answers) e.2 ∙ is) in
      subst (λ c. KeepsAgain run c before a.said) (ap (λ (p : ClientPart). p.number) e.2) (keeps_again run b e.0 e.1 before a.line a.said after s.old s.new s.to (pass_kept a.said s.old.view s.new.view s.did.pass).told s.on);
}
