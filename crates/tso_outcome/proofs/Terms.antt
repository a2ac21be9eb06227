-- `beaten` and `lost` name another's term, and `stale` and `not-leader` have their cause.
use Rattle.std.proofs.Common.{◌≡◌, ◌≢◌, ℕ, ◌%◌, ◌/◌, ◌<◌, ◌≤◌, true, false, List, [], ◌∷◌, ◌++◌, sym, refl, ap, ◌∙◌, subst, ⊎_elim, arith}
use Rattle.std.specs.Prelude.{Contains, None, Ok, Err}
use Rattle.std.proofs.lemmas.List.Elements.{All-contains, All-contains_itself, All-map, All-weaker, Contains-append_right}
use Rattle.pd_types.specs.declared.oracle.CellWord.{CellWord}
use Rattle.pd_types.specs.declared.oracle.Seen.{Seen}
use Rattle.pd_types.specs.declared.oracle.Window.{Window}
use Rattle.tso_model.specs.declared.entries.Claim.{Claim}
use Rattle.tso_model.specs.declared.entries.Published.{Published}
use Rattle.tso_model.specs.declared.entries.Look.{Look}
use Rattle.tso_model.specs.declared.view.View.{View}
use Rattle.tso_model.specs.History.{Names, claims}
use Rattle.tso_model.specs.Ledger.{IsRisingBy}
use Rattle.tso_model.specs.Moves.{nothing_seen, driver_view, client_view}
use Rattle.tso_model.specs.Sound.{Looked}
use Rattle.tso_model.proofs.Basics.{in_head, in_nil}
use Rattle.tso_driver.specs.declared.said.DriverSaid.{DriverSaid}
use Rattle.tso_outcome.specs.declared.said.ClientSaid.{ClientSaid}
use Rattle.tso_outcome.specs.declared.said.DriverAnswer.{DriverAnswer}
use Rattle.tso_outcome.specs.declared.said.ClientAnswer.{ClientAnswer}
use Rattle.tso_driver.specs.declared.said.DriverSaid.TheVariants.{Led, Ticked, Resigned}
use Rattle.tso_outcome.specs.declared.said.ClientSaid.TheVariants.{Took, Told, Heard}
use Rattle.tso_driver.specs.declared.reply.LeadReply.TheVariants.{Won, Beaten, Lost as LeadLost, TermsSpent, ClockRange as LeadPast}
use Rattle.tso_driver.specs.declared.reply.TickReply.TheVariants.{Moved, Idle, Lost as TickLost, ClockRange as TickPast, NotLeading}
use Rattle.tso_client.specs.declared.draw.DrawFault.TheVariants.{NotLeader, Stale, Again}
use Rattle.tso_outcome.specs.Drives.{Drove, held_by}
use Rattle.tso_driver.specs.Driving.{DriverDid, DriverTold, IsFoundAbove, Publishes, terms}
use Rattle.tso_outcome.specs.Clients.{Client, Drew, posted}
use Rattle.tso_outcome.proofs.Passes.{pass_kept, ClientTold, HasLooked}
use Rattle.tso_outcome.specs.Runs.{Run, DriverPart, ClientPart}
use Rattle.tso_outcome.specs.Terms.{GivesUp, ClaimedBy, HadClaimed, IsByAnother, KeepsFound, KeepsLooks, KeepTerms}
use Rattle.tso_client.specs.Posts.{entries_of}
use Rattle.tso_outcome.proofs.Ended.{CameBack}
use Rattle.tso_outcome.specs.Ends.{DriverEnd, ClientEnd}
use Rattle.tso_outcome.proofs.Chains.{drew_seen, drew_looks, drew_slip}
use Rattle.tso_outcome.proofs.Drives.{DriverSplit, drove_split, drove_opening, drove_driver, drove_cells, drove_kept, drove_back, drove_own, drove_terms, drove_claimed, IsClaimed}
use Rattle.tso_outcome.proofs.Above.{client_end, client_at, in_map, to_map}
use Rattle.tso_outcome.proofs.Known.{once, the_history, claims_stand, stand_claims, driver_of_claim, claim_in, claim_is, window_in, driver_of_word, look_in, later_made, has_term}

pub driver_end : (run : Run) (b : CameBack run) (part : DriverPart) → Contains run.drivers part → (e : DriverEnd) × Contains b.drivers e × (e.part ≡ part)
driver_end run b part h = in_map (λ (e : DriverEnd). e.part) b.drivers part (subst (λ l. Contains l part) b.drivers_are h)

-- one answer of a driver with what it knew before and after
pub driver_at : (run : Run) (b : CameBack run) (e : DriverEnd) → Contains b.drivers e → (before : List DriverAnswer) (a : DriverAnswer) (after : List DriverAnswer) → e.part.answers ≡ before ++ a ∷ after
    → DriverSplit (driver_view run.setup e.part.number) before a after e.view
driver_at run b e h before a after is = drove_split (driver_view run.setup e.part.number) before a after e.view (subst (λ l. Drove (driver_view run.setup e.part.number) l e.view) is (b.drove e h).1)

module _ (run : Run) (b : CameBack run) where
  -- WHAT A DRIVER FOUND
  -- what a call makes of the calls before it
  drove_push : (first : View) (before : List DriverAnswer) (old : View) → Drove first before old → (a : DriverAnswer) (new : View) → DriverDid a.said old new → Drove first (before ++ a ∷ []) new
  drove_push first [] old to a new did = (new, subst (λ v. DriverDid a.said v new) (sym to) did, refl)
  drove_push first (x ∷ rest) old to a new did = (to.0, to.1, drove_push to.0 rest old to.2 a new did)

  module _ (e : DriverEnd) (h : Contains b.drivers e) where
    abbrev first : View
    first = driver_view run.setup e.part.number

    -- a driver's terms once it had given these answers
    had_claimed : (answers : List DriverAnswer) (new : View) → Drove first answers new → (after : List DriverAnswer) → Drove new after e.view → HadClaimed run e.part.number answers (terms new)
    had_claimed answers new to after on =
        let t = drove_terms first answers new to in
        record {
          claimed = subst (ClaimedBy answers) (sym t.grown) t.claimed;
          rise = subst (IsRisingBy (λ (term : ℕ). term)) (sym t.grown) t.rise;
          own = All-map (λ term. (w : Window) × Contains run.windows w × (w.driver ≡ e.part.number) × (w.term ≡ term)) (λ (c : Claim). c.window.term) (claims new)
              (All-weaker (Contains (claims new)) (λ (c : Claim). (w : Window) × Contains run.windows w × (w.driver ≡ e.part.number) × (w.term ≡ c.window.term))
              (λ c there. let k = drove_kept new after e.view on c there in (k.0.window, window_in run b k.0 (claim_in run b e h k.0 k.1), (claim_is run b e h k.0 k.1).0, k.2.term))
              (claims new) (All-contains_itself (claims new)));
        }

    by_another : (before : List DriverAnswer) (a : DriverAnswer) (after : List DriverAnswer) (old new : View) → Drove first before old → DriverDid a.said old new → Drove new after e.view
        → (found : CellWord) → IsFoundAbove found new → IsByAnother run e.part.number (before ++ a ∷ []) found
    by_another before a after old new to did on found above =
        let known = b.unites.cells e.view (to_map (λ (x : DriverEnd). x.view) b.drivers e h) in
        let own : (x : Claim) → Contains (claims new) x → x.window.driver ≡ new.driver = λ x z. did.windows.own (λ y q. drove_own first before old to (λ u w. in_nil u w) y q ∙ sym (drove_driver first before old to)) x z ∙ sym did.driver in
        let opening : run.setup.cell.term < found.term = omega (arith, above.higher.0, ap (λ (x : CellWord). x.term) (did.opening ∙ drove_opening first before old to)) in
        let below : (x : Claim) → Contains (claims new) x → x.window.term < found.term = λ x z. All-contains (λ (c : Claim). c.window.driver ≡ new.driver → c.window.term < found.term) (claims new) x above.higher.1 z (own x z) in
        let high : found.term ≤ (the_history run b).newest.window.term = omega (arith, above.known, (drove_cells new after e.view on).0, known.0, b.gathered.a.known.0) in
        let c = has_term run b found.term (omega (arith, opening)) high in
        let made = later_made run b c.0 c.1 (omega (arith, opening, c.2)) in
        record {
          window = c.0.window;
          there = window_in run b c.0 c.1;
          term_is = c.2;
          another = (
            made,
            λ (mine : c.0.window.driver ≡ e.part.number).
                let f = driver_of_claim run b c.0 c.1 made in
                let one : f.0 ≡ e = once (λ (x : DriverEnd). x.part.number) b.drivers b.drivers_once f.0 e f.1 h (sym (claim_is run b f.0 f.1 c.0 f.2).0 ∙ mine) in
                let in_end : Contains (claims e.view) c.0 = subst (λ (x : DriverEnd). Contains (claims x.view) c.0) one f.2 in
                ⊎_elim
                (λ (z : (x : Claim) × Contains (claims new) x × (x.window.term ≡ c.0.window.term)). absurd (omega (arith, below z.0 z.1, z.2, c.2)))
                (λ (z : (new.cell.term < c.0.window.term) × (c.0.window.term < 262144)). absurd (omega (arith, z.0, above.known, c.2)))
                (drove_back new after e.view on c.0 in_end),
          );
          terms = terms new;
          claimed = had_claimed (before ++ a ∷ []) new (drove_push first before old to a new did) after on;
          above = All-map (λ term. term < found.term) (λ (c : Claim). c.window.term) (claims new) (All-weaker (Contains (claims new)) (λ (c : Claim). c.window.term < found.term) below (claims new) (All-contains_itself (claims new)));
        }

    keeps_found : (before : List DriverAnswer) (a : DriverAnswer) (after : List DriverAnswer) (old new : View) → Drove first before old → DriverDid a.said old new → Drove new after e.view → KeepsFound run e.part.number (before ++ a ∷ []) a.said
    keeps_found before a after old new to did on = by_said a.said did.told
      where
        by_said : (said : DriverSaid) → DriverTold said old new → KeepsFound run e.part.number (before ++ a ∷ []) said
        by_said (Led now (Won term lo hi)) told = tt
        by_said (Led now (Beaten found)) told = by_another before a after old new to did on found told
        by_said (Led now (LeadLost found)) told = by_another before a after old new to did on found told
        by_said (Led now TermsSpent) told = tt
        by_said (Led now LeadPast) told = tt
        by_said (Ticked now (Moved next hi)) told = tt
        by_said (Ticked now Idle) told = tt
        by_said (Ticked now (TickLost found)) told = by_another before a after old new to did on found told.1
        by_said (Ticked now TickPast) told = tt
        by_said (Ticked now NotLeading) told = tt
        by_said (Resigned held) told = tt

  -- WHAT A CLIENT LOOKED UP
  looked : (e : ClientEnd) → Contains b.clients e → (after : List ClientAnswer) (old new : Client) (d word : ℕ) → Drew new after e.last → HasLooked d word old.view new.view → Looked (the_history run b) (record { client = old.view.client; driver = d; word = word; seen = old.view.seen })
  looked e h after old new d word on has =
      let l : Look = record { client = old.view.client; driver = d; word = word; seen = old.view.seen } in
      All-contains (Looked (the_history run b)) (the_history run b).looks l b.gathered.c.looks (look_in run b e h l (drew_looks new after e.last on l has))

  -- an answer that published 0 gave the term up
  gave_up : (d : ℕ) (before : List DriverAnswer) (said : DriverSaid) (old new : View) → DriverTold said old new → IsClaimed (held_by d None before) old → ((c : Claim) → Contains (claims old) c → 0 < c.window.term) → Publishes (held_by d None before) said 0 → GivesUp said
  gave_up d before (Led now (Won term lo hi)) old new told claimed pos is = absurd (omega (arith, is, told.plan.1))
  gave_up d before (Led now (Beaten found)) old new told claimed pos is = absurd is
  gave_up d before (Led now (LeadLost found)) old new told claimed pos is = tt
  gave_up d before (Led now TermsSpent) old new told claimed pos is = absurd is
  gave_up d before (Led now LeadPast) old new told claimed pos is = absurd is
  gave_up d before (Ticked now (Moved next hi)) old new told claimed pos is = let c = claimed is.0 is.1 in absurd (omega (arith, is.2, pos c.0 c.1, c.2))
  gave_up d before (Ticked now Idle) old new told claimed pos is = absurd is
  gave_up d before (Ticked now (TickLost found)) old new told claimed pos is = tt
  gave_up d before (Ticked now TickPast) old new told claimed pos is = absurd is
  gave_up d before (Ticked now NotLeading) old new told claimed pos is = absurd is
  gave_up d before (Resigned true) old new told claimed pos is = tt
  gave_up d before (Resigned false) old new told claimed pos is = absurd is

  silenced : (d : ℕ) → Contains (the_history run b).published (record { driver = d; word = 0 }) → (p : DriverPart) × Contains run.drivers p × (p.number ≡ d) × ((a : DriverAnswer) × Contains p.answers a × GivesUp a.said)
  silenced d h =
      let e = driver_of_word run b (record { driver = d; word = 0 }) h in
      let first : View = driver_view run.setup e.0.part.number in
      let s = driver_at run b e.0 e.1 e.3.before e.3.one e.3.after e.3.is in (
        e.0.part,
        subst (λ l. Contains l e.0.part) (sym b.drivers_are) (to_map (λ (x : DriverEnd). x.part) b.drivers e.0 e.1),
        sym e.2,
        (
          e.3.one,
          subst (λ l. Contains l e.3.one) (sym e.3.is) (Contains-append_right e.3.before (e.3.one ∷ e.3.after) e.3.one (in_head e.3.one e.3.after)),
          gave_up e.0.part.number e.3.before e.3.one.said s.old s.new s.did.told (drove_claimed e.0.part.number None first e.3.before s.old s.to (λ x q. absurd (cc q)))
              (λ c z. ⊎_elim (λ (y : (x : Claim) × Contains (claims first) x × (x.window.term ≡ c.window.term)). in_nil y.0 y.1) (λ (y : (run.setup.cell.term < c.window.term) × (c.window.term < 262144)). omega (arith, y.0)) (drove_back first e.3.before s.old s.to c z))
              e.3.publishes,
        ),
      )

  window_of : (w : Window) → Contains run.windows w → (c : Claim) × Contains b.claims c × (c.window ≡ w)
  window_of w h = in_map (λ (c : Claim). c.window) b.claims w (subst (λ l. Contains l w) b.windows_are h)

  keeps_looks : (e : ClientEnd) → Contains b.clients e → (before : List ClientAnswer) (said : ClientSaid) (after : List ClientAnswer) (old new : Client) → Drew (record { view = client_view run.setup e.part.number; slip = [] }) before old → ClientTold said old.view new.view → Drew new after e.last
      → KeepsLooks run before said
  keeps_looks e h before (Took d n (Ok x)) after old new to told on = tt
  keeps_looks e h before (Took d n (Err (Again at hi m))) after old new to told on = tt
  keeps_looks e h before (Took d n (Err NotLeader)) after old new to told on = λ w there term_is driver_is.
      let seen = drew_seen (record { view = client_view run.setup e.part.number; slip = [] }) before old to in
      let c = window_of w there in
      silenced d ((looked e h after old new d 0 on told.0).none refl c.0 (stand_claims run b c.0 c.1) (ap (λ (x : Window). x.term) c.2 ∙ term_is ∙ sym (ap (λ (s : Seen). s.term) seen)) (ap (λ (x : Window). x.driver) c.2 ∙ driver_is))
  keeps_looks e h before (Took d n (Err (Stale term))) after old new to told on =
      let seen = drew_seen (record { view = client_view run.setup e.part.number; slip = [] }) before old to in
      let l = looked e h after old new d told.0.word on told.0.look in
      let name = All-contains (λ (p : Published). p.word ≢ 0 → Names (the_history run b) p.driver (p.word % 262144) (p.word / 262144)) (the_history run b).published (record { driver = d; word = told.0.word }) b.gathered.a.named (l.some told.0.some) told.0.some in
      record {
        seen = told.0.term_is ∙ ap (λ (s : Seen). s.term) seen;
        window = name.claim.window;
        there = window_in run b name.claim (claims_stand run b name.claim name.stands);
        driver = name.driver_is;
        earlier = omega (arith, name.term_is, told.0.below);
      }
  keeps_looks e h before (Told note) after old new to told on = tt
  keeps_looks e h before (Heard heard) after old new to told on = tt

pub keep_terms : (run : Run) → CameBack run → KeepTerms run
keep_terms run b = record {
  found = λ part h before a after is. let e = driver_end run b part h in
      let s = driver_at run b e.0 e.1 before a after (ap (λ (p : DriverPart). p.answers) e.2 ∙ is) in
      subst (λ d. KeepsFound run d (before ++ a ∷ []) a.said) (ap (λ (p : DriverPart). p.number) e.2) (keeps_found run b e.0 e.1 before a after s.old s.new s.to s.did s.on);
  looks = λ part h before a after is. let e = client_end run b part h in
      let s = client_at run b e.0 e.1 before a after (ap (λ (p : ClientPart). p.answers) e.2 ∙ is) in
      keeps_looks run b e.0 e.1 before a.said after s.old s.new s.to (pass_kept a.said s.old.view s.new.view s.did.pass).told s.on;
  post = b.post;
  told = λ part h. let e = client_end run b part h in
      subst (λ (p : ClientPart). entries_of p.number run.post ≡ posted p.number nothing_seen p.answers) e.2
      (b.slips e.0 e.1 ∙ drew_slip (record { view = client_view run.setup e.0.part.number; slip = [] }) e.0.part.answers e.0.last (b.drew e.0 e.1).1);
}
