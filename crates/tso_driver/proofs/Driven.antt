-- A lead, a tick and a resignation from what the board tells of their steps, and what they do to what the driver knows.
use Rattle.std.proofs.Common.{◌≡◌, ◌≢◌, ℕ, ◌+◌, ◌-◌, ◌*◌, ◌<◌, eqb, cond, Bool, true, false, sym, refl, ap, ◌∙◌, subst, inl, inr, ⊎_elim, arith, max, ne_eqb}
use Rattle.std.specs.Prelude.{Option, Some, None, nat_lt}
use Rattle.std.proofs.lemmas.Bool.{leb-true}
use Rattle.pd_types.specs.declared.oracle.CellWord.{CellWord}
use Rattle.pd_types.specs.declared.oracle.Window.{Window}
use Rattle.tso_model.specs.declared.entries.Claim.{Claim}
use Rattle.tso_model.specs.declared.view.View.{View}
use Rattle.tso_model.specs.Words.{IsOpen}
use Rattle.tso_model.specs.Steps.{held, held_or, HasClaim, knows, claimed, new_claim, saves, saved_claim, raised, marks}
use Rattle.tso_model.specs.Plan.{end_of, past_clock, lead_next, tick_next, saves_for}
use Rattle.tso_model.proofs.Basics.{by_bool, by_lt}
use Rattle.tso_board.specs.Told.{Rises, Missed, Read, Claimed, Saved, given_up, told_limit, holding, MayPublish}
use Rattle.tso_driver.specs.declared.said.DriverSaid.TheVariants.{Led, Ticked, Resigned}
use Rattle.tso_driver.specs.declared.reply.LeadReply.{LeadReply}
use Rattle.tso_driver.specs.declared.reply.LeadReply.TheVariants.{Won, Beaten, Lost as LeadLost, TermsSpent, ClockRange as LeadPast}
use Rattle.tso_driver.specs.declared.reply.TickReply.{TickReply}
use Rattle.tso_driver.specs.declared.reply.TickReply.TheVariants.{Moved, Idle, Lost as TickLost, ClockRange as TickPast, NotLeading}
use Rattle.tso_driver.specs.Driving.{DriverDid}
use Rattle.tso_driver.specs.Moments.{MayCampaign, claims_next, opens, Leads, probes, JustMoves, SavesAndMoves, TicksOver, TicksWith, Ticks, ResignsWith, Resigns}
use Rattle.tso_driver.specs.Settled.{IsSettled}
use Rattle.tso_driver.proofs.Leads.{led_spent, led_past, led_beaten, led_lost, led_won, won_lo, not_leading, not_resigned, resigned, ticked_idle, ticked_past, ticked_moved, ticked_lost, ticked_saved, some-inj}

-- WHAT A LEAD DID
pub did_lead : (now : ℕ) (reply : LeadReply) (v w : View) → Leads now reply v w → DriverDid (Led now reply) v w
did_lead now TermsSpent v w l = subst (DriverDid (Led now TermsSpent) v) (sym l.does.1) (led_spent now v l.read l.rises l.does.0)
did_lead now LeadPast v w l = subst (DriverDid (Led now LeadPast) v) (sym l.does.2) (led_past now v l.read l.rises l.does.1)
did_lead now (Beaten found) v w l =
    let m = l.does.2 in
    subst (DriverDid (Led now (Beaten found)) v) (sym m.view) (led_beaten now v l.read l.rises found m.rises m.higher)
did_lead now (LeadLost found) v w l =
    let m = l.does.1.misses in
    subst (DriverDid (Led now (LeadLost found)) v) (sym (l.does.1.gives ∙ ap given_up m.view)) (led_lost now v l.read l.rises found l.does.0.term m.rises m.higher)
did_lead now (Won term lo hi) v w l =
    let d = l.does in
    let all : w ≡ opens (lead_next l.read.saved now) l.read d.4 v = d.5 ∙ ap (λ x. opens x l.read d.4 v) d.2 in
    let end : hi ≡ end_of (lead_next l.read.saved now) = d.3 ∙ ap end_of d.2 in
    subst (λ (y : ℕ × ℕ × ℕ × View). DriverDid (Led now (Won y.0 y.1 y.2)) v y.3) (λ i. (sym d.1 i, sym d.2 i, sym end i, sym all i)) (led_won now v l.read l.rises d.4 d.0.term)

-- WHAT A LEAD MADE, BY ITS LAST STEP
module _ (now : ℕ) (v v1 : View) (cell : CellWord) (r : Read cell v v1) where
  pub from_spent : cell.term ≡ 262143 → Leads now TermsSpent v v1
  from_spent e = record { read = cell; cell = r.cell; rises = r.rises; does = (e, r.view) }

  has_term : cell.term ≢ 262143 → cell.term < 262143
  has_term ne = omega (arith, ne, r.cell.term)

  module _ (ne : cell.term ≢ 262143) (next : ℕ) (n : next ≡ lead_next cell.saved now) where
    pub from_past : past_clock next ≡ true → Leads now LeadPast v v1
    from_past e = record { read = cell; cell = r.cell; rises = r.rises; does = (has_term ne, ap past_clock (sym n) ∙ e, r.view) }

    module _ (in_clock : past_clock next ≡ false) where
      may : MayCampaign now cell
      may = record { term = has_term ne; clock = ap past_clock (sym n) ∙ in_clock }

      pub from_beaten : (v2 : View) (found : CellWord) → Missed found v1 v2 → found ≢ v1.cell → Leads now (Beaten found) v v2
      from_beaten v2 found m other = record { read = cell; cell = r.cell; rises = r.rises; does = (may, (λ e. other (e ∙ sym (ap (λ (x : View). x.cell) r.view))), subst (λ x. Missed found x v2) r.view m) }

      module _ (term : ℕ) (v2 : View) (c : Claimed term v1 v2) where
        has_claimed : v2 ≡ claims_next cell v
        has_claimed = c.view ∙ ap claimed r.view

        pub claim_there : HasClaim v2
        claim_there = (new_claim (knows cell v), ap (λ (x : View). x.latest) has_claimed)

        pub from_lost : (v3 v4 : View) (found : CellWord) → Missed found v2 v3 → v4 ≡ given_up v3 → Leads now (LeadLost found) v v4
        from_lost v3 v4 found m e = record { read = cell; cell = r.cell; rises = r.rises; does = (may, record { missed = v3; misses = subst (λ x. Missed found x v3) has_claimed m; gives = e }) }

        module _ (hi : ℕ) (h : hi ≡ end_of next) (v3 : View) (s : Saved hi v2 v3) (cursor : ℕ) (v4 : View) (e : v4 ≡ raised (next * 262144) cursor v3) where
          saved_is : v3 ≡ saves (end_of next) (claims_next cell v) (claims_next cell v).latest
          saved_is = s.view ∙ (λ i. saves (h i) (has_claimed i) (has_claimed i).latest)

          abbrev moved : View
          moved = raised (next * 262144) cursor (saves (end_of next) (claims_next cell v) (claims_next cell v).latest)

          raised_is : v4 ≡ moved
          raised_is = e ∙ ap (raised (next * 262144) cursor) saved_is

          lo_is : (saved_claim (end_of next) (new_claim (knows cell v))).window.lo ≡ next
          lo_is = subst (λ x. (saved_claim (end_of x) (new_claim (knows cell v))).window.lo ≡ x) (sym n) (won_lo now v cell r.rises)

          marked_is : (lo : ℕ) (m : Bool) → lo ≡ next → cond (nat_lt lo (end_of next)) (cond (nat_lt (next * 262144) (lo * 262144)) m true) m ≡ true
          marked_is lo m same = by_lt (λ b. cond b (cond (nat_lt (next * 262144) (lo * 262144)) m true) m ≡ true) lo (end_of next)
              (λ _. by_lt (λ b. cond b m true ≡ true) (next * 262144) (lo * 262144) (λ lt. absurd (omega (arith, lt, same))) (λ _. refl))
              (λ le. absurd (omega (arith, le, same)))

          pub may_publish : MayPublish v4
          may_publish = subst MayPublish (sym raised_is) (record {
            holds = refl;
            marked = marked_is (saved_claim (end_of next) (new_claim (knows cell v))).window.lo (saves (end_of next) (claims_next cell v) (claims_next cell v).latest).marked lo_is;
            claim = (saved_claim (end_of next) (new_claim (knows cell v)), refl);
            open_is = omega (arith, lo_is);
          })

          pub from_won : (v5 : View) → v5 ≡ told_limit v4 → Leads now (Won term next hi) v v5
          from_won v5 f = record {
            read = cell;
            cell = r.cell;
            rises = r.rises;
            does = (may, c.term_is ∙ ap (λ (x : View). x.cell.term + 1) r.view, n, h, cursor, f ∙ ap told_limit raised_is);
          }

-- a limit that was stored may be stored again
pub told_may : (v w : View) → w ≡ told_limit v → MayPublish v → MayPublish w
told_may v w e m = subst MayPublish (sym e) (record { holds = m.holds; marked = m.marked; claim = m.claim; open_is = m.open_is })

-- WHAT A TICK DID
pub leads_by : (v : View) (w : Window) → holding v ≡ Some w → (v.holds ≡ true) × (held v ≡ w)
leads_by v w = by_bool (λ b. cond b (Some (held v)) None ≡ Some w → (b ≡ true) × (held v ≡ w)) v.holds (λ _ e. (refl, some-inj (held v) w e)) (λ _ e. absurd (cc e))

none_by : (v : View) → holding v ≡ None → v.holds ≡ false
none_by v = by_bool (λ b. cond b (Some (held v)) None ≡ None → b ≡ false) v.holds (λ _ e. absurd (cc e)) (λ _ _. refl)

-- by the window that is held
by_holding : (P : Option Window → Type 0) (v : View) → (v.holds ≡ false → P None) → (v.holds ≡ true → P (Some (held v))) → P (holding v)
by_holding P v none some_ = by_bool (λ b. (b ≡ false → P None) → (b ≡ true → P (Some (held v))) → P (cond b (Some (held v)) None)) v.holds (λ _ _ f. f refl) (λ _ f _. f refl) none some_

did_over : (now : ℕ) (reply : TickReply) (v w : View) (leads : v.holds ≡ true) (settled : MayPublish v) (cursor : ℕ) → TicksOver now (held v) cursor reply v w → DriverDid (Ticked now reply) v w
did_over now NotLeading v w leads m cursor t = absurd t
did_over now Idle v w leads m cursor t = subst (DriverDid (Ticked now Idle) v) (sym t.1) (ticked_idle now v leads cursor t.0)
did_over now TickPast v w leads m cursor t = subst (DriverDid (Ticked now TickPast) v) (sym t.2) (ticked_past now v leads cursor t.0 t.1.goes t.1.ends t.1.clock)
did_over now (TickLost found) v w leads m cursor t =
    let z = t.2.misses in
    subst (DriverDid (Ticked now (TickLost found)) v) (sym (t.2.gives ∙ ap given_up z.view)) (ticked_lost now v leads cursor t.0 found t.1.goes t.1.ends t.1.clock z.rises z.higher)
did_over now (Moved next hi) v w leads m cursor t = ⊎_elim
    (λ (j : JustMoves now (held v) cursor next hi v w). subst (λ (y : ℕ × View). DriverDid (Ticked now (Moved next y.0)) v y.1) (λ i. (sym j.end i, sym j.view i)) (ticked_moved now v leads cursor next j.again j.goes j.stays))
    (λ (s : SavesAndMoves now (held v) cursor next hi v w). did_save s m.claim.0 m.claim.1)
    t
  where
    did_save : SavesAndMoves now (held v) cursor next hi v w → (c : Claim) → v.latest ≡ Some c → DriverDid (Ticked now (Moved next hi)) v w
    did_save s c own =
        let window_is : held v ≡ c.window = ap held_or own in
        let is_open : IsOpen c.window = omega (arith, m.open_is, ap (λ (x : Window). x.lo) window_is, ap (λ (x : Window). x.hi) window_is) in
        let mine : Rises v.cell (record { saved = c.window.hi; term = c.window.term }) = subst (λ (x : Window). Rises v.cell (record { saved = x.hi; term = x.term })) window_is s.own in
        let all : w ≡ told_limit (raised (next * 262144) s.again (saves (end_of next) (probes cursor v) (Some c))) = s.view ∙ ap (λ o. told_limit (raised (next * 262144) s.again (saves (end_of next) (probes cursor v) o))) own in
        subst (λ (y : ℕ × View). DriverDid (Ticked now (Moved next y.0)) v y.1) (λ i. (sym s.end i, sym all i)) (ticked_saved now v leads cursor c own is_open next s.again s.needs.goes s.needs.ends s.needs.clock mine)

-- a settled driver may publish, and the other way round
pub settled_may : (v : View) → v.holds ≡ true → HasClaim v → IsSettled v → MayPublish v
settled_may v leads has s = record { holds = leads; marked = (s leads).0; claim = has; open_is = (s leads).1 }

pub may_settled : (v : View) → MayPublish v → IsSettled v
may_settled v m _ = (m.marked, m.open_is)

-- a driver that holds a term has a window
pub has_window : (v : View) (o : Option Claim) → v.latest ≡ o → o ≢ None → HasClaim v
has_window v None e ne = absurd (ne refl)
has_window v (Some c) e _ = (c, e)

pub did_tick : (now : ℕ) (reply : TickReply) (v w : View) → (v.holds ≡ true → HasClaim v) → IsSettled v → Ticks now reply v w → DriverDid (Ticked now reply) v w
did_tick now reply v w has settled = by_holding (λ o. TicksWith o now reply v w → DriverDid (Ticked now reply) v w) v
    (λ none t. subst (λ (y : TickReply × View). DriverDid (Ticked now y.0) v y.1) (λ i. (sym t.0 i, sym t.1 i)) (not_leading now v none))
    (λ leads t. did_over now reply v w leads (settled_may v leads (has leads) settled) t.0 t.1)

pub did_resign : (held : Bool) (v w : View) → Resigns held v w → DriverDid (Resigned held) v w
did_resign held v w = by_holding (λ o. ResignsWith o held v w → DriverDid (Resigned held) v w) v
    (λ none t. subst (λ (y : Bool × View). DriverDid (Resigned y.0) v y.1) (λ i. (sym t.0 i, sym t.1 i)) (not_resigned 0 v none))
    (λ leads t. subst (λ (y : Bool × View). DriverDid (Resigned y.0) v y.1) (λ i. (sym t.0 i, sym t.1 i)) (resigned 0 v leads))

-- WHAT A TICK MADE, BY ITS LAST STEP
pub none_of : (o : Option ℕ) → ((x : ℕ) → o ≡ Some x → ⊥) → o ≡ None
none_of None h = refl
none_of (Some x) h = absurd (h x refl)

pub no_window : (o : Option Window) → ((x : Window) → o ≡ Some x → ⊥) → o ≡ None
no_window None h = refl
no_window (Some x) h = absurd (h x refl)

pub from_none : (now : ℕ) (v : View) → holding v ≡ None → Ticks now NotLeading v v
from_none now v e = subst (λ o. TicksWith o now NotLeading v v) (sym e) (refl, refl)

marks_stay : (at : ℕ) (v : View) → v.marked ≡ true → marks at v ≡ true
marks_stay at v e = by_bool (λ a. cond a (cond (nat_lt (held v).lo (held v).hi) (cond (nat_lt at ((held v).lo * 262144)) v.marked true) v.marked) v.marked ≡ true) v.holds
    (λ _. by_bool (λ a. cond a (cond (nat_lt at ((held v).lo * 262144)) v.marked true) v.marked ≡ true) (nat_lt (held v).lo (held v).hi)
    (λ _. by_bool (λ a. cond a v.marked true ≡ true) (nat_lt at ((held v).lo * 262144)) (λ _. e) (λ _. refl))
    (λ _. e))
    (λ _. e)

pub raised_may : (at found : ℕ) (v : View) → MayPublish v → MayPublish (raised at found v)
raised_may at found v m = record { holds = m.holds; marked = marks_stay at v m.marked; claim = m.claim; open_is = m.open_is }

-- a driver that raised its cursor is settled as before
pub raised_settled : (at found : ℕ) (v w : View) → w ≡ raised at found v → IsSettled v → IsSettled w
raised_settled at found v w e s = subst IsSettled (sym e) (λ leads. (marks_stay at v (s leads).0, (s leads).1))

saves_may : (hi : ℕ) (v : View) (c : Claim) → v.latest ≡ Some c → (held v).hi < hi → MayPublish v → MayPublish (saves hi v (Some c))
saves_may hi v c own more m =
    let mine : held v ≡ c.window = ap held_or own in
    let lo : (held v).lo ≡ c.window.lo = ap (λ (w : Window). w.lo) mine in
    let end : (held v).hi ≡ c.window.hi = ap (λ (w : Window). w.hi) mine in
    let shut : eqb c.window.lo c.window.hi ≡ false = ne_eqb c.window.lo c.window.hi (λ e. omega (arith, e, m.open_is, lo, end)) in
    record {
      holds = m.holds;
      marked = ap (λ b. cond b false v.marked) shut ∙ m.marked;
      claim = (saved_claim hi c, refl);
      open_is = let same : (saved_claim hi c).window.lo ≡ c.window.lo = ap (λ b. cond b (max (hi - 3000) c.window.hi) c.window.lo) shut in omega (arith, same, m.open_is, lo, end, more);
    }

module _ (now : ℕ) (v v1 : View) (w : Window) (h : holding v ≡ Some w) (cursor : ℕ) (e1 : v1 ≡ raised 0 cursor v) where
  over : (reply : TickReply) (u : View) → TicksOver now w cursor reply v u → Ticks now reply v u
  over reply u t = subst (λ o. TicksWith o now reply v u) (sym h) (cursor, t)

  pub from_idle : tick_next cursor w.hi now ≡ None → Ticks now Idle v v1
  from_idle e = over Idle v1 (e, e1)

  module _ (next : ℕ) (n : tick_next cursor w.hi now ≡ Some next) where
    pub from_too_late : saves_for next w.hi ≡ true → past_clock next ≡ true → Ticks now TickPast v v1
    from_too_late s p = over TickPast v1 (next, record { goes = n; ends = s; clock = p }, e1)

    pub from_moved : (again : ℕ) (v2 : View) → saves_for next w.hi ≡ false → v2 ≡ raised (next * 262144) again v1 → Ticks now (Moved next w.hi) v v2
    from_moved again v2 s e2 = over (Moved next w.hi) v2 (inl (record { goes = n; stays = s; end = refl; again = again; view = e2 ∙ ap (raised (next * 262144) again) e1 }))

    module _ (s : saves_for next w.hi ≡ true) (p : past_clock next ≡ false) where
      pub from_tick_lost : (v2 v3 : View) (found : CellWord) → Missed found v1 v2 → v3 ≡ given_up v2 → Ticks now (TickLost found) v v3
      from_tick_lost v2 v3 found m e = over (TickLost found) v3 (next, record { goes = n; ends = s; clock = p }, record { missed = v2; misses = subst (λ x. Missed found x v2) e1 m; gives = e })

      module _ (m : MayPublish v) (v2 : View) (saved : Saved (next + 3000) v1 v2) (again : ℕ) (v3 : View) (e : v3 ≡ raised (next * 262144) again v2) where
        own : held v ≡ w
        own = (leads_by v w h).1

        saved_end : v2 ≡ saves (end_of next) (raised 0 cursor v) v.latest
        saved_end = saved.view ∙ (λ i. saves (end_of next) (e1 i) (e1 i).latest)

        later : (held v).hi < end_of next
        later = omega (arith, leb-true (w.hi - next) 1 s, ap (λ (x : Window). x.hi) own)

        pub saved_may : MayPublish v3
        saved_may = subst MayPublish (sym (e ∙ ap (raised (next * 262144) again) (saved_end ∙ ap (saves (end_of next) (raised 0 cursor v)) m.claim.1)))
            (raised_may (next * 262144) again (saves (end_of next) (raised 0 cursor v) (Some m.claim.0)) (saves_may (end_of next) (raised 0 cursor v) m.claim.0 m.claim.1 later (raised_may 0 cursor v m)))

        pub from_saved : (v4 : View) → v4 ≡ told_limit v3 → Ticks now (Moved next (next + 3000)) v v4
        from_saved v4 f =
            let rises : Rises v.cell (record { saved = (held v).hi; term = (held v).term }) = subst (λ (x : View). Rises x.cell (record { saved = (held x).hi; term = (held x).term })) e1 saved.rises in
            over (Moved next (next + 3000)) v4 (inr (record {
              needs = record { goes = n; ends = s; clock = p };
              end = refl;
              own = subst (λ (x : Window). Rises v.cell (record { saved = x.hi; term = x.term })) own rises;
              again = again;
              view = f ∙ ap told_limit (e ∙ ap (raised (next * 262144) again) saved_end);
            }))

-- A RESIGNATION
pub from_resigned : (v v1 : View) (w : Window) → holding v ≡ Some w → v1 ≡ given_up v → Resigns true v v1
from_resigned v v1 w h e = subst (λ o. ResignsWith o true v v1) (sym h) (refl, e)

pub from_no_term : (v : View) → holding v ≡ None → Resigns false v v
from_no_term v e = subst (λ o. ResignsWith o false v v) (sym e) (refl, refl)
