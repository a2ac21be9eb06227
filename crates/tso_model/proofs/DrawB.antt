-- Part B: an added count, a raised cursor, a look, a load of a cursor.
use Rattle.std.proofs.Common.{◌≡◌, ◌≢◌, ℕ, suc, ◌+◌, ◌-◌, ◌*◌, ◌%◌, ◌^◌, ◌<◌, ◌≤◌, eqb, cond, true, false, List, [], ◌∷◌, ◌++◌, set, sym, refl, ap, ◌∙◌, subst, inl, inr, ⊎_elim, arith, max, get_or-set_other, get_or-set_same}
use Rattle.std.specs.Prelude.{All, Contains, slice_index, slice_set}
use mathlib.Core.Logic.{dite}
use mathlib.Core.Option.{some}
use native.Mathlib.Decide.{ℕ_discrete}
use lib.ListN.{get_elem?}
use Rattle.tso_model.proofs.ListAt.{at_set}
use Rattle.pd_types.specs.declared.oracle.Window.{Window}
use Rattle.tso_model.specs.declared.entries.Claim.{Claim}
use Rattle.tso_model.specs.declared.view.View.{View}
use Rattle.tso_model.specs.declared.entries.Limit.{Limit}
use Rattle.tso_model.specs.declared.entries.Start.{Start}
use Rattle.tso_model.specs.declared.entries.Grant.{Grant}
use Rattle.tso_model.specs.declared.view.Setup.{Setup}
use Rattle.tso_model.specs.Lists.{total}
use Rattle.tso_model.specs.History.{History, Names, greatest, added_by}
use Rattle.tso_model.proofs.Sums.{total-set, term_le}
use Rattle.std.proofs.lemmas.List.Elements.{All-cons}
use Rattle.std.proofs.Math.Nat.{mod-eq_of_lt}
use Rattle.std.specs.Prelude.{map}
use Rattle.tso_model.specs.Words.{packed, passes, opening_claim, limit_at, cursor_at, Inside, Falls}
use Rattle.tso_model.specs.declared.step.WordStep.TheVariants.{RaiseCursor, AddArmed}
use Rattle.tso_model.specs.Steps.{May, held, held_or, hand, hand_or, HasClaim, HasHand, raised, refused, batch_of, adds, granted}
use Rattle.tso_model.specs.Moves.{nothing_seen}
use Rattle.tso_model.specs.Sound.{PartA, FitsB, IsSeen, PartB, armed_at}
use Rattle.tso_model.proofs.Basics.{by_eq, by_bool, at_some, fits, in_one, chain_le, one_each, greatest-push}
use Rattle.tso_model.proofs.Growth.{same_windows, Grow, maker, seen_later, fitsB_later, own_number, latest_stands, live_driver, live_client}
use Rattle.tso_model.proofs.FrameB.{inside_kept, falls_kept, step_b, same_fits}

-- the limit in hand, by the names of the view
pub in_hand : (words : List ℕ) (h : History) (v : View) → FitsB words h v → HasHand v → Names h (hand v).driver (hand v).term (hand v).hi × Contains h.published (record { driver = (hand v).driver; word = packed (hand v).hi (hand v).term }) × (v.seen.term ≤ (hand v).term)
in_hand words h v f has =
    let same : hand v ≡ has.0 = ap hand_or has.1 in
    subst (λ (l : Limit). Names h l.driver l.term l.hi × Contains h.published (record { driver = l.driver; word = packed l.hi l.term }) × (v.seen.term ≤ l.term)) (sym same) (at_some v.hand _ f.hand_is has.0 has.1)

pub none_armed : (d : ℕ) (v : View) → v.armed ≡ 0 → armed_at d v ≡ 0
none_armed d v e = by_eq (λ t. let x : ℕ = cond t v.armed 0 in x ≡ 0) (hand v).driver d (λ _. e) (λ _. refl)

pub armed_here : (v : View) → armed_at (hand v).driver v ≡ v.armed
armed_here v = by_eq (λ t. let x : ℕ = cond t v.armed 0 in x ≡ v.armed) (hand v).driver (hand v).driver (λ _. refl) (λ ne. absurd (ne refl))

pub armed_most : (d : ℕ) (v : View) → armed_at d v ≤ v.armed
armed_most d v = by_eq (λ t. cond t v.armed 0 ≤ v.armed) (hand v).driver d (λ _. omega arith) (λ _. omega arith)

-- what is armed at one driver is at most what may be in all
pub armed_le : (d : ℕ) (views : List View) → ((id : ℕ) (v : View) → get_elem? views id ≡ some v → v.armed ≤ v.quota) → total (armed_at d) views ≤ total (λ v. v.quota) views
armed_le d [] h = omega arith
armed_le d (v ∷ vs) h = omega (arith, armed_most d v, h 0 v refl, armed_le d vs (λ id u e. h (suc id) u e))

pub every_armed : (k : Setup) (words : List ℕ) (views : List View) (h : History) → PartA k words views h → PartB k words views h → (id : ℕ) (v : View) → get_elem? views id ≡ some v → v.armed ≤ v.quota
every_armed k words views h a s id v at = by_bool (λ b. v.spent ≡ b → v.armed ≤ v.quota) v.spent (λ _ e. let x = a.gone id v at e in omega (arith, ap (λ (y : View). y.armed) x, ap (λ (y : View). y.quota) x)) (λ _ e. (s.each id v at e).armed.0) refl

-- the driver of the limit in hand is one of the drivers
pub hand_driver : (k : Setup) (words : List ℕ) (views : List View) (h : History) (d term hi : ℕ) → PartA k words views h → Names h d term hi → (0 < d) × (d ≤ k.drivers)
hand_driver k words views h d term hi a n = let own = maker k words views h n.claim a n.stands n.open_is in (omega (arith, own.0, n.driver_is), omega (arith, own.1, n.driver_is))

pub cursor_here : (k : Setup) (words : List ℕ) (views : List View) (h : History) (x d e : ℕ) → PartA k words views h → 0 < e → e ≤ k.drivers → d ≡ e → slice_index (slice_set words (cursor_at e) x) (cursor_at d) ≡ x
cursor_here k words views h x d e a pos le same = ap (λ (m : ℕ). slice_index (slice_set words (cursor_at e) x) (cursor_at m)) same ∙ get_or-set_same words (cursor_at e) x 0 (omega (arith, a.wide, le, pos))

pub cursor_else : (words : List ℕ) (x d e : ℕ) → d ≢ e → slice_index (slice_set words (cursor_at e) x) (cursor_at d) ≡ slice_index words (cursor_at d)
cursor_else words x d e ne = get_or-set_other words (cursor_at e) (cursor_at d) x 0 (λ (z : cursor_at d ≡ cursor_at e). ne (omega (arith, z)))

pub cursor_limit : (words : List ℕ) (x d e : ℕ) → 0 < d → slice_index (slice_set words (cursor_at e) x) (limit_at d) ≡ slice_index words (limit_at d)
cursor_limit words x d e pos = get_or-set_other words (cursor_at e) (limit_at d) x 0 (λ (z : limit_at d ≡ cursor_at e). omega (arith, z, pos))

pub cursor_grows : (k : Setup) (words : List ℕ) (views : List View) (h : History) (x e : ℕ) → PartA k words views h → 0 < e → e ≤ k.drivers → slice_index words (cursor_at e) ≤ x → Grow k words (slice_set words (cursor_at e) x)
cursor_grows k words views h x e a pos le up d pos' le' = dite (ℕ_discrete d e)
    (λ same. omega (arith, cursor_here k words views h x d e a pos le same, up, ap (λ (m : ℕ). slice_index words (cursor_at m)) same))
    (λ ne. omega (arith, cursor_else words x d e ne))

-- an addition to a cursor: the sum stays in the word
pub no_wrap : (k : Setup) (words : List ℕ) (views : List View) (h : History) (id : ℕ) (v : View) → PartA k words views h → PartB k words views h → get_elem? views id ≡ some v → 0 < v.client → HasHand v
    → (slice_index words (cursor_at (hand v).driver) + v.armed) % 2 ^ 64 ≡ slice_index words (cursor_at (hand v).driver) + v.armed
no_wrap k words views h id v a s at pos has =
    let own = in_hand words h v (s.each id v at (live_client k words views h id v a at pos)) has in
    let d = hand_driver k words views h (hand v).driver (hand v).term (hand v).hi a own.0 in
    let small : slice_index words (cursor_at (hand v).driver) + v.armed < 2 ^ 64 = omega (arith, s.cursors (hand v).driver d.0 d.1, term_le (armed_at (hand v).driver) views id v at, armed_here v, a.in_time) in
    mod-eq_of_lt small

-- the cursor bound, after a count that was armed was added
added_bound : (k : Setup) (words : List ℕ) (views : List View) (h : History) (id : ℕ) (v w : View) → PartA k words views h → PartB k words views h → get_elem? views id ≡ some v → w.armed ≡ 0 → 0 < (hand v).driver → (hand v).driver ≤ k.drivers
    → (d : ℕ) → 0 < d → d ≤ k.drivers → slice_index (slice_set words (cursor_at (hand v).driver) (slice_index words (cursor_at (hand v).driver) + v.armed)) (cursor_at d) + total (armed_at d) (set views id w) ≤ (h.newest.window.hi + 64) * 262144
added_bound k words views h id v w a s at free pos' le' d pos le =
    let e = (hand v).driver in
    let x = slice_index words (cursor_at e) + v.armed in
    let moved = total-set (armed_at d) views id v w at in
    dite (ℕ_discrete d e)
    (λ same. omega (arith, cursor_here k words views h x d e a pos' le' same, moved, none_armed d w free, s.cursors d pos le, ap (λ (m : ℕ). armed_at m v) same, armed_here v, ap (λ (m : ℕ). slice_index words (cursor_at m)) same))
    (λ ne. omega (arith, cursor_else words x d e ne, moved, none_armed d w free, s.cursors d pos le))

abbrev pub with_added : History → View → History
with_added h v = record h { added = h.added ++ record { client = v.client; driver = (hand v).driver; count = v.armed } ∷ [] }

abbrev pub with_refusal : History → View → ℕ → ℕ → History
with_refusal h v at n = record h { refusals = h.refusals ++ record { client = v.client; driver = (hand v).driver; at = at; hi = (hand v).hi; count = n; sum = added_by v.client (hand v).driver v.added } ∷ [] }

abbrev pub the_grant : View → ℕ → Grant
the_grant v at = record { client = v.client; batch = batch_of at v }

abbrev pub with_grant : History → View → ℕ → History
with_grant h v at = record h { drawn = λ t. cond (eqb t (hand v).term) (the_grant v at ∷ h.drawn t) (h.drawn t) }

abbrev pub drew : ℕ → View → View
drew at v = record (refused at v.armed v) { added = (adds v).added }

-- an addition to a cursor, where it passes
pub drew_b : (k : Setup) (words : List ℕ) (views : List View) (h : History) (id : ℕ) (v : View) → PartA k words views h → PartB k words views h → get_elem? views id ≡ some v → May k AddArmed v
    → PartB k (slice_set words (cursor_at (hand v).driver) (slice_index words (cursor_at (hand v).driver) + v.armed)) (slice_set views id (drew (slice_index words (cursor_at (hand v).driver)) v)) (with_refusal (with_added h v) v (slice_index words (cursor_at (hand v).driver)) v.armed)
drew_b k words views h id v a s at may =
    let live = live_client k words views h id v a at may.0 in
    let mine = s.each id v at live in
    let own = in_hand words h v mine may.1 in
    let d = hand_driver k words views h (hand v).driver (hand v).term (hand v).hi a own.0 in
    let e = (hand v).driver in
    let n = slice_index words (cursor_at e) in
    let g = with_refusal (with_added h v) v n v.armed in
    let w = drew n v in
    let more = slice_set words (cursor_at e) (n + v.armed) in
    let later = same_windows h g refl refl (λ d. omega arith) (λ p s. s) in
    let grow = cursor_grows k words views h (n + v.armed) e a d.0 d.1 (omega arith) in
    step_b k words views h id v more g w a s at record {
      later = later;
      drawn = λ t. refl;
      grow = grow;
      quota = refl;
      cursors = added_bound k words views h id v w a s at refl d.0 d.1;
      raised = λ f pos le. omega (arith, s.raised f pos le, grow f pos le);
      own = record {
        seen = ⊎_elim (λ (z : v.seen ≡ nothing_seen). inl z) (λ (z : IsSeen words h v.seen). inr (seen_later k words more views h g v.seen a later grow z)) mine.seen;
        hand_is = tt;
        armed = (omega arith, λ pos. absurd (omega (arith, pos)));
      };
    }

-- an addition to a cursor, where it does not pass
pub granted_b : (k : Setup) (words : List ℕ) (views : List View) (h : History) (id : ℕ) (v : View) → PartA k words views h → PartB k words views h → get_elem? views id ≡ some v → May k AddArmed v
    → passes (slice_index words (cursor_at (hand v).driver)) (hand v).hi v.armed ≡ false
    → PartB k (slice_set words (cursor_at (hand v).driver) (slice_index words (cursor_at (hand v).driver) + v.armed)) (slice_set views id (granted (slice_index words (cursor_at (hand v).driver)) v)) (with_grant (with_added h v) v (slice_index words (cursor_at (hand v).driver)))
granted_b k words views h id v a s at may fit =
    let live = live_client k words views h id v a at may.0 in
    let mine = s.each id v at live in
    let own = in_hand words h v mine may.1 in
    let name = own.0 in
    let d = hand_driver k words views h (hand v).driver (hand v).term (hand v).hi a name in
    let e = (hand v).driver in
    let t = (hand v).term in
    let n = slice_index words (cursor_at e) in
    let g = with_grant (with_added h v) v n in
    let w = granted n v in
    let more = slice_set words (cursor_at e) (n + v.armed) in
    let later = same_windows h g refl refl (λ d. omega arith) (λ p s. s) in
    let grow = cursor_grows k words views h (n + v.armed) e a d.0 d.1 (omega arith) in
    let back : n + v.armed - v.armed ≡ n = omega arith in
    let room = fits n (hand v).hi v.armed fit in
    let lies : Inside name.claim.window (batch_of n v) = (sym name.term_is, sym name.driver_is, name.open_is, may.2, omega (arith, name.raised, s.raised e d.0 d.1), omega (arith, room, name.ends), subst (λ (m : ℕ). m % 262144 + v.armed < 262144) (sym back) (in_one n (hand v).hi v.armed fit)) in
    record {
      inside = λ c stands. by_eq (λ b. All (λ (x : Grant). Inside c.window x.batch) (cond b (the_grant v n ∷ h.drawn c.window.term) (h.drawn c.window.term))) c.window.term t
          (λ same. All-cons (λ (x : Grant). Inside c.window x.batch) (the_grant v n) (h.drawn c.window.term)
          (subst (λ (y : Claim). Inside y.window (batch_of n v)) (one_each (opening_claim k.cell) h.newest h.past a.chain name.claim c name.stands stands (name.term_is ∙ sym same)) lies)
          (inside_kept k words views h g a s later c stands))
          (λ _. inside_kept k words views h g a s later c stands);
      falls = λ c stands. by_eq (λ b. Falls (slice_index more (cursor_at c.window.driver)) (map (λ (x : Grant). x.batch) (cond b (the_grant v n ∷ h.drawn c.window.term) (h.drawn c.window.term)))) c.window.term t
          (λ same. let is = one_each (opening_claim k.cell) h.newest h.past a.chain name.claim c name.stands stands (name.term_is ∙ sym same) in
          let drives : c.window.driver ≡ e = ap (λ (y : Claim). y.window.driver) (sym is) ∙ name.driver_is in (
            omega (arith, cursor_here k words views h (n + v.armed) c.window.driver e a d.0 d.1 drives),
            subst (λ (m : ℕ). Falls m (map (λ (x : Grant). x.batch) (h.drawn c.window.term))) (ap (λ (m : ℕ). slice_index words (cursor_at m)) drives ∙ sym back) (s.falls c stands),
          ))
          (λ _. falls_kept k words more views h g a s later grow c stands);
      none_else = λ u none. by_eq (λ b. cond b (the_grant v n ∷ h.drawn u) (h.drawn u) ≡ []) u t
          (λ same. absurd (none name.claim name.stands (name.term_is ∙ sym same)))
          (λ _. s.none_else u none);
      quotas = omega (arith, total-set (λ u. u.quota) views id v w at, s.quotas);
      cursors = added_bound k words views h id v w a s at refl d.0 d.1;
      raised = λ f pos le. omega (arith, s.raised f pos le, grow f pos le);
      each = λ j u was l. ⊎_elim
          (λ (x : (j ≡ id) × (w ≡ u)). subst (FitsB more g) x.1 record {
            seen = inr record {
              claim = name.claim;
              stands = name.stands;
              term_is = name.term_is;
              above = omega (arith, may.2, name.raised, s.raised e d.0 d.1);
              below = omega (arith, room, name.ends);
              drawn = omega (arith, cursor_here k words views h (n + v.armed) name.claim.window.driver e a d.0 d.1 name.driver_is);
              word = packed (hand v).hi t;
              is_limit = λ z. absurd (omega (arith, z, room));
              told = subst (λ (m : ℕ). Contains h.published (record { driver = m; word = packed (hand v).hi t })) (sym name.driver_is) own.1;
            };
            hand_is = tt;
            armed = (omega arith, λ pos. absurd (omega (arith, pos)));
          })
          (λ (x : (j ≢ id) × (get_elem? views j ≡ some u)). fitsB_later k words more views h g u a later grow (s.each j u x.1 l))
          (at_set views id j w u was);
    }

-- a raise of a cursor
pub grown_starts : (e d at : ℕ) (ss : List Start) → greatest e (cond (eqb at 0) ss (ss ++ record { driver = d; at = at } ∷ [])) ≡ cond (eqb d e) (max (greatest e ss) at) (greatest e ss)
grown_starts e d at ss = by_eq (λ b. greatest e (cond b ss (ss ++ record { driver = d; at = at } ∷ [])) ≡ cond (eqb d e) (max (greatest e ss) at) (greatest e ss)) at 0
    (λ z. by_bool (λ b. greatest e ss ≡ cond b (max (greatest e ss) at) (greatest e ss)) (eqb d e) (λ _. omega (arith, z)) (λ _. refl))
    (λ _. greatest-push e ss (record { driver = d; at = at }))

pub grown_here : (e d at : ℕ) (ss : List Start) → e ≡ d → greatest e (cond (eqb at 0) ss (ss ++ record { driver = d; at = at } ∷ [])) ≡ max (greatest e ss) at
grown_here e d at ss same = grown_starts e d at ss ∙ by_eq (λ b. cond b (max (greatest e ss) at) (greatest e ss) ≡ max (greatest e ss) at) d e (λ _. refl) (λ ne. absurd (ne (sym same)))

pub grown_else : (e d at : ℕ) (ss : List Start) → e ≢ d → greatest e (cond (eqb at 0) ss (ss ++ record { driver = d; at = at } ∷ [])) ≡ greatest e ss
grown_else e d at ss apart = grown_starts e d at ss ∙ by_eq (λ b. cond b (max (greatest e ss) at) (greatest e ss) ≡ greatest e ss) d e (λ z. absurd (apart (sym z))) (λ _. refl)

pub grown_le : (e d at : ℕ) (ss : List Start) → greatest e ss ≤ greatest e (cond (eqb at 0) ss (ss ++ record { driver = d; at = at } ∷ []))
grown_le e d at ss = dite (ℕ_discrete e d) (λ same. omega (arith, grown_here e d at ss same)) (λ ne. omega (arith, grown_else e d at ss ne))

abbrev pub with_start : History → View → ℕ → ℕ → History
with_start h v at found = record h {
  founds = h.founds ++ record { driver = v.driver; cursor = found; start = greatest v.driver v.starts } ∷ [];
  starts = cond (eqb at 0) h.starts (h.starts ++ record { driver = v.driver; at = at } ∷ []);
}

-- a start is at most the saved time's first timestamp
pub start_most : (k : Setup) (words : List ℕ) (views : List View) (h : History) (id at : ℕ) (v : View) → PartA k words views h → get_elem? views id ≡ some v → May k (RaiseCursor at) v → at ≤ h.newest.window.hi * 262144
start_most k words views h id at v a here may = ⊎_elim
    (λ (z : at ≡ 0). omega (arith, z))
    (λ (x : (v.holds ≡ true) × HasClaim v × (at ≤ (held v).hi * 262144)).
    let c = x.1.0 in let is = x.1.1 in
    let mine = a.each id v here (live_driver k words views h id v a here may.0) in
    let own = at_some v.latest _ mine.latest c is in
    let stands = latest_stands k words views h id v c a here is (omega (arith, own.0, may.0)) in
    omega (arith, x.2, ap (λ (y : Window). y.hi) (ap held_or is), (chain_le (opening_claim k.cell) h.newest h.past a.chain c stands).2))
    may.1

pub raised_b : (k : Setup) (words : List ℕ) (views : List View) (h : History) (id at : ℕ) (v : View) → PartA k words views h → PartB k words views h → get_elem? views id ≡ some v → May k (RaiseCursor at) v
    → PartB k (slice_set words (cursor_at v.driver) (max (slice_index words (cursor_at v.driver)) at)) (slice_set views id (raised at (slice_index words (cursor_at v.driver)) v)) (with_start h v at (slice_index words (cursor_at v.driver)))
raised_b k words views h id at v a s here may =
    let live = live_driver k words views h id v a here may.0 in
    let le = own_number k words views h id v a here may.0 in
    let n = slice_index words (cursor_at v.driver) in
    let g = with_start h v at n in
    let w = raised at n v in
    let x = max n at in
    let more = slice_set words (cursor_at v.driver) x in
    let later = same_windows h g refl refl (λ d. grown_le d v.driver at h.starts) (λ p s. s) in
    let grow = cursor_grows k words views h x v.driver a may.0 le (omega arith) in
    let most = start_most k words views h id at v a here may in
    step_b k words views h id v more g w a s here record {
      later = later;
      drawn = λ t. refl;
      grow = grow;
      quota = refl;
      cursors = λ d pos le'. let moved = total-set (armed_at d) views id v w here in dite (ℕ_discrete d v.driver)
          (λ same. omega (arith, cursor_here k words views h x d v.driver a may.0 le same, ap (λ (m : ℕ). slice_index words (cursor_at m)) same, moved, s.cursors d pos le', most, armed_le d views (every_armed k words views h a s), s.quotas, a.setup.clients.1))
          (λ ne. omega (arith, cursor_else words x d v.driver ne, moved, s.cursors d pos le'));
      raised = λ d pos le'. dite (ℕ_discrete d v.driver)
          (λ same. omega (arith, cursor_here k words views h x d v.driver a may.0 le same, ap (λ (m : ℕ). slice_index words (cursor_at m)) same, grown_here d v.driver at h.starts same, s.raised d pos le'))
          (λ ne. omega (arith, cursor_else words x d v.driver ne, grown_else d v.driver at h.starts ne, s.raised d pos le'));
      own = same_fits more g v w (fitsB_later k words more views h g v a later grow (s.each id v here live)) refl refl refl refl;
    }
