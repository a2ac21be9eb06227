-- What stays as the history grows: named windows, seen pairs, limits in hand, and what part A says of the other views.
use Rattle.std.proofs.Common.{◌≡◌, ◌≢◌, ℕ, ◌+◌, ◌/◌, ◌%◌, ◌^◌, ◌<◌, ◌≤◌, ◌⊎◌, cond, false, List, [], ◌∷◌, ◌++◌, length, set, sym, refl, ap, ◌∙◌, subst, inl, inr, ⊎_elim, arith}
use Rattle.std.specs.Prelude.{Some, All, Contains, slice_index, ◌&&◌, nat_lt, nat_le}
use Rattle.std.proofs.lemmas.Bool.{leb-true}
use Rattle.pd_types.proofs.Bools.{and_true}
use mathlib.Core.Option.{some}
use lib.ListN.{get_elem?}
use Rattle.tso_model.proofs.ListAt.{at_set}
use Rattle.pd_types.specs.declared.oracle.Seen.{Seen}
use Rattle.tso_model.specs.declared.entries.Claim.{Claim}
use Rattle.tso_model.specs.declared.view.View.{View}
use Rattle.tso_model.specs.declared.entries.Limit.{Limit}
use Rattle.tso_model.specs.declared.entries.Start.{Start}
use Rattle.tso_model.specs.declared.entries.Found.{Found}
use Rattle.tso_model.specs.declared.entries.Look.{Look}
use Rattle.tso_model.specs.declared.entries.Refusal.{Refusal}
use Rattle.tso_model.specs.declared.entries.Grant.{Grant}
use Rattle.tso_model.specs.declared.entries.Published.{Published}
use Rattle.tso_model.specs.declared.entries.Added.{Added}
use Rattle.tso_model.specs.declared.view.Setup.{Setup}
use Rattle.tso_model.specs.Lists.{total, times}
use Rattle.tso_model.specs.Words.{packed, IsOpen, AreClaims, opening_claim, limit_at, cursor_at}
use Rattle.tso_model.specs.History.{History, Names, Stands, Extends, claims, of_term, greatest, added_by}
use Rattle.tso_model.specs.Moves.{nothing_seen}
use Rattle.tso_model.specs.Sound.{FitsA, PartA, drivers_of, clients_of, in_range, FitsB, IsSeen}
use Rattle.tso_model.proofs.Sums.{total-append, total-set, term_le, terms_le}
use Rattle.tso_model.proofs.Basics.{by_eq, by_bool, at_some, if_some, in_head, in_tail, in_cons, open_driver, hits, hits-same, there}

-- g is h some steps later
pub record Later (h g : History) : Type 0 where
  pub term : h.newest.window.term ≤ g.newest.window.term
  pub hi : h.newest.window.hi ≤ g.newest.window.hi
  pub claims : (c : Claim) → Stands h c → (e : Claim) × Stands g e × Extends c e
  pub back : (e : Claim) → Stands g e → ((c : Claim) × Stands h c × Extends c e) ⊎ (h.newest.window.term < e.window.term)
  pub starts : (d : ℕ) → greatest d h.starts ≤ greatest d g.starts
  pub published : (p : Published) → Contains h.published p → Contains g.published p

pub extends_itself : (c : Claim) → Extends c c
extends_itself c = record { term = refl; driver = refl; lo = λ _. refl; hi = omega arith }

-- NAMED WINDOWS
pub names_later : (h g : History) (d term hi : ℕ) → Later h g → Names h d term hi → Names g d term hi
names_later h g d term hi l n =
    let e = l.claims n.claim n.stands in record {
      claim = e.0;
      stands = e.1;
      term_is = e.2.term ∙ n.term_is;
      driver_is = e.2.driver ∙ n.driver_is;
      open_is = omega (arith, e.2.lo n.open_is, e.2.hi, n.open_is);
      ends = omega (arith, e.2.hi, n.ends);
      raised = omega (arith, e.2.lo n.open_is, n.raised, l.starts d);
    }

-- the newest window and the ones behind it are the same
pub same_windows : (h g : History) → h.newest ≡ g.newest → h.past ≡ g.past → ((d : ℕ) → greatest d h.starts ≤ greatest d g.starts) → ((p : Published) → Contains h.published p → Contains g.published p) → Later h g
same_windows h g newest past starts published =
    let all : (h.newest ∷ h.past) ≡ (g.newest ∷ g.past) = λ i. newest i ∷ past i in record {
      term = omega (arith, ap (λ (c : Claim). c.window.term) newest);
      hi = omega (arith, ap (λ (c : Claim). c.window.hi) newest);
      claims = λ c s. (c, subst (λ (l : List Claim). Contains l c) all s, extends_itself c);
      back = λ c s. inl (c, subst (λ (l : List Claim). Contains l c) (sym all) s, extends_itself c);
      starts = starts;
      published = published;
    }

-- the newest window is made longer
pub longer : (h : History) (c : Claim) → Extends h.newest c → Later h (record h { newest = c })
longer h c more = record {
  term = omega (arith, more.term);
  hi = more.hi;
  claims = λ e s. ⊎_elim
      (λ (x : h.newest ≡ e). subst (λ (y : Claim). (f : Claim) × Contains (c ∷ h.past) f × Extends y f) x (c, in_head c h.past, more))
      (λ (t : Contains h.past e). (e, in_tail c h.past e t, extends_itself e))
      (in_cons h.newest h.past e s);
  back = λ e s. inl (⊎_elim
      (λ (x : c ≡ e). subst (λ (y : Claim). (f : Claim) × Contains (h.newest ∷ h.past) f × Extends f y) x (h.newest, in_head h.newest h.past, more))
      (λ (t : Contains h.past e). (e, in_tail h.newest h.past e t, extends_itself e))
      (in_cons c h.past e s));
  starts = λ d. omega arith;
  published = λ p s. s;
}

-- there is a new window
pub another : (h : History) (c : Claim) → h.newest.window.term < c.window.term → h.newest.window.hi ≤ c.window.hi → Later h (record h { newest = c; past = h.newest ∷ h.past })
another h c above hi = record {
  term = omega (arith, above);
  hi = hi;
  claims = λ e s. (e, in_tail c (h.newest ∷ h.past) e s, extends_itself e);
  back = λ e s. ⊎_elim
      (λ (x : c ≡ e). inr (omega (arith, above, ap (λ (y : Claim). y.window.term) x)))
      (λ (t : Contains (h.newest ∷ h.past) e). inl (e, t, extends_itself e))
      (in_cons c (h.newest ∷ h.past) e s);
  starts = λ d. omega arith;
  published = λ p s. s;
}

-- WHAT PART B SAYS OF ONE VIEW
abbrev pub Grow : Setup → List ℕ → List ℕ → Type 0
Grow k words more = (d : ℕ) → 0 < d → d ≤ k.drivers → slice_index words (cursor_at d) ≤ slice_index more (cursor_at d)

-- the driver of an open window is one of the drivers
pub maker : (k : Setup) (words : List ℕ) (views : List View) (h : History) (c : Claim) → PartA k words views h → Stands h c → IsOpen c.window → (0 < c.window.driver) × (c.window.driver ≤ k.drivers)
maker k words views h c s stands is_open = let pos = open_driver (opening_claim k.cell) h.newest h.past s.chain refl c stands is_open in (pos, s.makers c stands pos)

pub seen_later : (k : Setup) (words more : List ℕ) (views : List View) (h g : History) (x : Seen) → PartA k words views h → Later h g → Grow k words more → IsSeen words h x → IsSeen more g x
seen_later k words more views h g x s l grow n =
    let e = l.claims n.claim n.stands in
    let is_open : IsOpen n.claim.window = omega (arith, n.above, n.below) in
    let own = maker k words views h n.claim s n.stands is_open in record {
      claim = e.0;
      stands = e.1;
      term_is = e.2.term ∙ n.term_is;
      above = omega (arith, n.above, e.2.lo is_open);
      below = omega (arith, n.below, e.2.hi);
      drawn = omega (arith, n.drawn, grow n.claim.window.driver own.0 own.1, ap (λ (d : ℕ). slice_index more (cursor_at d)) e.2.driver);
      word = n.word;
      is_limit = n.is_limit;
      told = subst (λ (d : ℕ). Contains g.published (record { driver = d; word = n.word })) (sym e.2.driver) (l.published _ n.told);
    }

pub in_hand_later : (h g : History) (l : Limit) (term : ℕ) → Later h g
    → Names h l.driver l.term l.hi × Contains h.published (record { driver = l.driver; word = packed l.hi l.term }) × (term ≤ l.term)
    → Names g l.driver l.term l.hi × Contains g.published (record { driver = l.driver; word = packed l.hi l.term }) × (term ≤ l.term)
in_hand_later h g l term more n = (names_later h g l.driver l.term l.hi more n.0, more.published _ n.1, n.2)

pub fitsB_later : (k : Setup) (words more : List ℕ) (views : List View) (h g : History) (v : View) → PartA k words views h → Later h g → Grow k words more → FitsB words h v → FitsB more g v
fitsB_later k words more views h g v s l grow f = record {
  seen = ⊎_elim (λ (e : v.seen ≡ nothing_seen). inl e) (λ (n : IsSeen words h v.seen). inr (seen_later k words more views h g v.seen s l grow n)) f.seen;
  hand_is = if_some v.hand _ (λ x is. in_hand_later h g x v.seen.term l (at_some v.hand _ f.hand_is x is));
  armed = f.armed;
}

-- WHAT PART A SAYS OF THE OTHER VIEWS
pub in_range_one : (n d : ℕ) → in_range n d ≤ 1
in_range_one n d = by_bool (λ b. cond b 1 0 ≤ 1) (nat_lt 0 d && nat_le d n) (λ _. omega arith) (λ _. omega arith)

pub in_range_le : (n d : ℕ) → 1 ≤ in_range n d → d ≤ n
in_range_le n d = by_bool (λ b. 1 ≤ cond b 1 0 → d ≤ n) (nat_lt 0 d && nat_le d n) (λ e _. leb-true d n (and_true (nat_lt 0 d) (nat_le d n) e).1) (λ _ h. absurd (omega (arith, h)))

pub own_counts : (d e : ℕ) (rest : List ℕ) → e ≡ d → 1 ≤ times d (e ∷ rest)
own_counts d e rest same = by_eq (λ t. 1 ≤ cond t 1 0 + times d rest) e d (λ _. omega arith) (λ ne. absurd (ne same))

pub own_number : (k : Setup) (words : List ℕ) (views : List View) (h : History) (id : ℕ) (v : View) → PartA k words views h → get_elem? views id ≡ some v → 0 < v.driver → v.driver ≤ k.drivers
own_number k words views h id v s at pos =
    in_range_le k.drivers v.driver (omega (arith, own_counts v.driver v.driver (v.give_drivers ++ v.took_drivers) refl, term_le (λ u. times v.driver (drivers_of u)) views id v at, s.drivers_once v.driver pos))

pub apart_driver : (k : Setup) (words : List ℕ) (views : List View) (h : History) (id j : ℕ) (v u : View) → PartA k words views h → get_elem? views id ≡ some v → get_elem? views j ≡ some u → j ≢ id → 0 < u.driver → u.driver ≢ v.driver
apart_driver k words views h id j v u s at there apart pos same =
    absurd (omega (arith, terms_le (λ x. times u.driver (drivers_of x)) views id j v u apart at there, s.drivers_once u.driver pos, in_range_one k.drivers u.driver, own_counts u.driver v.driver (v.give_drivers ++ v.took_drivers) (sym same), own_counts u.driver u.driver (u.give_drivers ++ u.took_drivers) refl))

pub apart_client : (k : Setup) (words : List ℕ) (views : List View) (h : History) (id j : ℕ) (v u : View) → PartA k words views h → get_elem? views id ≡ some v → get_elem? views j ≡ some u → j ≢ id → 0 < u.client → u.client ≢ v.client
apart_client k words views h id j v u s at there apart pos same =
    absurd (omega (arith, terms_le (λ x. times u.client (clients_of x)) views id j v u apart at there, s.clients_once u.client pos, in_range_one k.clients u.client, own_counts u.client v.client (v.give_clients ++ v.took_clients) (sym same), own_counts u.client u.client (u.give_clients ++ u.took_clients) refl))

-- the claim that a view made last stands in the history
pub latest_stands : (k : Setup) (words : List ℕ) (views : List View) (h : History) (id : ℕ) (v : View) (c : Claim) → PartA k words views h → get_elem? views id ≡ some v → v.latest ≡ Some c → 0 < c.window.driver → Stands h c
latest_stands k words views h id v c s at is pos =
    let f : Claim → ℕ = hits c in
    let mine : f c ≤ total f (claims v) = rw is (omega (arith, total-append f v.older (c ∷ []))) in
    there c (h.newest ∷ h.past) (omega (arith, hits-same c, term_le (λ u. total f (claims u)) views id v at, s.matches.claims f, mine))

pub fits_later : (k : Setup) (h g : History) (u : View) → Later h g
    → (0 < u.driver → greatest u.driver g.starts ≡ greatest u.driver h.starts) → (0 < u.client → (d : ℕ) → added_by u.client d g.added ≡ added_by u.client d h.added)
    → FitsA k h u → FitsA k g u
fits_later k h g u l starts sums f = record {
  opening = f.opening;
  term = (f.term.0, omega (arith, f.term.1, l.term));
  saved = omega (arith, f.saved, l.hi);
  at_opening = f.at_opening;
  latest = f.latest;
  idle = f.idle;
  own_start = λ pos. f.own_start pos ∙ sym (starts pos);
  own_sum = λ pos d. f.own_sum pos d ∙ sym (sums pos d);
  holds = f.holds;
  marked = λ m. let old = f.marked m in (old.0, old.1, omega (arith, old.2, l.starts u.driver));
  aims = f.aims;
  claims_own = f.claims_own;
  starts_own = f.starts_own;
  founds_own = f.founds_own;
  published_own = f.published_own;
  grants_own = f.grants_own;
  looks_own = f.looks_own;
  refusals_own = f.refusals_own;
  added_own = f.added_own;
}

-- WHAT A STEP OWES FOR PART A, from v to w and from h to g
pub record OwesA (k : Setup) (words : List ℕ) (h : History) (v : View) (more : List ℕ) (g : History) (w : View) : Type 0 where
  pub later : Later h g
  pub live : w.spent ≡ false
  pub wide : length more ≡ length words
  pub claims : (f : Claim → ℕ) → total f (claims w) + (f h.newest + total f h.past) ≡ total f (claims v) + (f g.newest + total f g.past)
  pub grants : (t : ℕ) (f : Grant → ℕ) → total (of_term t f) w.grants + total f (h.drawn t) ≡ total (of_term t f) v.grants + total f (g.drawn t)
  pub starts : (f : Start → ℕ) → total f w.starts + total f h.starts ≡ total f v.starts + total f g.starts
  pub founds : (f : Found → ℕ) → total f w.founds + total f h.founds ≡ total f v.founds + total f g.founds
  pub published : (f : Published → ℕ) → total f w.published + total f h.published ≡ total f v.published + total f g.published
  pub looks : (f : Look → ℕ) → total f w.looks + total f h.looks ≡ total f v.looks + total f g.looks
  pub refusals : (f : Refusal → ℕ) → total f w.refusals + total f h.refusals ≡ total f v.refusals + total f g.refusals
  pub added : (f : Added → ℕ) → total f w.added + total f h.added ≡ total f v.added + total f g.added
  pub chain : AreClaims (opening_claim k.cell) g.newest g.past
  pub cell : slice_index more 0 ≡ packed g.newest.window.hi g.newest.window.term
  pub in_time : g.newest.window.hi < 2 ^ 45
  pub in_terms : g.newest.window.term < 262144
  pub makers : (c : Claim) → Stands g c → 0 < c.window.driver → c.window.driver ≤ k.drivers
  pub drivers : drivers_of w ≡ drivers_of v
  pub clients : clients_of w ≡ clients_of v
  pub starts_else : (d : ℕ) → d ≢ v.driver → greatest d g.starts ≡ greatest d h.starts
  pub sums_else : (c d : ℕ) → c ≢ v.client → added_by c d g.added ≡ added_by c d h.added
  pub own : FitsA k g w
  pub told : All (λ (p : Published). p.word ≢ 0 → Names g p.driver (p.word % 262144) (p.word / 262144)) g.published
  pub limits : (d : ℕ) → 0 < d → d ≤ k.drivers → slice_index more (limit_at d) ≢ 0
      → Contains g.published (record { driver = d; word = slice_index more (limit_at d) }) × Names g d (slice_index more (limit_at d) % 262144) (slice_index more (limit_at d) / 262144)

pub step_a : (k : Setup) (words : List ℕ) (views : List View) (h : History) (id : ℕ) (v : View) (more : List ℕ) (g : History) (w : View)
    → PartA k words views h → get_elem? views id ≡ some v → OwesA k words h v more g w → PartA k more (set views id w) g
step_a k words views h id v more g w s at o = record {
  setup = s.setup;
  wide = o.wide ∙ s.wide;
  matches = record {
    claims = λ f. omega (arith, total-set (λ u. total f (claims u)) views id v w at, s.matches.claims f, o.claims f);
    grants = λ t f. omega (arith, total-set (λ u. total (of_term t f) u.grants) views id v w at, s.matches.grants t f, o.grants t f);
    starts = λ f. omega (arith, total-set (λ u. total f u.starts) views id v w at, s.matches.starts f, o.starts f);
    founds = λ f. omega (arith, total-set (λ u. total f u.founds) views id v w at, s.matches.founds f, o.founds f);
    published = λ f. omega (arith, total-set (λ u. total f u.published) views id v w at, s.matches.published f, o.published f);
    looks = λ f. omega (arith, total-set (λ u. total f u.looks) views id v w at, s.matches.looks f, o.looks f);
    refusals = λ f. omega (arith, total-set (λ u. total f u.refusals) views id v w at, s.matches.refusals f, o.refusals f);
    added = λ f. omega (arith, total-set (λ u. total f u.added) views id v w at, s.matches.added f, o.added f);
  };
  chain = o.chain;
  cell = o.cell;
  in_time = o.in_time;
  in_terms = o.in_terms;
  makers = o.makers;
  drivers_once = λ d pos. omega (arith, total-set (λ u. times d (drivers_of u)) views id v w at, s.drivers_once d pos, ap (times d) o.drivers);
  clients_once = λ d pos. omega (arith, total-set (λ u. times d (clients_of u)) views id v w at, s.clients_once d pos, ap (times d) o.clients);
  each = λ j u e l. ⊎_elim
      (λ (x : (j ≡ id) × (w ≡ u)). subst (FitsA k g) x.1 o.own)
      (λ (x : (j ≢ id) × (get_elem? views j ≡ some u)). fits_later k h g u o.later
      (λ pos. o.starts_else u.driver (apart_driver k words views h id j v u s at x.1 x.0 pos))
      (λ pos d. o.sums_else u.client d (apart_client k words views h id j v u s at x.1 x.0 pos))
      (s.each j u x.1 l))
      (at_set views id j w u e);
  gone = λ j u e l. ⊎_elim (λ (x : (j ≡ id) × (w ≡ u)). absurd (cc (l, o.live, ap (λ (y : View). y.spent) x.1))) (λ (x : (j ≢ id) × (get_elem? views j ≡ some u)). s.gone j u x.1 l) (at_set views id j w u e);
  published = o.told;
  limits = o.limits;
}

-- a view that may step is not spent
pub live_driver : (k : Setup) (words : List ℕ) (views : List View) (h : History) (id : ℕ) (v : View) → PartA k words views h → get_elem? views id ≡ some v → 0 < v.driver → v.spent ≡ false
live_driver k words views h id v s at pos = by_bool (λ b. v.spent ≡ b → v.spent ≡ false) v.spent (λ t e. absurd (omega (arith, pos, ap (λ (y : View). y.driver) (s.gone id v at e)))) (λ f e. e) refl

pub live_client : (k : Setup) (words : List ℕ) (views : List View) (h : History) (id : ℕ) (v : View) → PartA k words views h → get_elem? views id ≡ some v → 0 < v.client → v.spent ≡ false
live_client k words views h id v s at pos = by_bool (λ b. v.spent ≡ b → v.spent ≡ false) v.spent (λ t e. absurd (omega (arith, pos, ap (λ (y : View). y.client) (s.gone id v at e)))) (λ f e. e) refl
