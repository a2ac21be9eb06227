-- The steps on the cell keep part A.
use Rattle.std.proofs.Common.{◌≡◌, ◌≢◌, ℕ, ◌+◌, ◌-◌, ◌*◌, ◌/◌, ◌%◌, ◌^◌, ◌<◌, ◌≤◌, eqb, cond, true, false, List, [], ◌∷◌, ◌++◌, sym, refl, ap, ◌∙◌, subst, ⊎_elim, arith, max, length-set, get_or-set_other, get_or-set_same}
use Rattle.std.specs.Prelude.{Option, None, Some, IfSome, option_to_list, All, Contains, slice_index, slice_set}
use mathlib.Core.Option.{some}
use lib.ListN.{get_elem?}
use Rattle.pd_types.specs.declared.oracle.Window.{Window}
use Rattle.tso_model.specs.declared.entries.Claim.{Claim}
use Rattle.tso_model.specs.declared.view.View.{View}
use Rattle.tso_model.specs.declared.entries.Published.{Published}
use Rattle.tso_model.specs.declared.view.Setup.{Setup}
use Rattle.tso_model.specs.Lists.{total, times}
use Rattle.tso_model.specs.History.{History, Names, Extends, claims, greatest}
use Rattle.tso_model.proofs.Sums.{total-append}
use Rattle.std.proofs.lemmas.List.Elements.{All-nil, All-append, All-push, All-weaker}
use Rattle.std.proofs.lemmas.Nat.{div-mul-add, mod-mul-add}
use Rattle.pd_types.specs.declared.oracle.CellWord.{CellWord}
use Rattle.tso_model.specs.Words.{packed, cell_of, cell_word, AreClaims, opening_claim, limit_at}
use Rattle.tso_model.specs.declared.step.WordStep.TheVariants.{ClaimTerm}
use Rattle.tso_model.specs.Steps.{May, held, held_or, knows, new_claim, claimed, saved_claim, saves}
use Rattle.tso_model.specs.declared.plan.TheConstants.{AHEAD_MS}
use Rattle.tso_model.specs.Sound.{FitsA, PartA}
use Rattle.tso_model.proofs.Basics.{by_eq, at_some, if_some, in_head, in_tail, in_cons, chain_le, one_each, later_term}
use Rattle.tso_model.proofs.Growth.{names_later, same_windows, longer, another, own_number, latest_stands, step_a, live_driver, Later}

pub no_some : {A : Type 0} {B : Type 0} (x : A) → Some x ≡ None → B
no_some x e = absurd (cc e)

pub packed-same : (a b c d : ℕ) → b < 262144 → d < 262144 → packed a b ≡ packed c d → (a ≡ c) × (b ≡ d)
packed-same a b c d p q e = (omega (arith, e), omega (arith, e))

pub cell_of-packed : (saved term : ℕ) → term < 262144 → cell_of (packed saved term) ≡ record { saved = saved; term = term }
cell_of-packed saved term small = λ i. record { saved = div-mul-add saved 262144 term small i; term = mod-mul-add saved 262144 term small i }

pub opening_stands : (first c : Claim) (past : List Claim) → AreClaims first c past → Contains (c ∷ past) first
opening_stands first c [] chain = subst (λ (x : Claim). Contains (c ∷ []) x) chain (in_head c [])
opening_stands first c (x ∷ xs) chain = in_tail c (x ∷ xs) first (opening_stands first x xs chain.1)

-- the limit words stay
pub limits_kept : (k : Setup) (words more : List ℕ) (views : List View) (h g : History) → PartA k words views h → Later h g → ((d : ℕ) → 0 < d → slice_index more (limit_at d) ≡ slice_index words (limit_at d))
    → (d : ℕ) → 0 < d → d ≤ k.drivers → slice_index more (limit_at d) ≢ 0
    → Contains g.published (record { driver = d; word = slice_index more (limit_at d) }) × Names g d (slice_index more (limit_at d) % 262144) (slice_index more (limit_at d) / 262144)
limits_kept k words more views h g s l same d pos le some_word =
    let old = s.limits d pos le (λ z. some_word (same d pos ∙ z)) in
    subst (λ (x : ℕ). Contains g.published (record { driver = d; word = x }) × Names g d (x % 262144) (x / 262144)) (sym (same d pos)) (l.published _ old.0, names_later h g d _ _ l old.1)

pub told_later : (h g : History) → Later h g → All (λ (p : Published). p.word ≢ 0 → Names h p.driver (p.word % 262144) (p.word / 262144)) h.published → All (λ (p : Published). p.word ≢ 0 → Names g p.driver (p.word % 262144) (p.word / 262144)) h.published
told_later h g l old = All-weaker (λ (p : Published). p.word ≢ 0 → Names h p.driver (p.word % 262144) (p.word / 262144)) (λ (p : Published). p.word ≢ 0 → Names g p.driver (p.word % 262144) (p.word / 262144)) (λ p was some_word. names_later h g _ _ _ l (was some_word)) h.published old

pub cell_else : (words : List ℕ) (x : ℕ) (d : ℕ) → 0 < d → slice_index (slice_set words 0 x) (limit_at d) ≡ slice_index words (limit_at d)
cell_else words x d pos = get_or-set_other words 0 (limit_at d) x 0 (λ (e : limit_at d ≡ 0). omega (arith, e, pos))

pub itself : (h : History) → Later h h
itself h = same_windows h h refl refl (λ d. omega arith) (λ p s. s)

-- a load of the cell: the view knows the cell as it stands
known_fits : (k : Setup) (words : List ℕ) (views : List View) (h : History) (id : ℕ) (v : View) → PartA k words views h → get_elem? views id ≡ some v → 0 < v.driver
    → FitsA k h (knows (record { saved = h.newest.window.hi; term = h.newest.window.term }) v)
known_fits k words views h id v s at pos =
    let mine = s.each id v at (live_driver k words views h id v s at pos) in record {
      opening = mine.opening;
      term = (omega (arith, mine.term), omega arith);
      saved = omega arith;
      at_opening = λ e. ap (λ (c : Claim). c.window.hi) (one_each (opening_claim k.cell) h.newest h.past s.chain h.newest (opening_claim k.cell) (in_head h.newest h.past) (opening_stands (opening_claim k.cell) h.newest h.past s.chain) e);
      latest = if_some v.latest _ (λ c is.
          let old = at_some v.latest _ mine.latest c is in
          let stands = latest_stands k words views h id v c s at is (omega (arith, old.0, pos)) in (
            old.0,
            (chain_le (opening_claim k.cell) h.newest h.past s.chain c stands).1,
            λ e. ap (λ (x : Claim). x.window.hi) (sym (one_each (opening_claim k.cell) h.newest h.past s.chain c h.newest stands (in_head h.newest h.past) e)),
            old.3,
          ));
      idle = mine.idle;
      own_start = mine.own_start;
      own_sum = mine.own_sum;
      holds = mine.holds;
      marked = mine.marked;
      aims = mine.aims;
      claims_own = mine.claims_own;
      starts_own = mine.starts_own;
      founds_own = mine.founds_own;
      published_own = mine.published_own;
      grants_own = mine.grants_own;
      looks_own = mine.looks_own;
      refusals_own = mine.refusals_own;
      added_own = mine.added_own;
    }

pub loads_a : (k : Setup) (words : List ℕ) (views : List View) (h : History) (id : ℕ) (v : View) → PartA k words views h → get_elem? views id ≡ some v → 0 < v.driver
    → PartA k (slice_set words 0 (slice_index words 0)) (slice_set views id (knows (cell_of (slice_index words 0)) v)) h
loads_a k words views h id v s at pos =
    let found : cell_of (slice_index words 0) ≡ record { saved = h.newest.window.hi; term = h.newest.window.term } = ap cell_of s.cell ∙ cell_of-packed h.newest.window.hi h.newest.window.term s.in_terms in
    subst (λ (c : CellWord). PartA k (slice_set words 0 (slice_index words 0)) (slice_set views id (knows c v)) h) (sym found)
    (step_a k words views h id v (slice_set words 0 (slice_index words 0)) h (knows (record { saved = h.newest.window.hi; term = h.newest.window.term }) v) s at record {
      later = itself h;
      live = live_driver k words views h id v s at pos;
      wide = length-set words 0 (slice_index words 0);
      claims = λ f. refl;
      grants = λ t f. refl;
      starts = λ f. refl;
      founds = λ f. refl;
      published = λ f. refl;
      looks = λ f. refl;
      refusals = λ f. refl;
      added = λ f. refl;
      chain = s.chain;
      cell = get_or-set_same words 0 (slice_index words 0) 0 (omega (arith, s.wide)) ∙ s.cell;
      in_time = s.in_time;
      in_terms = s.in_terms;
      makers = s.makers;
      drivers = refl;
      clients = refl;
      starts_else = λ d ne. refl;
      sums_else = λ c d ne. refl;
      own = known_fits k words views h id v s at pos;
      told = s.published;
      limits = limits_kept k words (slice_set words 0 (slice_index words 0)) views h h s (itself h) (cell_else words (slice_index words 0));
    })

-- a campaign
pub none_of : (d own : ℕ) (taken : List ℕ) → 0 < own → (0 < d → times d (own ∷ taken) ≡ 0) → (let n : ℕ = cond (eqb own d) 1 0 in n) ≡ 0
none_of d own taken pos = by_eq (λ t. (0 < d → (let n : ℕ = cond t 1 0 + times d taken in n) ≡ 0) → (let n : ℕ = cond t 1 0 in n) ≡ 0) own d (λ e r. absurd (omega (arith, r (omega (arith, e, pos))))) (λ _ _. refl)

all_lower : (older : List Claim) (o : Option Claim) (d t saved : ℕ)
    → IfSome o (λ c. (c.window.driver ≡ d) × (c.window.term ≤ t) × (c.window.term ≡ t → saved ≡ c.window.hi) × All (λ (x : Claim). x.window.driver ≡ d → x.window.term < c.window.term) older)
    → (o ≡ None → All (λ (x : Claim). x.window.driver ≢ d) older)
    → All (λ (x : Claim). x.window.driver ≡ d → x.window.term < t + 1) (older ++ option_to_list o)
all_lower older None d t saved h idle = All-append (λ (x : Claim). x.window.driver ≡ d → x.window.term < t + 1) older []
    (All-weaker (λ (x : Claim). x.window.driver ≢ d) (λ (x : Claim). x.window.driver ≡ d → x.window.term < t + 1) (λ x ne e. absurd (ne e)) older (idle refl))
    (All-nil (λ (x : Claim). x.window.driver ≡ d → x.window.term < t + 1))
all_lower older (Some c) d t saved h idle = All-push (λ (x : Claim). x.window.driver ≡ d → x.window.term < t + 1) older c
    (All-weaker (λ (x : Claim). x.window.driver ≡ d → x.window.term < c.window.term) (λ (x : Claim). x.window.driver ≡ d → x.window.term < t + 1) (λ x lt e. omega (arith, lt e, h.1)) older h.3)
    (λ _. omega (arith, h.1))

abbrev pub with_claim : History → Claim → History
with_claim h c = record h { newest = c; past = h.newest ∷ h.past }

pub won_a : (k : Setup) (words : List ℕ) (views : List View) (h : History) (id : ℕ) (v : View) → PartA k words views h → get_elem? views id ≡ some v → May k ClaimTerm v → slice_index words 0 ≡ cell_word v.cell
    → PartA k (slice_set words 0 (packed v.cell.saved (v.cell.term + 1))) (slice_set views id (claimed v)) (with_claim h (new_claim v))
won_a k words views h id v s at may hit =
    let live = live_driver k words views h id v s at may.0 in
    let mine = s.each id v at live in
    let same = packed-same h.newest.window.hi h.newest.window.term v.cell.saved v.cell.term s.in_terms (omega (arith, may.1)) (sym s.cell ∙ hit) in
    let x = packed v.cell.saved (v.cell.term + 1) in
    let later = another h (new_claim v) (omega (arith, same.1)) (omega (arith, same.0)) in
    step_a k words views h id v (slice_set words 0 x) (with_claim h (new_claim v)) (claimed v) s at record {
      later = later;
      live = live;
      wide = length-set words 0 x;
      claims = λ f. omega (arith, total-append f (claims v) (new_claim v ∷ []));
      grants = λ t f. refl;
      starts = λ f. refl;
      founds = λ f. refl;
      published = λ f. refl;
      looks = λ f. refl;
      refusals = λ f. refl;
      added = λ f. refl;
      chain = (record { term = omega (arith, same.1); at = omega (arith, same.0); begins = omega (arith, same.0); ends = omega arith; closed = λ _. refl; driver = may.0 }, s.chain);
      cell = get_or-set_same words 0 x 0 (omega (arith, s.wide));
      in_time = omega (arith, s.in_time, same.0);
      in_terms = omega (arith, may.1);
      makers = λ c stands pos. ⊎_elim
          (λ (e : new_claim v ≡ c). omega (arith, own_number k words views h id v s at may.0, ap (λ (y : Claim). y.window.driver) e))
          (λ (t : Contains (h.newest ∷ h.past) c). s.makers c t pos)
          (in_cons (new_claim v) (h.newest ∷ h.past) c stands);
      drivers = refl;
      clients = refl;
      starts_else = λ d ne. refl;
      sums_else = λ c d ne. refl;
      own = record {
        opening = mine.opening;
        term = (omega (arith, mine.term.0), omega arith);
        saved = omega arith;
        at_opening = λ e. absurd (omega (arith, e, mine.term.0));
        latest = (refl, omega arith, λ _. refl, all_lower v.older v.latest v.driver v.cell.term v.cell.saved mine.latest mine.idle);
        idle = λ e. no_some (new_claim v) e;
        own_start = mine.own_start;
        own_sum = mine.own_sum;
        holds = λ _. (new_claim v, refl);
        marked = λ e. absurd (cc e);
        aims = mine.aims;
        claims_own = λ d q. omega (arith, total-append (λ (c : Claim). cond (eqb c.window.driver d) 1 0) (claims v) (new_claim v ∷ []), mine.claims_own d q, none_of d v.driver v.took_drivers may.0 q);
        starts_own = mine.starts_own;
        founds_own = mine.founds_own;
        published_own = mine.published_own;
        grants_own = mine.grants_own;
        looks_own = mine.looks_own;
        refusals_own = mine.refusals_own;
        added_own = mine.added_own;
      };
      told = told_later h (with_claim h (new_claim v)) later s.published;
      limits = limits_kept k words (slice_set words 0 x) views h (with_claim h (new_claim v)) s later (cell_else words x);
    }

-- a save
pub saved_extends : (hi : ℕ) (c : Claim) → c.window.hi < hi → Extends c (saved_claim hi c)
saved_extends hi c above = record {
  term = refl;
  driver = refl;
  lo = λ is_open. by_eq (λ t. cond t (max (hi - AHEAD_MS) c.window.hi) c.window.lo ≡ c.window.lo) c.window.lo c.window.hi (λ e. absurd (omega (arith, e, is_open))) (λ _. refl);
  hi = omega (arith, above);
}

save_chain : (first c : Claim) (past : List Claim) (hi : ℕ) → AreClaims first c past → 0 < c.window.driver → first.window.driver ≡ 0 → c.window.hi < hi → AreClaims first (saved_claim hi c) past
save_chain first c [] hi chain pos none above = absurd (omega (arith, pos, none, ap (λ (y : Claim). y.window.driver) chain))
save_chain first c (x ∷ xs) hi chain pos none above =
    let f = chain.0 in
    let open_now : cond (eqb c.window.lo c.window.hi) (max (hi - AHEAD_MS) c.window.hi) c.window.lo < hi = by_eq (λ t. cond t (max (hi - AHEAD_MS) c.window.hi) c.window.lo < hi) c.window.lo c.window.hi (λ _. omega (arith, above)) (λ _. omega (arith, f.ends, above)) in (
      record {
        term = f.term;
        at = f.at;
        begins = by_eq (λ t. x.window.hi ≤ cond t (max (hi - AHEAD_MS) c.window.hi) c.window.lo) c.window.lo c.window.hi (λ _. omega (arith, f.begins, f.ends)) (λ _. f.begins);
        ends = omega (arith, open_now);
        closed = λ e. absurd (omega (arith, e, open_now));
        driver = f.driver;
      },
      chain.1,
    )

abbrev pub with_newest : History → Claim → History
with_newest h c = record h { newest = c }

pub newest_is : (k : Setup) (words : List ℕ) (views : List View) (h : History) (id : ℕ) (v : View) (c : Claim) → PartA k words views h → get_elem? views id ≡ some v → 0 < v.driver → v.latest ≡ Some c
    → slice_index words 0 ≡ packed c.window.hi c.window.term → c ≡ h.newest
newest_is k words views h id v c s at pos is hit =
    let mine = s.each id v at (live_driver k words views h id v s at pos) in
    let own = at_some v.latest _ mine.latest c is in
    let stands = latest_stands k words views h id v c s at is (omega (arith, own.0, pos)) in
    let same = packed-same h.newest.window.hi h.newest.window.term c.window.hi c.window.term s.in_terms (omega (arith, own.1, mine.term.1, s.in_terms)) (sym s.cell ∙ hit) in
    one_each (opening_claim k.cell) h.newest h.past s.chain c h.newest stands (in_head h.newest h.past) (sym same.1)

pub kept_a : (k : Setup) (words : List ℕ) (views : List View) (h : History) (id hi : ℕ) (v : View) (c : Claim) → PartA k words views h → get_elem? views id ≡ some v → 0 < v.driver → v.holds ≡ true → v.latest ≡ Some c → c.window.hi < hi → hi < 2 ^ 45
    → slice_index words 0 ≡ packed c.window.hi c.window.term
    → PartA k (slice_set words 0 (packed hi c.window.term)) (slice_set views id (saves hi v (Some c))) (with_newest h (saved_claim hi h.newest))
kept_a k words views h id hi v c s at pos holds is above small hit =
    let live = live_driver k words views h id v s at pos in
    let mine = s.each id v at live in
    let own = at_some v.latest _ mine.latest c is in
    let is_newest = newest_is k words views h id v c s at pos is hit in
    let stands = latest_stands k words views h id v c s at is (omega (arith, own.0, pos)) in
    let x = packed hi c.window.term in
    let held_is : held v ≡ c.window = ap held_or is in
    let above' : h.newest.window.hi < hi = omega (arith, above, ap (λ (y : Claim). y.window.hi) is_newest) in
    let later = longer h (saved_claim hi h.newest) (saved_extends hi h.newest above') in
    let g = with_newest h (saved_claim hi h.newest) in
    let own_pos : 0 < h.newest.window.driver = omega (arith, own.0, pos, ap (λ (y : Claim). y.window.driver) is_newest) in
    let since = later_term (opening_claim k.cell) h.newest h.past s.chain refl c stands (omega (arith, own.0, pos)) in
    let moved : (f : Claim → ℕ) → total f (v.older ++ saved_claim hi c ∷ []) + f h.newest ≡ total f (claims v) + f (saved_claim hi h.newest) = λ f.
    omega (arith, total-append f v.older (saved_claim hi c ∷ []), total-append f v.older (option_to_list v.latest), ap (λ (o : Option Claim). total f (option_to_list o)) is, ap f is_newest, ap (λ (y : Claim). f (saved_claim hi y)) is_newest) in
    step_a k words views h id v (slice_set words 0 x) g (saves hi v (Some c)) s at record {
      later = later;
      live = live;
      wide = length-set words 0 x;
      claims = λ f. omega (arith, moved f);
      grants = λ t f. refl;
      starts = λ f. refl;
      founds = λ f. refl;
      published = λ f. refl;
      looks = λ f. refl;
      refusals = λ f. refl;
      added = λ f. refl;
      chain = save_chain (opening_claim k.cell) h.newest h.past hi s.chain own_pos refl above';
      cell = get_or-set_same words 0 x 0 (omega (arith, s.wide)) ∙ ap (λ (y : Claim). packed hi y.window.term) is_newest;
      in_time = small;
      in_terms = s.in_terms;
      makers = λ e stands_e pos_e. ⊎_elim
          (λ (z : saved_claim hi h.newest ≡ e). omega (arith, ap (λ (y : Claim). y.window.driver) z, ap (λ (y : Claim). y.window.driver) is_newest, own.0, own_number k words views h id v s at pos))
          (λ (t : Contains h.past e). s.makers e (in_tail h.newest h.past e t) pos_e)
          (in_cons (saved_claim hi h.newest) h.past e stands_e);
      drivers = refl;
      clients = refl;
      starts_else = λ d ne. refl;
      sums_else = λ c d ne. refl;
      own = record {
        opening = mine.opening;
        term = (omega (arith, since), omega (arith, ap (λ (y : Claim). y.window.term) is_newest));
        saved = omega arith;
        at_opening = λ e. absurd (omega (arith, e, since));
        latest = (own.0, omega arith, λ _. refl, own.3);
        idle = λ e. no_some (saved_claim hi c) e;
        own_start = mine.own_start;
        own_sum = mine.own_sum;
        holds = λ _. (saved_claim hi c, refl);
        marked = by_eq (λ t. cond t false v.marked ≡ true → (v.holds ≡ true) × (cond t (max (hi - AHEAD_MS) c.window.hi) c.window.lo < hi) × (cond t (max (hi - AHEAD_MS) c.window.hi) c.window.lo * 262144 ≤ greatest v.driver h.starts)) c.window.lo c.window.hi
            (λ _ e. absurd (cc e))
            (λ _ e. let old = mine.marked e in
            (old.0, omega (arith, above, old.1, ap (λ (y : Window). y.lo) held_is, ap (λ (y : Window). y.hi) held_is), omega (arith, old.2, ap (λ (y : Window). y.lo) held_is)));
        aims = mine.aims;
        claims_own = λ d q. omega (arith, total-append (λ (y : Claim). cond (eqb y.window.driver d) 1 0) v.older (saved_claim hi c ∷ []), total-append (λ (y : Claim). cond (eqb y.window.driver d) 1 0) v.older (option_to_list v.latest), ap (λ (o : Option Claim). total (λ (y : Claim). cond (eqb y.window.driver d) 1 0) (option_to_list o)) is, mine.claims_own d q);
        starts_own = mine.starts_own;
        founds_own = mine.founds_own;
        published_own = mine.published_own;
        grants_own = mine.grants_own;
        looks_own = mine.looks_own;
        refusals_own = mine.refusals_own;
        added_own = mine.added_own;
      };
      told = told_later h g later s.published;
      limits = limits_kept k words (slice_set words 0 x) views h g s later (cell_else words x);
    }
