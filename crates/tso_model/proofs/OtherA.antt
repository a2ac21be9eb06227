-- Part A: the steps on limit words and cursors.
use Rattle.std.proofs.Common.{◌≡◌, ◌≢◌, ℕ, ◌+◌, ◌*◌, ◌/◌, ◌%◌, ◌<◌, ◌≤◌, ◌⊎◌, eqb, cond, true, false, List, [], ◌∷◌, ◌++◌, sym, refl, ap, ◌∙◌, subst, inl, inr, ⊎_elim, arith, ltb, length-set, get_or-set_other, get_or-set_same}
use Rattle.std.specs.Prelude.{None, Some, IfSome, Contains, slice_index, slice_set}
use mathlib.Core.Logic.{dite}
use mathlib.Core.Option.{some}
use native.Mathlib.Decide.{ℕ_discrete}
use lib.ListN.{get_elem?}
use Rattle.pd_types.specs.declared.oracle.Window.{Window}
use Rattle.tso_model.specs.declared.entries.Claim.{Claim}
use Rattle.tso_model.specs.declared.view.View.{View}
use Rattle.tso_model.specs.declared.entries.Limit.{Limit}
use Rattle.tso_model.specs.declared.entries.Start.{Start}
use Rattle.tso_model.specs.declared.entries.Found.{Found}
use Rattle.tso_model.specs.declared.entries.Look.{Look}
use Rattle.tso_model.specs.declared.entries.Refusal.{Refusal}
use Rattle.tso_model.specs.declared.entries.Grant.{Grant}
use Rattle.tso_model.specs.declared.entries.Published.{Published}
use Rattle.tso_model.specs.declared.entries.Added.{Added}
use Rattle.tso_model.specs.declared.view.Setup.{Setup}
use Rattle.tso_model.specs.Lists.{total, times}
use Rattle.tso_model.specs.History.{History, Names, of_term, greatest, added_by}
use Rattle.tso_model.proofs.Sums.{total-append}
use Rattle.std.proofs.lemmas.List.Elements.{All-push, Contains-push, Contains-append_left}
use Rattle.std.proofs.lemmas.Nat.{div-mul-add, mod-mul-add}
use Rattle.std.proofs.lemmas.List.{set-get_or}
use Rattle.tso_model.specs.Words.{packed, IsOpen, limit_at, cursor_at}
use Rattle.tso_model.specs.declared.step.WordStep.TheVariants.{StoreLimit, RaiseCursor, LoadLimit}
use Rattle.tso_model.specs.Steps.{May, held, held_or, hand, marks, raised, publishes, fresh, looked, refused, granted}
use Rattle.tso_model.specs.Sound.{FitsA, PartA, Own}
use Rattle.tso_model.proofs.Basics.{by_eq, by_bool, by_lt, at_some}
use Rattle.tso_model.proofs.Growth.{names_later, same_windows, own_number, latest_stands, step_a, live_driver, live_client}
use Rattle.tso_model.proofs.CellA.{limits_kept, told_later, itself, none_of}
use Rattle.tso_model.proofs.DrawB.{cursor_limit, with_added, with_refusal, the_grant, with_grant, drew, grown_here, grown_else, grown_le, with_start}

pub own_push : {A : Type 0} (numbers : List ℕ) (by : A → ℕ) (xs : List A) (x : A) → Own numbers by xs → ((d : ℕ) → (0 < d → times d numbers ≡ 0) → (let n : ℕ = cond (eqb (by x) d) 1 0 in n) ≡ 0) → Own numbers by (xs ++ x ∷ [])
own_push numbers by xs x old none d q = omega (arith, total-append (λ e. cond (eqb (by e) d) 1 0) xs (x ∷ []), old d q, none d q)

abbrev pub the_look : View → ℕ → ℕ → Look
the_look v d word = record { client = v.client; driver = d; word = word; seen = v.seen }

abbrev pub with_look : History → View → ℕ → ℕ → History
with_look h v d word = record h { looks = h.looks ++ the_look v d word ∷ [] }

abbrev pub the_refusal : View → ℕ → ℕ → Refusal
the_refusal v at n = record { client = v.client; driver = (hand v).driver; at = at; hi = (hand v).hi; count = n; sum = added_by v.client (hand v).driver v.added }

abbrev pub the_added : View → Added
the_added v = record { client = v.client; driver = (hand v).driver; count = v.armed }

abbrev pub told : History → ℕ → ℕ → History
told h d word = record h { published = h.published ++ record { driver = d; word = word } ∷ [] }

-- a load of a limit
pub looked_a : (k : Setup) (words : List ℕ) (views : List View) (h : History) (id d : ℕ) (v : View) → PartA k words views h → get_elem? views id ≡ some v → May k (LoadLimit d) v
    → PartA k (slice_set words (limit_at d) (slice_index words (limit_at d))) (slice_set views id (looked d (slice_index words (limit_at d)) v)) (with_look h v d (slice_index words (limit_at d)))
looked_a k words views h id e v s at may =
    let live = live_client k words views h id v s at may.0 in
    let mine = s.each id v at live in
    let i = limit_at e in
    let x = slice_index words (limit_at e) in
    let i_pos : 0 < i = omega (arith, may.2) in
    let g = with_look h v e x in
    let w = looked e x v in
    let later = same_windows h g refl refl (λ d. omega arith) (λ p s. s) in
    let limit_same : (d : ℕ) → 0 < d → slice_index (slice_set words i x) (limit_at d) ≡ slice_index words (limit_at d) = λ d pos. ap (λ (l : List ℕ). slice_index l (limit_at d)) (set-get_or words i 0) in
    let own : FitsA k g w = record { opening = mine.opening; term = mine.term; saved = mine.saved; at_opening = mine.at_opening; latest = mine.latest; idle = mine.idle; own_start = mine.own_start; own_sum = mine.own_sum; holds = mine.holds; marked = mine.marked; aims = by_bool (λ b. IfSome (cond b (Some (record { driver = e; term = x % 262144; hi = x / 262144 })) None) (λ (l : Limit). (0 < l.driver) × (l.driver ≤ k.drivers))) (fresh x v) (λ _. (may.2, may.3)) (λ _. tt); claims_own = mine.claims_own; starts_own = mine.starts_own; founds_own = mine.founds_own; published_own = mine.published_own; grants_own = mine.grants_own; looks_own = own_push (v.client ∷ v.took_clients) (λ (l : Look). l.client) v.looks (the_look v e x) mine.looks_own (λ d q. none_of d v.client v.took_clients may.0 q); refusals_own = mine.refusals_own; added_own = mine.added_own } in
    step_a k words views h id v (slice_set words i x) g w s at record {
      later = later;
      live = live;
      wide = length-set words i x;
      claims = λ f. refl;
      grants = λ t f. refl;
      starts = λ f. refl;
      founds = λ f. refl;
      published = λ f. refl;
      looks = λ f. omega (arith, total-append f v.looks (the_look v e x ∷ []), total-append f h.looks (the_look v e x ∷ []));
      refusals = λ f. refl;
      added = λ f. refl;
      chain = s.chain;
      cell = get_or-set_other words i 0 x 0 (λ (z : 0 ≡ i). omega (arith, z, i_pos)) ∙ s.cell;
      in_time = s.in_time;
      in_terms = s.in_terms;
      makers = s.makers;
      drivers = refl;
      clients = refl;
      starts_else = λ d ne. refl;
      sums_else = λ c d ne. refl;
      own = own;
      told = told_later h g later s.published;
      limits = limits_kept k words (slice_set words i x) views h g s later (λ d pos. limit_same d pos);
    }

-- a load of a cursor, where it passes
pub refused_a : (k : Setup) (words : List ℕ) (views : List View) (h : History) (id n : ℕ) (v : View) → PartA k words views h → get_elem? views id ≡ some v → 0 < v.client → 0 < (hand v).driver
    → PartA k (slice_set words (cursor_at (hand v).driver) (slice_index words (cursor_at (hand v).driver))) (slice_set views id (refused (slice_index words (cursor_at (hand v).driver)) n v)) (with_refusal h v (slice_index words (cursor_at (hand v).driver)) n)
refused_a k words views h id n v s at pos aim =
    let live = live_client k words views h id v s at pos in
    let mine = s.each id v at live in
    let i = cursor_at (hand v).driver in
    let x = slice_index words i in
    let i_pos : 0 < i = omega (arith, aim) in
    let g = with_refusal h v x n in
    let w = refused x n v in
    let later = same_windows h g refl refl (λ d. omega arith) (λ p s. s) in
    let limit_same : (d : ℕ) → 0 < d → slice_index (slice_set words i x) (limit_at d) ≡ slice_index words (limit_at d) = λ d pos. cursor_limit words x d (hand v).driver pos in
    let own : FitsA k g w = record { opening = mine.opening; term = mine.term; saved = mine.saved; at_opening = mine.at_opening; latest = mine.latest; idle = mine.idle; own_start = mine.own_start; own_sum = mine.own_sum; holds = mine.holds; marked = mine.marked; aims = tt; claims_own = mine.claims_own; starts_own = mine.starts_own; founds_own = mine.founds_own; published_own = mine.published_own; grants_own = mine.grants_own; looks_own = mine.looks_own; refusals_own = own_push (v.client ∷ v.took_clients) (λ (r : Refusal). r.client) v.refusals (the_refusal v x n) mine.refusals_own (λ d q. none_of d v.client v.took_clients pos q); added_own = mine.added_own } in
    step_a k words views h id v (slice_set words i x) g w s at record {
      later = later;
      live = live;
      wide = length-set words i x;
      claims = λ f. refl;
      grants = λ t f. refl;
      starts = λ f. refl;
      founds = λ f. refl;
      published = λ f. refl;
      looks = λ f. refl;
      refusals = λ f. omega (arith, total-append f v.refusals (the_refusal v x n ∷ []), total-append f h.refusals (the_refusal v x n ∷ []));
      added = λ f. refl;
      chain = s.chain;
      cell = get_or-set_other words i 0 x 0 (λ (z : 0 ≡ i). omega (arith, z, i_pos)) ∙ s.cell;
      in_time = s.in_time;
      in_terms = s.in_terms;
      makers = s.makers;
      drivers = refl;
      clients = refl;
      starts_else = λ d ne. refl;
      sums_else = λ c d ne. refl;
      own = own;
      told = told_later h g later s.published;
      limits = limits_kept k words (slice_set words i x) views h g s later (λ d pos. limit_same d pos);
    }

-- a load of a cursor, where it does not pass
pub armed_a : (k : Setup) (words : List ℕ) (views : List View) (h : History) (id n : ℕ) (v : View) → PartA k words views h → get_elem? views id ≡ some v → 0 < v.client → 0 < (hand v).driver
    → PartA k (slice_set words (cursor_at (hand v).driver) (slice_index words (cursor_at (hand v).driver))) (slice_set views id (record v { armed = n })) h
armed_a k words views h id n v s at pos aim =
    let live = live_client k words views h id v s at pos in
    let mine = s.each id v at live in
    let i = cursor_at (hand v).driver in
    let x = slice_index words i in
    let i_pos : 0 < i = omega (arith, aim) in
    let g = h in
    let w = record v { armed = n } in
    let later = itself h in
    let limit_same : (d : ℕ) → 0 < d → slice_index (slice_set words i x) (limit_at d) ≡ slice_index words (limit_at d) = λ d pos. cursor_limit words x d (hand v).driver pos in
    let own : FitsA k g w = record { opening = mine.opening; term = mine.term; saved = mine.saved; at_opening = mine.at_opening; latest = mine.latest; idle = mine.idle; own_start = mine.own_start; own_sum = mine.own_sum; holds = mine.holds; marked = mine.marked; aims = mine.aims; claims_own = mine.claims_own; starts_own = mine.starts_own; founds_own = mine.founds_own; published_own = mine.published_own; grants_own = mine.grants_own; looks_own = mine.looks_own; refusals_own = mine.refusals_own; added_own = mine.added_own } in
    step_a k words views h id v (slice_set words i x) g w s at record {
      later = later;
      live = live;
      wide = length-set words i x;
      claims = λ f. refl;
      grants = λ t f. refl;
      starts = λ f. refl;
      founds = λ f. refl;
      published = λ f. refl;
      looks = λ f. refl;
      refusals = λ f. refl;
      added = λ f. refl;
      chain = s.chain;
      cell = get_or-set_other words i 0 x 0 (λ (z : 0 ≡ i). omega (arith, z, i_pos)) ∙ s.cell;
      in_time = s.in_time;
      in_terms = s.in_terms;
      makers = s.makers;
      drivers = refl;
      clients = refl;
      starts_else = λ d ne. refl;
      sums_else = λ c d ne. refl;
      own = own;
      told = told_later h g later s.published;
      limits = limits_kept k words (slice_set words i x) views h g s later (λ d pos. limit_same d pos);
    }

added_other : (v : View) (xs : List Added) (c d : ℕ) → c ≢ v.client → added_by c d (xs ++ the_added v ∷ []) ≡ added_by c d xs
added_other v xs c d ne =
    let none : (let n : ℕ = cond (eqb (hand v).driver d) (cond (eqb v.client c) v.armed 0) 0 in n) ≡ 0 = by_bool (λ b. (let n : ℕ = cond b (cond (eqb v.client c) v.armed 0) 0 in n) ≡ 0) (eqb (hand v).driver d) (λ _. by_eq (λ b. (let n : ℕ = cond b v.armed 0 in n) ≡ 0) v.client c (λ e. absurd (ne (sym e))) (λ _. refl)) (λ _. refl) in
    omega (arith, total-append (λ (a : Added). cond (eqb a.driver d) (cond (eqb a.client c) a.count 0) 0) xs (the_added v ∷ []), none)

-- an addition to a cursor, where it passes
pub drew_a : (k : Setup) (words : List ℕ) (views : List View) (h : History) (id x : ℕ) (v : View) → PartA k words views h → get_elem? views id ≡ some v → 0 < v.client → 0 < (hand v).driver
    → PartA k (slice_set words (cursor_at (hand v).driver) x) (slice_set views id (drew (slice_index words (cursor_at (hand v).driver)) v)) (with_refusal (with_added h v) v (slice_index words (cursor_at (hand v).driver)) v.armed)
drew_a k words views h id x v s at pos aim =
    let live = live_client k words views h id v s at pos in
    let mine = s.each id v at live in
    let i = cursor_at (hand v).driver in
    let n = slice_index words i in
    let i_pos : 0 < i = omega (arith, aim) in
    let g = with_refusal (with_added h v) v n v.armed in
    let w = drew n v in
    let later = same_windows h g refl refl (λ d. omega arith) (λ p s. s) in
    let limit_same : (d : ℕ) → 0 < d → slice_index (slice_set words i x) (limit_at d) ≡ slice_index words (limit_at d) = λ d pos. cursor_limit words x d (hand v).driver pos in
    let own : FitsA k g w = record { opening = mine.opening; term = mine.term; saved = mine.saved; at_opening = mine.at_opening; latest = mine.latest; idle = mine.idle; own_start = mine.own_start; own_sum = λ p d. let f : Added → ℕ = λ a. cond (eqb a.driver d) (cond (eqb a.client v.client) a.count 0) 0 in omega (arith, mine.own_sum p d, total-append f v.added (the_added v ∷ []), total-append f h.added (the_added v ∷ [])); holds = mine.holds; marked = mine.marked; aims = tt; claims_own = mine.claims_own; starts_own = mine.starts_own; founds_own = mine.founds_own; published_own = mine.published_own; grants_own = mine.grants_own; looks_own = mine.looks_own; refusals_own = own_push (v.client ∷ v.took_clients) (λ (r : Refusal). r.client) v.refusals (the_refusal v n v.armed) mine.refusals_own (λ d q. none_of d v.client v.took_clients pos q); added_own = own_push (v.client ∷ v.took_clients) (λ (r : Added). r.client) v.added (the_added v) mine.added_own (λ d q. none_of d v.client v.took_clients pos q) } in
    step_a k words views h id v (slice_set words i x) g w s at record {
      later = later;
      live = live;
      wide = length-set words i x;
      claims = λ f. refl;
      grants = λ t f. refl;
      starts = λ f. refl;
      founds = λ f. refl;
      published = λ f. refl;
      looks = λ f. refl;
      refusals = λ f. omega (arith, total-append f v.refusals (the_refusal v n v.armed ∷ []), total-append f h.refusals (the_refusal v n v.armed ∷ []));
      added = λ f. omega (arith, total-append f v.added (the_added v ∷ []), total-append f h.added (the_added v ∷ []));
      chain = s.chain;
      cell = get_or-set_other words i 0 x 0 (λ (z : 0 ≡ i). omega (arith, z, i_pos)) ∙ s.cell;
      in_time = s.in_time;
      in_terms = s.in_terms;
      makers = s.makers;
      drivers = refl;
      clients = refl;
      starts_else = λ d ne. refl;
      sums_else = λ c d ne. added_other v h.added c d ne;
      own = own;
      told = told_later h g later s.published;
      limits = limits_kept k words (slice_set words i x) views h g s later (λ d pos. limit_same d pos);
    }

grant_weight : (v : View) (at t : ℕ) (f : Grant → ℕ) (h : History) → total (of_term t f) (v.grants ++ the_grant v at ∷ []) + total f (h.drawn t) ≡ total (of_term t f) v.grants + total f (cond (eqb t (hand v).term) (the_grant v at ∷ h.drawn t) (h.drawn t))
grant_weight v at t f h = by_eq (λ b. total (of_term t f) (v.grants ++ the_grant v at ∷ []) + total f (h.drawn t) ≡ total (of_term t f) v.grants + total f (cond b (the_grant v at ∷ h.drawn t) (h.drawn t))) t (hand v).term
    (λ same. let one : of_term t f (the_grant v at) ≡ f (the_grant v at) = by_eq (λ b. cond b (f (the_grant v at)) 0 ≡ f (the_grant v at)) (hand v).term t (λ _. refl) (λ ne. absurd (ne (sym same))) in omega (arith, one, total-append (of_term t f) v.grants (the_grant v at ∷ [])))
    (λ ne. let none : of_term t f (the_grant v at) ≡ 0 = by_eq (λ b. (let n : ℕ = cond b (f (the_grant v at)) 0 in n) ≡ 0) (hand v).term t (λ e. absurd (ne (sym e))) (λ _. refl) in omega (arith, none, total-append (of_term t f) v.grants (the_grant v at ∷ [])))

-- an addition to a cursor, where it does not pass
pub granted_a : (k : Setup) (words : List ℕ) (views : List View) (h : History) (id x : ℕ) (v : View) → PartA k words views h → get_elem? views id ≡ some v → 0 < v.client → 0 < (hand v).driver
    → PartA k (slice_set words (cursor_at (hand v).driver) x) (slice_set views id (granted (slice_index words (cursor_at (hand v).driver)) v)) (with_grant (with_added h v) v (slice_index words (cursor_at (hand v).driver)))
granted_a k words views h id x v s at pos aim =
    let live = live_client k words views h id v s at pos in
    let mine = s.each id v at live in
    let i = cursor_at (hand v).driver in
    let n = slice_index words i in
    let i_pos : 0 < i = omega (arith, aim) in
    let g = with_grant (with_added h v) v n in
    let w = granted n v in
    let later = same_windows h g refl refl (λ d. omega arith) (λ p s. s) in
    let limit_same : (d : ℕ) → 0 < d → slice_index (slice_set words i x) (limit_at d) ≡ slice_index words (limit_at d) = λ d pos. cursor_limit words x d (hand v).driver pos in
    let own : FitsA k g w = record { opening = mine.opening; term = mine.term; saved = mine.saved; at_opening = mine.at_opening; latest = mine.latest; idle = mine.idle; own_start = mine.own_start; own_sum = λ p d. let f : Added → ℕ = λ a. cond (eqb a.driver d) (cond (eqb a.client v.client) a.count 0) 0 in omega (arith, mine.own_sum p d, total-append f v.added (the_added v ∷ []), total-append f h.added (the_added v ∷ [])); holds = mine.holds; marked = mine.marked; aims = tt; claims_own = mine.claims_own; starts_own = mine.starts_own; founds_own = mine.founds_own; published_own = mine.published_own; grants_own = own_push (v.client ∷ v.took_clients) (λ (r : Grant). r.client) v.grants (the_grant v n) mine.grants_own (λ d q. none_of d v.client v.took_clients pos q); looks_own = mine.looks_own; refusals_own = mine.refusals_own; added_own = own_push (v.client ∷ v.took_clients) (λ (r : Added). r.client) v.added (the_added v) mine.added_own (λ d q. none_of d v.client v.took_clients pos q) } in
    step_a k words views h id v (slice_set words i x) g w s at record {
      later = later;
      live = live;
      wide = length-set words i x;
      claims = λ f. refl;
      grants = λ t f. grant_weight v n t f h;
      starts = λ f. refl;
      founds = λ f. refl;
      published = λ f. refl;
      looks = λ f. refl;
      refusals = λ f. refl;
      added = λ f. omega (arith, total-append f v.added (the_added v ∷ []), total-append f h.added (the_added v ∷ []));
      chain = s.chain;
      cell = get_or-set_other words i 0 x 0 (λ (z : 0 ≡ i). omega (arith, z, i_pos)) ∙ s.cell;
      in_time = s.in_time;
      in_terms = s.in_terms;
      makers = s.makers;
      drivers = refl;
      clients = refl;
      starts_else = λ d ne. refl;
      sums_else = λ c d ne. added_other v h.added c d ne;
      own = own;
      told = told_later h g later s.published;
      limits = limits_kept k words (slice_set words i x) views h g s later (λ d pos. limit_same d pos);
    }

-- a raise of a cursor
marked_if : (at : ℕ) (v : View) → marks at v ≡ true → (v.marked ≡ true) ⊎ ((v.holds ≡ true) × IsOpen (held v) × ((held v).lo * 262144 ≤ at))
marked_if at v = by_bool (λ b. v.holds ≡ b → cond b (cond (ltb (held v).lo (held v).hi) (cond (ltb at ((held v).lo * 262144)) v.marked true) v.marked) v.marked ≡ true → (v.marked ≡ true) ⊎ ((v.holds ≡ true) × IsOpen (held v) × ((held v).lo * 262144 ≤ at))) v.holds
    (λ _ holds. by_lt (λ b. cond b (cond (ltb at ((held v).lo * 262144)) v.marked true) v.marked ≡ true → (v.marked ≡ true) ⊎ ((v.holds ≡ true) × IsOpen (held v) × ((held v).lo * 262144 ≤ at))) (held v).lo (held v).hi
    (λ is_open. by_lt (λ b. cond b v.marked true ≡ true → (v.marked ≡ true) ⊎ ((v.holds ≡ true) × IsOpen (held v) × ((held v).lo * 262144 ≤ at))) at ((held v).lo * 262144) (λ _ m. inl m) (λ le _. inr (holds, is_open, le)))
    (λ _ m. inl m))
    (λ _ _ m. inl m) refl

abbrev pub the_start : View → ℕ → Start
the_start v at = record { driver = v.driver; at = at }

abbrev pub the_found : View → ℕ → Found
the_found v found = record { driver = v.driver; cursor = found; start = greatest v.driver v.starts }

start_weight : (at : ℕ) (s : Start) (xs ys : List Start) (f : Start → ℕ) → total f (cond (eqb at 0) xs (xs ++ s ∷ [])) + total f ys ≡ total f xs + total f (cond (eqb at 0) ys (ys ++ s ∷ []))
start_weight at s xs ys f = by_bool (λ b. total f (cond b xs (xs ++ s ∷ [])) + total f ys ≡ total f xs + total f (cond b ys (ys ++ s ∷ []))) (eqb at 0) (λ _. refl) (λ _. omega (arith, total-append f xs (s ∷ []), total-append f ys (s ∷ [])))

pub raised_a : (k : Setup) (words : List ℕ) (views : List View) (h : History) (id at x : ℕ) (v : View) → PartA k words views h → get_elem? views id ≡ some v → May k (RaiseCursor at) v
    → PartA k (slice_set words (cursor_at v.driver) x) (slice_set views id (raised at (slice_index words (cursor_at v.driver)) v)) (with_start h v at (slice_index words (cursor_at v.driver)))
raised_a k words views h id at x v s here may =
    let live = live_driver k words views h id v s here may.0 in
    let mine = s.each id v here live in
    let i = cursor_at v.driver in
    let n = slice_index words i in
    let i_pos : 0 < i = omega (arith, may.0) in
    let g = with_start h v at n in
    let w = raised at n v in
    let later = same_windows h g refl refl (λ d. grown_le d v.driver at h.starts) (λ p s. s) in
    let limit_same : (d : ℕ) → 0 < d → slice_index (slice_set words i x) (limit_at d) ≡ slice_index words (limit_at d) = λ d pos. cursor_limit words x d v.driver pos in
    let own : FitsA k g w = record { opening = mine.opening; term = mine.term; saved = mine.saved; at_opening = mine.at_opening; latest = mine.latest; idle = mine.idle; own_start = λ p. omega (arith, grown_here v.driver v.driver at v.starts refl, grown_here v.driver v.driver at h.starts refl, mine.own_start p); own_sum = mine.own_sum; holds = mine.holds; marked = λ m. ⊎_elim (λ (was : v.marked ≡ true). let old = mine.marked was in (old.0, old.1, omega (arith, old.2, later.starts v.driver))) (λ (y : (v.holds ≡ true) × IsOpen (held v) × ((held v).lo * 262144 ≤ at)). (y.0, y.1, omega (arith, y.2, grown_here v.driver v.driver at h.starts refl))) (marked_if at v m); aims = mine.aims; claims_own = mine.claims_own; starts_own = by_bool (λ b. Own (v.driver ∷ v.took_drivers) (λ (r : Start). r.driver) (cond b v.starts (v.starts ++ the_start v at ∷ []))) (eqb at 0) (λ _. mine.starts_own) (λ _. own_push (v.driver ∷ v.took_drivers) (λ (r : Start). r.driver) v.starts (the_start v at) mine.starts_own (λ d q. none_of d v.driver v.took_drivers may.0 q)); founds_own = own_push (v.driver ∷ v.took_drivers) (λ (r : Found). r.driver) v.founds (the_found v n) mine.founds_own (λ d q. none_of d v.driver v.took_drivers may.0 q); published_own = mine.published_own; grants_own = mine.grants_own; looks_own = mine.looks_own; refusals_own = mine.refusals_own; added_own = mine.added_own } in
    step_a k words views h id v (slice_set words i x) g w s here record {
      later = later;
      live = live;
      wide = length-set words i x;
      claims = λ f. refl;
      grants = λ t f. refl;
      starts = λ f. start_weight at (the_start v at) v.starts h.starts f;
      founds = λ f. omega (arith, total-append f v.founds (the_found v n ∷ []), total-append f h.founds (the_found v n ∷ []));
      published = λ f. refl;
      looks = λ f. refl;
      refusals = λ f. refl;
      added = λ f. refl;
      chain = s.chain;
      cell = get_or-set_other words i 0 x 0 (λ (z : 0 ≡ i). omega (arith, z, i_pos)) ∙ s.cell;
      in_time = s.in_time;
      in_terms = s.in_terms;
      makers = s.makers;
      drivers = refl;
      clients = refl;
      starts_else = λ d ne. grown_else d v.driver at h.starts ne;
      sums_else = λ c d ne. refl;
      own = own;
      told = told_later h g later s.published;
      limits = limits_kept k words (slice_set words i x) views h g s later (λ d pos. limit_same d pos);
    }

-- a limit that is stored
pub limit_here : (k : Setup) (words : List ℕ) (views : List View) (h : History) (x d e : ℕ) → PartA k words views h → 0 < e → e ≤ k.drivers → d ≡ e → slice_index (slice_set words (limit_at e) x) (limit_at d) ≡ x
limit_here k words views h x d e a pos le same = ap (λ (m : ℕ). slice_index (slice_set words (limit_at e) x) (limit_at m)) same ∙ get_or-set_same words (limit_at e) x 0 (omega (arith, a.wide, le, pos))

pub limit_else : (words : List ℕ) (x d e : ℕ) → 0 < d → 0 < e → d ≢ e → slice_index (slice_set words (limit_at e) x) (limit_at d) ≡ slice_index words (limit_at d)
limit_else words x d e pos pos' ne = get_or-set_other words (limit_at e) (limit_at d) x 0 (λ (z : limit_at d ≡ limit_at e). ne (omega (arith, z, pos, pos')))

pub published_a : (k : Setup) (words : List ℕ) (views : List View) (h : History) (id x : ℕ) (v w : View) → PartA k words views h → get_elem? views id ≡ some v → 0 < v.driver
    → (x ≢ 0 → Names h v.driver (x % 262144) (x / 262144)) → (w ≡ publishes x v) ⊎ (w ≡ record (publishes x v) { holds = false; marked = false })
    → PartA k (slice_set words (limit_at v.driver) x) (slice_set views id w) (told h v.driver x)
published_a k words views h id x v w s at pos names is =
    let live = live_driver k words views h id v s at pos in
    let mine = s.each id v at live in
    let low = own_number k words views h id v s at pos in
    let i = limit_at v.driver in
    let i_pos : 0 < i = omega (arith, pos) in
    let p : Published = record { driver = v.driver; word = x } in
    let g = told h v.driver x in
    let later = same_windows h g refl refl (λ d. omega arith) (λ q s. Contains-append_left h.published (p ∷ []) q s) in
    let owned = own_push (v.driver ∷ v.took_drivers) (λ (r : Published). r.driver) v.published p mine.published_own (λ d q. none_of d v.driver v.took_drivers pos q) in
    let all = All-push (λ (q : Published). q.word ≢ 0 → Names g q.driver (q.word % 262144) (q.word / 262144)) h.published p (told_later h g later s.published) (λ nz. names_later h g v.driver _ _ later (names nz)) in
    let lims : (d : ℕ) → 0 < d → d ≤ k.drivers → slice_index (slice_set words i x) (limit_at d) ≢ 0 → Contains g.published (record { driver = d; word = slice_index (slice_set words i x) (limit_at d) }) × Names g d (slice_index (slice_set words i x) (limit_at d) % 262144) (slice_index (slice_set words i x) (limit_at d) / 262144) = λ d p_d le nz. dite (ℕ_discrete d v.driver)
    (λ e. let same = limit_here k words views h x d v.driver s pos low e in
    subst (λ (y : ℕ). Contains g.published (record { driver = d; word = y }) × Names g d (y % 262144) (y / 262144)) (sym same)
    (subst (λ (y : ℕ). Contains g.published (record { driver = y; word = x }) × Names g y (x % 262144) (x / 262144)) (sym e) (Contains-push h.published p, names_later h g v.driver _ _ later (names (λ z. nz (same ∙ z))))))
    (λ ne. let same = limit_else words x d v.driver p_d pos ne in let old = s.limits d p_d le (λ z. nz (same ∙ z)) in
    subst (λ (y : ℕ). Contains g.published (record { driver = d; word = y }) × Names g d (y % 262144) (y / 262144)) (sym same) (later.published _ old.0, names_later h g d _ _ later old.1)) in
    ⊎_elim
    (λ (e : w ≡ publishes x v). subst (λ (u : View). PartA k (slice_set words i x) (slice_set views id u) g) (sym e) (
    let own : FitsA k g (publishes x v) = record { opening = mine.opening; term = mine.term; saved = mine.saved; at_opening = mine.at_opening; latest = mine.latest; idle = mine.idle; own_start = mine.own_start; own_sum = mine.own_sum; holds = mine.holds; marked = mine.marked; aims = mine.aims; claims_own = mine.claims_own; starts_own = mine.starts_own; founds_own = mine.founds_own; published_own = owned; grants_own = mine.grants_own; looks_own = mine.looks_own; refusals_own = mine.refusals_own; added_own = mine.added_own } in
    step_a k words views h id v (slice_set words i x) g (publishes x v) s at record {
      later = later;
      live = live;
      wide = length-set words i x;
      claims = λ f. refl;
      grants = λ t f. refl;
      starts = λ f. refl;
      founds = λ f. refl;
      published = λ f. omega (arith, total-append f v.published (p ∷ []), total-append f h.published (p ∷ []));
      looks = λ f. refl;
      refusals = λ f. refl;
      added = λ f. refl;
      chain = s.chain;
      cell = get_or-set_other words i 0 x 0 (λ (z : 0 ≡ i). omega (arith, z, i_pos)) ∙ s.cell;
      in_time = s.in_time;
      in_terms = s.in_terms;
      makers = s.makers;
      drivers = refl;
      clients = refl;
      starts_else = λ d ne. refl;
      sums_else = λ c d ne. refl;
      own = own;
      told = all;
      limits = lims;
    }))
    (λ (e : w ≡ record (publishes x v) { holds = false; marked = false }). subst (λ (u : View). PartA k (slice_set words i x) (slice_set views id u) g) (sym e) (
    let own : FitsA k g (record (publishes x v) { holds = false; marked = false }) = record { opening = mine.opening; term = mine.term; saved = mine.saved; at_opening = mine.at_opening; latest = mine.latest; idle = mine.idle; own_start = mine.own_start; own_sum = mine.own_sum; holds = λ z. absurd (cc z); marked = λ z. absurd (cc z); aims = mine.aims; claims_own = mine.claims_own; starts_own = mine.starts_own; founds_own = mine.founds_own; published_own = owned; grants_own = mine.grants_own; looks_own = mine.looks_own; refusals_own = mine.refusals_own; added_own = mine.added_own } in
    step_a k words views h id v (slice_set words i x) g (record (publishes x v) { holds = false; marked = false }) s at record {
      later = later;
      live = live;
      wide = length-set words i x;
      claims = λ f. refl;
      grants = λ t f. refl;
      starts = λ f. refl;
      founds = λ f. refl;
      published = λ f. omega (arith, total-append f v.published (p ∷ []), total-append f h.published (p ∷ []));
      looks = λ f. refl;
      refusals = λ f. refl;
      added = λ f. refl;
      chain = s.chain;
      cell = get_or-set_other words i 0 x 0 (λ (z : 0 ≡ i). omega (arith, z, i_pos)) ∙ s.cell;
      in_time = s.in_time;
      in_terms = s.in_terms;
      makers = s.makers;
      drivers = refl;
      clients = refl;
      starts_else = λ d ne. refl;
      sums_else = λ c d ne. refl;
      own = own;
      told = all;
      limits = lims;
    }))
    is

-- what a publishing driver names
pub publish_names : (k : Setup) (words : List ℕ) (views : List View) (h : History) (id : ℕ) (v : View) → PartA k words views h → get_elem? views id ≡ some v → May k StoreLimit v
    → Names h v.driver (packed (held v).hi (held v).term % 262144) (packed (held v).hi (held v).term / 262144)
publish_names k words views h id v s at may =
    let mine = s.each id v at (live_driver k words views h id v s at may.0) in
    let c : Claim = may.3.0 in
    let is : v.latest ≡ Some c = may.3.1 in
    let latest = at_some v.latest _ mine.latest c is in
    let held_is : held v ≡ c.window = ap held_or is in
    let small : (held v).term < 262144 = omega (arith, ap (λ (w : Window). w.term) held_is, latest.1, mine.term.1, s.in_terms) in
    let ready = mine.marked may.2 in
    record {
      claim = c;
      stands = latest_stands k words views h id v c s at is (omega (arith, latest.0, may.0));
      term_is = ap (λ (w : Window). w.term) (sym held_is) ∙ sym (mod-mul-add (held v).hi 262144 (held v).term small);
      driver_is = latest.0;
      open_is = subst IsOpen held_is ready.1;
      ends = omega (arith, div-mul-add (held v).hi 262144 (held v).term small, ap (λ (w : Window). w.hi) held_is);
      raised = subst (λ (w : Window). w.lo * 262144 ≤ greatest v.driver h.starts) held_is ready.2;
    }
