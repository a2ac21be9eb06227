-- Making, splitting and joining keep the rule.
use Rattle.std.proofs.Common.{◌≡◌, ◌≢◌, ℕ, zero, suc, ◌+◌, ◌-◌, ◌*◌, ◌/◌, ◌%◌, ◌<◌, ◌≤◌, eqb, cond, Bool, true, false, List, [], ◌∷◌, ◌++◌, get_or, set, sym, refl, ap, ◌∙◌, subst, inl, ⊎_elim, arith, eq-eqb, ne_eqb}
use Rattle.std.specs.Prelude.{Contains, nat_lt, nat_le}
use Rattle.std.proofs.lemmas.Bool.{le-leb, lt-leb}
use Rattle.pd_types.proofs.Bools.{and_both, and_right}
use mathlib.Core.Logic.{dite}
use mathlib.Core.Option.{some, some-ne-none, some-injective}
use native.Mathlib.Decide.{ℕ_discrete, dec_le}
use lib.ListN.{get_elem?}
use Rattle.tso_model.proofs.ListAt.{at_set}
use Rattle.pd_types.specs.declared.oracle.Window.{Window}
use Rattle.tso_model.specs.declared.entries.Claim.{Claim}
use Rattle.tso_model.specs.declared.view.View.{View}
use Rattle.tso_model.specs.declared.entries.Start.{Start}
use Rattle.tso_model.specs.declared.entries.Found.{Found}
use Rattle.tso_model.specs.declared.entries.Look.{Look}
use Rattle.tso_model.specs.declared.entries.Refusal.{Refusal}
use Rattle.tso_model.specs.declared.entries.Grant.{Grant}
use Rattle.tso_model.specs.declared.entries.Published.{Published}
use Rattle.tso_model.specs.declared.entries.Added.{Added}
use Rattle.tso_model.specs.declared.view.Setup.{Setup}
use Rattle.tso_model.specs.Lists.{total, times}
use Rattle.tso_model.specs.History.{History, Names, claims, of_term, greatest, added_at, added_by}
use Rattle.tso_model.proofs.Sums.{total-append, total-set, term_le, terms_le}
use Rattle.std.proofs.lemmas.List.Elements.{All-nil}
use Rattle.pd_types.specs.declared.oracle.CellWord.{CellWord}
use Rattle.pd_types.specs.declared.oracle.Batch.{Batch}
use Rattle.tso_model.specs.Words.{packed, passes, opening_claim, limit_at, cursor_at, Inside}
use Rattle.tso_model.specs.Moves.{spent_view}
use Rattle.tso_model.specs.Sound.{FitsA, PartA, drivers_of, clients_of, in_range, FitsB, armed_at, PartC, Bounded, Looked, IsSetup, KeepsEach}
use Rattle.tso_model.proofs.Basics.{by_eq, by_bool, in_cons, in_nil, chain_le, there, greatest_none}
use Rattle.tso_model.proofs.CellA.{opening_stands}
use Rattle.tso_model.proofs.DrawB.{none_armed}
use Rattle.std.specs.Prelude.{replicate}
use Rattle.std.proofs.lemmas.List.{length-replicate}
use Rattle.tso_model.proofs.ListAt.{at_snoc}
use Rattle.tso_model.specs.Moves.{blank, numbers_from, first_view, first_words, head_of, rest_of, gave_driver, new_driver, gave_client, new_client, new_note}
use Rattle.tso_model.proofs.Growth.{in_range_one, own_counts}
use Rattle.tso_model.specs.Ledger.{Recorded}

abbrev bit : Bool → ℕ
bit b = cond b 1 0

abbrev here : ℕ → ℕ → ℕ
here a d = bit (eqb a d)

pub own_zero : (d : ℕ) → 0 < d → here 0 d ≡ 0
own_zero d pos = subst (λ b. bit b ≡ 0) (sym (ne_eqb 0 d (λ e. omega (arith, pos, e)))) refl

-- MAKING
run : (d a n : ℕ) → (d < a → times d (numbers_from a n) ≡ 0) × (a ≤ d → d < a + n → times d (numbers_from a n) ≡ 1) × (a + n ≤ d → times d (numbers_from a n) ≡ 0)
run d a zero = (λ _. refl, λ p q. absurd (omega (arith, p, q)), λ _. refl)
run d a (suc n) =
    let t = run d (a + 1) n in
    dite (ℕ_discrete a d)
    (λ e. let one : here a d ≡ 1 = subst (λ b. bit b ≡ 1) (sym (eq-eqb a d e)) refl in (λ p. absurd (omega (arith, p, e)), λ p q. omega (arith, one, t.0 (omega (arith, e))), λ p. absurd (omega (arith, p, e))))
    (λ ne. let none : here a d ≡ 0 = subst (λ b. bit b ≡ 0) (sym (ne_eqb a d ne)) refl in
    (λ p. omega (arith, none, t.0 (omega (arith, p))), λ p q. omega (arith, none, t.1 (omega (arith, p, ne)) (omega (arith, q))), λ p. omega (arith, none, t.2 (omega (arith, p)))))

begun : (n d : ℕ) → 0 < d → times d (numbers_from 1 n) ≡ in_range n d
begun n d pos =
    let t = run d 1 n in
    dite (dec_le d n)
    (λ le. t.1 (omega (arith, pos)) (omega (arith, le)) ∙ sym (ap (λ b. cond b 1 0) (and_both (nat_lt 0 d) (nat_le d n) (le-leb 1 d (omega (arith, pos))) (le-leb d n le))))
    (λ gt. t.2 (omega (arith, gt)) ∙ sym (ap (λ b. cond b 1 0) (and_right (nat_lt 0 d) (nat_le d n) (lt-leb d n (omega (arith, gt))))))

zeros : (n m : ℕ) → (let x : ℕ = get_or (replicate n 0) m 0 in x) ≡ 0
zeros zero m = refl
zeros (suc n) zero = refl
zeros (suc n) (suc m) = zeros n m

behind : (x n i : ℕ) → 0 < i → (let y : ℕ = get_or (x ∷ replicate n 0) i 0 in y) ≡ 0
behind x n zero pos = absurd (omega arith)
behind x n (suc i) pos = zeros n i

abbrev pub no_history : Setup → History
no_history k = record { newest = opening_claim k.cell; past = []; drawn = λ t. []; starts = []; founds = []; published = []; looks = []; refusals = []; added = [] }

pub starts : (k : Setup) → IsSetup k → Recorded k (first_words k) (first_view k ∷ []) ((opening_claim k.cell).window ∷ []) []
starts k ok = record {
  history = h;
  a = record {
    setup = ok;
    wide = let none : ℕ = 0 in omega (arith, length-replicate (2 * k.drivers) none);
    matches = record { claims = λ f. omega arith; grants = λ t f. refl; starts = λ f. refl; founds = λ f. refl; published = λ f. refl; looks = λ f. refl; refusals = λ f. refl; added = λ f. refl };
    chain = refl;
    cell = refl;
    in_time = ok.cell.0;
    in_terms = ok.cell.1;
    makers = λ c stands pos. ⊎_elim (λ (e : opening_claim k.cell ≡ c). absurd (omega (arith, pos, ap (λ (y : Claim). y.window.driver) e))) (λ (z : Contains [] c). in_nil c z) (in_cons (opening_claim k.cell) [] c stands);
    drivers_once = λ d pos. omega (arith, total-append (λ x. cond (eqb x d) 1 0) (numbers_from 1 k.drivers) [], begun k.drivers d pos, own_zero d pos);
    clients_once = λ d pos. omega (arith, total-append (λ x. cond (eqb x d) 1 0) (numbers_from 1 k.clients) [], begun k.clients d pos, own_zero d pos);
    each = λ j u e l. only_a j u e;
    gone = gone;
    published = All-nil (λ (p : Published). p.word ≢ 0 → Names h p.driver (p.word % 262144) (p.word / 262144));
    limits = λ d pos le nz. absurd (nz (behind (packed k.cell.saved k.cell.term) (2 * k.drivers) (limit_at d) (omega (arith, pos))));
  };
  b = record {
    inside = λ c stands. All-nil (λ (g : Grant). Inside c.window g.batch);
    falls = λ c stands. tt;
    none_else = λ t none. refl;
    quotas = omega arith;
    cursors = λ d pos le. omega (arith, zero_at d pos, none_armed d (first_view k) refl);
    raised = λ d pos le. omega arith;
    each = λ j u e l. only_b j u e;
  };
  c = record {
    grown = λ d pos le. omega (arith, zero_at d pos);
    counted = λ d pos le. omega (arith, zero_at d pos);
    founds = All-nil (λ (f : Found). (f.start ≤ f.cursor) × (f.cursor ≤ f.start + added_at f.driver []));
    refusals = All-nil (λ (r : Refusal). (passes r.at r.hi r.count ≡ true) × Bounded h r);
    silent = λ d pos le z told_one. in_nil (record { driver = d; word = told_one.0 }) told_one.2;
    looks = All-nil (Looked h);
  };
  windows_are = refl;
  batches_are = refl;
}
  where
    h : History
    h = no_history k

    zero_at : (d : ℕ) → 0 < d → (let y : ℕ = get_or (first_words k) (cursor_at d) 0 in y) ≡ 0
    zero_at d pos = behind (packed k.cell.saved k.cell.term) (2 * k.drivers) (cursor_at d) (omega (arith, pos))

    only_a : (j : ℕ) (u : View) → get_elem? (first_view k ∷ []) j ≡ some u → FitsA k (no_history k) u
    only_a zero u e = subst (FitsA k (no_history k)) (some-injective _ _ e) record {
      opening = refl;
      term = (omega arith, omega arith);
      saved = omega arith;
      at_opening = λ _. refl;
      latest = tt;
      idle = λ _. All-nil (λ (x : Claim). x.window.driver ≢ 0);
      own_start = λ pos. refl;
      own_sum = λ pos d. refl;
      holds = λ z. absurd (cc z);
      marked = λ z. absurd (cc z);
      aims = tt;
      claims_own = λ d q. refl;
      starts_own = λ d q. refl;
      founds_own = λ d q. refl;
      published_own = λ d q. refl;
      grants_own = λ d q. refl;
      looks_own = λ d q. refl;
      refusals_own = λ d q. refl;
      added_own = λ d q. refl;
    }
    only_a (suc j) u e = absurd (some-ne-none u (sym e))

    only_b : (j : ℕ) (u : View) → get_elem? (first_view k ∷ []) j ≡ some u → FitsB (first_words k) (no_history k) u
    only_b zero u e = subst (FitsB (first_words k) (no_history k)) (some-injective _ _ e) record { seen = inl refl; hand_is = tt; armed = (omega arith, λ pos. absurd (omega (arith, pos))) }
    only_b (suc j) u e = absurd (some-ne-none u (sym e))

    gone : (j : ℕ) (u : View) → get_elem? (first_view k ∷ []) j ≡ some u → u.spent ≡ true → u ≡ spent_view
    gone zero u e l = absurd (cc (l, ap (λ (y : View). y.spent) (some-injective _ _ e)))
    gone (suc j) u e l = absurd (some-ne-none u (sym e))

-- SPLITTING
-- the parts that speak of no view
pub same_c : (k : Setup) (words : List ℕ) (views others : List View) (h : History) → PartC k words views h → PartC k words others h
same_c k words views others h s = record { grown = s.grown; counted = s.counted; founds = s.founds; refusals = s.refusals; silent = s.silent; looks = s.looks }

pub record OwesSplit (k : Setup) (words : List ℕ) (h : History) (v left right : View) : Type 0 where
  pub live : (v.spent ≡ false) × (left.spent ≡ false) × (right.spent ≡ false)
  pub claims : (f : Claim → ℕ) → total f (claims left) + total f (claims right) ≡ total f (claims v)
  pub grants : (f : Grant → ℕ) → total f left.grants + total f right.grants ≡ total f v.grants
  pub starts : (f : Start → ℕ) → total f left.starts + total f right.starts ≡ total f v.starts
  pub founds : (f : Found → ℕ) → total f left.founds + total f right.founds ≡ total f v.founds
  pub published : (f : Published → ℕ) → total f left.published + total f right.published ≡ total f v.published
  pub looks : (f : Look → ℕ) → total f left.looks + total f right.looks ≡ total f v.looks
  pub refusals : (f : Refusal → ℕ) → total f left.refusals + total f right.refusals ≡ total f v.refusals
  pub added : (f : Added → ℕ) → total f left.added + total f right.added ≡ total f v.added
  pub drivers : (e : ℕ) → 0 < e → times e (drivers_of left) + times e (drivers_of right) ≡ times e (drivers_of v)
  pub clients : (e : ℕ) → 0 < e → times e (clients_of left) + times e (clients_of right) ≡ times e (clients_of v)
  pub a : FitsA k h left × FitsA k h right
  pub b : FitsB words h v → FitsB words h left × FitsB words h right
  pub quota : left.quota + right.quota ≡ v.quota
  pub armed : (d : ℕ) → armed_at d left + armed_at d right ≤ armed_at d v

-- a split makes no entry: each part is kept over the same history
pub splits : (k : Setup) (words : List ℕ) (views : List View) (h : History) (id : ℕ) (v left right : View) → get_elem? views id ≡ some v → (PartA k words views h → OwesSplit k words h v left right) → KeepsEach k words views h words (set views id left ++ right ∷ []) h
splits k words views h id v left right at owes = record {
  a = λ a. let o = owes a in record {
    setup = a.setup;
    wide = a.wide;
    matches = record {
      claims = λ f. omega (arith, two (λ u. total f (claims u)), a.matches.claims f, o.claims f);
      grants = λ t f. omega (arith, two (λ u. total (of_term t f) u.grants), a.matches.grants t f, o.grants (of_term t f));
      starts = λ f. omega (arith, two (λ u. total f u.starts), a.matches.starts f, o.starts f);
      founds = λ f. omega (arith, two (λ u. total f u.founds), a.matches.founds f, o.founds f);
      published = λ f. omega (arith, two (λ u. total f u.published), a.matches.published f, o.published f);
      looks = λ f. omega (arith, two (λ u. total f u.looks), a.matches.looks f, o.looks f);
      refusals = λ f. omega (arith, two (λ u. total f u.refusals), a.matches.refusals f, o.refusals f);
      added = λ f. omega (arith, two (λ u. total f u.added), a.matches.added f, o.added f);
    };
    chain = a.chain;
    cell = a.cell;
    in_time = a.in_time;
    in_terms = a.in_terms;
    makers = a.makers;
    drivers_once = λ e pos. omega (arith, two (λ u. times e (drivers_of u)), a.drivers_once e pos, o.drivers e pos);
    clients_once = λ e pos. omega (arith, two (λ u. times e (clients_of u)), a.clients_once e pos, o.clients e pos);
    each = λ j u e l. cases j u e (FitsA k h) (λ _. o.a.0) (λ _. o.a.1) (λ _ was. a.each j u was l);
    gone = λ j u e l. cases j u e (λ (x : View). x.spent ≡ true → x ≡ spent_view) (λ _ z. absurd (cc (z, o.live.1))) (λ _ z. absurd (cc (z, o.live.2))) (λ _ was z. a.gone j u was z) l;
    published = a.published;
    limits = a.limits;
  };
  b = λ a b. let o = owes a in let fit = o.b (b.each id v at o.live.0) in record {
    inside = b.inside;
    falls = b.falls;
    none_else = b.none_else;
    quotas = omega (arith, two (λ u. u.quota), b.quotas, o.quota);
    cursors = λ d pos le. omega (arith, two (armed_at d), o.armed d, b.cursors d pos le);
    raised = b.raised;
    each = λ j u e l. cases j u e (FitsB words h) (λ _. fit.0) (λ _. fit.1) (λ _ was. b.each j u was l);
  };
  c = λ _ _ c. same_c k words views (set views id left ++ right ∷ []) h c;
}
  where
    two : (f : View → ℕ) → total f (set views id left ++ right ∷ []) + f v ≡ total f views + (f left + f right)
    two f = omega (arith, total-append f (set views id left) (right ∷ []), total-set f views id v left at)

    cases : (j : ℕ) (u : View) → get_elem? (set views id left ++ right ∷ []) j ≡ some u → (F : View → Type 0) → (left ≡ u → F left) → (right ≡ u → F right) → (j ≢ id → get_elem? views j ≡ some u → F u) → F u
    cases j u e F l r other = ⊎_elim
        (λ was. ⊎_elim (λ (x : (j ≡ id) × (left ≡ u)). subst F x.1 (l x.1)) (λ (x : (j ≢ id) × (get_elem? views j ≡ some u)). other x.0 x.1) (at_set views id j left u was))
        (λ (same : right ≡ u). subst F same (r same))
        (at_snoc (set views id left) right u j e)

-- a move that keeps each part over the same history keeps both lists too
pub moved : (k : Setup) (words : List ℕ) (views others : List View) (ws : List Window) (bs : List Batch) → (s : Recorded k words views ws bs) → KeepsEach k words views s.history words others s.history → Recorded k words others ws bs
moved k words views others ws bs s p = record { history = s.history; a = p.a s.a; b = p.b s.a s.b; c = p.c s.a s.b s.c; windows_are = s.windows_are; batches_are = s.batches_are }

-- a number to give has no entries
pub total-none : {A : Type 0} (g : A → ℕ) (l : List A) → ((j : ℕ) (u : A) → get_elem? l j ≡ some u → g u ≡ 0) → total g l ≡ 0
total-none g [] h = refl
total-none g (x ∷ xs) h = omega (arith, h 0 x refl, total-none g xs (λ j u e. h (suc j) u e))

given_driver : (k : Setup) (words : List ℕ) (views : List View) (h : History) (id d : ℕ) (ds : List ℕ) (v : View) → PartA k words views h → get_elem? views id ≡ some v → v.give_drivers ≡ d ∷ ds → 0 < d
    → (j : ℕ) (u : View) → get_elem? views j ≡ some u → times d (u.driver ∷ u.took_drivers) ≡ 0
given_driver k words views h id d ds v s at has pos j u there =
    let all = s.drivers_once d pos in
    let one = in_range_one k.drivers d in
    let g : ℕ → ℕ = λ x. cond (eqb x d) 1 0 in
    let gives : 1 ≤ times d v.give_drivers = rw has (own_counts d d ds refl) in
    dite (ℕ_discrete j id)
    (λ e. let is : v ≡ u = some-injective _ _ (sym at ∙ ap (λ (n : ℕ). get_elem? views n) (sym e) ∙ there) in
    let none : times d (v.driver ∷ v.took_drivers) ≡ 0 = omega (arith, all, one, gives, term_le (λ x. times d (drivers_of x)) views id v at, total-append g v.give_drivers v.took_drivers) in
    subst (λ (y : View). times d (y.driver ∷ y.took_drivers) ≡ 0) is none)
    (λ ne. omega (arith, all, one, gives, terms_le (λ x. times d (drivers_of x)) views id j v u ne at there, total-append g v.give_drivers v.took_drivers, total-append g u.give_drivers u.took_drivers))

given_client : (k : Setup) (words : List ℕ) (views : List View) (h : History) (id d : ℕ) (ds : List ℕ) (v : View) → PartA k words views h → get_elem? views id ≡ some v → v.give_clients ≡ d ∷ ds → 0 < d
    → (j : ℕ) (u : View) → get_elem? views j ≡ some u → times d (u.client ∷ u.took_clients) ≡ 0
given_client k words views h id d ds v s at has pos j u there =
    let all = s.clients_once d pos in
    let one = in_range_one k.clients d in
    let g : ℕ → ℕ = λ x. cond (eqb x d) 1 0 in
    let gives : 1 ≤ times d v.give_clients = rw has (own_counts d d ds refl) in
    dite (ℕ_discrete j id)
    (λ e. let is : v ≡ u = some-injective _ _ (sym at ∙ ap (λ (n : ℕ). get_elem? views n) (sym e) ∙ there) in
    let none : times d (v.client ∷ v.took_clients) ≡ 0 = omega (arith, all, one, gives, term_le (λ x. times d (clients_of x)) views id v at, total-append g v.give_clients v.took_clients) in
    subst (λ (y : View). times d (y.client ∷ y.took_clients) ≡ 0) is none)
    (λ ne. omega (arith, all, one, gives, terms_le (λ x. times d (clients_of x)) views id j v u ne at there, total-append g v.give_clients v.took_clients, total-append g u.give_clients u.took_clients))

no_start : (k : Setup) (words : List ℕ) (views : List View) (h : History) (d : ℕ) → PartA k words views h → ((j : ℕ) (u : View) → get_elem? views j ≡ some u → times d (u.driver ∷ u.took_drivers) ≡ 0) → greatest d h.starts ≡ 0
no_start k words views h d s none =
    let f : Start → ℕ = λ x. cond (eqb x.driver d) 1 0 in
    greatest_none d h.starts (sym (s.matches.starts f) ∙ total-none (λ (u : View). total f u.starts) views (λ j u e.
    by_bool (λ b. u.spent ≡ b → total f u.starts ≡ 0) u.spent (λ _ l. ap (λ (y : View). total f y.starts) (s.gone j u e l)) (λ _ l. (s.each j u e l).starts_own d (λ _. none j u e)) refl))

added_none : (c d : ℕ) (xs : List Added) → total (λ (a : Added). cond (eqb a.client c) 1 0) xs ≡ 0 → added_by c d xs ≡ 0
added_none c d [] h = refl
added_none c d (x ∷ xs) h = by_eq (λ b. (let n : ℕ = cond b 1 0 + total (λ (a : Added). cond (eqb a.client c) 1 0) xs in n) ≡ 0 → (let n : ℕ = cond (eqb x.driver d) (cond b x.count 0) 0 + added_by c d xs in n) ≡ 0) x.client c
    (λ _ e. absurd (omega (arith, e)))
    (λ _ e. by_bool (λ b. (let n : ℕ = cond b 0 0 + added_by c d xs in n) ≡ 0) (eqb x.driver d) (λ _. omega (arith, added_none c d xs (omega (arith, e)))) (λ _. omega (arith, added_none c d xs (omega (arith, e))))) h

no_sum : (k : Setup) (words : List ℕ) (views : List View) (h : History) (c d : ℕ) → PartA k words views h → ((j : ℕ) (u : View) → get_elem? views j ≡ some u → times c (u.client ∷ u.took_clients) ≡ 0) → added_by c d h.added ≡ 0
no_sum k words views h c d s none =
    let f : Added → ℕ = λ x. cond (eqb x.client c) 1 0 in
    added_none c d h.added (sym (s.matches.added f) ∙ total-none (λ (u : View). total f u.added) views (λ j u e.
    by_bool (λ b. u.spent ≡ b → total f u.added ≡ 0) u.spent (λ _ l. ap (λ (y : View). total f y.added) (s.gone j u e l)) (λ _ l. (s.each j u e l).added_own c (λ _. none j u e)) refl))

-- a new view that knows the opening cell alone
fresh_a : (k : Setup) (words : List ℕ) (views : List View) (h : History) (v w : View) → PartA k words views h → FitsA k h v → w ≡ record (blank v.opening) { driver = w.driver; client = w.client; seen = w.seen; quota = w.quota }
    → (0 < w.driver → greatest w.driver h.starts ≡ 0) → (0 < w.client → (d : ℕ) → added_by w.client d h.added ≡ 0) → FitsA k h w
fresh_a k words views h v w s mine is starts sums =
    let begin = chain_le (opening_claim k.cell) h.newest h.past s.chain (opening_claim k.cell) (opening_stands (opening_claim k.cell) h.newest h.past s.chain) in
    subst (FitsA k h) (sym is) record {
      opening = mine.opening;
      term = (omega (arith, ap (λ (c : CellWord). c.term) mine.opening), omega (arith, begin.1, ap (λ (c : CellWord). c.term) mine.opening));
      saved = omega (arith, begin.2, ap (λ (c : CellWord). c.saved) mine.opening);
      at_opening = λ _. ap (λ (c : CellWord). c.saved) mine.opening;
      latest = tt;
      idle = λ _. All-nil (λ (x : Claim). x.window.driver ≢ w.driver);
      own_start = λ pos. sym (starts pos);
      own_sum = λ pos d. sym (sums pos d);
      holds = λ z. absurd (cc z);
      marked = λ z. absurd (cc z);
      aims = tt;
      claims_own = λ d q. refl;
      starts_own = λ d q. refl;
      founds_own = λ d q. refl;
      published_own = λ d q. refl;
      grants_own = λ d q. refl;
      looks_own = λ d q. refl;
      refusals_own = λ d q. refl;
      added_own = λ d q. refl;
    }

-- a split changes no entry of the view that splits
left_a : (k : Setup) (h : History) (v : View) (ds cs : List ℕ) (q : ℕ) → FitsA k h v → FitsA k h (record v { give_drivers = ds; give_clients = cs; quota = q })
left_a k h v ds cs q mine = record {
  opening = mine.opening;
  term = mine.term;
  saved = mine.saved;
  at_opening = mine.at_opening;
  latest = mine.latest;
  idle = mine.idle;
  own_start = mine.own_start;
  own_sum = mine.own_sum;
  holds = mine.holds;
  marked = mine.marked;
  aims = mine.aims;
  claims_own = mine.claims_own;
  starts_own = mine.starts_own;
  founds_own = mine.founds_own;
  published_own = mine.published_own;
  grants_own = mine.grants_own;
  looks_own = mine.looks_own;
  refusals_own = mine.refusals_own;
  added_own = mine.added_own;
}

pub driver_parts : (k : Setup) (words : List ℕ) (views : List View) (h : History) (id d : ℕ) (ds : List ℕ) (v : View) → get_elem? views id ≡ some v → v.spent ≡ false → v.give_drivers ≡ d ∷ ds
    → KeepsEach k words views h words (set views id (gave_driver v) ++ new_driver v ∷ []) h
driver_parts k words views h id d ds v at live has =
    let head : head_of v.give_drivers ≡ d = ap head_of has in
    splits k words views h id v (gave_driver v) (new_driver v) at (λ s. let mine = s.each id v at live in record {
      live = (live, live, refl);
      claims = λ f. omega arith;
      grants = λ f. omega arith;
      starts = λ f. omega arith;
      founds = λ f. omega arith;
      published = λ f. omega arith;
      looks = λ f. omega arith;
      refusals = λ f. omega arith;
      added = λ f. omega arith;
      drivers = λ e pos. rw has (omega (arith, total-append (λ x. cond (eqb x e) 1 0) ds v.took_drivers, total-append (λ x. cond (eqb x e) 1 0) (d ∷ ds) v.took_drivers));
      clients = λ e pos. omega (arith, own_zero e pos);
      a = (
        left_a k h v (rest_of v.give_drivers) v.give_clients v.quota mine,
        fresh_a k words views h v (new_driver v) s mine refl (λ pos. rw head (no_start k words views h d s (given_driver k words views h id d ds v s at has (omega (arith, pos, head))))) (λ pos e. absurd (omega (arith, pos))),
      );
      b = λ fit. (record { seen = fit.seen; hand_is = fit.hand_is; armed = fit.armed }, record { seen = inl refl; hand_is = tt; armed = (omega arith, λ pos. absurd (omega (arith, pos))) });
      quota = omega arith;
      armed = λ e. omega (arith, none_armed e (new_driver v) refl);
    })

pub splits_driver : (k : Setup) (words : List ℕ) (views : List View) (id d : ℕ) (ds : List ℕ) (v : View) (ws : List Window) (bs : List Batch) → Recorded k words views ws bs → get_elem? views id ≡ some v → v.spent ≡ false → v.give_drivers ≡ d ∷ ds
    → Recorded k words (set views id (gave_driver v) ++ new_driver v ∷ []) ws bs
splits_driver k words views id d ds v ws bs s at live has = moved k words views (set views id (gave_driver v) ++ new_driver v ∷ []) ws bs s (driver_parts k words views s.history id d ds v at live has)

pub client_parts : (k : Setup) (words : List ℕ) (views : List View) (h : History) (id d : ℕ) (ds : List ℕ) (v : View) → get_elem? views id ≡ some v → v.spent ≡ false → v.give_clients ≡ d ∷ ds → 262144 ≤ v.quota → v.armed ≡ 0
    → KeepsEach k words views h words (set views id (gave_client v) ++ new_client v ∷ []) h
client_parts k words views h id d ds v at live has enough rest =
    let head : head_of v.give_clients ≡ d = ap head_of has in
    splits k words views h id v (gave_client v) (new_client v) at (λ s. let mine = s.each id v at live in record {
      live = (live, live, refl);
      claims = λ f. omega arith;
      grants = λ f. omega arith;
      starts = λ f. omega arith;
      founds = λ f. omega arith;
      published = λ f. omega arith;
      looks = λ f. omega arith;
      refusals = λ f. omega arith;
      added = λ f. omega arith;
      drivers = λ e pos. omega (arith, own_zero e pos);
      clients = λ e pos. rw has (omega (arith, total-append (λ x. cond (eqb x e) 1 0) ds v.took_clients, total-append (λ x. cond (eqb x e) 1 0) (d ∷ ds) v.took_clients));
      a = (
        left_a k h v v.give_drivers (rest_of v.give_clients) (v.quota - 262144) mine,
        fresh_a k words views h v (new_client v) s mine refl (λ pos. absurd (omega (arith, pos))) (λ pos e. rw head (no_sum k words views h d e s (given_client k words views h id d ds v s at has (omega (arith, pos, head))))),
      );
      b = λ fit. (record { seen = fit.seen; hand_is = fit.hand_is; armed = (omega (arith, rest), λ pos. absurd (omega (arith, pos, rest))) }, record { seen = inl refl; hand_is = tt; armed = (omega arith, λ pos. absurd (omega (arith, pos))) });
      quota = omega (arith, enough);
      armed = λ e. omega (arith, none_armed e (new_client v) refl);
    })

pub splits_client : (k : Setup) (words : List ℕ) (views : List View) (id d : ℕ) (ds : List ℕ) (v : View) (ws : List Window) (bs : List Batch) → Recorded k words views ws bs → get_elem? views id ≡ some v → v.spent ≡ false → v.give_clients ≡ d ∷ ds → 262144 ≤ v.quota → v.armed ≡ 0
    → Recorded k words (set views id (gave_client v) ++ new_client v ∷ []) ws bs
splits_client k words views id d ds v ws bs s at live has enough rest = moved k words views (set views id (gave_client v) ++ new_client v ∷ []) ws bs s (client_parts k words views s.history id d ds v at live has enough rest)

pub note_parts : (k : Setup) (words : List ℕ) (views : List View) (h : History) (id : ℕ) (v : View) → get_elem? views id ≡ some v → v.spent ≡ false → KeepsEach k words views h words (set views id v ++ new_note v ∷ []) h
note_parts k words views h id v at live =
    splits k words views h id v v (new_note v) at (λ s. let mine = s.each id v at live in record {
      live = (live, live, refl);
      claims = λ f. omega arith;
      grants = λ f. omega arith;
      starts = λ f. omega arith;
      founds = λ f. omega arith;
      published = λ f. omega arith;
      looks = λ f. omega arith;
      refusals = λ f. omega arith;
      added = λ f. omega arith;
      drivers = λ e pos. omega (arith, own_zero e pos);
      clients = λ e pos. omega (arith, own_zero e pos);
      a = (mine, fresh_a k words views h v (new_note v) s mine refl (λ pos. absurd (omega (arith, pos))) (λ pos e. absurd (omega (arith, pos))));
      b = λ fit. (fit, record { seen = fit.seen; hand_is = tt; armed = (omega arith, λ pos. absurd (omega (arith, pos))) });
      quota = omega arith;
      armed = λ e. omega (arith, none_armed e (new_note v) refl);
    })

pub splits_note : (k : Setup) (words : List ℕ) (views : List View) (id : ℕ) (v : View) (ws : List Window) (bs : List Batch) → Recorded k words views ws bs → get_elem? views id ≡ some v → v.spent ≡ false
    → Recorded k words (set views id v ++ new_note v ∷ []) ws bs
splits_note k words views id v ws bs s at live = moved k words views (set views id v ++ new_note v ∷ []) ws bs s (note_parts k words views s.history id v at live)
