-- The tickets of a cluster's turn, its shares, and what each actor finds in the journal.
use Rattle.std.proofs.Common.{◌≡◌, ◌<◌, ◌∙◌, ℕ, zero, suc, Bool, List, [], ◌∷◌, cond, eqb, get_or, length, map, sym, refl, ap, subst, arith, eq-eqb, ne_eqb}
use Rattle.std.specs.Prelude.{All, Contains, None, Result, Ok, Err, IfOk}
use Rattle.std.proofs.lemmas.List.{length-map}
use Rattle.std.proofs.lemmas.List.Elements.{All-cons, All-contains, All-head, All-map, All-nil, All-tail, Contains-get_or}
use mathlib.Core.Logic.{dite}
use mathlib.Core.Option.{some, some-injective, some-ne-none}
use native.Mathlib.Decide.{ℕ_discrete}
use lib.ListN.{get_elem?}
use Rattle.pd_turn.specs.Turns.{IsFree, IsMadeBy, IsToldBy, TicketValue, TurnValue, items_of, new_ticket, ticket_value}
use Rattle.pd_types.specs.declared.oracle.Actor.TheVariants.{Driver, Store}
use Rattle.pd_state.specs.declared.entry.Entry.{Entry}
use Rattle.pd_shared.specs.Kept.{number_of, tale_of}
use Rattle.pd_shared.specs.Shares.{AreSharesOf, IsInJournal, IsOpen, IsOwn, ShareValue, SharedValue, actor_of, actors_of, entries_of, new_share, same_actor, share_by, shared_of, ticket_by}

-- NUMBERS AND ACTORS
pub number_actor : (driver number : ℕ) → number_of (actor_of driver number) ≡ number
number_actor driver number =
    let by : Bool → ℕ = λ b. number_of (cond b (Driver driver) (Store number)) in
    dite (ℕ_discrete number 0) (λ none. ap by (eq-eqb number 0 none) ∙ sym none) (λ some. ap by (ne_eqb number 0 some))

-- numbers are the same exactly where their actors are
same_number : (driver one other : ℕ) → eqb one other ≡ same_actor (actor_of driver one) (actor_of driver other)
same_number driver one other =
    let by : Bool → Bool → Bool = λ b c. same_actor (cond b (Driver driver) (Store one)) (cond c (Driver driver) (Store other)) in
    dite (ℕ_discrete one 0)
    (λ none. dite (ℕ_discrete other 0)
    (λ nothing. eq-eqb one other (none ∙ sym nothing) ∙ sym (eq-eqb driver driver refl) ∙ (λ i. by (sym (eq-eqb one 0 none) i) (sym (eq-eqb other 0 nothing) i)))
    (λ any. ne_eqb one other (λ h. any (sym h ∙ none)) ∙ (λ i. by (sym (eq-eqb one 0 none) i) (sym (ne_eqb other 0 any) i))))
    (λ any. dite (ℕ_discrete other 0)
    (λ none. ne_eqb one other (λ h. any (h ∙ none)) ∙ (λ i. by (sym (ne_eqb one 0 any) i) (sym (eq-eqb other 0 none) i)))
    (λ other_any. λ i. by (sym (ne_eqb one 0 any) i) (sym (ne_eqb other 0 other_any) i)))

-- what follows from what holds on Ok
pub if_ok : {A E : Type 0} (r : Result A E) (P Q : A → Type 0) → ((a : A) → P a → Q a) → IfOk r P → IfOk r Q
if_ok (Ok a) P Q f h = f a h
if_ok (Err e) P Q f h = h

-- LISTS
unmap : {X Y : Type 0} (P : Y → Type 0) (f : X → Y) (xs : List X) → All P (map f xs) → All (λ x. P (f x)) xs
unmap P f [] h = All-nil (λ x. P (f x))
unmap P f (x ∷ xs) h = All-cons (λ x. P (f x)) x xs (All-head P (f x) (map f xs) h) (unmap P f xs (All-tail P (f x) (map f xs) h))

all_at : {X : Type 0} (P : X → Type 0) (xs : List X) (k : ℕ) (x : X) → All P xs → get_elem? xs k ≡ some x → P x
all_at P [] k x h at = absurd (some-ne-none x (sym at))
all_at P (y ∷ ys) zero x h at = subst P (some-injective y x at) (All-head P y ys h)
all_at P (y ∷ ys) (suc k) x h at = all_at P ys k x (All-tail P y ys h) at

read_map : {X Y : Type 0} (f : X → Y) (xs : List X) (k : ℕ) (y : Y) (x : X) → k < length xs → get_or (map f xs) k y ≡ f (get_or xs k x)
read_map f [] k y x lt = absurd (omega (arith, lt))
read_map f (z ∷ zs) zero y x lt = refl
read_map f (z ∷ zs) (suc k) y x lt = read_map f zs k y x (omega (arith, lt))

contains_map : {X Y : Type 0} (f : X → Y) (xs : List X) (y : Y) (default : X) → Contains (map f xs) y → (x : X) × Contains xs x × (f x ≡ y)
contains_map f xs y default h =
    let lt : h.0 < length xs = omega (arith, h.1, length-map xs f) in
    (get_or xs h.0 default, Contains-get_or xs h.0 default lt, sym (read_map f xs h.0 y default lt) ∙ h.2)

-- what stands at a place of a list stands, mapped, in the mapped list
among_mapped : {X Y : Type 0} (f : X → Y) (xs : List X) (k : ℕ) (x : X) → get_elem? xs k ≡ some x → Contains (map f xs) (f x)
among_mapped f [] k x at = absurd (some-ne-none x (sym at))
among_mapped f (z ∷ zs) zero x at = (0, omega arith, ap f (some-injective z x at))
among_mapped f (z ∷ zs) (suc k) x at = let rest = among_mapped f zs k x at in let within = rest.1 in (suc rest.0, omega (arith, within), rest.2)

-- what is true of a number's items is true of each of them
of_item : {I : Type 0} (P : I → Type 0) (n : ℕ) (tale : List (ℕ × I)) (k : ℕ) (i : I) → All P (items_of n tale) → get_elem? tale k ≡ some (n, i) → P i
of_item P n [] k i h at = absurd (some-ne-none (n, i) (sym at))
of_item {I} P n (x ∷ xs) zero i h at =
    let is : x ≡ (n, i) = some-injective x (n, i) at in
    subst P (ap (λ y. y.1) is) (All-head P x.1 (items_of n xs) (subst (λ b. All P (cond b (x.1 ∷ items_of n xs) (items_of n xs))) (eq-eqb x.0 n (ap (λ y. y.0) is)) h))
of_item P n (x ∷ xs) (suc k) i h at = dite (ℕ_discrete x.0 n)
    (λ same. of_item P n xs k i (All-tail P x.1 (items_of n xs) (subst (λ b. All P (cond b (x.1 ∷ items_of n xs) (items_of n xs))) (eq-eqb x.0 n same) h)) at)
    (λ other. of_item P n xs k i (subst (λ b. All P (cond b (x.1 ∷ items_of n xs) (items_of n xs))) (ne_eqb x.0 n other) h) at)

-- TICKETS AND SHARES
pub are_open : (turn : TurnValue) (driver : ℕ) (numbers : List ℕ) → All (IsOpen driver) (map (new_ticket turn) numbers)
are_open turn driver numbers = All-map (IsOpen driver) (new_ticket turn) numbers (λ k d lt. record { none = refl; entries = All-nil (λ (e : Entry). e.actor ≡ actor_of driver (get_or numbers k d)) })

pub new_shares : (turn : TurnValue) (driver : ℕ) (numbers : List ℕ) → map (share_by driver) (map (new_ticket turn) numbers) ≡ map (new_share (shared_of turn driver)) (map (actor_of driver) numbers)
new_shares turn driver [] = refl
new_shares turn driver (n ∷ ns) = ap (λ l. new_share (shared_of turn driver) (actor_of driver n) ∷ l) (new_shares turn driver ns)

pub are_free : (cluster : SharedValue) (shares : List ShareValue) → All (λ (s : ShareValue). s.cluster ≡ cluster) shares → All (IsFree cluster.turn) (map ticket_by shares)
are_free cluster shares h = All-map (IsFree cluster.turn) ticket_by shares (λ k d lt. record { turn_is = ap (λ c. c.turn) (h k d lt); none = refl })

-- the ticket of a share that was made of a ticket
pub same_ticket : (driver : ℕ) (ticket : TicketValue Entry) → ticket.taken ≡ None → ticket ≡ ticket_by (share_by driver ticket)
same_ticket driver ticket none = let number = number_actor driver ticket.number in λ i. ticket_value ticket.turn (sym number i) ticket.list (none i)

pub own_share : (driver : ℕ) (ticket : TicketValue Entry) → IsOpen driver ticket → IsOwn (share_by driver ticket)
own_share driver ticket h = record { entries = h.entries; actor_is = sym (ap (actor_of driver) (number_actor driver ticket.number)) }

pub some_share : (cluster : SharedValue) (shares : List ShareValue) → AreSharesOf cluster shares → 0 < length cluster.turn.numbers → 0 < length shares
some_share cluster shares h any =
    let first = h.each 0 (Driver 0) (omega (arith, any, length-map cluster.turn.numbers (actor_of cluster.driver))) in
    omega (arith, first.1, length-map shares (λ (s : ShareValue). s.actor))

-- THE JOURNAL
at_tale : (entries : List Entry) (k : ℕ) (d : Entry) → k < length entries → get_elem? (tale_of entries) k ≡ some (number_of (get_or entries k d).actor, get_or entries k d)
at_tale [] k d lt = absurd (omega (arith, lt))
at_tale (e ∷ es) zero d lt = refl
at_tale (e ∷ es) (suc k) d lt = at_tale es k d (omega (arith, lt))

-- where each entry is of its number's actor, a number's items are its actor's entries
items_are : (driver n : ℕ) (entries : List Entry) → All (λ (e : Entry). e.actor ≡ actor_of driver (number_of e.actor)) entries → items_of n (tale_of entries) ≡ entries_of (actor_of driver n) entries
items_are driver n [] h = refl
items_are driver n (e ∷ es) h =
    let rest = items_are driver n es (All-tail (λ (e : Entry). e.actor ≡ actor_of driver (number_of e.actor)) e es h) in
    let own = All-head (λ (e : Entry). e.actor ≡ actor_of driver (number_of e.actor)) e es h in
    let test : eqb (number_of e.actor) n ≡ same_actor e.actor (actor_of driver n) = same_number driver (number_of e.actor) n ∙ ap (λ a. same_actor a (actor_of driver n)) (sym own) in
    λ i. cond (test i) (e ∷ rest i) (rest i)

module _ (cluster : SharedValue) (entries : List Entry) (shares : List ShareValue) (are : AreSharesOf cluster shares) (own : All IsOwn shares)
    (told : All (IsToldBy (tale_of entries)) (map ticket_by shares)) (made : IsMadeBy cluster.turn.numbers (tale_of entries)) where
  told_each : All (λ (s : ShareValue). IsToldBy (tale_of entries) (ticket_by s)) shares
  told_each = unmap (IsToldBy (tale_of entries)) ticket_by shares told

  -- an entry is its number's actor's, since it is in the share of that actor
  of_actor : All (λ (e : Entry). e.actor ≡ actor_of cluster.driver (number_of e.actor)) entries
  of_actor k d lt =
      let e = get_or entries k d in
      let n = number_of e.actor in
      let at = at_tale entries k d lt in
      let among = made k (n, e) at in
      let has = all_at (λ (m : ℕ). Contains (map (λ (s : ShareValue). s.actor) shares) (actor_of cluster.driver m)) cluster.turn.numbers among.0 n
      (unmap (Contains (map (λ (s : ShareValue). s.actor) shares)) (actor_of cluster.driver) cluster.turn.numbers are.each) among.1 in
      let share = contains_map (λ (s : ShareValue). s.actor) shares (actor_of cluster.driver n) (new_share cluster (Driver 0)) has in
      let list : share.0.list ≡ items_of n (tale_of entries) =
      All-contains (λ (s : ShareValue). IsToldBy (tale_of entries) (ticket_by s)) shares share.0 told_each share.1
      ∙ ap (λ m. items_of m (tale_of entries)) (ap number_of share.2 ∙ number_actor cluster.driver n) in
      let all = (All-contains IsOwn shares share.0 own share.1).entries in
      of_item (λ (x : Entry). x.actor ≡ share.0.actor) n (tale_of entries) k e (subst (All (λ (x : Entry). x.actor ≡ share.0.actor)) list all) at ∙ share.2

  -- and that actor has a share
  pub of_callers : All (λ (e : Entry). Contains (actors_of cluster) e.actor) entries
  of_callers k d lt =
      let e = get_or entries k d in
      let n = number_of e.actor in
      let among = made k (n, e) (at_tale entries k d lt) in
      subst (Contains (actors_of cluster)) (sym (of_actor k d lt)) (among_mapped (actor_of cluster.driver) cluster.turn.numbers among.0 n among.1)

  pub in_journal : All (IsInJournal entries) shares
  in_journal k d lt =
      let share = get_or shares k d in
      let driver : cluster.driver ≡ share.cluster.driver = ap (λ c. c.driver) (sym (are.of k d lt)) in
      told_each k d lt ∙ items_are cluster.driver (number_of share.actor) entries of_actor
      ∙ ap (λ a. entries_of a entries) (ap (λ m. actor_of m (number_of share.actor)) driver ∙ sym (own k d lt).actor_is)
