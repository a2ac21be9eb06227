-- Turns round a list of schedulers, seen by f as what they tell of themselves.
use Rattle.std.proofs.Common.{◌≡◌, ◌≢◌, ◌∙◌, sym, refl, ap, subst, ℕ, ◌+◌, ◌-◌, ◌<◌, ◌≤◌, suc, List, [], ◌∷◌, ◌++◌, length, map, take, drop, set, get_or, arith, append_assoc, append-nil, All, ◌⊎◌, inl, inr, Some, None, Option, Result, Ok, Err, OnErr}
use Rattle.std.proofs.lemmas.Bool.Decides.{nat_tests}
use Rattle.std.proofs.lemmas.List.{map-set, set_split, take_at, drop_at, length-map, map-append, length-append, length-take-le, length-set, drop-append-le, take-append-le, get_or_at, take_more, take_all, get_or_default, set-get_or}
use Rattle.std.proofs.lemmas.Simd.{map-map}
use Rattle.std.proofs.lemmas.Bool.{cases_lt}
use Rattle.std.specs.List.{remove}
use Rattle.std.proofs.lemmas.List.Elements.{All-map, All-push}
use Rattle.std.proofs.Math.Seq.{split_at, map-set_same, drop-append-add, take-append-add}
use Rattle.std.proofs.Math.Nat.{eq-or-lt_of_le}
use Rattle.std.proofs.Math.ListN.{get_or-map}
use Rattle.sched_api.specs.declared.scheduler.Fate.{Fate}
use Rattle.sched_api.specs.declared.scheduler.Said.{Said}
use Rattle.pd_types.specs.declared.proposal.Proposal.{Proposal}
use Rattle.sched_api.specs.Benches.{names_of, reach, seat_of, told, Seat, Seats, TakesTurn, Tells, TellsAt, TellsOne, SaysNothing, StaysLast, TakesOut, Drops, next_place, place_without, IsFirstPlace}
use Rattle.sched_api.specs.Schedulers.{more_by_one}

-- the turn goes to the one at the place
turn_at : (l r : List Seat) (x : Seat) (i : ℕ) → length l ≡ i → drop i (l ++ x ∷ r) ++ take i (l ++ x ∷ r) ≡ x ∷ (r ++ l)
turn_at l r x i e = rw (drop_at l (x ∷ r) i e, take_at l (x ∷ r) i e) refl

next_more : (i n : ℕ) → i + 1 < n → next_place i n ≡ i + 1
next_more i n h = grind (arith, nat_tests)

next_none : (i n : ℕ) → n ≤ i + 1 → next_place i n ≡ 0
next_none i n h = grind (arith, nat_tests)

length_behind : (l r : List Seat) (y : Seat) → length (l ++ y ∷ r) ≡ length l + length r + 1
length_behind l r y = let e = length-append l (y ∷ r) in omega (arith, e)

-- and behind it to the one after it
turn_behind : (l r : List Seat) (y : Seat) (i n : ℕ) → length l ≡ i → n ≡ length (l ++ y ∷ r) →
    drop (next_place i n) (l ++ y ∷ r) ++ take (next_place i n) (l ++ y ∷ r) ≡ (r ++ l) ++ y ∷ []
turn_behind l [] y i n e m =
    let last : next_place i n ≡ 0 = next_none i n (omega (arith, m ∙ length_behind l [] y)) in
    rw last (append-nil (l ++ y ∷ []))
turn_behind l (z ∷ r) y i n e m =
    let more : next_place i n ≡ i + 1 = next_more i n (omega (arith, m ∙ length_behind l (z ∷ r) y)) in
    let whole : l ++ y ∷ (z ∷ r) ≡ (l ++ y ∷ []) ++ z ∷ r = sym (append_assoc l (y ∷ []) (z ∷ r)) in
    let many : length (l ++ y ∷ []) ≡ i + 1 = omega (arith, length_behind l [] y) in
    rw (more, whole, drop_at (l ++ y ∷ []) (z ∷ r) (i + 1) many, take_at (l ++ y ∷ []) (z ∷ r) (i + 1) many)
    (sym (append_assoc (z ∷ r) l (y ∷ [])))

-- the names are those of the same list
pub named_alike : {X : Type 0} (xs : List X) (f : X → Seat) (i : ℕ) (x y : X) → get_or xs i x ≡ x → (f y).name ≡ (f x).name →
    map (λ (seat : Seat). seat.name) (map f (set xs i y)) ≡ map (λ (seat : Seat). seat.name) (map f xs)
named_alike {X} xs f i x y here same =
    let name : Seat → List ℕ = λ (seat : Seat). seat.name in
    map-map name f (set xs i y) ∙ map-set_same (λ (z : X). name (f z)) xs i y x (subst (λ (z : X). name (f y) ≡ name (f z)) (sym here) same) ∙ sym (map-map name f xs)

pub takes_turn : {X : Type 0} (xs : List X) (f : X → Seat) (i : ℕ) (last : Option ℕ) (x y : X) (now : ℕ) (said : Said) (before : List Said) →
    i < length xs → get_or xs i x ≡ x →
    (f y).name ≡ (f x).name → (f y).asks ≡ more_by_one (f x).asks → (f y).at ≡ now → (f y).heard ≡ None → said.name ≡ (f y).name → said.proposal ≡ (f y).last →
    TakesTurn (record { list = map f xs; next = i; last = last; said = before }) (record { list = map f (set xs i y); next = next_place i (length xs); last = Some i; said = before ++ said ∷ [] }) now said
takes_turn {X} xs f i last x y now said before inside here named asks at_now heard name answer =
    let l : List Seat = map f (take i xs) in
    let r : List Seat = map f (drop (suc i) xs) in
    let whole : map f xs ≡ l ++ f x ∷ r =
    ap (λ (all : List X). map f all) (subst (λ (z : X). xs ≡ take i xs ++ z ∷ drop (suc i) xs) here (split_at xs i x inside)) ∙ map-append f (take i xs) (x ∷ drop (suc i) xs) in
    let left : map f (set xs i y) ≡ l ++ f y ∷ r =
    ap (λ (all : List X). map f all) (set_split xs i y inside) ∙ map-append f (take i xs) (y ∷ drop (suc i) xs) in
    let at : length l ≡ i = length-map (take i xs) f ∙ length-take-le i xs (omega arith) in
    let many : length xs ≡ length (l ++ f y ∷ r) = sym (length-set xs i y) ∙ sym (length-map (set xs i y) f) ∙ ap (λ (all : List Seat). length all) left in
    record {
      one = f x;
      asked = f y;
      others = r ++ l;
      turn = rw whole (turn_at l r (f x) i at);
      passed = rw left (turn_behind l r (f y) i (length xs) at many);
      here = omega (arith, inside, length-map xs f);
      place = map-set f xs i y;
      name = named;
      asks = asks;
      at = at_now;
      heard = heard;
      last = refl;
      named = name;
      answer = answer;
      grown = refl;
      names = named_alike xs f i x y here named;
    }

-- the one at the place was asked, and nothing was said
pub asks_in_vain : {X : Type 0} (xs : List X) (f : X → Seat) (i : ℕ) (last : Option ℕ) (x y : X) (before : List Said) → get_or xs i x ≡ x → (f y).name ≡ (f x).name →
    SaysNothing (record { list = map f xs; next = i; last = last; said = before }) (record { list = map f (set xs i y); next = i; last = last; said = before })
asks_in_vain {X} xs f i last x y before here same = record { asked = f y; others = map-set f xs i y; names = named_alike xs f i x y here same; next = refl; last = refl; said = refl }

-- nobody was asked
pub asks_nobody : (seats : Seats) → SaysNothing seats seats
asks_nobody seats =
    let none : Seat = seat_of [] None 0 0 None in
    record { asked = get_or seats.list seats.next none; others = sym (set-get_or seats.list seats.next none); names = refl; next = refl; last = refl; said = refl }

-- the one at the place was told
tells_at : {X : Type 0} (xs : List X) (f : X → Seat) (i next : ℕ) (x y : X) (fate : Fate) (said : List Said) → i < length xs → get_or xs i x ≡ x → f y ≡ told fate (f x) →
    TellsAt i fate (record { list = map f xs; next = next; last = Some i; said = said }) (record { list = map f (set xs i y); next = next; last = Some i; said = said })
tells_at {X} xs f i next x y fate said inside here is =
    let l : List Seat = map f (take i xs) in
    let r : List Seat = map f (drop (suc i) xs) in
    let left : map f (set xs i y) ≡ l ++ told fate (f x) ∷ r =
    ap (λ (all : List X). map f all) (set_split xs i y inside) ∙ map-append f (take i xs) (y ∷ drop (suc i) xs) ∙ ap (λ (seat : Seat). l ++ seat ∷ r) is in
    record {
      before = l;
      one = f x;
      behind = r;
      at = length-map (take i xs) f ∙ length-take-le i xs (omega arith);
      whole = ap (λ (all : List X). map f all) (subst (λ (z : X). xs ≡ take i xs ++ z ∷ drop (suc i) xs) here (split_at xs i x inside)) ∙ map-append f (take i xs) (x ∷ drop (suc i) xs);
      told = ap (λ (all : List Seat). record { list = all; next = next; last = Some i; said = said }) left;
    }

-- the one asked last, which stands in the list
pub tells_last : {X : Type 0} (xs : List X) (f : X → Seat) (last : Option ℕ) (i next : ℕ) (x y : X) (fate : Fate) (said : List Said) → last ≡ Some i → reach last ≤ length xs → get_or xs i x ≡ x → f y ≡ told fate (f x) →
    TellsOne last fate (record { list = map f xs; next = next; last = last; said = said }) (record { list = map f (set xs i y); next = next; last = last; said = said })
tells_last {X} xs f last i next x y fate said last_is within here is =
    let low : i + 1 ≤ length xs = subst (λ (o : Option ℕ). reach o ≤ length xs) last_is within in
    subst (λ (o : Option ℕ). TellsOne o fate (record { list = map f xs; next = next; last = o; said = said }) (record { list = map f (set xs i y); next = next; last = o; said = said })) (sym last_is)
    (tells_at xs f i next x y fate said (omega (arith, low)) here is)

-- of what is told the names stay, and what was said
told_keeps : (last : Option ℕ) (fate : Fate) (old new : Seats) → TellsOne last fate old new → (new.said ≡ old.said) × (names_of new ≡ names_of old)
told_keeps None fate old new same = (ap (λ (seats : Seats). seats.said) same, ap names_of same)
told_keeps (Some place) fate old new tells =
    let name : Seat → List ℕ = λ (seat : Seat). seat.name in
    let alike : map name (tells.before ++ told fate tells.one ∷ tells.behind) ≡ map name (tells.before ++ tells.one ∷ tells.behind) =
    map-append name tells.before (told fate tells.one ∷ tells.behind) ∙ sym (map-append name tells.before (tells.one ∷ tells.behind)) in
    (ap (λ (seats : Seats). seats.said) tells.told, ap names_of tells.told ∙ alike ∙ sym (ap (map name) tells.whole))

pub tells_said : (fate : Fate) (old new : Seats) → Tells fate old new → new.said ≡ old.said
tells_said fate old new tells = (told_keeps old.last fate old new tells).0

pub tells_names : (fate : Fate) (old new : Seats) → Tells fate old new → names_of new ≡ names_of old
tells_names fate old new tells = (told_keeps old.last fate old new tells).1

without_before : (k i n : ℕ) → k < i → place_without k i n ≡ i - 1
without_before k i n h = grind (arith, nat_tests)

without_behind : (k i n : ℕ) → i ≤ k → i < n → place_without k i n ≡ i
without_behind k i n h low = grind (arith, nat_tests)

without_last : (k i n : ℕ) → i ≤ k → n ≤ i → place_without k i n ≡ 0
without_last k i n h low = grind (arith, nat_tests)

-- one goes whose turn it was, or one before it in the list
without_here : (l r : List Seat) (one : Seat) (i : ℕ) → length l ≡ i →
    TakesOut one (drop i (l ++ one ∷ r) ++ take i (l ++ one ∷ r)) (drop (place_without i i (length (l ++ r))) (l ++ r) ++ take (place_without i i (length (l ++ r))) (l ++ r))
without_here l [] one i e =
    let place : place_without i i (length (l ++ [])) ≡ 0 = without_last i i (length (l ++ [])) (omega arith) (let m = length-append l [] in omega (arith, m)) in
    record {
      before = [];
      behind = l;
      whole = turn_at l [] one i e;
      left = rw place (append-nil (l ++ []) ∙ append-nil l);
    }
without_here l (z ∷ r) one i e =
    let place : place_without i i (length (l ++ z ∷ r)) ≡ i = without_behind i i (length (l ++ z ∷ r)) (omega arith) (let m = length-append l (z ∷ r) in omega (arith, m)) in
    record {
      before = [];
      behind = (z ∷ r) ++ l;
      whole = turn_at l (z ∷ r) one i e;
      left = rw (place, drop_at l (z ∷ r) i e, take_at l (z ∷ r) i e) refl;
    }

without_after : (l r : List Seat) (one : Seat) (k j : ℕ) → length l ≡ k →
    TakesOut one (drop (length l + suc j) (l ++ one ∷ r) ++ take (length l + suc j) (l ++ one ∷ r)) (drop (place_without k (length l + suc j) (length (l ++ r))) (l ++ r) ++ take (place_without k (length l + suc j) (length (l ++ r))) (l ++ r))
without_after l r one k j e =
    let place : place_without k (length l + suc j) (length (l ++ r)) ≡ length l + j = without_before k (length l + suc j) (length (l ++ r)) (omega (arith, e)) ∙ (omega (arith, e)) in
    record {
      before = drop j r ++ l;
      behind = take j r;
      whole = rw (drop-append-add l (one ∷ r) (suc j), take-append-add l (one ∷ r) (suc j)) (sym (append_assoc (drop j r) l (one ∷ take j r)));
      left = rw (place, drop-append-add l r j, take-append-add l r j) (sym (append_assoc (drop j r) l (take j r)));
    }

without_past : (l r : List Seat) (one : Seat) (k i : ℕ) → length l ≡ k → (k ≡ i) ⊎ (k < i) → i ≤ length l + length r →
    TakesOut one (drop i (l ++ one ∷ r) ++ take i (l ++ one ∷ r)) (drop (place_without k i (length (l ++ r))) (l ++ r) ++ take (place_without k i (length (l ++ r))) (l ++ r))
without_past l r one k i e (inl same) within = subst (λ (j : ℕ). TakesOut one (drop i (l ++ one ∷ r) ++ take i (l ++ one ∷ r)) (drop (place_without j i (length (l ++ r))) (l ++ r) ++ take (place_without j i (length (l ++ r))) (l ++ r))) (sym same) (without_here l r one i (e ∙ same))
without_past l r one k i e (inr more) within =
    let at : length l + suc (i - suc k) ≡ i = omega (arith, e, more) in
    subst (λ (m : ℕ). TakesOut one (drop m (l ++ one ∷ r) ++ take m (l ++ one ∷ r)) (drop (place_without k m (length (l ++ r))) (l ++ r) ++ take (place_without k m (length (l ++ r))) (l ++ r))) at (without_after l r one k (i - suc k) e)

-- the turns before the one at the place k goes
without_at : (l r : List Seat) (one : Seat) (k i : ℕ) → length l ≡ k → i < k ⊎ k ≤ i → i ≤ length l + length r →
    TakesOut one (drop i (l ++ one ∷ r) ++ take i (l ++ one ∷ r)) (drop (place_without k i (length (l ++ r))) (l ++ r) ++ take (place_without k i (length (l ++ r))) (l ++ r))
without_at l r one k i e (inl less) within =
    let place : place_without k i (length (l ++ r)) ≡ i = without_behind k i (length (l ++ r)) (omega arith) (let m = length-append l r in omega (arith, m)) in
    record {
      before = drop i l;
      behind = r ++ take i l;
      whole = rw (drop-append-le i l (one ∷ r) (omega arith), take-append-le i l (one ∷ r) (omega arith)) (append_assoc (drop i l) (one ∷ r) (take i l));
      left = rw (place, drop-append-le i l r (omega arith), take-append-le i l r (omega arith)) (append_assoc (drop i l) r (take i l));
    }
without_at l r one k i e (inr more) within = without_past l r one k i e (eq-or-lt_of_le more) within

pub drops : {X : Type 0} (xs : List X) (f : X → Seat) (k i : ℕ) (last left_last : Option ℕ) (x : X) (wanted : List ℕ) (said : List Said) →
    i ≤ length xs - 1 → x ≡ get_or xs k x → IsFirstPlace wanted (map f xs) (Some k) → StaysLast k last left_last →
    Drops wanted (record { list = map f xs; next = i; last = last; said = said }) (record { list = map f (remove xs k); next = place_without k i (length (remove xs k)); last = left_last; said = said })
drops {X} xs f k i last left_last x wanted said within here first stays =
    let l : List Seat = map f (take k xs) in
    let r : List Seat = map f (drop (suc k) xs) in
    let inside : k < length xs = omega (arith, first.0, length-map xs f) in
    let whole : map f xs ≡ l ++ f x ∷ r =
    ap (λ (all : List X). map f all) (subst (λ (z : X). xs ≡ take k xs ++ z ∷ drop (suc k) xs) (sym here) (split_at xs k x inside)) ∙ map-append f (take k xs) (x ∷ drop (suc k) xs) in
    let left : map f (remove xs k) ≡ l ++ r = map-append f (take k xs) (drop (suc k) xs) in
    let at : length l ≡ k = length-map (take k xs) f ∙ length-take-le k xs (omega arith) in
    let many : length (remove xs k) ≡ length (l ++ r) = sym (length-map (remove xs k) f) ∙ ap (λ (all : List Seat). length all) left in
    record {
      one = f x;
      named = subst (λ (one : Seat). one.name ≡ wanted) (ap (λ (all : List Seat). get_or all k (f x)) whole ∙ get_or_at l (f x) r (f x) k at) (first.1 (f x));
      list = record { before = l; behind = r; whole = whole; left = left };
      first = subst (All (λ (other : Seat). other.name ≢ wanted)) (ap (λ (all : List Seat). take k all) whole ∙ take_at l (f x ∷ r) k at) first.2;
      turns = rw (whole, left, many) (without_at l r (f x) k i at (cases_lt i k) (let m = length-append l (f x ∷ r) in let n = sym (length-map xs f) ∙ ap (λ (all : List Seat). length all) whole in omega (arith, m, n, within, inside)));
      last = subst (λ (gone : ℕ). StaysLast gone last left_last) (sym at) stays;
      said = refl;
    }

-- a scheduler that was told this, and of which all else stays
pub told_seat : (name name' : List ℕ) (last last' : Option Proposal) (asks asks' at at' : ℕ) (heard : Option Fate) (fate : Fate) → name ≡ name' → last ≡ last' → asks ≡ asks' → at ≡ at' → heard ≡ Some fate
    → seat_of name last asks at heard ≡ seat_of name' last' asks' at' (Some fate)
told_seat name name' last last' asks asks' at at' heard fate e f g h k = rw (e, f, g, h, k) refl

-- no scheduler has the name, told of the schedulers or of their names
pub none_named : (name : List ℕ) (list : List Seat) → All (λ (other : Seat). other.name ≢ name) list → All (λ (one : List ℕ). one ≢ name) (map (λ (seat : Seat). seat.name) list)
none_named name list all = All-map (λ (one : List ℕ). one ≢ name) (λ (seat : Seat). seat.name) list all

pub one_named : (name : List ℕ) (list : List Seat) (place : ℕ) → IsFirstPlace name list (Some place) → All (λ (one : List ℕ). one ≢ name) (map (λ (seat : Seat). seat.name) list) → ⊥
one_named name list place first all =
    let d : Seat = seat_of [] None 0 0 None in
    let inside : place < length (map (λ (seat : Seat). seat.name) list) = omega (arith, first.0, length-map list (λ (seat : Seat). seat.name)) in
    all place d.name inside (get_or-map (λ (seat : Seat). seat.name) list place d ∙ first.1 d)

-- the seat at the place
seen_at : {X : Type 0} (xs : List X) (f : X → Seat) (i : ℕ) (x : X) (d : Seat) → i < length xs → x ≡ get_or xs i x → get_or (map f xs) i d ≡ f x
seen_at {X} xs f i x d inside here =
    let low : i < length (map f xs) = omega (arith, length-map xs f) in
    get_or_default (map f xs) i d (f x) low ∙ get_or-map f xs i x ∙ ap f (sym here)

pub name_more : {X : Type 0} (xs : List X) (f : X → Seat) (i : ℕ) (x : X) (name : List ℕ) → i < length xs → x ≡ get_or xs i x → (f x).name ≢ name →
    All (λ (other : Seat). other.name ≢ name) (take i (map f xs)) → All (λ (other : Seat). other.name ≢ name) (take (i + 1) (map f xs))
name_more {X} xs f i x name inside here other all =
    let low : i < length (map f xs) = omega (arith, length-map xs f) in
    let one : get_or (map f xs) i (f x) ≡ f x = seen_at xs f i x (f x) inside here in
    rw (take_more (map f xs) i (f x) low, one) (All-push (λ (other : Seat). other.name ≢ name) (take i (map f xs)) (f x) all other)

pub name_at : {X : Type 0} (xs : List X) (f : X → Seat) (i : ℕ) (x : X) (name : List ℕ) → i < length xs → x ≡ get_or xs i x → (f x).name ≡ name →
    All (λ (other : Seat). other.name ≢ name) (take i (map f xs)) → IsFirstPlace name (map f xs) (Some i)
name_at {X} xs f i x name inside here same all =
    (omega (arith, length-map xs f), (λ d. ap (λ (seat : Seat). seat.name) (seen_at xs f i x d inside here) ∙ same), all)

pub name_nowhere : {X : Type 0} (xs : List X) (f : X → Seat) (i : ℕ) (name : List ℕ) → length xs ≤ i →
    All (λ (other : Seat). other.name ≢ name) (take i (map f xs)) → IsFirstPlace name (map f xs) None
name_nowhere {X} xs f i name past all =
    subst (All (λ (other : Seat). other.name ≢ name)) (take_all i (map f xs) (omega (arith, length-map xs f))) all

pub on_err : {T E P : Type 0} (r : Result T E) → P → OnErr r P
on_err (Ok x) p = tt
on_err (Err e) p = p

pub all_names : {X : Type 0} (xs ys : List X) (f : X → Seat) (n : ℕ) (names : List (List ℕ)) → ys ≡ xs → length ys ≤ n → names ≡ map (λ (x : X). (f x).name) (take n ys) → names ≡ map (λ (seat : Seat). seat.name) (map f xs)
all_names {X} xs ys f n names same past is =
    let name : X → List ℕ = λ (x : X). (f x).name in
    is ∙ ap (λ (all : List X). map name all) (take_all n ys past ∙ same) ∙ sym (map-map (λ (seat : Seat). seat.name) f xs)
