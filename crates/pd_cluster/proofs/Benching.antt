-- What the benches of schedulers go on to say, and what a request takes of it.
use Rattle.std.proofs.Common.{◌≡◌, ℕ, zero, suc, ◌-◌, ◌<◌, Bool, true, false, cond, List, [], ◌∷◌, ◌++◌, length, take, drop, map, get_or, set, replicate, Option, Some, None, refl, sym, ap, subst, ◌∙◌, append_assoc, append-nil, arith}
use Rattle.std.proofs.Math.Seq.{drop-append_seam, take-append_seam}
use Rattle.std.proofs.lemmas.List.{get_or-append_right, set-append_left, set-get_or}
use Rattle.pd_types.specs.declared.request.Request.{Request}
use Rattle.pd_types.specs.declared.request.Request.TheVariants as ask
use Rattle.sched_api.specs.Benches.{Seat, Seats, names_of}
use Rattle.sched_api.specs.declared.scheduler.Said.{Said as Heeded}
use Rattle.pd_state.specs.BenchHeard.{OverBench, asks_names, dropped, names_heard, names_left, turns_of}
use Rattle.pd_state.specs.declared.entry.Entry.{Entry}
use Rattle.pd_state.specs.declared.part.Part.{Part}
use Rattle.pd_cluster.specs.Talks.{GoOn, Talk, silence, talk_at, talk_left, talks_from, talks_of}

-- WHAT WAS SAID STAYS SAID
begins : (xs zs rest : List Heeded) → zs ≡ xs ++ rest → zs ≡ xs ++ drop (length xs) zs
begins xs zs rest is = is ∙ ap (λ (ys : List Heeded). xs ++ ys) (sym (ap (λ (ys : List Heeded). drop (length xs) ys) is ∙ drop-append_seam xs rest))

behind : (xs ys zs : List Heeded) → zs ≡ xs ++ ys → drop (length xs) zs ≡ ys
behind xs ys zs is = ap (λ (all : List Heeded). drop (length xs) all) is ∙ drop-append_seam xs ys

pub goes_same : (seats : List Seats) → GoOn seats seats
goes_same [] = tt
goes_same (one ∷ seats) = (begins one.said one.said [] (sym (append-nil one.said)), goes_same seats)

pub goes_on : (a b c : List Seats) → GoOn a b → GoOn b c → GoOn a c
goes_on [] [] [] p q = tt
goes_on [] [] (z ∷ c) p q = q
goes_on [] (y ∷ b) c p q = absurd p
goes_on (x ∷ a) [] c p q = absurd p
goes_on (x ∷ a) (y ∷ b) [] p q = absurd q
goes_on (x ∷ a) (y ∷ b) (z ∷ c) p q =
    let first : List Heeded = drop (length x.said) y.said in
    let next : List Heeded = drop (length y.said) z.said in
    (begins x.said z.said (first ++ next) (q.0 ∙ ap (λ (ys : List Heeded). ys ++ next) p.0 ∙ append_assoc x.said first next), goes_on a b c p.1 q.1)

-- one of them said more
pub goes_set : (seats : List Seats) (k : ℕ) (one new : Seats) (said : List Heeded) → get_or seats k one ≡ one → new.said ≡ one.said ++ said → GoOn seats (set seats k new)
goes_set [] k one new said at grown = tt
goes_set (o ∷ seats) zero one new said at grown = (begins o.said new.said said (grown ∙ ap (λ (s : Seats). s.said ++ said) (sym at)), goes_same seats)
goes_set (o ∷ seats) (suc k) one new said at grown = (begins o.said o.said [] (sym (append-nil o.said)), goes_set seats k one new said at grown)

-- A BENCH THAT GOES ON
-- before it said this one goes on with it and more, and then with the rest
record IsHere (old ends : List Seats) (k : ℕ) (one new : Seats) (said : List Heeded) : Type 0 where
  more : List Heeded
  talk : (rest : List Talk) → get_or (talks_from old ends ++ rest) k silence ≡ record { names = names_of one; said = said ++ more }
  next : talks_from (set old k new) ends ≡ set (talks_from old ends) k (record { names = names_of new; said = more })

here_at : (old ends : List Seats) (k : ℕ) (one new : Seats) (said : List Heeded) → k < length old → get_or old k one ≡ one → new.said ≡ one.said ++ said → GoOn (set old k new) ends → IsHere old ends k one new said
here_at [] ends k one new said within at grown goes = absurd (omega (arith, within))
here_at (o ∷ old) [] zero one new said within at grown goes = absurd goes
here_at (o ∷ old) [] (suc k) one new said within at grown goes = absurd goes
here_at (o ∷ old) (e ∷ ends) zero one new said within at grown goes =
    let left : List Heeded = drop (length new.said) e.said in
    let said_is : drop (length o.said) e.said ≡ said ++ left =
    behind o.said (said ++ left) e.said (goes.0 ∙ ap (λ (s : List Heeded). s ++ left) grown ∙ append_assoc one.said said left ∙ ap (λ (s : Seats). s.said ++ (said ++ left)) (sym at)) in
    record { more = left; talk = λ rest. (λ i. record { names = names_of (at i); said = said_is i }); next = refl }
here_at (o ∷ old) (e ∷ ends) (suc k) one new said within at grown goes =
    let first : Talk = record { names = names_of o; said = drop (length o.said) e.said } in
    let h = here_at old ends k one new said (omega (arith, within)) at grown goes.1 in
    record { more = h.more; talk = h.talk; next = ap (λ (ts : List Talk). first ∷ ts) h.next }

pub length_from : (old new : List Seats) → length (talks_from old new) ≡ length old
length_from [] new = refl
length_from (one ∷ old) [] = ap suc (length_from old [])
length_from (one ∷ old) (other ∷ new) = ap suc (length_from old new)

-- of these talks an entry heard what a driver's one says, which goes on behind it
pub record IsTalk (talks next : List Talk) (d : ℕ) (part : Option Part) (entry : Entry) : Type 0 where
  pub names : entry.names ≡ names_heard entry.request (talk_at talks d).names
  pub said : entry.bench ≡ take (turns_of part entry.request entry.names) (talk_at talks d).said
  pub after : next ≡ set talks d (talk_left (talk_at talks d) entry.bench (dropped part entry.request entry.names))

-- of a driver that has a bench
seated_at : (places : ℕ) (old ends : List Seats) (k : ℕ) (part : Option Part) (entry : Entry) (one new : Seats) → k < length old → get_or old k one ≡ one → OverBench part entry one new
    → length entry.bench ≡ turns_of part entry.request entry.names → GoOn (set old k new) ends → IsTalk (talks_of places old ends) (talks_of places (set old k new) ends) (suc k) part entry
seated_at places old ends k part entry one new within at over turns goes =
    let h = here_at old ends k one new entry.bench within at over.said goes in
    let rest : List Talk = replicate places silence in
    let talk : Talk = get_or (talks_from old ends ++ rest) k silence in
    let gone : Option (List ℕ) = dropped part entry.request entry.names in
    let put : Talk = record { names = names_of new; said = h.more } in
    let put_is : put ≡ talk_left talk entry.bench gone =
    sym (ap (λ (t : Talk). talk_left t entry.bench gone) (h.talk rest) ∙ (λ i. record { names = sym over.left i; said = drop-append_seam entry.bench h.more i })) in
    record {
      names = over.names ∙ ap (λ (t : Talk). names_heard entry.request t.names) (sym (h.talk rest));
      said = sym (take-append_seam entry.bench h.more) ∙ ap (λ (n : ℕ). take n (entry.bench ++ h.more)) turns ∙ ap (λ (t : Talk). take (turns_of part entry.request entry.names) t.said) (sym (h.talk rest));
      after = ap (λ (ts : List Talk). silence ∷ (ts ++ rest)) h.next ∙ ap (λ (ts : List Talk). silence ∷ ts) (sym (set-append_left (talks_from old ends) rest k put (omega (arith, within, length_from old ends))))
          ∙ ap (λ (t : Talk). silence ∷ set (talks_from old ends ++ rest) k t) put_is;
    }

pub seated : (places : ℕ) (old ends : List Seats) (d k : ℕ) (part : Option Part) (entry : Entry) (one new : Seats) → suc k ≡ d → k < length old → get_or old k one ≡ one → OverBench part entry one new
    → length entry.bench ≡ turns_of part entry.request entry.names → GoOn (set old k new) ends → IsTalk (talks_of places old ends) (talks_of places (set old k new) ends) d part entry
seated places old ends d k part entry one new d_is within at over turns goes =
    subst (λ (n : ℕ). IsTalk (talks_of places old ends) (talks_of places (set old k new) ends) n part entry) d_is (seated_at places old ends k part entry one new within at over turns goes)

-- A DRIVER WITHOUT ONE
-- none of these benches is the driver's: there are fewer, and none is that of driver 0, who is nobody
abbrev pub HasNoBench : List Seats → ℕ → Type 0
HasNoBench benches driver = 0 < driver → length benches < driver

pub all_silent : (n k : ℕ) → get_or (replicate n silence) k silence ≡ silence
all_silent zero k = refl
all_silent (suc n) zero = refl
all_silent (suc n) (suc k) = all_silent n k

pub silent_at : (places : ℕ) (old ends : List Seats) (d : ℕ) → HasNoBench old d → talk_at (talks_of places old ends) d ≡ silence
silent_at places old ends zero none = refl
silent_at places old ends (suc k) none =
    let past : length old < suc k = none (omega arith) in
    get_or-append_right (talks_from old ends) (replicate places silence) (length old) k silence (length_from old ends) (omega (arith, past)) ∙ all_silent places (k - length old)

no_names : (request : Request) → names_heard request [] ≡ []
no_names request = by (asks_names request)
  where
    by : (b : Bool) → cond {A = List (List ℕ)} b [] [] ≡ []
    by true = refl
    by false = refl

no_turns : (part : Option Part) (request : Request) → turns_of part request [] ≡ 0
no_turns None request = refl
no_turns (Some part) (ask.Schedule moment) = refl
no_turns (Some part) request = refl

none_left : (gone : Option (List ℕ)) → names_left gone [] ≡ []
none_left None = refl
none_left (Some name) = refl

none_said : (said : List Heeded) → length said ≡ 0 → said ≡ []
none_said [] is = refl
none_said (one ∷ said) is = absurd (omega (arith, is))

no_take : (n : ℕ) → take {A = Heeded} n [] ≡ []
no_take zero = refl
no_take (suc n) = refl

no_drop : (n : ℕ) → drop {A = Heeded} n [] ≡ []
no_drop zero = refl
no_drop (suc n) = refl

pub unseated : (talks : List Talk) (d : ℕ) (part : Option Part) (entry : Entry) (one new : Seats) → talk_at talks d ≡ silence → one.list ≡ [] → OverBench part entry one new
    → length entry.bench ≡ turns_of part entry.request entry.names → IsTalk talks talks d part entry
unseated talks d part entry one new silent none over turns =
    let names_is : entry.names ≡ [] = over.names ∙ ap (λ (list : List Seat). names_heard entry.request (map (λ (seat : Seat). seat.name) list)) none ∙ no_names entry.request in
    let bench_is : entry.bench ≡ [] = none_said entry.bench (turns ∙ ap (λ (names : List (List ℕ)). turns_of part entry.request names) names_is ∙ no_turns part entry.request) in
    let gone : Option (List ℕ) = dropped part entry.request entry.names in
    let left_is : talk_left silence entry.bench gone ≡ silence = λ i. record { names = none_left gone i; said = no_drop (length entry.bench) i } in
    record {
      names = names_is ∙ sym (ap (λ (t : Talk). names_heard entry.request t.names) silent ∙ no_names entry.request);
      said = bench_is ∙ sym (ap (λ (t : Talk). take (turns_of part entry.request entry.names) t.said) silent ∙ no_take (turns_of part entry.request entry.names));
      after = sym (ap (λ (t : Talk). set talks d t) (ap (λ (t : Talk). talk_left t entry.bench gone) silent ∙ left_is ∙ sym silent) ∙ set-get_or talks d silence);
    }
