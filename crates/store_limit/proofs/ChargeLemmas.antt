-- One level gives the least over all charges, and the charges between two moments are within the rate.
use Rattle.std.proofs.Common.{◌≡◌, ℕ, ◌+◌, ◌-◌, ◌*◌, ◌<◌, ◌≤◌, cond, List, [], ◌∷◌, length, fold, min, max, nat_le, ◌&&◌, refl, sym, ap, ◌∙◌, ⊎_elim, arith}
use Rattle.std.proofs.Math.Nat.{mul-add}
use Rattle.std.proofs.lemmas.Bool.{cases_lt}
use Rattle.std.proofs.lemmas.List.Sums.{sum_by-cons}
use Rattle.std.proofs.lemmas.Bool.Decides.{nat_tests}
use Rattle.store_limit.specs.declared.bucket.TheConstants.{PEER_UNITS}
use Rattle.store_limit.specs.Level.{Level, available_at, cap_of, charged}
use Rattle.store_limit.specs.Charges.{AreLawful, bounds, count_between, latest, least_after, level_after}

-- what a bucket gains from x to now is what it gains from x to m and from m to now
gain-split : (r x m now : ℕ) → x ≤ m → m ≤ now → r * (now - x) ≡ r * (now - m) + r * (m - x)
gain-split r x m now before after =
    let parts : now - x ≡ (now - m) + (m - x) = omega arith in ap (λ d. r * d) parts ∙ mul-add r (now - m) (m - x)

-- the least is at most what it begins with
fold-min-le : (a : ℕ) (xs : List ℕ) → fold min a xs ≤ a
fold-min-le a [] = omega arith
fold-min-le a (x ∷ xs) = let below : fold min (min a x) xs ≤ min a x = fold-min-le (min a x) xs in omega arith

-- a bound taken apart from the others
fold-min-min : (a b : ℕ) (xs : List ℕ) → fold min (min a b) xs ≡ min a (fold min b xs)
fold-min-min a b [] = refl
fold-min-min a b (x ∷ xs) =
    let regroup : min (min a b) x ≡ min a (min b x) = omega arith in ap (λ y. fold min y xs) regroup ∙ fold-min-min a (min b x) xs

-- one charge more, and the time that passed since: each bound falls by a peer's units and rises by what came
bounds-later : (level : Level) (n : ℕ) (earlier : List ℕ) (m now a b : ℕ) → AreLawful level earlier → latest level earlier ≤ m → m ≤ now
    → b ≡ a + level.rate * (now - m) - PEER_UNITS → PEER_UNITS ≤ fold min a (bounds level n earlier m)
    → fold min b (bounds level (n + 1) earlier now) ≡ fold min a (bounds level n earlier m) + level.rate * (now - m) - PEER_UNITS
bounds-later level n [] m now a b lawful before after e enough = e
bounds-later level n (x ∷ earlier) m now a b lawful before after e enough =
    let gained = gain-split level.rate x m now before after in
    let least : fold min (min a (cap_of level.rate + level.rate * (m - x) - PEER_UNITS * (n + 1))) (bounds level (n + 1) earlier m) ≤ min a (cap_of level.rate + level.rate * (m - x) - PEER_UNITS * (n + 1)) = fold-min-le _ (bounds level (n + 1) earlier m) in
    let here : min b (cap_of level.rate + level.rate * (now - x) - PEER_UNITS * (n + 1 + 1)) ≡ min a (cap_of level.rate + level.rate * (m - x) - PEER_UNITS * (n + 1)) + level.rate * (now - m) - PEER_UNITS = omega arith in
    let earlier_still : latest level earlier ≤ m = omega arith in
    bounds-later level (n + 1) earlier m now (min a (cap_of level.rate + level.rate * (m - x) - PEER_UNITS * (n + 1))) _ lawful.2 earlier_still after here enough

-- lawful charges came after the level began
began : (level : Level) (charges : List ℕ) → AreLawful level charges → level.moment ≤ latest level charges
began level [] lawful = omega arith
began level (m ∷ earlier) lawful = let before = began level earlier lawful.2 in omega arith

-- a charge leaves what the least was, less a peer's units, and what came since, up to the cap
least-charge : (level : Level) (m : ℕ) (earlier : List ℕ) (now : ℕ) → AreLawful level (m ∷ earlier) → m ≤ now
    → least_after level (m ∷ earlier) now ≡ min (cap_of level.rate) (least_after level earlier m + level.rate * (now - m) - PEER_UNITS)
least-charge level m earlier now lawful after =
    let cap = cap_of level.rate in
    let start = level.content + level.rate * (m - level.moment) - PEER_UNITS * length earlier in
    let began_before = began level earlier lawful.2 in
    let gained = gain-split level.rate level.moment m now (omega arith) after in
    let least : fold min (min cap start) (bounds level 0 earlier m) ≤ min cap start = fold-min-le _ (bounds level 0 earlier m) in
    let regroup : min (min cap (level.content + level.rate * (now - level.moment) - PEER_UNITS * length (m ∷ earlier))) (cap + level.rate * (now - m) - PEER_UNITS * (0 + 1)) ≡ min cap (min cap start + level.rate * (now - m) - PEER_UNITS) = omega arith in
    ap (λ y. fold min y (bounds level (0 + 1) earlier now)) regroup
    ∙ fold-min-min cap (min cap start + level.rate * (now - m) - PEER_UNITS) (bounds level (0 + 1) earlier now)
    ∙ ap (min cap) (bounds-later level 0 earlier m now (min cap start) _ lawful.2 lawful.0 after refl lawful.1)

-- the rate stays, and the moment is that of the latest charge
rate-after : (level : Level) (charges : List ℕ) → (level_after level charges).rate ≡ level.rate
rate-after level [] = refl
rate-after level (m ∷ earlier) = rate-after level earlier

moment-after : (level : Level) (charges : List ℕ) → AreLawful level charges → (level_after level charges).moment ≡ latest level charges
moment-after level [] lawful = refl
moment-after level (m ∷ earlier) lawful = let before = moment-after level earlier lawful.2 in omega arith

-- what is available after a charge, by the rate and the moment of the level before it
available-charged : (level : Level) (rate moment least m now : ℕ) → level.rate ≡ rate → level.moment ≡ moment → available_at level m ≡ least → moment ≤ m → m ≤ now
    → PEER_UNITS ≤ least → available_at (charged level m) now ≡ min (cap_of rate) (least + rate * (now - m) - PEER_UNITS)
available-charged level rate moment least m now same_rate same_moment holds order after enough =
    let last : max level.moment m ≡ m = omega arith in
    let content : available_at level m - PEER_UNITS ≡ least - PEER_UNITS = omega arith in
    let moved : available_at (charged level m) now ≡ min (cap_of rate) ((least - PEER_UNITS) + rate * (now - m)) = rw (content, last, same_rate) refl in
    moved ∙ (omega arith)

pub available-least : (level : Level) (charges : List ℕ) (now : ℕ) → AreLawful level charges → latest level charges ≤ now → available_at (level_after level charges) now ≡ least_after level charges now
available-least level [] now lawful after = omega arith
available-least level (m ∷ earlier) now lawful after =
    available-charged (level_after level earlier) level.rate (latest level earlier) (least_after level earlier m) m now (rate-after level earlier) (moment-after level earlier lawful.2) (available-least level earlier m lawful.2 lawful.0) lawful.0 after lawful.1
    ∙ sym (least-charge level m earlier now lawful after)

-- one charge more is counted where it came between the two moments
count-cons : (from upto m : ℕ) (earlier : List ℕ) → count_between from upto (m ∷ earlier) ≡ cond (nat_le from m && nat_le m upto) 1 0 + count_between from upto earlier
count-cons from upto m earlier = sum_by-cons (λ charge. cond (nat_le from charge && nat_le charge upto) 1 0) m earlier

-- charges that came no later than a moment are counted alike up to it and up to a later one
count-upto : (level : Level) (charges : List ℕ) (from m upto : ℕ) → AreLawful level charges → latest level charges ≤ m → m ≤ upto → count_between from upto charges ≡ count_between from m charges
count-upto level [] from m upto lawful before after = refl
count-upto level (x ∷ earlier) from m upto lawful before after =
    let rest = count-upto level earlier from m upto lawful.2 (omega arith) after in
    let one = count-cons from upto x earlier in
    let two = count-cons from m x earlier in
    grind (arith, nat_tests)

-- none is counted where all came before the first moment
count-none : (level : Level) (charges : List ℕ) (from upto : ℕ) → AreLawful level charges → latest level charges < from → count_between from upto charges ≡ 0
count-none level [] from upto lawful before = refl
count-none level (x ∷ earlier) from upto lawful before =
    let rest = count-none level earlier from upto lawful.2 (omega arith) in
    let one = count-cons from upto x earlier in
    grind (arith, nat_tests)

-- the charges from a moment on, and what they leave: together no more than a full bucket and what it gained
charges-and-rest : (level : Level) (charges : List ℕ) (from upto : ℕ) → AreLawful level charges → from ≤ upto → latest level charges ≤ upto
    → PEER_UNITS * count_between from upto charges + least_after level charges upto ≤ cap_of level.rate + level.rate * (upto - from)
charges-and-rest level [] from upto lawful order after = omega arith
charges-and-rest level (m ∷ earlier) from upto lawful order after =
    let one = count-cons from upto m earlier in
    let rest = least-charge level m earlier upto lawful after in
    ⊎_elim
    (λ late. let none = count-none level earlier from upto lawful.2 (omega arith) in let enough = lawful.1 in grind (arith, nat_tests))
    (λ early.
    let same = count-upto level earlier from m upto lawful.2 lawful.0 after in
    let gained = gain-split level.rate from m upto early after in
    let before = charges-and-rest level earlier from m lawful.2 early lawful.0 in
    let enough = lawful.1 in
    grind (arith, nat_tests))
    (cases_lt m from)

pub charges-within : (level : Level) (charges : List ℕ) (from upto : ℕ) → AreLawful level charges → from ≤ upto → PEER_UNITS * count_between from upto charges ≤ cap_of level.rate + level.rate * (upto - from)
charges-within level [] from upto lawful order = omega arith
charges-within level (m ∷ earlier) from upto lawful order =
    ⊎_elim
    (λ later.
    let one = count-cons from upto m earlier in
    let rest = charges-within level earlier from upto lawful.2 order in
    grind (arith, nat_tests))
    (λ among. let both = charges-and-rest level (m ∷ earlier) from upto lawful order among in omega arith)
    (cases_lt upto m)
