-- Each misfit number is the one that every way to give the peers rules comes to.
use Rattle.std.proofs.Common.{refl, ◌≡◌, ◌↔◌, ℕ, zero, suc, ◌+◌, ◌-◌, ◌<◌, ◌≤◌, max, nat_le, Bool, true, false, ◌&&◌, ◌⊎◌, inl, inr, List, [], ◌∷◌, length, get_or, map, sum, ap, sym, ◌∙◌, subst, Option, Some, None, arith}
use Rattle.std.proofs.lemmas.Bool.Decides.{nat_tests}
use Rattle.std.specs.List.{filter}
use Rattle.std.proofs.Common.{replicate}
use Rattle.rule_fit.specs.Assignment.{IsAssignment, held, placed}
use Rattle.rule_fit.specs.Certificate.{IsMisfitNumber}
use Rattle.rule_fit.proofs.Totals.{none_assigned}
use Rattle.rule_fit.proofs.Members.{In, in_either, in_filter, in_left, in_map, in_right, of_filter, of_map}
use Rattle.pd_types.specs.Numbers.{greatest_of}
use Rattle.rule_fit.specs.Ways.{all_suited, all_within, choices, is_allowed, misfit_number, most_placed, ways, with_each}

-- every way is looked at
less_or : (r n : ℕ) → r < suc n → (r ≡ n) ⊎ (r < n)
less_or r n h = grind (arith, nat_tests)

in_choices : (n r : ℕ) → r < n → In (Option ℕ) (Some r) (choices n)
in_choices zero r h = absurd (omega arith)
in_choices (suc n) r h = elim (less_or r n h) [ inl same ↦ inl (ap (λ (k : ℕ). Some k) same) | inr less ↦ inr (in_choices n r less) ]

none_choices : (n : ℕ) → In (Option ℕ) None (choices n)
none_choices zero = inl refl
none_choices (suc n) = inr (none_choices n)

in_each : (o : Option ℕ) (rest : List (Option ℕ)) (os : List (Option ℕ)) (rests : List (List (Option ℕ))) → In (Option ℕ) o os → In (List (Option ℕ)) rest rests → In (List (Option ℕ)) (o ∷ rest) (with_each os rests)
in_each o rest [] rests h k = absurd h
in_each o rest (p ∷ os) rests (inl h) k =
    in_left (List (Option ℕ)) (o ∷ rest) (map (λ (r : List (Option ℕ)). p ∷ r) rests) (with_each os rests)
    (subst (λ (q : Option ℕ). In (List (Option ℕ)) (o ∷ rest) (map (λ (r : List (Option ℕ)). q ∷ r) rests)) h (in_map (List (Option ℕ)) (List (Option ℕ)) (λ r. o ∷ r) rest rests k))
in_each o rest (p ∷ os) rests (inr h) k = in_right (List (Option ℕ)) (o ∷ rest) (map (λ (r : List (Option ℕ)). p ∷ r) rests) (with_each os rests) (in_each o rest os rests h k)

of_each : (given : List (Option ℕ)) (os : List (Option ℕ)) (rests : List (List (Option ℕ))) → In (List (Option ℕ)) given (with_each os rests)
    → (o : Option ℕ) × (rest : List (Option ℕ)) × In (Option ℕ) o os × In (List (Option ℕ)) rest rests × (given ≡ o ∷ rest)
of_each given [] rests h = absurd h
of_each given (p ∷ os) rests h = elim (in_either (List (Option ℕ)) given (map (λ (r : List (Option ℕ)). p ∷ r) rests) (with_each os rests) h) [
  | inl k ↦ let r = of_map (List (Option ℕ)) (List (Option ℕ)) (λ r. p ∷ r) given rests k in (p, r.0, inl refl, r.1, r.2)
  | inr k ↦ let r = of_each given os rests k in (r.0, r.1, inr r.2, r.3, r.4)
]

abbrev IsBelow : ℕ → Option ℕ → Type 0
IsBelow n None = Unit {0}
IsBelow n (Some r) = r < n

choice_in : (n : ℕ) (o : Option ℕ) → IsBelow n o → In (Option ℕ) o (choices n)
choice_in n None h = none_choices n
choice_in n (Some r) h = in_choices n r h

below_of : (n : ℕ) (o : Option ℕ) → ((r : ℕ) → o ≡ Some r → r < n) → IsBelow n o
below_of n None h = tt
below_of n (Some r) h = h r refl

way_in : (n : ℕ) (given : List (Option ℕ)) → ((p r : ℕ) → get_or given p None ≡ Some r → r < n) → In (List (Option ℕ)) given (ways (length given) n)
way_in n [] h = inl refl
way_in n (o ∷ given) h = in_each o given (choices n) (ways (length given) n) (choice_in n o (below_of n o (λ r is. h 0 r is))) (way_in n given (λ p r is. h (suc p) r is))

of_choices : (n : ℕ) (o : Option ℕ) → In (Option ℕ) o (choices n) → IsBelow n o
of_choices zero o (inl h) = subst (IsBelow 0) (sym h) tt
of_choices zero o (inr h) = absurd h
of_choices (suc n) o (inl h) = subst (IsBelow (suc n)) (sym h) (omega arith)
of_choices (suc n) o (inr h) = up o (of_choices n o h)
  where
    up : (o : Option ℕ) → IsBelow n o → IsBelow (suc n) o
    up None k = tt
    up (Some r) k = omega arith

-- what a way is
record IsWay (n peers : ℕ) (given : List (Option ℕ)) : Type 0 where
  each : length given ≡ peers
  below : (p r : ℕ) → get_or given p None ≡ Some r → r < n

below_at : (n : ℕ) (o : Option ℕ) (r : ℕ) → IsBelow n o → o ≡ Some r → r < n
below_at n o r h is = subst (IsBelow n) is h

cons_way : (n peers : ℕ) (o : Option ℕ) (given : List (Option ℕ)) → IsBelow n o → IsWay n peers given → IsWay n (suc peers) (o ∷ given)
cons_way n peers o given here way = record { each = ap suc way.each; below = at }
  where
    at : (p r : ℕ) → get_or (o ∷ given) p None ≡ Some r → r < n
    at zero r is = below_at n o r here is
    at (suc p) r is = way.below p r is

of_ways : (n peers : ℕ) (given : List (Option ℕ)) → In (List (Option ℕ)) given (ways peers n) → IsWay n peers given
of_ways n zero given (inl h) = subst (IsWay n 0) (sym h) (record { each = refl; below = λ p r is. absurd cc })
of_ways n zero given (inr h) = absurd h
of_ways n (suc peers) given h =
    let r = of_each given (choices n) (ways peers n) h in
    subst (IsWay n (suc peers)) (sym r.4) (cons_way n peers r.0 r.1 (of_choices n r.0 r.2) (of_ways n peers r.1 r.3))

-- the tests say what an assignment is
and_both : (a b : Bool) → (a && b) ≡ true → (a ≡ true) × (b ≡ true)
and_both true b h = (refl, h)
and_both false b h = absurd cc

and_true : (a b : Bool) → a ≡ true → b ≡ true → (a && b) ≡ true
and_true true b h k = k
and_true false b h k = absurd cc

suited_all : (suits : ℕ → ℕ → Bool) (p : ℕ) (given : List (Option ℕ)) → ((i r q : ℕ) → q ≡ p + i → get_or given i None ≡ Some r → suits q r ≡ true) → all_suited suits p given ≡ true
suited_all suits p [] h = refl
suited_all suits p (None ∷ given) h = suited_all suits (suc p) given (λ i r q same is. h (suc i) r q (omega arith) is)
suited_all suits p (Some s ∷ given) h = and_true (suits p s) (all_suited suits (suc p) given) (h 0 s p (omega arith) refl) (suited_all suits (suc p) given (λ i r q same is. h (suc i) r q (omega arith) is))

all_suits : (suits : ℕ → ℕ → Bool) (p : ℕ) (given : List (Option ℕ)) → all_suited suits p given ≡ true → (i r q : ℕ) → q ≡ p + i → get_or given i None ≡ Some r → suits q r ≡ true
all_suits suits p [] h i r q same is = absurd cc
all_suits suits p (None ∷ given) h zero r q same is = absurd cc
all_suits suits p (None ∷ given) h (suc i) r q same is = all_suits suits (suc p) given h i r q (omega arith) is
all_suits suits p (Some s ∷ given) h zero r q same is =
    let both = and_both (suits p s) (all_suited suits (suc p) given) h in
    let at : p ≡ q = omega arith in
    let one : s ≡ r = cc in
    subst (λ (k : ℕ). suits k r ≡ true) at (subst (λ (k : ℕ). suits p k ≡ true) one both.0)
all_suits suits p (Some s ∷ given) h (suc i) r q same is = all_suits suits (suc p) given (and_both (suits p s) (all_suited suits (suc p) given) h).1 i r q (omega arith) is

le_true : (a b : ℕ) → a ≤ b → nat_le a b ≡ true
le_true a b h = grind (arith, nat_tests)

true_le : (a b : ℕ) → nat_le a b ≡ true → a ≤ b
true_le a b h = grind (arith, nat_tests)

within_all : (r : ℕ) (counts : List ℕ) (given : List (Option ℕ)) → ((i q : ℕ) → q ≡ r + i → i < length counts → held given q ≤ get_or counts i 0) → all_within r counts given ≡ true
within_all r [] given h = refl
within_all r (count ∷ counts) given h =
    and_true (nat_le (held given r) count) (all_within (suc r) counts given) (le_true (held given r) count (h 0 r (omega arith) (omega arith)))
    (within_all (suc r) counts given (λ i q same low. h (suc i) q (omega arith) (omega arith)))

all_withins : (r : ℕ) (counts : List ℕ) (given : List (Option ℕ)) → all_within r counts given ≡ true → (i q : ℕ) → q ≡ r + i → i < length counts → held given q ≤ get_or counts i 0
all_withins r [] given h i q same low = absurd (omega arith)
all_withins r (count ∷ counts) given h zero q same low =
    let both = and_both (nat_le (held given r) count) (all_within (suc r) counts given) h in
    let at : r ≡ q = omega arith in
    subst (λ (k : ℕ). held given k ≤ count) at (true_le (held given r) count both.0)
all_withins r (count ∷ counts) given h (suc i) q same low =
    all_withins (suc r) counts given (and_both (nat_le (held given r) count) (all_within (suc r) counts given) h).1 i q (omega arith) (omega arith)

allowed : (suits : ℕ → ℕ → Bool) (peers : ℕ) (counts : List ℕ) (given : List (Option ℕ)) → IsAssignment suits peers counts given → is_allowed suits counts given ≡ true
allowed suits peers counts given a =
    and_true (all_suited suits 0 given) (all_within 0 counts given)
    (suited_all suits 0 given (λ i r q same is. let at : i ≡ q = omega arith in subst (λ (k : ℕ). suits k r ≡ true) at (a.suited i r is)))
    (within_all 0 counts given (λ i q same low. let at : i ≡ q = omega arith in subst (λ (k : ℕ). held given k ≤ get_or counts i 0) at (a.within i low)))

assigned : (suits : ℕ → ℕ → Bool) (peers : ℕ) (counts : List ℕ) (given : List (Option ℕ)) → IsWay (length counts) peers given → is_allowed suits counts given ≡ true → IsAssignment suits peers counts given
assigned suits peers counts given way h =
    let both = and_both (all_suited suits 0 given) (all_within 0 counts given) h in
    record {
      each = way.each;
      known = way.below;
      suited = λ p r is. all_suits suits 0 given both.0 p r p (omega arith) is;
      within = λ r low. all_withins 0 counts given both.1 r r (omega arith) low;
    }

-- the greatest number
most_in : (n : ℕ) (ns : List ℕ) → In ℕ n ns → n ≤ greatest_of ns
most_in n [] h = absurd h
most_in n (m ∷ ns) (inl h) = omega arith
most_in n (m ∷ ns) (inr h) = let rest = most_in n ns h in omega (arith, rest)

which : (a b : ℕ) → (max a b ≡ a) ⊎ (max a b ≡ b)
which a b = grind arith

in_most : (ns : List ℕ) → (greatest_of ns ≡ 0) ⊎ In ℕ (greatest_of ns) ns
in_most [] = inl refl
in_most (n ∷ ns) = elim (which n (greatest_of ns)) [
  | inl own ↦ inr (inl own)
  | inr rest ↦ elim (in_most ns) [ inl none ↦ inl (rest ∙ none) | inr k ↦ inr (inr (subst (λ (m : ℕ). In ℕ m ns) (sym rest) k)) ]
]

pub one_misfit : (suits : ℕ → ℕ → Bool) (peers : ℕ) (counts : List ℕ) (number : ℕ) → IsMisfitNumber suits peers counts number → number ≡ misfit_number suits peers counts
unfolding misfit_number
one_misfit suits peers counts number is =
    let all = filter (is_allowed suits counts) (ways peers (length counts)) in
    let a = is.greatest.assigned in
    let here : In (List (Option ℕ)) is.given (ways peers (length counts)) = subst (λ (n : ℕ). In (List (Option ℕ)) is.given (ways n (length counts))) a.each (way_in (length counts) is.given a.known) in
    let up : placed is.given ≤ most_placed suits peers counts =
    most_in (placed is.given) (map placed all) (in_map (List (Option ℕ)) ℕ placed is.given all (in_filter (List (Option ℕ)) (is_allowed suits counts) is.given (ways peers (length counts)) here (allowed suits peers counts is.given a))) in
    let down : most_placed suits peers counts ≤ placed is.given = elim (in_most (map placed all)) [
      | inl none ↦ omega (arith, none)
      | inr k ↦
          let one = of_map (List (Option ℕ)) ℕ placed (most_placed suits peers counts) all k in
          let way = of_filter (List (Option ℕ)) (is_allowed suits counts) one.0 (ways peers (length counts)) one.1 in
          let most = is.greatest.most one.0 (assigned suits peers counts one.0 (of_ways (length counts) peers one.0 way.0) way.1) in
          omega (arith, one.2, most)
    ] in
    let same : placed is.given ≡ most_placed suits peers counts = omega (arith, up, down) in
    is.missing ∙ ap (λ (m : ℕ). (sum counts - m) + (peers - m)) same

-- there is a misfit number
from_way : (suits : ℕ → ℕ → Bool) (peers : ℕ) (counts : List ℕ) (given : List (Option ℕ)) → IsAssignment suits peers counts given → placed given ≡ most_placed suits peers counts → IsMisfitNumber suits peers counts (misfit_number suits peers counts)
unfolding misfit_number
from_way suits peers counts given a same = record {
  given = given;
  greatest = record {
    assigned = a;
    most = λ other b.
        let all = filter (is_allowed suits counts) (ways peers (length counts)) in
        let here : In (List (Option ℕ)) other (ways peers (length counts)) = subst (λ (n : ℕ). In (List (Option ℕ)) other (ways n (length counts))) b.each (way_in (length counts) other b.known) in
        let up : placed other ≤ most_placed suits peers counts =
        most_in (placed other) (map placed all) (in_map (List (Option ℕ)) ℕ placed other all (in_filter (List (Option ℕ)) (is_allowed suits counts) other (ways peers (length counts)) here (allowed suits peers counts other b))) in
        omega (arith, up, same);
  };
  missing = ap (λ (m : ℕ). (sum counts - m) + (peers - m)) (sym same);
}

none_placed : (n : ℕ) → placed (replicate n None) ≡ 0
none_placed zero = refl
none_placed (suc n) = none_placed n

pub has_misfit : (suits : ℕ → ℕ → Bool) (peers : ℕ) (counts : List ℕ) → IsMisfitNumber suits peers counts (misfit_number suits peers counts)
has_misfit suits peers counts =
    let all = filter (is_allowed suits counts) (ways peers (length counts)) in
    elim (in_most (map placed all)) [
      | inl none ↦ from_way suits peers counts (replicate peers None) (none_assigned suits peers counts) (none_placed peers ∙ sym none)
      | inr k ↦
          let one = of_map (List (Option ℕ)) ℕ placed (most_placed suits peers counts) all k in
          let way = of_filter (List (Option ℕ)) (is_allowed suits counts) one.0 (ways peers (length counts)) one.1 in
          from_way suits peers counts one.0 (assigned suits peers counts one.0 (of_ways (length counts) peers one.0 way.0) way.1) (sym one.2)
    ]

-- a number is the misfit number exactly where it is this one
pub misfit_is : (suits : ℕ → ℕ → Bool) (peers : ℕ) (counts : List ℕ) (number : ℕ) → IsMisfitNumber suits peers counts number ↔ (number ≡ misfit_number suits peers counts)
misfit_is suits peers counts number =
    (one_misfit suits peers counts number, λ is. subst (λ (n : ℕ). IsMisfitNumber suits peers counts n) (sym is) (has_misfit suits peers counts))
