-- Each verdict on a region tells what is told of it.
use Rattle.std.proofs.Common.{refl, ◌≡◌, ◌≢◌, ℕ, zero, suc, ◌<◌, Bool, true, false, cond, not, ◌||◌, nat_eq, nat_lt, ◌⊎◌, inl, inr, List, [], ◌∷◌, length, get_or, map, fold, ap, sym, ◌∙◌, subst, Option, Some, None, arith, Result, Ok, Err, IfOk}
use Rattle.pd_types.specs.declared.memory.NoMemory.{NoMemory}
use Rattle.std.proofs.lemmas.Bool.{true≢false}
use Rattle.std.proofs.lemmas.Bool.Decides.{nat_tests}
use Rattle.std.specs.List.{Contains, filter, find, list_any}
use Rattle.pd_types.specs.declared.region.Peer.{Peer}
use Rattle.pd_types.specs.declared.region.Region.{Region}
use Rattle.pd_types.specs.declared.region.RegionBeat.{RegionBeat}
use Rattle.pd_types.specs.declared.rule.Rule.{Rule}
use Rattle.pd_types.specs.declared.step.Step.{Step}
use Rattle.pd_types.specs.Keys.{is_below}
use Rattle.store_table.specs.declared.entry.StoreEntry.{StoreEntry}
use Rattle.rule_set.specs.Borders.{AreRising, IsBorder, strictly_inside}
use Rattle.rule_set.specs.InForce.{rules_at}
use Rattle.rule_set.proofs.BorderLemmas.{less_trans}
use Rattle.rule_set.proofs.Words.{not_less_itself}
use Rattle.rule_fit.specs.Ids.{AreApart}
use Rattle.rule_fit.specs.Suits.{suits_in, counts_of}
use Rattle.rule_fit.proofs.LawLemmas.{fit_number, number_fits}
use Rattle.rule_fit.proofs.Members.{In, in_filter, in_map, of_filter, of_map}
use Rattle.rule_fit.proofs.WayLemmas.{has_misfit, one_misfit}
use Rattle.rule_checker.specs.declared.class.Class.{Class}
use Rattle.rule_checker.specs.declared.class.Class.TheVariants.{Promote, Transfer, AddVoter, AddLearner, Remove}
use Rattle.rule_checker.specs.declared.class.Ranked.{Ranked}
use Rattle.rule_checker.specs.declared.verdict.Verdict.{Verdict}
use Rattle.rule_checker.specs.declared.verdict.Verdict.TheVariants as verdicts
use Rattle.rule_checker.specs.Candidates.{after_all, passes, pool, steps_of}
use Rattle.rule_checker.specs.Measure.{HasNumber, Lowers}
use Rattle.rule_checker.specs.Plan.{Crosses, FitsRules, HasNone, IsFirst, IsVerdict, IsWhole}
use Rattle.rule_checker.specs.Ranks.{is_before, place_of}
use Rattle.rule_checker.specs.Told.{Told, Fits as Fit, Plans, Splits, Stuck, all_classes, edges_of, first_among, first_key, first_of, inside_edges, is_least, least_border, lowering, number_of, plan_among, plan_or, ranked, tells, told_by, told_from, told_of}
use Rattle.rule_checker.proofs.RankLemmas.{class_choice}
use Rattle.rule_checker.proofs.SameLemmas.{first_same}

contained : (X : Type 0) (x : X) (xs : List X) → In X x xs → Contains xs x
contained X x [] h = absurd h
contained X x (y ∷ xs) (inl h) = (0, omega arith, sym h)
contained X x (y ∷ xs) (inr h) = let r = contained X x xs h in (suc r.0, omega (arith, r.1), r.2)

in_at : (X : Type 0) (x : X) (xs : List X) (k : ℕ) → k < length xs → get_or xs k x ≡ x → In X x xs
in_at X x [] k low is = absurd (omega arith)
in_at X x (y ∷ xs) zero low is = inl (sym is)
in_at X x (y ∷ xs) (suc k) low is = inr (in_at X x xs k (omega arith) is)

member : (X : Type 0) (x : X) (xs : List X) → Contains xs x → In X x xs
member X x xs h = in_at X x xs h.0 h.1 h.2

nothing_in : (X : Type 0) (xs : List X) → ((x : X) → In X x xs → ⊥) → xs ≡ []
nothing_in X [] h = refl
nothing_in X (x ∷ xs) h = absurd (h x (inl refl))

-- the least border
in_edges : (set : List Rule) (rule : Rule) (key : List ℕ) → In Rule rule set → (key ≡ rule.start) ⊎ (key ≡ rule.end) → In (List ℕ) key (edges_of set)
in_edges [] rule key h edge = absurd h
in_edges (one ∷ set) rule key (inl is) (inl at) = inl (at ∙ ap (λ (r : Rule). r.start) is)
in_edges (one ∷ set) rule key (inl is) (inr at) = inr (inl (at ∙ ap (λ (r : Rule). r.end) is))
in_edges (one ∷ set) rule key (inr h) edge = inr (inr (in_edges set rule key h edge))

of_edges : (set : List Rule) (key : List ℕ) → In (List ℕ) key (edges_of set) → (rule : Rule) × In Rule rule set × ((key ≡ rule.start) ⊎ (key ≡ rule.end))
of_edges [] key h = absurd h
of_edges (rule ∷ set) key (inl is) = (rule, inl refl, inl is)
of_edges (rule ∷ set) key (inr (inl is)) = (rule, inl refl, inr is)
of_edges (rule ∷ set) key (inr (inr h)) = let r = of_edges set key h in (r.0, inr r.1, r.2)

border_in : (set : List Rule) (region : Region) (key : List ℕ) → IsBorder set region key → In (List ℕ) key (inside_edges set region)
border_in set region key b = in_filter (List ℕ) (strictly_inside region) key (edges_of set) (in_edges set b.rule key (member Rule b.rule set b.known) b.edge) b.inside

border_of : (set : List Rule) (region : Region) (key : List ℕ) → In (List ℕ) key (inside_edges set region) → IsBorder set region key
border_of set region key h =
    let f = of_filter (List ℕ) (strictly_inside region) key (edges_of set) h in
    let r = of_edges set key f.0 in
    record { rule = r.0; known = contained Rule r.0 set r.1; edge = r.2; inside = f.1 }

not_any : (X : Type 0) (p : X → Bool) (xs : List X) → list_any p xs ≡ false → (x : X) → In X x xs → p x ≡ false
not_any X p [] h x here = absurd here
not_any X p (y ∷ xs) h x here = by (p y) refl (λ rest. not_any X p xs rest x) h here
  where
    by : (t : Bool) → p y ≡ t → (list_any p xs ≡ false → In X x xs → p x ≡ false) → t || list_any p xs ≡ false → In X x (y ∷ xs) → p x ≡ false
    by true is others rest at = absurd cc
    by false is others rest (inl same) = ap p same ∙ is
    by false is others rest (inr k) = others rest k

any_not : (X : Type 0) (p : X → Bool) (xs : List X) → ((x : X) → In X x xs → p x ≡ false) → list_any p xs ≡ false
any_not X p [] h = refl
any_not X p (y ∷ xs) h = ap (λ (t : Bool). t || list_any p xs) (h y (inl refl)) ∙ any_not X p xs (λ x k. h x (inr k))

not_false : (t : Bool) → not t ≡ true → t ≡ false
not_false true h = absurd cc
not_false false h = refl

-- what is found
found_in : (X : Type 0) (p : X → Bool) (xs : List X) (x : X) → find p xs ≡ Some x → In X x xs × (p x ≡ true)
found_in X p [] x h = absurd cc
found_in X p (y ∷ xs) x h = by (p y) refl (found_in X p xs x) h
  where
    by : (t : Bool) → p y ≡ t → (find p xs ≡ Some x → In X x xs × (p x ≡ true)) → cond t (Some y) (find p xs) ≡ Some x → In X x (y ∷ xs) × (p x ≡ true)
    by true is rest e = let same : y ≡ x = cc in (inl (sym same), ap p (sym same) ∙ is)
    by false is rest e = let r = rest e in (inr r.0, r.1)

none_found : (X : Type 0) (p : X → Bool) (xs : List X) → find p xs ≡ None → (x : X) → In X x xs → p x ≡ false
none_found X p [] h x here = absurd here
none_found X p (y ∷ xs) h x here = by (p y) refl (λ none. none_found X p xs none x) h here
  where
    by : (t : Bool) → p y ≡ t → (find p xs ≡ None → In X x xs → p x ≡ false) → cond t (Some y) (find p xs) ≡ None → In X x (y ∷ xs) → p x ≡ false
    by true is rest e at = absurd cc
    by false is rest e (inl same) = ap p same ∙ is
    by false is rest e (inr k) = rest e k

-- the first of rising keys
behind_first : (key : List ℕ) (keys : List (List ℕ)) → AreRising (key ∷ keys) → (other : List ℕ) → In (List ℕ) other (key ∷ keys) → (other ≡ key) ⊎ (is_below key other ≡ true)
behind_first key keys rising other (inl same) = inl same
behind_first key keys rising other (inr k) =
    let at = contained (List ℕ) other keys k in
    inr (subst (λ (x : List ℕ). is_below key x ≡ true) at.2 (rising 0 (suc at.0) other (omega arith) (omega (arith, at.1))))

first_least : (key : List ℕ) (keys : List (List ℕ)) → AreRising (key ∷ keys) → (other : List ℕ) → In (List ℕ) other (key ∷ keys) → is_below other key ≡ false
first_least key keys rising other here = elim (behind_first key keys rising other here) [
  | inl same ↦ ap (λ (x : List ℕ). is_below x key) same ∙ not_less_itself key
  | inr less ↦ by (is_below other key) refl less
]
  where
    by : (t : Bool) → is_below other key ≡ t → is_below key other ≡ true → is_below other key ≡ false
    by true is less = absurd (true≢false (sym (less_trans key other key less is) ∙ not_less_itself key))
    by false is less = is

some_border : (set : List Rule) (region : Region) (key : List ℕ) (keys : List (List ℕ)) → AreRising (key ∷ keys) → ((k : List ℕ) → In (List ℕ) k (key ∷ keys) → In (List ℕ) k (inside_edges set region))
    → ((k : List ℕ) → In (List ℕ) k (inside_edges set region) → In (List ℕ) k (key ∷ keys)) → least_border set region ≡ Some key
some_border set region key keys rising inside every = by (least_border set region) refl
  where
    all : List (List ℕ)
    all = inside_edges set region

    is_first : is_least (inside_edges set region) key ≡ true
    is_first = ap not (any_not (List ℕ) (λ other. is_below other key) (inside_edges set region) (λ other k. first_least key keys rising other (every other k)))

    by : (o : Option (List ℕ)) → least_border set region ≡ o → least_border set region ≡ Some key
    by None is = absurd (true≢false (sym is_first ∙ none_found (List ℕ) (is_least (inside_edges set region)) (inside_edges set region) is key (inside key (inl refl))))
    by (Some found) is =
        let f = found_in (List ℕ) (is_least (inside_edges set region)) (inside_edges set region) found is in
        let low : is_below key found ≡ false = not_any (List ℕ) (λ other. is_below other found) (inside_edges set region) (not_false _ f.1) key (inside key (inl refl)) in
        elim (behind_first key keys rising found (every found f.0)) [
          | inl same ↦ is ∙ ap (λ (k : List ℕ). Some k) same
          | inr less ↦ absurd (true≢false (sym less ∙ low))
        ]

crossed : (beat : RegionBeat) (set : List Rule) (keys : List (List ℕ)) → Crosses beat set keys → least_border set beat.region ≡ Some (first_key keys)
crossed beat set [] c = absurd (c.some refl)
crossed beat set (key ∷ keys) c =
    some_border set beat.region key keys c.rising (λ k h. border_in set beat.region k (c.inside k (contained (List ℕ) k (key ∷ keys) h))) (λ k h. member (List ℕ) k (key ∷ keys) (c.every k (border_of set beat.region k h)))

whole : (beat : RegionBeat) (set : List Rule) → IsWhole beat set → least_border set beat.region ≡ None
whole beat set w =
    ap (λ (keys : List (List ℕ)). find (is_least keys) keys) (nothing_in (List ℕ) (inside_edges set beat.region) (λ key h. w key (border_of set beat.region key h)))

-- the candidates that lower the number
has_number : (beat : RegionBeat) (rules : List Rule) (stores : List StoreEntry) (now : ℕ) → HasNumber beat rules stores now (number_of beat rules stores now)
has_number beat rules stores now = has_misfit (suits_in beat rules stores now) (length beat.region.peers) (counts_of rules)

number_is : (beat : RegionBeat) (rules : List Rule) (stores : List StoreEntry) (now n : ℕ) → HasNumber beat rules stores now n → n ≡ number_of beat rules stores now
number_is beat rules stores now n h = one_misfit (suits_in beat rules stores now) (length beat.region.peers) (counts_of rules) n h

lt_true : (a b : ℕ) → a < b → nat_lt a b ≡ true
lt_true a b h = grind (arith, nat_tests)

true_lt : (a b : ℕ) → nat_lt a b ≡ true → a < b
true_lt a b h = grind (arith, nat_tests)

rank_is : (class : Class) (beat : RegionBeat) (rules : List Rule) (stores : List StoreEntry) (now from : ℕ) (one : Ranked) → Lowers class beat rules stores now from one → one ≡ ranked class beat rules stores now one.peer
rank_is class beat rules stores now from one l = λ i. record {
  peer = one.peer;
  to = number_is (after_all (steps_of class beat stores now one.peer) beat) rules stores now one.to l.leaves i;
  score = l.score i;
}

lowers_in : (class : Class) (beat : RegionBeat) (rules : List Rule) (stores : List StoreEntry) (now from : ℕ) (one : Ranked) → Lowers class beat rules stores now from one → In Ranked one (lowering class beat rules stores now from)
lowers_in class beat rules stores now from one l =
    let pool_in = in_filter Peer (passes class beat rules stores now) one.peer (pool class beat stores) (member Peer one.peer (pool class beat stores) l.candidate.held) l.candidate.passes in
    let mapped = in_map Peer Ranked (ranked class beat rules stores now) one.peer (filter (passes class beat rules stores now) (pool class beat stores)) pool_in in
    let here = subst (λ (r : Ranked). In Ranked r (map (ranked class beat rules stores now) (filter (passes class beat rules stores now) (pool class beat stores)))) (sym (rank_is class beat rules stores now from one l)) mapped in
    in_filter Ranked (λ r. nat_lt r.to from) one (map (ranked class beat rules stores now) (filter (passes class beat rules stores now) (pool class beat stores))) here (lt_true one.to from l.lower)

in_lowers : (class : Class) (beat : RegionBeat) (rules : List Rule) (stores : List StoreEntry) (now from : ℕ) (one : Ranked) → rules ≢ [] → In Ranked one (lowering class beat rules stores now from) → Lowers class beat rules stores now from one
in_lowers class beat rules stores now from one ruled h =
    let f = of_filter Ranked (λ r. nat_lt r.to from) one (map (ranked class beat rules stores now) (filter (passes class beat rules stores now) (pool class beat stores))) h in
    let m = of_map Peer Ranked (ranked class beat rules stores now) one (filter (passes class beat rules stores now) (pool class beat stores)) f.0 in
    let p = of_filter Peer (passes class beat rules stores now) m.0 (pool class beat stores) m.1 in
    let low : one.to < from = true_lt one.to from f.1 in
    let peer : one.peer ≡ m.0 = ap (λ (r : Ranked). r.peer) m.2 in
    let base : Lowers class beat rules stores now from (ranked class beat rules stores now m.0) = record {
      candidate = record { ruled = ruled; held = contained Peer m.0 (pool class beat stores) p.0; passes = p.1 };
      leaves = has_number (after_all (steps_of class beat stores now m.0) beat) rules stores now;
      lower = subst (λ (r : Ranked). r.to < from) m.2 low;
      score = refl;
    } in
    subst (Lowers class beat rules stores now from) (sym m.2) base

-- the first of those that were looked at
abbrev IsFirstFor : (Ranked → Ranked → Bool) → (Ranked → Type 0) → Ranked → Type 0
IsFirstFor before seen best = seen best × ((other : Ranked) → seen other → before other best ≡ false)

false_by : (b : Bool) → (b ≡ true → ⊥) → b ≡ false
false_by true h = absurd (h refl)
false_by false h = refl

first_more : (before : Ranked → Ranked → Bool) → ((one : Ranked) → before one one ≡ false) → ((a b c : Ranked) → before a b ≡ true → before b c ≡ true → before a c ≡ true) → (seen : Ranked → Type 0) (best one : Ranked) → IsFirstFor before seen best
    → (t : Bool) → before one best ≡ t → (next : Ranked) × (cond t (Some one) (Some best) ≡ Some next) × IsFirstFor before (λ r. seen r ⊎ (r ≡ one)) next
first_more before itself goes_on seen best one first true is = (
  one,
  refl,
  (
    inr refl,
    λ other h. elim h [
      | inl k ↦ false_by (before other one) (λ goes. true≢false (sym (goes_on other one best goes is) ∙ first.1 other k))
      | inr same ↦ ap (λ (r : Ranked). before r one) same ∙ itself one
    ],
  ),
)
first_more before itself goes_on seen best one first false is = (
  best,
  refl,
  (
    inl first.0,
    λ other h. elim h [
      | inl k ↦ first.1 other k
      | inr same ↦ ap (λ (r : Ranked). before r best) same ∙ is
    ],
  ),
)

first_over : (class : Class) (held : List RegionBeat) → ((one : Ranked) → is_before class held one one ≡ false) → ((a b c : Ranked) → is_before class held a b ≡ true → is_before class held b c ≡ true → is_before class held a c ≡ true)
    → (seen : Ranked → Type 0) (best : Ranked) → IsFirstFor (is_before class held) seen best → (list : List Ranked)
    → (found : Ranked) × (fold (first_among class held) (Some best) list ≡ Some found) × IsFirstFor (is_before class held) (λ r. seen r ⊎ In Ranked r list) found
first_over class held itself goes_on seen best first [] = (best, refl, (inl first.0, λ other h. elim h [ inl k ↦ first.1 other k | inr k ↦ absurd k ]))
first_over class held itself goes_on seen best first (one ∷ list) =
    let m = first_more (is_before class held) itself goes_on seen best one first (is_before class held one best) refl in
    let r = first_over class held itself goes_on (λ r. seen r ⊎ (r ≡ one)) m.0 m.2 list in (
      r.0,
      ap (λ (o : Option Ranked). fold (first_among class held) o list) m.1 ∙ r.1,
      (
        elim r.2.0 [ inl k ↦ elim k [ inl j ↦ inl j | inr same ↦ inr (inl same) ] | inr k ↦ inr (inr k) ],
        λ other h. elim h [
          | inl k ↦ r.2.1 other (inl (inl k))
          | inr k ↦ elim k [ inl same ↦ r.2.1 other (inl (inr same)) | inr j ↦ r.2.1 other (inr j) ]
        ],
      ),
    )

-- the first of a list that isn't empty
first_in : (class : Class) (held : List RegionBeat) → ((one : Ranked) → is_before class held one one ≡ false) → ((a b c : Ranked) → is_before class held a b ≡ true → is_before class held b c ≡ true → is_before class held a c ≡ true)
    → (list : List Ranked) (some : Ranked) → In Ranked some list → (found : Ranked) × (fold (first_among class held) None list ≡ Some found) × In Ranked found list × ((other : Ranked) → In Ranked other list → is_before class held other found ≡ false)
first_in class held itself goes_on [] some h = absurd h
first_in class held itself goes_on (one ∷ list) some h =
    let r = first_over class held itself goes_on (λ r. r ≡ one) one (refl, λ other same. ap (λ (x : Ranked). is_before class held x one) same ∙ itself one) list in
    (r.0, r.1, elim r.2.0 [ inl same ↦ inl same | inr k ↦ inr k ], λ other k. r.2.1 other (elim k [ inl same ↦ inl same | inr j ↦ inr j ]))

first_found : (class : Class) (beat : RegionBeat) (rules : List Rule) (stores : List StoreEntry) (held : List RegionBeat) (now from : ℕ) (best : Ranked) → AreApart beat.region.peers → IsFirst class beat rules stores held now from best → first_of class beat rules stores held now from ≡ Some best
first_found class beat [] stores held now from best apart first = absurd (first.lowers.candidate.ruled refl)
first_found class beat (rule ∷ rules) stores held now from best apart first =
    let choice = class_choice class beat (rule ∷ rules) stores held now from in
    let r = first_in class held choice.itself choice.goes_on (lowering class beat (rule ∷ rules) stores now from) best (lowers_in class beat (rule ∷ rules) stores now from best first.lowers) in
    let found : IsFirst class beat (rule ∷ rules) stores held now from r.0 = record {
      lowers = in_lowers class beat (rule ∷ rules) stores now from r.0 (λ none. cc) r.2;
      first = λ other low. r.3 other (lowers_in class beat (rule ∷ rules) stores now from other low);
    } in
    r.1 ∙ ap (λ (x : Ranked). Some x) (first_same class beat (rule ∷ rules) stores held now from r.0 best apart found first)

none_first : (class : Class) (beat : RegionBeat) (rules : List Rule) (stores : List StoreEntry) (held : List RegionBeat) (now from : ℕ) → HasNone class beat rules stores now from → first_of class beat rules stores held now from ≡ None
none_first class beat [] stores held now from none = refl
none_first class beat (rule ∷ rules) stores held now from none =
    ap (λ (list : List Ranked). fold (first_among class held) None list)
    (nothing_in Ranked (lowering class beat (rule ∷ rules) stores now from) (λ one h. none one (in_lowers class beat (rule ∷ rules) stores now from one (λ e. cc) h)))

-- what is told without a plan of the class, and by its plan
passed : (class : Class) (beat : RegionBeat) (rules : List Rule) (stores : List StoreEntry) (held : List RegionBeat) (now from : ℕ) (other : Told) → HasNone class beat rules stores now from
    → plan_or class beat stores now from (first_of class beat rules stores held now from) other ≡ other
passed class beat rules stores held now from other none = ap (λ (o : Option Ranked). plan_or class beat stores now from o other) (none_first class beat rules stores held now from none)

taken : (class : Class) (beat : RegionBeat) (rules : List Rule) (stores : List StoreEntry) (held : List RegionBeat) (now from : ℕ) (best : Ranked) (other : Told) → AreApart beat.region.peers → IsFirst class beat rules stores held now from best
    → plan_or class beat stores now from (first_of class beat rules stores held now from) other ≡ Plans class (steps_of class beat stores now best.peer) from best.to
taken class beat rules stores held now from best other apart first = ap (λ (o : Option Ranked). plan_or class beat stores now from o other) (first_found class beat rules stores held now from best apart first)

stuck_told : (beat : RegionBeat) (rules : List Rule) (stores : List StoreEntry) (held : List RegionBeat) (now from : ℕ) → ((class : Class) → HasNone class beat rules stores now from) → plan_among all_classes beat rules stores held now from ≡ Stuck from
stuck_told beat rules stores held now from none =
    passed Promote beat rules stores held now from _ (none Promote) ∙ passed Transfer beat rules stores held now from _ (none Transfer) ∙ passed AddVoter beat rules stores held now from _ (none AddVoter)
    ∙ passed AddLearner beat rules stores held now from _ (none AddLearner) ∙ passed Remove beat rules stores held now from _ (none Remove)

plan_told : (class : Class) (beat : RegionBeat) (rules : List Rule) (stores : List StoreEntry) (held : List RegionBeat) (now from : ℕ) (best : Ranked) → AreApart beat.region.peers → IsFirst class beat rules stores held now from best
    → ((other : Class) → place_of other < place_of class → HasNone other beat rules stores now from) → plan_among all_classes beat rules stores held now from ≡ Plans class (steps_of class beat stores now best.peer) from best.to
plan_told Promote beat rules stores held now from best apart first earlier = taken Promote beat rules stores held now from best _ apart first
plan_told Transfer beat rules stores held now from best apart first earlier =
    passed Promote beat rules stores held now from _ (earlier Promote (omega arith)) ∙ taken Transfer beat rules stores held now from best _ apart first
plan_told AddVoter beat rules stores held now from best apart first earlier =
    passed Promote beat rules stores held now from _ (earlier Promote (omega arith)) ∙ passed Transfer beat rules stores held now from _ (earlier Transfer (omega arith)) ∙ taken AddVoter beat rules stores held now from best _ apart first
plan_told AddLearner beat rules stores held now from best apart first earlier =
    passed Promote beat rules stores held now from _ (earlier Promote (omega arith)) ∙ passed Transfer beat rules stores held now from _ (earlier Transfer (omega arith)) ∙ passed AddVoter beat rules stores held now from _ (earlier AddVoter (omega arith))
    ∙ taken AddLearner beat rules stores held now from best _ apart first
plan_told Remove beat rules stores held now from best apart first earlier =
    passed Promote beat rules stores held now from _ (earlier Promote (omega arith)) ∙ passed Transfer beat rules stores held now from _ (earlier Transfer (omega arith)) ∙ passed AddVoter beat rules stores held now from _ (earlier AddVoter (omega arith))
    ∙ passed AddLearner beat rules stores held now from _ (earlier AddLearner (omega arith)) ∙ taken Remove beat rules stores held now from best _ apart first

-- by the number
zero_test : (n : ℕ) → n ≡ 0 → nat_eq n 0 ≡ true
zero_test n h = grind (arith, nat_tests)

some_test : (n : ℕ) → (n ≡ 0 → ⊥) → nat_eq n 0 ≡ false
some_test n h = grind (arith, nat_tests)

fits_told : (beat : RegionBeat) (rules : List Rule) (stores : List StoreEntry) (held : List RegionBeat) (now : ℕ) → FitsRules beat rules stores now → told_from (number_of beat rules stores now) beat rules stores held now ≡ Fit
fits_told beat rules stores held now fit =
    ap (λ (t : Bool). cond t Fit (plan_among all_classes beat rules stores held now (number_of beat rules stores now)))
    (zero_test (number_of beat rules stores now) (fit_number (suits_in beat rules stores now) (length beat.region.peers) (counts_of rules) (number_of beat rules stores now) (has_number beat rules stores now) fit))

unfit_told : (beat : RegionBeat) (rules : List Rule) (stores : List StoreEntry) (held : List RegionBeat) (now from : ℕ) → (FitsRules beat rules stores now → ⊥) → HasNumber beat rules stores now from
    → told_from (number_of beat rules stores now) beat rules stores held now ≡ plan_among all_classes beat rules stores held now from
unfit_told beat rules stores held now from unfit number =
    ap (λ (n : ℕ). told_from n beat rules stores held now) (sym (number_is beat rules stores now from number))
    ∙ ap (λ (t : Bool). cond t Fit (plan_among all_classes beat rules stores held now from))
    (some_test from (λ none. unfit (number_fits (suits_in beat rules stores now) (length beat.region.peers) (counts_of rules) from number none)))

pub split_tells : (beat : RegionBeat) (set : List Rule) (stores : List StoreEntry) (held : List RegionBeat) (now : ℕ) (keys : List (List ℕ)) → Crosses beat set keys → Splits (first_key keys) ≡ told_of beat set stores held now
unfolding told_of
split_tells beat set stores held now keys is = ap (λ (o : Option (List ℕ)). told_by o beat (rules_at beat.region.start set) stores held now) (sym (crossed beat set keys is))

pub verdict_tells : (beat : RegionBeat) (set : List Rule) (stores : List StoreEntry) (held : List RegionBeat) (now : ℕ) (verdict : Verdict) → AreApart beat.region.peers → IsVerdict beat set stores held now verdict → tells verdict ≡ told_of beat set stores held now
unfolding told_of
verdict_tells beat set stores held now (verdicts.NeedsSplit keys) apart is = split_tells beat set stores held now keys is
verdict_tells beat set stores held now verdicts.NoFault apart is =
    sym (fits_told beat (rules_at beat.region.start set) stores held now is.1) ∙ ap (λ (o : Option (List ℕ)). told_by o beat (rules_at beat.region.start set) stores held now) (sym (whole beat set is.0))
verdict_tells beat set stores held now (verdicts.Plan class list from to) apart is =
    let plan = is.1.1 in
    ap (λ (l : List Step). Plans class l from to) plan.carried ∙ ap (λ (n : ℕ). Plans class (steps_of class beat stores now plan.best.peer) from n) plan.left
    ∙ sym (plan_told class beat (rules_at beat.region.start set) stores held now from plan.best apart plan.first plan.earlier)
    ∙ sym (unfit_told beat (rules_at beat.region.start set) stores held now from is.1.0 plan.number)
    ∙ ap (λ (o : Option (List ℕ)). told_by o beat (rules_at beat.region.start set) stores held now) (sym (whole beat set is.0))
verdict_tells beat set stores held now (verdicts.NoPlan from certificate) apart is =
    let stuck = is.1.1 in
    sym (stuck_told beat (rules_at beat.region.start set) stores held now from stuck.none) ∙ sym (unfit_told beat (rules_at beat.region.start set) stores held now from is.1.0 stuck.number)
    ∙ ap (λ (o : Option (List ℕ)). told_by o beat (rules_at beat.region.start set) stores held now) (sym (whole beat set is.0))

pub told_by_verdict : (beat : RegionBeat) (set : List Rule) (stores : List StoreEntry) (held : List RegionBeat) (now : ℕ) (answer : Result Verdict NoMemory) → AreApart beat.region.peers → IfOk answer (IsVerdict beat set stores held now)
    → IfOk answer (λ verdict. tells verdict ≡ told_of beat set stores held now)
told_by_verdict beat set stores held now (Ok verdict) apart is = verdict_tells beat set stores held now verdict apart is
told_by_verdict beat set stores held now (Err fault) apart is = tt
