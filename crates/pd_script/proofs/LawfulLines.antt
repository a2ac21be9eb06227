-- Of the lines of events: their numbers rise, their actors are those of their acts, the greatest drivers and clients are named,
-- and how many stores speak.
use Rattle.std.proofs.Common.{◌≡◌, ◌⊎◌, inl, inr, ◌<◌, ◌≤◌, ℕ, zero, suc, ◌+◌, max, List, [], ◌∷◌, ◌++◌, map, Bool, true, false, cond, nat_lt, nat_le, All, Contains, Ordering, Less, Equal, Greater, Option, Some, None, refl, ap, sym, subst, ◌∙◌, arith}
use Rattle.std.specs.Prelude.{AllPairs, Result, Ok, Err, eqb, option_to_list}
use Rattle.std.specs.BTreeSet.{insert_key}
use Rattle.std.specs.List.{AllByRecursion, count_by, flat_map}
use Rattle.std.specs.Ordering.{match_ordering, nat_cmp}
use Rattle.std.proofs.lemmas.Bool.Decides.{nat_tests}
use Rattle.std.proofs.lemmas.List.Elements.{All-append, All-cons, All-from_recursion, All-map, All-nil, Contains-append_left, Contains-append_right}
use Rattle.std.proofs.lemmas.List.Kept.{AllPairs-cons}
use Rattle.std.proofs.lemmas.List.Sums.{sum_by-cons}
use Rattle.pd_script.specs.Grammar.{AtFault, and_event, and_line, events_from, raw_content}
use Rattle.pd_script.specs.Lawful.{AreAtMost, IsGreatest, actor_in, clients_named, drivers_named, speaking}
use Rattle.pd_types.specs.declared.oracle.Actor.{Actor}
use Rattle.pd_types.specs.declared.oracle.Actor.TheVariants.{Driver as ByDriver, Client as ByClient, Store as ByStore}
use Rattle.pd_script.specs.Scripts.{act_by, act_of, actor_by, actor_of, client_of, driver_of, greatest, greatest_in, if_client, if_driver, is_lead, is_report, leads_in, reports_in, line_of, asker, store_by, store_in, store_of, stores_from, stores_in, with_stores}
use Rattle.pd_script.specs.Says.{Says, named_client, named_driver}
use Rattle.pd_script.specs.Table.{row}
use Rattle.pd_script.specs.Words.{RawLine}
use Rattle.pd_script.specs.declared.act.Act.{Act}
use Rattle.pd_script.specs.declared.act.Line.{Line}
use Rattle.pd_script.specs.declared.place.Place.{Place}
use Rattle.pd_script.specs.declared.place.Place.TheVariants.{Driver, Client}
use Rattle.pd_script.specs.declared.refusal.Reason.{Reason}
use Rattle.pd_script.specs.declared.script.Mode.{Mode}
use Rattle.pd_script.specs.declared.event.Event.{Event}
use Rattle.pd_script.specs.declared.event.Event.TheVariants.{Step, Ask}
use Rattle.pd_script.specs.declared.event.Numbered.{Numbered}
use Rattle.pd_script.specs.declared.numbers.Numbers.{Numbers}
use Rattle.pd_script.specs.declared.verb.Places.{Places}
use Rattle.pd_script.specs.declared.verb.Places.TheVariants.{One, Two, Three}
use Rattle.pd_script.specs.declared.verb.Verb.{Verb}
use Rattle.pd_script.proofs.Greatest.{at_least_one}
use Rattle.pd_script.proofs.Results.{no_fine, same_ok}
use Rattle.pd_script.proofs.SaysLemmas.{placed_numbers, same_says}

-- each event's number is above those before it, the first at least this one
abbrev pub AreAbove : ℕ → List Numbered → Type 0
AreAbove number [] = Unit {0}
AreAbove number (e ∷ es) = (number ≤ e.number) × AreAbove (e.number + 1) es

above_less : (less number : ℕ) (events : List Numbered) → less ≤ number → AreAbove number events → AreAbove less events
above_less less number [] low above = tt
above_less less number (e ∷ es) low above = (omega (arith, above.0), above.1)

event_above : (number : ℕ) (e : Event) (r : Result (List Numbered) AtFault) (events : List Numbered) → ((es : List Numbered) → r ≡ Ok es → AreAbove (number + 1) es) → and_event number e r ≡ Ok events → AreAbove number events
event_above number e (Err fault) events rest is = no_fine fault events is
event_above number e (Ok es) events rest is = subst (λ (l : List Numbered). AreAbove number l) (same_ok (record { number = number; event = e } ∷ es) events is) (omega arith, rest es refl)

line_above : (number : ℕ) (content : Result (Option Event) Reason) (passed read : Result (List Numbered) AtFault) (events : List Numbered) → ((es : List Numbered) → passed ≡ Ok es → AreAbove (number + 1) es) → ((es : List Numbered) → read ≡ Ok es → AreAbove (number + 1) es)
    → and_line number content passed read ≡ Ok events → AreAbove number events
line_above number (Err reason) passed read events over behind is = no_fine (record { line = number; reason = reason }) events is
line_above number (Ok None) passed read events over behind is = above_less number (number + 1) events (omega arith) (over events is)
line_above number (Ok (Some e)) passed read events over behind is = event_above number e read events behind is

pub are_above : (mode : Mode) (number : ℕ) (first : Bool) (raws : List RawLine) (events : List Numbered) → events_from mode number first raws ≡ Ok events → AreAbove number events
are_above mode number first [] events is = subst (λ (l : List Numbered). AreAbove number l) (same_ok [] events is) tt
are_above mode number first (raw ∷ raws) events is = line_above number (raw_content mode first raw) (events_from mode (number + 1) first raws) (events_from mode (number + 1) false raws) events
    (λ es same. are_above mode (number + 1) first raws es same) (λ es same. are_above mode (number + 1) false raws es same) is

each_above : (less number : ℕ) (events : List Numbered) → less < number → AreAbove number events → AllByRecursion (λ (line : Line). less < line.number) (map line_of events)
each_above less number [] low above = tt
each_above less number (e ∷ es) low above = (omega (arith, above.0), each_above less (e.number + 1) es (omega (arith, above.0)) above.1)

pub numbered_from : (number : ℕ) (events : List Numbered) → AreAbove (number + 1) events → All (λ line. 0 < line.number) (map line_of events)
numbered_from number events above = All-from_recursion (λ (line : Line). 0 < line.number) (map line_of events) (each_above 0 (number + 1) events (omega arith) above)

pub rising_from : (number : ℕ) (events : List Numbered) → AreAbove number events → AllPairs (λ one later. one.number < later.number) (map line_of events)
rising_from number [] above = λ i j d less low. absurd (omega arith)
rising_from number (e ∷ es) above = AllPairs-cons (λ (one later : Line). one.number < later.number) (line_of e) (map line_of es)
    (All-from_recursion (λ (line : Line). e.number < line.number) (map line_of es) (each_above e.number (e.number + 1) es (omega arith) above.1)) (rising_from (e.number + 1) es above.1)

same_actor : (e : Event) → actor_of e ≡ actor_in (act_of e)
same_actor (Step verb numbers) = ap (λ (s : Says). s.actor) (sym (same_says verb numbers))
same_actor (Ask driver request) = refl

pub same_actors : (events : List Numbered) → All (λ line. line.actor ≡ actor_in line.act) (map line_of events)
same_actors events = All-map (λ (line : Line). line.actor ≡ actor_in line.act) line_of events (λ k d low. same_actor _)

-- the greatest that an event names: none is above it, and it is 0 or named
record IsMost (numbers : List ℕ) (n : ℕ) : Type 0 where
  above : All (λ m. m ≤ n) numbers
  named : (n ≡ 0) ⊎ Contains numbers n

all_lower : (n m : ℕ) (numbers : List ℕ) → n ≤ m → All (λ k. k ≤ n) numbers → All (λ k. k ≤ m) numbers
all_lower n m numbers low all = λ k d within. omega (arith, all k d within)

none_is : IsMost [] 0
none_is = record { above = All-nil (λ m. m ≤ 0); named = inl refl }

only_one : (n : ℕ) → IsMost (n ∷ []) n
only_one n = record { above = All-cons (λ k. k ≤ n) n [] (omega arith) (All-nil (λ k. k ≤ n)); named = inr (0, omega arith, refl) }

more_most : (a b n : ℕ) (here behind : List ℕ) → n ≡ max a b → IsMost here a → IsMost behind b → IsMost (here ++ behind) n
more_most a b n here behind is one rest = record {
  above = All-append (λ m. m ≤ n) here behind (all_lower a n here (omega (arith, is)) one.above) (all_lower b n behind (omega (arith, is)) rest.above);
  named = cases (nat_le a b) refl;
}
  where
    of_rest : n ≡ b → (b ≡ 0) ⊎ Contains behind b → (n ≡ 0) ⊎ Contains (here ++ behind) n
    of_rest same (inl zero_is) = inl (same ∙ zero_is)
    of_rest same (inr has) = inr (subst (λ (k : ℕ). Contains (here ++ behind) k) (sym same) (Contains-append_right here behind b has))

    of_here : n ≡ a → (a ≡ 0) ⊎ Contains here a → (n ≡ 0) ⊎ Contains (here ++ behind) n
    of_here same (inl zero_is) = inl (same ∙ zero_is)
    of_here same (inr has) = inr (subst (λ (k : ℕ). Contains (here ++ behind) k) (sym same) (Contains-append_left here behind a has))

    cases : (t : Bool) → nat_le a b ≡ t → (n ≡ 0) ⊎ Contains (here ++ behind) n
    cases true low = of_rest (grind (arith, nat_tests, low, is)) rest.named
    cases false low = of_here (grind (arith, nat_tests, low, is)) one.named

driver_most : (p : Place) (n : ℕ) → IsMost (named_driver (p, n)) (if_driver p n)
driver_most Driver n = only_one n
driver_most _ n = none_is

client_most : (p : Place) (n : ℕ) → IsMost (named_client (p, n)) (if_client p n)
client_most Client n = only_one n
client_most _ n = none_is

module _ (named : Place × ℕ → List ℕ) (at : Place → ℕ → ℕ) (most : (p : Place) (n : ℕ) → IsMost (named (p, n)) (at p n)) where
  most_one : (p : Place) (n : ℕ) → IsMost (flat_map named ((p, n) ∷ [])) (at p n)
  most_one p n = more_most (at p n) 0 _ (named (p, n)) [] (omega arith) (most p n) none_is

  most_two : (p q : Place) (n m : ℕ) → IsMost (flat_map named ((p, n) ∷ (q, m) ∷ [])) (max (at p n) (at q m))
  most_two p q n m = more_most (at p n) (at q m) _ (named (p, n)) (named (q, m) ++ []) refl (most p n) (most_one q m)

  most_in : (places : Places) (n : Numbers) → IsMost (flat_map named (placed_numbers places n)) (greatest_in at places n)
  most_in (One p) n = most_one p n.first
  most_in (Two p q) n = most_two p q n.first n.second
  most_in (Three p q r) n =
      more_most (at p n.first) (max (at q n.second) (at r n.third)) _ (named (p, n.first)) (named (q, n.second) ++ (named (r, n.third) ++ [])) (omega arith) (most p n.first) (most_two q r n.second n.third)

step_drivers : (verb : Verb) (n : Numbers) → IsMost (drivers_named (act_by verb n)) (driver_of (Step verb n))
step_drivers verb n = subst (λ (s : Says). IsMost (flat_map named_driver s.numbers) (driver_of (Step verb n))) (sym (same_says verb n)) (most_in named_driver if_driver driver_most (row verb).places n)

step_clients : (verb : Verb) (n : Numbers) → IsMost (clients_named (act_by verb n)) (client_of (Step verb n))
step_clients verb n = subst (λ (s : Says). IsMost (flat_map named_client s.numbers) (client_of (Step verb n))) (sym (same_says verb n)) (most_in named_client if_client client_most (row verb).places n)

event_drivers : (e : Event) → IsMost (drivers_named (act_of e)) (driver_of e)
event_drivers (Step verb numbers) = step_drivers verb numbers
event_drivers (Ask driver request) = only_one driver

event_clients : (e : Event) → IsMost (clients_named (act_of e)) (client_of e)
event_clients (Step verb numbers) = step_clients verb numbers
event_clients (Ask driver request) = none_is

more_named : (a b : ℕ) (here behind : List ℕ) → IsMost here a → IsGreatest behind b → 1 ≤ b → IsGreatest (here ++ behind) (max a b)
more_named a b here behind most rest one = record {
  above = All-append (λ m. m ≤ max a b) here behind (all_lower a (max a b) here (omega arith) most.above) (all_lower b (max a b) behind (omega arith) rest.above);
  named = cases (nat_le a b) refl;
}
  where
    of_rest : max a b ≡ b → (b ≡ 1) ⊎ Contains behind b → (max a b ≡ 1) ⊎ Contains (here ++ behind) (max a b)
    of_rest same (inl is) = inl (same ∙ is)
    of_rest same (inr has) = inr (subst (λ (n : ℕ). Contains (here ++ behind) n) (sym same) (Contains-append_right here behind b has))

    of_here : max a b ≡ a → 1 ≤ a → (a ≡ 0) ⊎ Contains here a → (max a b ≡ 1) ⊎ Contains (here ++ behind) (max a b)
    of_here same some (inl is) = absurd (omega (arith, is))
    of_here same some (inr has) = inr (subst (λ (n : ℕ). Contains (here ++ behind) n) (sym same) (Contains-append_left here behind a has))

    cases : (t : Bool) → nat_le a b ≡ t → (max a b ≡ 1) ⊎ Contains (here ++ behind) (max a b)
    cases true low = of_rest (grind (arith, nat_tests, low)) rest.named
    cases false low = of_here (grind (arith, nat_tests, low)) (grind (arith, nat_tests, low)) most.named

module _ (of : Event → ℕ) (named : Act → List ℕ) (each : (e : Event) → IsMost (named (act_of e)) (of e)) where
  greatest_named : (events : List Numbered) → IsGreatest (flat_map (λ (line : Line). named line.act) (map line_of events)) (greatest of events)
  greatest_named [] = record { above = All-nil (λ m. m ≤ 1); named = inl refl }
  greatest_named (e ∷ es) = more_named (of e.event) (greatest of es) (named (act_of e.event)) (flat_map (λ (line : Line). named line.act) (map line_of es)) (each e.event) (greatest_named es) (at_least_one of es)

pub drivers_greatest : (events : List Numbered) → IsGreatest (flat_map (λ (line : Line). drivers_named line.act) (map line_of events)) (greatest driver_of events)
drivers_greatest events = greatest_named driver_of drivers_named event_drivers events

pub clients_greatest : (events : List Numbered) → IsGreatest (flat_map (λ (line : Line). clients_named line.act) (map line_of events)) (greatest client_of events)
clients_greatest events = greatest_named client_of clients_named event_clients events

-- the stores that speak
has_head : (x y : ℕ) (xs : List ℕ) → x ≡ y → Contains (x ∷ xs) y
has_head x y xs same = (0, omega arith, same)

has_tail : (x y : ℕ) (xs : List ℕ) → Contains xs y → Contains (x ∷ xs) y
has_tail x y xs (k, low, same) = (suc k, omega arith, same)

has_cases : (x y : ℕ) (xs : List ℕ) → Contains (x ∷ xs) y → (x ≡ y) ⊎ Contains xs y
has_cases x y xs (zero, low, same) = inl same
has_cases x y xs (suc k, low, same) = inr (k, omega arith, same)

inserted : (k : ℕ) (ks : List ℕ) → Contains (insert_key nat_cmp ks k) k
inserted k [] = has_head k k [] refl
inserted k (x ∷ xs) = cases (nat_lt k x) (eqb k x) refl (inserted k xs)
  where
    cases : (a b : Bool) → eqb k x ≡ b → Contains (insert_key nat_cmp xs k) k → Contains (match_ordering (cond a Less (cond b Equal Greater)) (k ∷ x ∷ xs) (x ∷ xs) (x ∷ insert_key nat_cmp xs k)) k
    cases true b same deep = has_head k k (x ∷ xs) refl
    cases false true same deep = has_head x k xs (grind (arith, nat_tests, same))
    cases false false same deep = has_tail x k (insert_key nat_cmp xs k) deep

stays : (k y : ℕ) (ks : List ℕ) → Contains ks y → Contains (insert_key nat_cmp ks k) y
stays k y [] has = has_tail k y [] has
stays k y (x ∷ xs) has = cases (nat_cmp k x) (deep (has_cases x y xs has) (stays k y xs))
  where
    deep : (x ≡ y) ⊎ Contains xs y → (Contains xs y → Contains (insert_key nat_cmp xs k) y) → Contains (x ∷ insert_key nat_cmp xs k) y
    deep (inl same) behind = has_head x y (insert_key nat_cmp xs k) same
    deep (inr here) behind = has_tail x y (insert_key nat_cmp xs k) (behind here)

    cases : (o : Ordering) → Contains (x ∷ insert_key nat_cmp xs k) y → Contains (match_ordering o (k ∷ x ∷ xs) (x ∷ xs) (x ∷ insert_key nat_cmp xs k)) y
    cases Less later = has_tail k y (x ∷ xs) has
    cases Equal later = has
    cases Greater later = later

with_stays : (known stores : List ℕ) (y : ℕ) → Contains known y → Contains (with_stores known stores) y
with_stays known [] y has = has
with_stays known (store ∷ stores) y has = stays store y known has

all_stays : (known : List ℕ) (events : List Numbered) (y : ℕ) → Contains known y → Contains (stores_from known events) y
all_stays known [] y has = has
all_stays known (e ∷ es) y has = all_stays (with_stores known (store_of e.event)) es y (with_stays known (store_of e.event) y has)

asker_has : (known : List ℕ) (actor : Actor) → AllByRecursion (Contains (with_stores known (store_in actor))) (store_in actor ++ [])
asker_has known (ByDriver driver) = tt
asker_has known (ByClient client) = tt
asker_has known (ByStore store) = (inserted store known, tt)

actor_has : (known : List ℕ) (o : Option Actor) → AllByRecursion (Contains (with_stores known (store_by o))) (flat_map store_in (option_to_list o))
actor_has known None = tt
actor_has known (Some actor) = asker_has known actor

step_speaks : (verb : Verb) (n : Numbers) → speaking (act_by verb n) ≡ flat_map store_in (option_to_list (actor_by (row verb).places n))
step_speaks verb n = ap (λ (s : Says). flat_map store_in (option_to_list s.actor)) (same_says verb n)

event_has : (known : List ℕ) (e : Event) → AllByRecursion (Contains (with_stores known (store_of e))) (speaking (act_of e))
event_has known (Step verb numbers) = subst (λ (l : List ℕ). AllByRecursion (Contains (with_stores known (store_of (Step verb numbers)))) l) (sym (step_speaks verb numbers)) (actor_has known (actor_by (row verb).places numbers))
event_has known (Ask driver request) = asker_has known (asker driver request)

all_have : (known more numbers : List ℕ) → ((y : ℕ) → Contains known y → Contains more y) → AllByRecursion (Contains known) numbers → AllByRecursion (Contains more) numbers
all_have known more [] keeps all = tt
all_have known more (n ∷ ns) keeps all = (keeps n all.0, all_have known more ns keeps all.1)

all_speak : (known : List ℕ) (events : List Numbered) → All (Contains (stores_from known events)) (flat_map (λ (line : Line). speaking line.act) (map line_of events))
all_speak known [] = All-nil (Contains known)
all_speak known (e ∷ es) =
    let more = with_stores known (store_of e.event) in
    let here = all_have more (stores_from more es) (speaking (act_of e.event)) (λ y has. all_stays more es y has) (event_has known e.event) in
    All-append (Contains (stores_from more es)) (speaking (act_of e.event)) (flat_map (λ (line : Line). speaking line.act) (map line_of es)) (All-from_recursion (Contains (stores_from more es)) (speaking (act_of e.event)) here) (all_speak more es)

pub few_speakers : (events : List Numbered) → stores_in events ≤ 256 → AreAtMost 256 (flat_map (λ (line : Line). speaking line.act) (map line_of events))
few_speakers events few = record { kept = stores_from [] events; few = few; all = all_speak [] events }

-- how many lines ask for a report
pub same_reports : (events : List Numbered) → count_by (λ (line : Line). is_report line.act) (map line_of events) ≡ reports_in events
same_reports [] = refl
same_reports (e ∷ es) =
    sum_by-cons (λ (line : Line). cond (is_report line.act) 1 0) (line_of e) (map line_of es) ∙ ap (λ (n : ℕ). cond (is_report (act_of e.event)) 1 0 + n) (same_reports es)
    ∙ sym (sum_by-cons (λ (n : Numbered). cond (is_report (act_of n.event)) 1 0) e es)

-- how many lines begin a lead or end one
pub same_leads : (events : List Numbered) → count_by (λ (line : Line). is_lead line.act) (map line_of events) ≡ leads_in events
same_leads [] = refl
same_leads (e ∷ es) =
    sum_by-cons (λ (line : Line). cond (is_lead line.act) 1 0) (line_of e) (map line_of es) ∙ ap (λ (n : ℕ). cond (is_lead (act_of e.event)) 1 0 + n) (same_leads es)
    ∙ sym (sum_by-cons (λ (n : Numbered). cond (is_lead (act_of n.event)) 1 0) e es)
