-- Walks over regions and stores, one step further.
use Rattle.std.proofs.Common.{refl, ◌≡◌, ℕ, zero, suc, ◌+◌, ◌≤◌, Bool, true, false, cond, List, [], ◌∷◌, ◌++◌, length, length-append, map, take, append-nil, slice_get, ap, sym, ◌∙◌, subst, Option, Some, None, arith}
use Rattle.std.specs.Prelude.{count_by, filter, filter_map}
use Rattle.std.specs.List.{cons_option}
use Rattle.std.specs.Option.{option_map}
use Rattle.std.proofs.Math.Numerals.{add-one}
use Rattle.std.proofs.lemmas.List.{map-append}
use Rattle.std.proofs.lemmas.List.Elements.{filter_map-append}
use Rattle.std.proofs.lemmas.List.Sums.{count_by-le-length, fold_push}
use Rattle.pd_types.specs.declared.region.RegionBeat.{RegionBeat}
use Rattle.pd_types.specs.declared.store.StoreRec.{StoreRec}
use Rattle.store_table.specs.declared.entry.StoreEntry.{StoreEntry}
use Rattle.store_limit.specs.Limits.{known}
use Rattle.rule_checker.specs.Told.{Told, Fits, Plans, Splits, Stuck}
use Rattle.pd_state.specs.Adding.{Around}
use Rattle.pd_state.specs.Checking.{AreCounts, is_fit, is_grave, is_plan, is_split, is_stuck, plan_told, survey_more, surveyed, told_in, tombstone}
use Rattle.pd_state.specs.HandedOut.{limits_of}
use Rattle.pd_state.specs.declared.patrol.Planned.{Planned}
use Rattle.pd_state.specs.declared.patrol.Survey.{Survey}

map_count : {A B : Type 0} (f : A → B) (xs : List A) → length (map f xs) ≡ length xs
map_count f [] = refl
map_count f (x ∷ xs) = let rest = map_count f xs in omega (arith, rest)

take_few : {A : Type 0} (i : ℕ) (xs : List A) → length (take i xs) ≤ i
take_few zero xs = omega arith
take_few (suc i) [] = omega arith
take_few (suc i) (x ∷ xs) = let rest = take_few i xs in omega (arith, rest)

-- what stands before the next place
take_suc : (A : Type 0) (xs : List A) (i : ℕ) (a : A) → slice_get xs i ≡ Some a → take (suc i) xs ≡ take i xs ++ a ∷ []
take_suc A [] i a h = absurd cc
take_suc A (x ∷ xs) zero a h = let same : x ≡ a = cc in ap (λ (y : A). y ∷ []) same
take_suc A (x ∷ xs) (suc i) a h = ap (λ (ys : List A). x ∷ ys) (take_suc A xs i a h)

pub take_at : (A : Type 0) (xs : List A) (i : ℕ) (a : A) → slice_get xs i ≡ Some a → take (i + 1) xs ≡ take i xs ++ a ∷ []
take_at A xs i a h = ap (λ (n : ℕ). take n xs) (add-one i) ∙ take_suc A xs i a h

-- the limits of one store more
pub limits_next : (began : ℕ) (stores : List StoreEntry) (i : ℕ) (one : StoreEntry) → slice_get stores i ≡ Some one
    → known (limits_of began (map (λ (entry : StoreEntry). entry.store) (take i stores))) one.store.id began ≡ limits_of began (map (λ (entry : StoreEntry). entry.store) (take (i + 1) stores))
limits_next began stores i one at =
    sym (ap (λ (l : List StoreEntry). limits_of began (map (λ (entry : StoreEntry). entry.store) l)) (take_at StoreEntry stores i one at)
    ∙ ap (limits_of began) (map-append (λ (entry : StoreEntry). entry.store) (take i stores) (one ∷ []))
    ∙ fold_push (λ limits (rec : StoreRec). known limits rec.id began) _ (map (λ (entry : StoreEntry). entry.store) (take i stores)) one.store)

-- the entry of a record that stands at a place
rec_at : (o : Option StoreEntry) (rec : StoreRec) → option_map (λ (entry : StoreEntry). entry.store) o ≡ Some rec → (one : StoreEntry) × (o ≡ Some one) × (one.store ≡ rec)
rec_at None rec h = absurd cc
rec_at (Some one) rec h = (one, refl, cc)

pub limits_at : (began : ℕ) (stores : List StoreEntry) (i : ℕ) (rec : StoreRec) → option_map (λ (entry : StoreEntry). entry.store) (slice_get stores i) ≡ Some rec
    → known (limits_of began (map (λ (entry : StoreEntry). entry.store) (take i stores))) rec.id began ≡ limits_of began (map (λ (entry : StoreEntry). entry.store) (take (i + 1) stores))
limits_at began stores i rec h =
    let r = rec_at (slice_get stores i) rec h in
    subst (λ (x : StoreRec). known (limits_of began (map (λ (entry : StoreEntry). entry.store) (take i stores))) x.id began ≡ limits_of began (map (λ (entry : StoreEntry). entry.store) (take (i + 1) stores))) r.2
    (limits_next began stores i r.0 r.1)

-- what is told of one region more
module _ (around : Around) (beats : List RegionBeat) (beat : RegionBeat) where
  abbrev plans_of : List RegionBeat → List Planned
  plans_of bs = filter_map (λ b. plan_told b (told_in around b)) bs

  longer : length (beats ++ beat ∷ []) ≡ length beats + 1
  longer = length-append beats (beat ∷ [])

  counted : (f : Told → Bool) (told : Told) → told_in around beat ≡ told → count_by f (map (told_in around) (beats ++ beat ∷ [])) ≡ count_by f (map (told_in around) beats) + cond (f told) 1 0
  counted f told is =
      ap (count_by f) (map-append (told_in around) beats (beat ∷ [])) ∙ fold_push (λ (n : ℕ) (t : Told). n + cond (f t) 1 0) 0 (map (told_in around) beats) (told_in around beat)
      ∙ ap (λ (t : Told). count_by f (map (told_in around) beats) + cond (f t) 1 0) is

  same : (n m : ℕ) → n ≡ m + 0 → n ≡ m
  same n m h = omega (arith, h)

  planned_at : (told : Told) → told_in around beat ≡ told → plans_of (beats ++ beat ∷ []) ≡ plans_of beats ++ cons_option (plan_told beat told) []
  planned_at told is = filter_map-append (λ b. plan_told b (told_in around b)) beats (beat ∷ []) ∙ ap (λ (t : Told). plans_of beats ++ cons_option (plan_told beat t) []) is

  next_by : (told : Told) → told_in around beat ≡ told → surveyed around (beats ++ beat ∷ []) ≡ survey_more (surveyed around beats) beat told
  next_by (Splits key) is = λ i. record {
    regions = longer i;
    ok = same _ _ (counted is_fit (Splits key) is) i;
    split = counted is_split (Splits key) is i;
    plan = same _ _ (counted is_plan (Splits key) is) i;
    no_plan = same _ _ (counted is_stuck (Splits key) is) i;
    plans = (planned_at (Splits key) is ∙ append-nil (plans_of beats)) i;
  }
  next_by Fits is = λ i. record {
    regions = longer i;
    ok = counted is_fit Fits is i;
    split = same _ _ (counted is_split Fits is) i;
    plan = same _ _ (counted is_plan Fits is) i;
    no_plan = same _ _ (counted is_stuck Fits is) i;
    plans = (planned_at Fits is ∙ append-nil (plans_of beats)) i;
  }
  next_by (Stuck from) is = λ i. record {
    regions = longer i;
    ok = same _ _ (counted is_fit (Stuck from) is) i;
    split = same _ _ (counted is_split (Stuck from) is) i;
    plan = same _ _ (counted is_plan (Stuck from) is) i;
    no_plan = counted is_stuck (Stuck from) is i;
    plans = (planned_at (Stuck from) is ∙ append-nil (plans_of beats)) i;
  }
  next_by (Plans class list from to) is = λ i. record {
    regions = longer i;
    ok = same _ _ (counted is_fit (Plans class list from to) is) i;
    split = same _ _ (counted is_split (Plans class list from to) is) i;
    plan = counted is_plan (Plans class list from to) is i;
    no_plan = same _ _ (counted is_stuck (Plans class list from to) is) i;
    plans = planned_at (Plans class list from to) is i;
  }

pub survey_next : (around : Around) (beats : List RegionBeat) (i : ℕ) (beat : RegionBeat) → slice_get beats i ≡ Some beat → survey_more (surveyed around (take i beats)) beat (told_in around beat) ≡ surveyed around (take (i + 1) beats)
survey_next around beats i beat at = sym (ap (surveyed around) (take_at RegionBeat beats i beat at) ∙ next_by around (take i beats) beat (told_in around beat) refl)

-- no kind has more regions than there are, and no more were looked at than places passed
counted_few : (around : Around) (f : Told → Bool) (beats : List RegionBeat) → count_by f (map (told_in around) beats) ≤ length beats
counted_few around f beats = let few = count_by-le-length f (map (told_in around) beats) in let same = map_count (told_in around) beats in omega (arith, few, same)

pub counts_of : (around : Around) (beats : List RegionBeat) (survey : Survey) → survey ≡ surveyed around beats → AreCounts survey
counts_of around beats survey is =
    subst (λ (s : Survey). AreCounts s) (sym is) (record { ok = counted_few around is_fit beats; split = counted_few around is_split beats; plan = counted_few around is_plan beats; no_plan = counted_few around is_stuck beats })

pub room_of : (around : Around) (beats : List RegionBeat) (place : ℕ) (survey : Survey) → survey ≡ surveyed around (take place beats) → survey.regions ≤ place
room_of around beats place survey is =
    let count : survey.regions ≡ length (take place beats) = ap (λ (s : Survey). s.regions) is in
    let few = take_few place beats in
    omega (arith, count, few)

-- one store more that may be buried
abbrev pub graves_of : List RegionBeat → List StoreEntry → List StoreRec
graves_of held stores = map tombstone (filter (is_grave held) (map (λ (entry : StoreEntry). entry.store) stores))

grave_by : (held : List RegionBeat) (b : Bool) (one : StoreEntry) (more : List StoreEntry) → is_grave held one.store ≡ b → graves_of held (one ∷ more) ≡ cond b (tombstone one.store ∷ []) [] ++ graves_of held more
grave_by held true one more is = rw (is) refl
grave_by held false one more is = rw (is) refl

grave_last : (held : List RegionBeat) (b : Bool) (stores : List StoreEntry) (one : StoreEntry) → is_grave held one.store ≡ b → graves_of held (stores ++ one ∷ []) ≡ graves_of held stores ++ cond b (tombstone one.store ∷ []) []
grave_last held b [] one is = grave_by held b one [] is ∙ append-nil (cond b (tombstone one.store ∷ []) [])
grave_last held b (s ∷ stores) one is = first (is_grave held s.store) refl (grave_last held b stores one is)
  where
    first : (t : Bool) → is_grave held s.store ≡ t → graves_of held (stores ++ one ∷ []) ≡ graves_of held stores ++ cond b (tombstone one.store ∷ []) [] → graves_of held ((s ∷ stores) ++ one ∷ []) ≡ graves_of held (s ∷ stores) ++ cond b (tombstone one.store ∷ []) []
    first true e rest =
        grave_by held true s (stores ++ one ∷ []) e ∙ ap (λ (l : List StoreRec). tombstone s.store ∷ l) rest ∙ ap (λ (l : List StoreRec). l ++ cond b (tombstone one.store ∷ []) []) (sym (grave_by held true s stores e))
    first false e rest =
        grave_by held false s (stores ++ one ∷ []) e ∙ rest ∙ ap (λ (l : List StoreRec). l ++ cond b (tombstone one.store ∷ []) []) (sym (grave_by held false s stores e))

pub graves_next : (held : List RegionBeat) (b : Bool) (stores : List StoreEntry) (i : ℕ) (one : StoreEntry) → slice_get stores i ≡ Some one → is_grave held one.store ≡ b → graves_of held (take i stores) ++ cond b (tombstone one.store ∷ []) [] ≡ graves_of held (take (i + 1) stores)
graves_next held b stores i one at is = sym (ap (graves_of held) (take_at StoreEntry stores i one at) ∙ grave_last held b (take i stores) one is)

pub graves_at : (held : List RegionBeat) (b : Bool) (stores : List StoreEntry) (i : ℕ) (rec : StoreRec) → option_map (λ (entry : StoreEntry). entry.store) (slice_get stores i) ≡ Some rec → is_grave held rec ≡ b
    → graves_of held (take i stores) ++ cond b (tombstone rec ∷ []) [] ≡ graves_of held (take (i + 1) stores)
graves_at held b stores i rec h is =
    let r = rec_at (slice_get stores i) rec h in
    subst (λ (x : StoreRec). graves_of held (take i stores) ++ cond b (tombstone x ∷ []) [] ≡ graves_of held (take (i + 1) stores)) r.2
    (graves_next held b stores i r.0 r.1 (ap (is_grave held) r.2 ∙ is))
