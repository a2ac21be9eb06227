-- The numbers of a store, once one is written.
use Rattle.std.proofs.Common.{refl, ◌≡◌, ℕ, zero, suc, ◌+◌, ◌-◌, ◌<◌, ◌≤◌, ◌^◌, Bool, true, false, not, ◌&&◌, ◌||◌, cond, nat_eq, nat_lt, count_by, List, [], ◌∷◌, length, take, ap, sym, subst, ◌∙◌, Option, Some, None, IsSome, arith}
use Rattle.std.proofs.lemmas.Bool.{true≢false}
use Rattle.std.proofs.lemmas.Bool.Decides.{nat_tests}
use Rattle.std.proofs.lemmas.List.Sums.{count_by-le-length}
use Rattle.std.specs.List.{filter, list_any}
use mir.Val.{bool_byte}
use Rattle.std.specs.Ordering.{nat_cmp}
use Rattle.std.specs.Cmp.{nat_cmp_total}
use Rattle.std.specs.Option.{is_some, option_map, unwrap_or}
use Rattle.std.specs.FinMap as map
use Rattle.pd_types.specs.BeatCheck.{has_store}
use Rattle.pd_types.specs.declared.region.Epoch.{Epoch}
use Rattle.pd_types.specs.declared.region.Peer.{Peer}
use Rattle.pd_types.specs.declared.region.RegionBeat.{RegionBeat}
use Rattle.pd_types.proofs.Numbers.{same_number}
use Rattle.region_tree.specs.Moves.{CountMoves, count_displaced, displaced_by}
use Rattle.region_tree.specs.Stale.{put_refusal, refusal_by, stale_by}
use Rattle.region_tree.specs.Standing.{stays}
use Rattle.region_tree.specs.declared.fault.RegionFault.TheVariants as faults
use Rattle.region_tree.specs.declared.table.Displaced.{Displaced}
use Rattle.region_tree.specs.declared.table.TheConstants.{MOST_REGIONS}
use Rattle.region_tree.proofs.Puts.{key_test}
use Rattle.heartbeat.specs.Counts.{leads_on}
use Rattle.heartbeat.specs.declared.counts.StoreCount.{StoreCount}

-- one of the numbers that are kept for a store
abbrev number_at : (StoreCount → ℕ) → map.FinMap nat_cmp StoreCount → ℕ → ℕ
number_at f counts s = unwrap_or (option_map f (map.get counts s)) 0

pub nothing_kept : (f : StoreCount → ℕ) (s : ℕ) → number_at f map.empty s ≡ 0
nothing_kept f s = ap (λ (o : Option StoreCount). unwrap_or (option_map f o) 0) (map.get-empty nat_cmp s)

module _ (old new : map.FinMap nat_cmp StoreCount) (store : ℕ) (row : StoreCount) (is : new ≡ map.insert old store row) where
  read : (s : ℕ) → map.get new s ≡ cond (nat_eq store s) (Some row) (map.get old s)
  read s = ap (λ m. map.get m s) is ∙ map.get-insert nat_cmp_total old store row s ∙ ap (λ (c : Bool). cond c (Some row) (map.get old s)) (key_test s store)

  pub kept : (s : ℕ) → IsSome (map.get old s) → IsSome (map.get new s)
  kept s h = subst IsSome (sym (read s)) (by (nat_eq store s))
    where
      by : (t : Bool) → IsSome (cond t (Some row) (map.get old s))
      by true = refl
      by false = h

  pub here : IsSome (map.get new store)
  here = subst IsSome (sym (read store ∙ ap (λ (c : Bool). cond c (Some row) (map.get old store)) same)) refl
    where
      same : nat_eq store store ≡ true
      same = grind (arith, nat_tests)

  -- where nothing was kept, zeros change no number
  pub zeros : (f : StoreCount → ℕ) → map.get old store ≡ None → f row ≡ 0 → (s : ℕ) → number_at f new s ≡ number_at f old s
  zeros f none zero_is s = ap (λ (o : Option StoreCount). unwrap_or (option_map f o) 0) (read s) ∙ by (nat_eq store s) refl
    where
      by : (t : Bool) → nat_eq store s ≡ t → unwrap_or (option_map f (cond t (Some row) (map.get old s))) 0 ≡ number_at f old s
      by true at = zero_is ∙ sym (ap (λ (o : Option StoreCount). unwrap_or (option_map f o) 0) (ap (map.get old) (sym (same_number store s at)) ∙ none))
      by false at = refl

  module _ (f : StoreCount → ℕ) (count : StoreCount) (n : ℕ) (had : Some count ≡ map.get old store) where
    there : (s : ℕ) → nat_eq store s ≡ true → f count ≡ number_at f old s
    there s at = ap (λ (o : Option StoreCount). unwrap_or (option_map f o) 0) (had ∙ ap (map.get old) (same_number store s at))

    pub lost : f row ≡ f count - n → (s : ℕ) → number_at f new s ≡ number_at f old s - cond (nat_eq store s) n 0
    lost less s = ap (λ (o : Option StoreCount). unwrap_or (option_map f o) 0) (read s) ∙ by (nat_eq store s) refl
      where
        by : (t : Bool) → nat_eq store s ≡ t → unwrap_or (option_map f (cond t (Some row) (map.get old s))) 0 ≡ number_at f old s - cond t n 0
        by true at = less ∙ ap (λ (m : ℕ). m - n) (there s at)
        by false at = omega arith

    pub gained : f row ≡ f count + n → (s : ℕ) → number_at f new s ≡ number_at f old s + cond (nat_eq store s) n 0
    gained more s = ap (λ (o : Option StoreCount). unwrap_or (option_map f o) 0) (read s) ∙ by (nat_eq store s) refl
      where
        by : (t : Bool) → nat_eq store s ≡ t → unwrap_or (option_map f (cond t (Some row) (map.get old s))) 0 ≡ number_at f old s + cond t n 0
        by true at = more ∙ ap (λ (m : ℕ). m + n) (there s at)
        by false at = omega arith

pub one_of_both : (a b : Bool) → ◌≡◌ {A = ℕ} (cond a (bool_byte b) 0) (cond (a && b) 1 0)
one_of_both true true = refl
one_of_both true false = refl
one_of_both false b = refl

pub none_of : {X : Type 0} (o : Option X) → is_some o ≡ false → o ≡ None
none_of None h = refl
none_of (Some x) h = absurd (true≢false h)

-- a region is led on the stores that it has a peer on
taken : {X : Type 0} (n : ℕ) (xs : List X) → length xs ≤ n → take n xs ≡ xs
taken zero [] all = refl
taken (suc n) [] all = refl
taken zero (x ∷ xs) all = absurd (omega arith)
taken {X = X} (suc n) (x ∷ xs) all = ap (λ (l : List X). x ∷ l) (taken n xs (omega arith))

and_other : (a b : Bool) → a && b ≡ true → b ≡ true
and_other true b h = h
and_other false b h = absurd (true≢false (sym h))

led_there : (peers : List Peer) (leader store : ℕ) → list_any (λ peer. nat_eq peer.id leader && nat_eq peer.store store) peers ≡ true → has_store peers store ≡ true
led_there [] leader store h = h
led_there (x ∷ xs) leader store h = by (nat_eq x.id leader && nat_eq x.store store) refl h (led_there xs leader store)
  where
    or_first : (a b : Bool) → a ≡ true → a || b ≡ true
    or_first true b is = refl
    or_first false b is = absurd (true≢false (sym is))

    or_rest : (a b : Bool) → b ≡ true → a || b ≡ true
    or_rest true b is = refl
    or_rest false b is = is

    by : (t : Bool) → nat_eq x.id leader && nat_eq x.store store ≡ t → t || list_any (λ peer. nat_eq peer.id leader && nat_eq peer.store store) xs ≡ true → (list_any (λ peer. nat_eq peer.id leader && nat_eq peer.store store) xs ≡ true → has_store xs store ≡ true) → nat_eq x.store store || has_store xs store ≡ true
    by true is k rest = or_first (nat_eq x.store store) (has_store xs store) (and_other (nat_eq x.id leader) (nat_eq x.store store) is)
    by false is k rest = or_rest (nat_eq x.store store) (has_store xs store) (rest k)

pub led_once : (beat : RegionBeat) (peers : List Peer) (n store : ℕ) → peers ≡ beat.region.peers → length peers ≤ n
    → ◌≡◌ {A = ℕ} (cond (has_store (take n peers) store && leads_on store beat) 1 0) (cond (leads_on store beat) 1 0)
led_once beat peers n store is all =
    ap (λ (b : Bool). cond b 1 0) (ap (λ (l : List Peer). has_store l store && leads_on store beat) (taken n peers all ∙ is) ∙ and_is _ _ (led_there beat.region.peers beat.leader store))
  where
    and_is : (a b : Bool) → (b ≡ true → a ≡ true) → a && b ≡ b
    and_is true b h = refl
    and_is false true h = h refl
    and_is false false h = refl

-- a number that stays has room for one more
few : (n : ℕ) → not (nat_lt MOST_REGIONS (n + 1)) ≡ true → n < 2 ^ 64 - 1
few n h = grind (arith, nat_tests)

pub has_room : (p : RegionBeat → Bool) (beat : RegionBeat) (held new : List RegionBeat) (displaced : Displaced) (kept before : ℕ) → put_refusal beat held ≡ None → CountMoves p beat held new → displaced ≡ displaced_by beat held
    → kept ≡ before → before ≡ count_by p held → kept - count_displaced p displaced < 2 ^ 64 - 1
has_room p beat held new displaced kept before put moves is same counted =
    let less : length (filter (stays beat) held) < 2 ^ 64 - 1 = fresh (stale_by beat held) put in
    let most = count_by-le-length p (filter (stays beat) held) in
    let gone = ap (count_displaced p) is in
    let all = moves.staying in
    omega (arith, less, most, gone, all, same, counted)
  where
    not_more : (t : Bool) → cond t (Some faults.Limit) None ≡ None → not t ≡ true
    not_more true h = cc
    not_more false h = refl

    fresh : (o : Option Epoch) → refusal_by o beat held ≡ None → length (filter (stays beat) held) < 2 ^ 64 - 1
    fresh (Some epoch) h = cc
    fresh None h = few (length (filter (stays beat) held)) (not_more _ h)
