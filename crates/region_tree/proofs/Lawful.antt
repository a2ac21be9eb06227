-- The laws of ranges, staleness and the limit.
use Rattle.std.proofs.Common.{refl, ◌≡◌, ◌≢◌, ℕ, ◌+◌, ◌<◌, ◌≤◌, Bool, true, false, not, ◌&&◌, ◌||◌, cond, nat_eq, nat_lt, List, [], ◌∷◌, length, get_or, ap, sym, ◌∙◌, subst, Option, Some, None, arith, ◌⊎◌, inl, inr}
use Rattle.std.proofs.lemmas.Bool.Decides.{nat_tests}
use Rattle.std.proofs.lemmas.List.Elements.{All-head, All-tail, filter_passes}
use Rattle.std.specs.List.{All, filter, find}
use Rattle.std.specs.Option.{option_map, option_or}
use Rattle.pd_types.specs.declared.region.Epoch.{Epoch}
use Rattle.pd_types.specs.declared.region.RegionBeat.{RegionBeat}
use Rattle.pd_types.specs.Keys.{is_before_end, is_below}
use Rattle.pd_types.proofs.KeyLemmas.{not_below_itself}
use Rattle.pd_types.proofs.Bools.{and_left, and_right, or_both}
use Rattle.pd_types.proofs.Numbers.{differ, equal, less, not_less}
use Rattle.pd_types.proofs.Filters.{find_none}
use Rattle.region_tree.specs.Ranges.{holds, overlaps, HasRange}
use Rattle.region_tree.specs.Stale.{is_behind, is_behind_overlapped, put_beat, put_refusal, refusal_by, stale_by}
use Rattle.region_tree.specs.Standing.{insert_by_key, stays}
use Rattle.region_tree.specs.declared.fault.RegionFault.TheVariants as faults
use Rattle.region_tree.proofs.Keys.{holds_start}
use Rattle.region_tree.proofs.Order.{all_insert, stays_split}

-- ranges
not_empty : (key : List ℕ) → key ≢ [] → nat_eq (length key) 0 ≡ false
not_empty [] h = absurd (h refl)
not_empty (x ∷ key) h = grind (arith, nat_tests)

past_end : (end : List ℕ) → end ≢ [] → is_before_end end end ≡ false
past_end end h = ap (λ (t : Bool). t || is_below end end) (not_empty end h) ∙ not_below_itself end

pub range_start : (beat : RegionBeat) → HasRange beat → holds beat beat.region.start ≡ true
range_start = holds_start

pub range_end : (beat : RegionBeat) → beat.region.end ≢ [] → holds beat beat.region.end ≡ false
range_end beat h = and_right (not (is_below beat.region.end beat.region.start)) (is_before_end beat.region.end beat.region.end) (past_end beat.region.end h)

pub ranges_touch : (one other : RegionBeat) → one.region.end ≢ [] → other.region.start ≡ one.region.end → overlaps one other ≡ false
ranges_touch one other h is =
    and_right (is_before_end one.region.start other.region.end) (is_before_end other.region.start one.region.end) (ap (λ (s : List ℕ). is_before_end s one.region.end) is ∙ past_end one.region.end h)

-- staleness
own_not_behind : (beat : RegionBeat) → is_behind beat beat ≡ false
own_not_behind beat =
    and_right (nat_eq beat.region.id beat.region.id) _
    (or_both (nat_lt beat.region.epoch.version beat.region.epoch.version) (nat_lt beat.region.epoch.conf_ver beat.region.epoch.conf_ver) (not_less beat.region.epoch.version beat.region.epoch.version (omega arith)) (not_less beat.region.epoch.conf_ver beat.region.epoch.conf_ver (omega arith)))

pub again_fresh : (beat : RegionBeat) (held : List RegionBeat) → stale_by beat (put_beat beat held) ≡ None
again_fresh beat held =
    ap (λ (o : Option RegionBeat). option_or (option_map (λ (one : RegionBeat). one.region.epoch) o) (option_map (λ (one : RegionBeat). one.region.epoch) (find (is_behind_overlapped beat) (put_beat beat held))))
    (find_none (is_behind beat) (put_beat beat held) (all_insert (λ one. is_behind beat one ≡ false) beat (filter (stays beat) held) (own_not_behind beat) (λ k d low. and_left _ _ (stays_split beat (get_or (filter (stays beat) held) k d) (filter_passes (stays beat) held k d low)).0)))
    ∙ ap (option_map (λ (one : RegionBeat). one.region.epoch))
    (find_none (is_behind_overlapped beat) (put_beat beat held) (all_insert (λ one. is_behind_overlapped beat one ≡ false) beat (filter (stays beat) held)
    (and_right (overlaps beat beat) (nat_lt beat.region.epoch.version beat.region.epoch.version) (not_less beat.region.epoch.version beat.region.epoch.version (omega arith)))
    (λ k d low. and_left _ _ (stays_split beat (get_or (filter (stays beat) held) k d) (filter_passes (stays beat) held k d low)).1)))

-- a test that passes the heartbeat alone finds it
find_inserted : (p : RegionBeat → Bool) (b : RegionBeat) (xs : List RegionBeat) → p b ≡ true → All (λ one. p one ≡ false) xs → find p (insert_by_key b xs) ≡ Some b
find_inserted p b [] here none = ap (λ (c : Bool). cond c (Some b) None) here
find_inserted p b (x ∷ xs) here none = by (is_below x.region.start b.region.start) (find_inserted p b xs here (All-tail (λ one. p one ≡ false) x xs none))
  where
    by : (t : Bool) → find p (insert_by_key b xs) ≡ Some b → find p (cond t (x ∷ insert_by_key b xs) (b ∷ x ∷ xs)) ≡ Some b
    by true deep = ap (λ (c : Bool). cond c (Some x) (find p (insert_by_key b xs))) (All-head (λ one. p one ≡ false) x xs none) ∙ deep
    by false deep = ap (λ (c : Bool). cond c (Some b) (find p (x ∷ xs))) here

behind_own : (older beat : RegionBeat) → older.region.id ≡ beat.region.id → (older.region.epoch.version < beat.region.epoch.version) ⊎ (older.region.epoch.conf_ver < beat.region.epoch.conf_ver) → is_behind older beat ≡ true
behind_own older beat is by = both (nat_eq beat.region.id older.region.id) _ (equal beat.region.id older.region.id (sym is)) (which by)
  where
    both : (a b : Bool) → a ≡ true → b ≡ true → a && b ≡ true
    both a b h k = ap (λ (c : Bool). c && b) h ∙ k

    or_one : (a b : Bool) → a ≡ true → a || b ≡ true
    or_one a b h = ap (λ (c : Bool). c || b) h

    or_two : (a b : Bool) → b ≡ true → a || b ≡ true
    or_two true b h = refl
    or_two false b h = h

    which : (older.region.epoch.version < beat.region.epoch.version) ⊎ (older.region.epoch.conf_ver < beat.region.epoch.conf_ver) → nat_lt older.region.epoch.version beat.region.epoch.version || nat_lt older.region.epoch.conf_ver beat.region.epoch.conf_ver ≡ true
    which (inl v) = or_one _ _ (less older.region.epoch.version beat.region.epoch.version v)
    which (inr c) = or_two _ _ (less older.region.epoch.conf_ver beat.region.epoch.conf_ver c)

pub older_stale : (older beat : RegionBeat) (held : List RegionBeat) → older.region.id ≡ beat.region.id → (older.region.epoch.version < beat.region.epoch.version) ⊎ (older.region.epoch.conf_ver < beat.region.epoch.conf_ver) → stale_by older (put_beat beat held) ≡ Some beat.region.epoch
older_stale older beat held is by =
    ap (λ (o : Option RegionBeat). option_or (option_map (λ (one : RegionBeat). one.region.epoch) o) (option_map (λ (one : RegionBeat). one.region.epoch) (find (is_behind_overlapped older) (put_beat beat held))))
    (find_inserted (is_behind older) beat (filter (stays beat) held) (behind_own older beat is by)
    (λ k d low. and_left _ _ (subst (λ n. nat_eq (get_or (filter (stays beat) held) k d).region.id n ≡ false) (sym is) (stays_split beat (get_or (filter (stays beat) held) k d) (filter_passes (stays beat) held k d low)).0)))

other_behind : (beat one : RegionBeat) → one.region.id ≢ beat.region.id → is_behind beat one ≡ false
other_behind beat one h = and_left (nat_eq one.region.id beat.region.id) _ (differ one.region.id beat.region.id h)

pub overlapped_stale : (beat one : RegionBeat) (rest : List RegionBeat) → All (λ other. other.region.id ≢ beat.region.id) (one ∷ rest) → overlaps beat one ≡ true → beat.region.epoch.version < one.region.epoch.version → stale_by beat (one ∷ rest) ≡ Some one.region.epoch
overlapped_stale beat one rest others over old =
    ap (λ (o : Option RegionBeat). option_or (option_map (λ (one : RegionBeat). one.region.epoch) o) (option_map (λ (one : RegionBeat). one.region.epoch) (find (is_behind_overlapped beat) (one ∷ rest))))
    (find_none (is_behind beat) (one ∷ rest) (λ k d low. other_behind beat (get_or (one ∷ rest) k d) (others k d low)))
    ∙ ap (λ (c : Bool). option_map (λ (one : RegionBeat). one.region.epoch) (cond c (Some one) (find (is_behind_overlapped beat) rest)))
    (ap (λ (c : Bool). c && nat_lt beat.region.epoch.version one.region.epoch.version) over ∙ less beat.region.epoch.version one.region.epoch.version old)

pub newer_fresh : (beat one : RegionBeat) → one.region.id ≢ beat.region.id → one.region.epoch.version ≤ beat.region.epoch.version → stale_by beat (one ∷ []) ≡ None
newer_fresh beat one other new =
    ap (λ (c : Bool). option_or (option_map (λ (one : RegionBeat). one.region.epoch) (cond c (Some one) None)) (option_map (λ (one : RegionBeat). one.region.epoch) (cond (is_behind_overlapped beat one) (Some one) None))) (other_behind beat one other)
    ∙ ap (λ (c : Bool). option_map (λ (one : RegionBeat). one.region.epoch) (cond c (Some one) None)) (and_right (overlaps beat one) _ (not_less beat.region.epoch.version one.region.epoch.version new))

-- the limit
pub inserted_length : (b : RegionBeat) (xs : List RegionBeat) → length (insert_by_key b xs) ≡ length xs + 1
inserted_length b [] = refl
inserted_length b (x ∷ xs) = by (is_below x.region.start b.region.start) (inserted_length b xs)
  where
    by : (t : Bool) → length (insert_by_key b xs) ≡ length xs + 1 → length (cond t (x ∷ insert_by_key b xs) (b ∷ x ∷ xs)) ≡ length (x ∷ xs) + 1
    by true deep = omega (arith, deep)
    by false deep = omega arith

pub put_room : (beat : RegionBeat) (held : List RegionBeat) → stale_by beat held ≡ None → length (put_beat beat held) ≤ 65536 → put_refusal beat held ≡ None
put_room beat held fresh low =
    let long = inserted_length beat (filter (stays beat) held) in
    ap (λ (o : Option Epoch). refusal_by o beat held) fresh ∙ ap (λ (t : Bool). cond t (Some faults.Limit) None) (not_less 65536 (length (filter (stays beat) held) + 1) (omega (arith, long, low)))

pub put_full : (beat : RegionBeat) (held : List RegionBeat) → stale_by beat held ≡ None → 65536 < length (put_beat beat held) → put_refusal beat held ≡ Some faults.Limit
put_full beat held fresh high =
    let long = inserted_length beat (filter (stays beat) held) in
    ap (λ (o : Option Epoch). refusal_by o beat held) fresh ∙ ap (λ (t : Bool). cond t (Some faults.Limit) None) (less 65536 (length (filter (stays beat) held) + 1) (omega (arith, long, high)))

pub put_stale : (beat : RegionBeat) (held : List RegionBeat) (kept : Epoch) → stale_by beat held ≡ Some kept → put_refusal beat held ≡ Some (faults.Stale kept)
put_stale beat held kept is = ap (λ (o : Option Epoch). refusal_by o beat held) is
