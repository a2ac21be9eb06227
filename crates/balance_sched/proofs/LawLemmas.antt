-- What moves do to counts and peers, and their order in words.
use Rattle.std.proofs.Common.{◌≡◌, ◌∙◌, sym, refl, subst, ℕ, ◌+◌, ◌-◌, ◌*◌, ◌<◌, ◌≤◌, Bool, true, false, ◌==◌, arith, List, [], ◌∷◌, map, length, ◌⊎◌, inl, inr, not, ◌&&◌, Some, None}
use Rattle.std.proofs.lemmas.Bool.Decides.{nat_tests}
use Rattle.std.proofs.lemmas.Bool.{true≢false, cases_eq, cases_lt}
use Rattle.pd_types.specs.declared.region.Peer.{Peer}
use Rattle.pd_types.specs.declared.region.RegionBeat.{RegionBeat}
use Rattle.balance_sched.specs.declared.moves.Move.{Move}
use Rattle.op_step.specs.Peers.{is_target as can_take, peer_on}
use Rattle.op_step.specs.Votes.{is_voter}
use Rattle.op_step.specs.Wishes.{may_lead}
use Rattle.pd_types.specs.declared.rule.Rule.{Rule}
use Rattle.store_table.specs.declared.entry.StoreEntry.{StoreEntry}
use Rattle.rule_set.specs.InForce.{rules_at}
use Rattle.rule_fit.specs.Assignment.{Fits}
use Rattle.rule_fit.specs.Suits.{suits_in, counts_of}
use Rattle.balance_sched.specs.Tables.{Tables}
use Rattle.balance_sched.specs.Moves.{FitsRules, goes_before, may_take, on_target}
use Rattle.balance_sched.proofs.OrderLemmas.{false_by, goes_on, goes_self}

squares_by : (t d : ℕ) → (t + 1 + d) * (t + 1 + d) + (t + 1) * (t + 1) < (t + 2 + d) * (t + 2 + d) + t * t
squares_by t d = omega arith

pub squares : (source target difference : ℕ) → target + difference ≡ source → 2 ≤ difference → (source - 1) * (source - 1) + (target + 1) * (target + 1) < source * source + target * target
squares source target difference e wide =
    let d : ℕ = difference - 2 in
    let whole : source ≡ target + 2 + d = omega (arith, e, wide) in
    let less : source - 1 ≡ target + 1 + d = omega (arith, e, wide) in
    rw (less, whole) (squares_by target d)

pub squares_fall : (source target left more difference : ℕ) → target + difference ≡ source → 2 ≤ difference → left + 1 ≡ source → more ≡ target + 1 → left * left + more * more < source * source + target * target
squares_fall source target left more difference e wide less one =
    let here : left ≡ source - 1 = omega (arith, less) in
    rw (here, one) (squares source target difference e wide)

-- where both have as many, nothing is evened
from_one : (s : ℕ) → s * s + (s + 1 + 1) * (s + 1 + 1) < (s + 1) * (s + 1) + (s + 1) * (s + 1) → ⊥
from_one s h = omega (arith, h)

as_many : (n : ℕ) → (n - 1) * (n - 1) + (n + 1) * (n + 1) < n * n + n * n → ⊥
as_many n h = by (cases_eq n 0)
  where
    by : (n ≡ 0) ⊎ (n ≡ 0 → ⊥) → ⊥
    by (inl none) = (let low : (0 - 1) * (0 - 1) + (0 + 1) * (0 + 1) < 0 * 0 + 0 * 0 = subst (λ (m : ℕ). (m - 1) * (m - 1) + (m + 1) * (m + 1) < m * m + m * m) none h in omega (arith, low))
    by (inr some) =
        let s : ℕ = n - 1 in
        let e : n ≡ s + 1 = omega (arith, some) in
        from_one s (subst (λ (m : ℕ). s * s + (m + 1) * (m + 1) < m * m + m * m) e h)

-- nor where the source has one more
one_more : (target : ℕ) → (target + 1 - 1) * (target + 1 - 1) + (target + 1) * (target + 1) < (target + 1) * (target + 1) + target * target → ⊥
one_more target h =
    let e : target + 1 - 1 ≡ target = omega arith in
    let k : target * target + (target + 1) * (target + 1) < (target + 1) * (target + 1) + target * target = subst (λ (m : ℕ). m * m + (target + 1) * (target + 1) < (target + 1) * (target + 1) + target * target) e h in
    omega (arith, k)

narrow : (source target difference : ℕ) → target + difference ≡ source → difference < 2 → (source - 1) * (source - 1) + (target + 1) * (target + 1) < source * source + target * target → ⊥
narrow source target difference e low h = by (cases_eq difference 0)
  where
    by : (difference ≡ 0) ⊎ (difference ≡ 0 → ⊥) → ⊥
    by (inl none) = (let same : target ≡ source = omega (arith, e, none) in as_many source (subst (λ (t : ℕ). (source - 1) * (source - 1) + (t + 1) * (t + 1) < source * source + t * t) same h))
    by (inr some) = (let same : source ≡ target + 1 = omega (arith, e, low, some) in one_more target (subst (λ (s : ℕ). (s - 1) * (s - 1) + (target + 1) * (target + 1) < s * s + target * target) same h))

pub wide_by : (source target difference : ℕ) → target + difference ≡ source → (source - 1) * (source - 1) + (target + 1) * (target + 1) < source * source + target * target → 2 ≤ difference
wide_by source target difference e less = by (cases_lt difference 2)
  where
    by : (difference < 2) ⊎ (2 ≤ difference) → 2 ≤ difference
    by (inl low) = absurd (narrow source target difference e low less)
    by (inr high) = high

pub by_difference : (one other : Move) → other.difference < one.difference → goes_before one other ≡ true
by_difference one other h = grind (arith, nat_tests)

pub by_region : (one other : Move) → one.difference ≡ other.difference → one.region < other.region → goes_before one other ≡ true
by_region one other e h = grind (arith, nat_tests)

pub by_source : (one other : Move) → one.difference ≡ other.difference → one.region ≡ other.region → one.from < other.from → goes_before one other ≡ true
by_source one other e f h = grind (arith, nat_tests)

pub by_target : (one other : Move) → one.difference ≡ other.difference → one.region ≡ other.region → one.from ≡ other.from → one.to < other.to → goes_before one other ≡ true
by_target one other e f g h = grind (arith, nat_tests)

pub once : (one other : Move) → goes_before one other ≡ true → goes_before other one ≡ false
once one other goes = false_by (goes_before other one) (λ back. true≢false (sym (goes_on one other one goes back) ∙ goes_self one))

kept_id : (move : Move) (peer : Peer) (b : Bool) → (peer.store == move.from) ≡ b → (on_target move peer).id ≡ peer.id
kept_id move peer true here = rw here refl
kept_id move peer false here = rw here refl

pub kept_ids : (move : Move) (peers : List Peer) → map (λ (peer : Peer). peer.id) (map (on_target move) peers) ≡ map (λ (peer : Peer). peer.id) peers
kept_ids move [] = refl
kept_ids move (peer ∷ peers) = rw (kept_id move peer (peer.store == move.from) refl, kept_ids move peers) refl

kept_role : (move : Move) (peer : Peer) (b : Bool) → (peer.store == move.from) ≡ b → (on_target move peer).role ≡ peer.role
kept_role move peer true here = rw here refl
kept_role move peer false here = rw here refl

pub kept_roles : (move : Move) (peers : List Peer) → map (λ (peer : Peer). peer.role) (map (on_target move) peers) ≡ map (λ (peer : Peer). peer.role) peers
kept_roles move [] = refl
kept_roles move (peer ∷ peers) = rw (kept_role move peer (peer.store == move.from) refl, kept_roles move peers) refl

no_lead : (voter target : Bool) → (voter && false && target) ≡ true → ⊥
no_lead true target h = true≢false (sym h)
no_lead false target h = true≢false (sym h)

-- the leader can't take the lead
leads_already : (tables : Tables) (beat : RegionBeat) (peer : Peer) → (peer.id == beat.leader) ≡ true → may_lead beat tables.stores tables.now peer ≡ true → ⊥
leads_already tables beat peer leads h = no_lead (is_voter peer) (can_take beat tables.stores tables.now peer) (rw leads at h)

the_same : (a b : ℕ) → a ≡ b → (a == b) ≡ true
the_same a b same = grind (arith, nat_tests)

pub not_the_leader : (tables : Tables) (beat : RegionBeat) (store : ℕ) (peer : Peer) → peer_on store beat ≡ Some peer → peer.id ≡ beat.leader → may_take tables beat (peer_on store beat) ≡ true → ⊥
not_the_leader tables beat store peer found same h = leads_already tables beat peer (the_same peer.id beat.leader same) (rw found at h)

pub not_vacant : (tables : Tables) (beat : RegionBeat) (store : ℕ) → peer_on store beat ≡ None → may_take tables beat (peer_on store beat) ≡ true → ⊥
not_vacant tables beat store none h = true≢false (sym (rw none at h))

pub not_able : (tables : Tables) (beat : RegionBeat) (store : ℕ) (peer : Peer) → peer_on store beat ≡ Some peer → may_lead beat tables.stores tables.now peer ≡ false → may_take tables beat (peer_on store beat) ≡ true → ⊥
not_able tables beat store peer found unable h =
    let may : may_lead beat tables.stores tables.now peer ≡ true = rw found at h in
    true≢false (sym may ∙ unable)

pub not_both : (b : Bool) → b ≡ false → b ≡ true → ⊥
not_both b h k = true≢false (sym k ∙ h)

pub not_taken : (b : Bool) → b ≡ true → not b ≡ true → ⊥
not_taken true h k = true≢false (sym k)
not_taken false h k = true≢false (sym h)

pub fits_by : (one other : Tables) (beat : RegionBeat) → one.stores ≡ other.stores → one.now ≡ other.now → rules_at beat.region.start one.rules ≡ rules_at beat.region.start other.rules → FitsRules one beat → FitsRules other beat
fits_by one other beat stores now rules fits =
    let Goes : List Rule → List StoreEntry → ℕ → Type 0 = λ (rules : List Rule) (stores : List StoreEntry) (now : ℕ). Fits (suits_in beat rules stores now) (length beat.region.peers) (counts_of rules) in
    subst (λ (now : ℕ). Goes (rules_at beat.region.start other.rules) other.stores now) now
    (subst (λ (stores : List StoreEntry). Goes (rules_at beat.region.start other.rules) stores one.now) stores
    (subst (λ (rules : List Rule). Goes rules one.stores one.now) rules fits))
