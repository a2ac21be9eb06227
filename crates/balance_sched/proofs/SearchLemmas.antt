-- The search over targets, peers and regions.
use Rattle.std.proofs.Common.{◌≡◌, ◌∙◌, sym, refl, ap, subst, ℕ, ◌+◌, ◌<◌, ◌≤◌, true, false, ◌&&◌, nat_eq, ◌==◌, arith, List, length, get_or, take, ◌++◌, ◌∷◌, [], map, option_map, Option, Some, None, IfSome, inl, inr, Contains}
use Rattle.std.proofs.lemmas.Bool.{true≢false}
use Rattle.std.proofs.lemmas.Bool.Decides.{nat_tests}
use Rattle.std.proofs.lemmas.Option.{slice_get-map, slice_get_within, get_or_from_slice_get}
use Rattle.std.proofs.lemmas.List.{take_more, map-append}
use Rattle.pd_types.specs.declared.store.StoreRec.{StoreRec}
use Rattle.std.specs.Option.{option_map_or}
use Rattle.std.specs.List.{slice_get}
use Rattle.pd_types.proofs.Numbers.{same_number}
use Rattle.pd_types.proofs.Bools.{and_true}
use Rattle.pd_types.specs.declared.region.Peer.{Peer}
use Rattle.pd_types.specs.declared.region.RegionBeat.{RegionBeat}
use Rattle.store_table.specs.declared.entry.StoreEntry.{StoreEntry}
use Rattle.store_table.specs.Entries.{entry_at, is_live, is_usable}
use Rattle.store_table.specs.Live.{usable_test}
use Rattle.op_step.specs.Peers.{peer_on}
use Rattle.balance_sched.specs.declared.moves.Kind.{Kind}
use Rattle.balance_sched.specs.declared.moves.Kind.TheVariants.{Regions, Leaders}
use Rattle.balance_sched.specs.declared.moves.Move.{Move}
use Rattle.balance_sched.specs.Tables.{Tables, count_of}
use Rattle.balance_sched.specs.Moves.{FitsRules, IsAdmissible, IsMoveOf, Proposes, is_source, may_take, proposal_of}
use Rattle.balance_sched.specs.Search.{AllLose, Follows, IsBest, IsLeast, LoseBetween, LoseFrom, Loses, targets}
use Rattle.balance_sched.proofs.OrderLemmas.{loses_on}
use Rattle.balance_sched.proofs.PlaceLemmas.{any_at, at_contains, below, contains_at, find_at, some_same}

-- each of the first n stores that is live and usable has at least this count
abbrev pub IsLeastBelow : Kind → Tables → ℕ → ℕ → Type 0
IsLeastBelow kind tables n least = (k : ℕ) (entry : StoreEntry) → k < n → slice_get tables.stores k ≡ Some entry →
    is_live entry.store.id tables.now tables.stores ≡ true → is_usable entry.store.id tables.now tables.stores ≡ true → least ≤ count_of kind entry.store.id tables.held

-- each move of the region from this store to one of the first n targets loses
abbrev pub LoseTo : Kind → Tables → RegionBeat → ℕ → ℕ → Option Move → Type 0
LoseTo kind tables beat from n best = (k : ℕ) (move : Move) → k < n → slice_get (targets kind beat tables.stores) k ≡ Some move.to → move.from ≡ from → IsMoveOf kind tables beat move → Loses move best

-- each move of the region from the store of one of its first n peers loses
abbrev pub LoseOf : Kind → Tables → RegionBeat → ℕ → Option Move → Type 0
LoseOf kind tables beat n best = (k : ℕ) (peer : Peer) (move : Move) → k < n → slice_get beat.region.peers k ≡ Some peer → move.from ≡ peer.store → IsMoveOf kind tables beat move → Loses move best

-- a usable store is known
known_by : (store now : ℕ) (stores : List StoreEntry) (found : Option StoreEntry) → entry_at store stores ≡ found → option_map_or (λ (entry : StoreEntry). usable_test entry now) found false ≡ true →
    (k : ℕ) × (entry : StoreEntry) × (slice_get stores k ≡ Some entry) × (entry.store.id ≡ store)
known_by store now stores None at usable = absurd (true≢false (sym usable))
known_by store now stores (Some entry) at usable =
    let found = find_at (λ (one : StoreEntry). one.store.id == store) stores entry at in
    (found.place, entry, found.at, (let e = found.passes in grind (arith, nat_tests, e)))

pub known_at : (store now : ℕ) (stores : List StoreEntry) → is_usable store now stores ≡ true → (k : ℕ) × (entry : StoreEntry) × (slice_get stores k ≡ Some entry) × (entry.store.id ≡ store)
known_at store now stores usable = known_by store now stores (entry_at store stores) refl usable

-- the least count of all places is that of all stores
pub least_of_all : (kind : Kind) (tables : Tables) (n least : ℕ) → length tables.stores ≤ n → IsLeastBelow kind tables n least → IsLeast kind tables least
least_of_all kind tables n least all bound = λ store live usable.
    let known = known_at store tables.now tables.stores usable in
    let low : known.0 < n = omega (arith, slice_get_within tables.stores known.0 known.1 known.2, all) in
    subst (λ (s : ℕ). least ≤ count_of kind s tables.held) known.3
    (bound known.0 known.1 low known.2
    (subst (λ (s : ℕ). is_live s tables.now tables.stores ≡ true) (sym known.3) live)
    (subst (λ (s : ℕ). is_usable s tables.now tables.stores ≡ true) (sym known.3) usable))

pub least_more : (kind : Kind) (tables : Tables) (n least lesser : ℕ) → lesser ≤ least →
    ((entry : StoreEntry) → slice_get tables.stores n ≡ Some entry → is_live entry.store.id tables.now tables.stores ≡ true → is_usable entry.store.id tables.now tables.stores ≡ true → lesser ≤ count_of kind entry.store.id tables.held) →
    IsLeastBelow kind tables n least → IsLeastBelow kind tables (n + 1) lesser
least_more kind tables n least lesser low here old = λ k entry less at live usable. elim (below n k less) [
  | inl before ↦ (let e = old k entry before at live usable in omega (arith, e, low))
  | inr same ↦ here entry (subst (λ (m : ℕ). slice_get tables.stores m ≡ Some entry) same at) live usable
]

-- who may take the lead has a peer
taker_by : (tables : Tables) (beat : RegionBeat) (store : ℕ) (found : Option Peer) → peer_on store beat ≡ found → may_take tables beat found ≡ true → (k : ℕ) × (peer : Peer) × (slice_get beat.region.peers k ≡ Some peer) × (peer.store ≡ store)
taker_by tables beat store None at takes = absurd (true≢false (sym takes))
taker_by tables beat store (Some peer) at takes =
    let found = find_at (λ (one : Peer). one.store == store) beat.region.peers peer at in
    (found.place, peer, found.at, (let e = found.passes in grind (arith, nat_tests, e)))

-- each move goes to one of the targets
pub target_place : (kind : Kind) (tables : Tables) (beat : RegionBeat) (move : Move) → IsMoveOf kind tables beat move → (k : ℕ) × (slice_get (targets kind beat tables.stores) k ≡ Some move.to)
target_place Regions tables beat move moves =
    let known = known_at move.to tables.now tables.stores moves.to_usable in
    (known.0, slice_get-map (λ (entry : StoreEntry). entry.store.id) tables.stores known.0 ∙ ap (option_map (λ (entry : StoreEntry). entry.store.id)) known.2 ∙ ap (λ (store : ℕ). Some store) known.3)
target_place Leaders tables beat move moves =
    let taker = taker_by tables beat move.to (peer_on move.to beat) refl moves.target in
    (taker.0, slice_get-map (λ (peer : Peer). peer.store) beat.region.peers taker.0 ∙ ap (option_map (λ (peer : Peer). peer.store)) taker.2 ∙ ap (λ (store : ℕ). Some store) taker.3)

-- and comes from the store of one of the peers
pub source_place : (kind : Kind) (beat : RegionBeat) (from : ℕ) → is_source kind from beat ≡ true → (k : ℕ) × (peer : Peer) × (slice_get beat.region.peers k ≡ Some peer) × (peer.store ≡ from)
source_place Regions beat from source =
    let found = any_at (λ (peer : Peer). nat_eq peer.store from) beat.region.peers source in
    (found.place, found.one, found.at, same_number found.one.store from found.passes)
source_place Leaders beat from source =
    let found = any_at (λ (peer : Peer). nat_eq peer.id beat.leader && nat_eq peer.store from) beat.region.peers source in
    (found.place, found.one, found.at, same_number found.one.store from (and_true (nat_eq found.one.id beat.leader) (nat_eq found.one.store from) found.passes).1)

-- targets, one by one
pub to_none : (kind : Kind) (tables : Tables) (beat : RegionBeat) (from : ℕ) (best : Option Move) → LoseTo kind tables beat from 0 best
to_none kind tables beat from best = λ k move low. absurd (omega (arith, low))

pub to_more : (kind : Kind) (tables : Tables) (beat : RegionBeat) (from n to : ℕ) (old new : Option Move) → slice_get (targets kind beat tables.stores) n ≡ Some to →
    Follows kind tables beat old new → LoseBetween kind tables beat from to new → LoseTo kind tables beat from n old → LoseTo kind tables beat from (n + 1) new
to_more kind tables beat from n to old new here follows between before = λ k move low at f moves. elim (below n k low) [
  | inl less ↦ loses_on kind tables beat move old new (before k move less at f moves) follows
  | inr same ↦ between move f (some_same move.to to (sym (subst (λ (m : ℕ). slice_get (targets kind beat tables.stores) m ≡ Some move.to) same at) ∙ here)) moves
]

pub to_all : (kind : Kind) (tables : Tables) (beat : RegionBeat) (from n : ℕ) (best : Option Move) → length (targets kind beat tables.stores) ≤ n → LoseTo kind tables beat from n best → LoseFrom kind tables beat from best
to_all kind tables beat from n best all before = λ move f moves.
    let at = target_place kind tables beat move moves in
    before at.0 move (omega (arith, slice_get_within (targets kind beat tables.stores) at.0 move.to at.1, all)) at.1 f moves

-- peers, one by one
pub of_none : (kind : Kind) (tables : Tables) (beat : RegionBeat) (best : Option Move) → LoseOf kind tables beat 0 best
of_none kind tables beat best = λ k peer move low. absurd (omega (arith, low))

pub of_more : (kind : Kind) (tables : Tables) (beat : RegionBeat) (n from : ℕ) (old new : Option Move) → LoseFrom kind tables beat from new →
    ((one : Peer) → slice_get beat.region.peers n ≡ Some one → one.store ≡ from) → Follows kind tables beat old new → LoseOf kind tables beat n old → LoseOf kind tables beat (n + 1) new
of_more kind tables beat n from old new lose here follows before = λ k one move low at f moves. elim (below n k low) [
  | inl less ↦ loses_on kind tables beat move old new (before k one move less at f moves) follows
  | inr same ↦ lose move (f ∙ here one (subst (λ (m : ℕ). slice_get beat.region.peers m ≡ Some one) same at)) moves
]

pub peer_at : (peers all : List Peer) (n : ℕ) (d one : Peer) → peers ≡ all → slice_get all n ≡ Some one → one.store ≡ (get_or peers n d).store
peer_at peers all n d one same at = ap (λ (p : Peer). p.store) (sym (get_or_from_slice_get peers n one d (ap (λ (xs : List Peer). slice_get xs n) same ∙ at)))

-- a store where nothing is that moves has no moves
pub no_source : (kind : Kind) (tables : Tables) (beat : RegionBeat) (from : ℕ) (best : Option Move) → is_source kind from beat ≡ false → LoseFrom kind tables beat from best
no_source kind tables beat from best none = λ move f moves. absurd (true≢false (sym (subst (λ (store : ℕ). is_source kind store beat ≡ true) f moves.source) ∙ none))

pub of_all : (kind : Kind) (tables : Tables) (beat : RegionBeat) (n : ℕ) (best : Option Move) → length beat.region.peers ≤ n → LoseOf kind tables beat n best → AllLose kind tables beat best
of_all kind tables beat n best all before = λ move moves.
    let at = source_place kind beat move.from moves.source in
    before at.0 at.1 move (omega (arith, slice_get_within beat.region.peers at.0 at.1 at.2, all)) at.2 (sym at.3) moves

-- regions, one by one
pub best_none : (kind : Kind) (tables : Tables) → IsBest kind tables 0 None
best_none kind tables = record { found = tt; none = λ k beat low. absurd (omega (arith, low)) }

found_more : (kind : Kind) (tables : Tables) (beat : RegionBeat) (old new : Option Move) → Contains tables.held beat → Follows kind tables beat old new → IfSome old (IsAdmissible kind tables) → IfSome new (IsAdmissible kind tables)
found_more kind tables beat old new held (inl same) found = subst (λ (o : Option Move). IfSome o (IsAdmissible kind tables)) (sym same) found
found_more kind tables beat old new held (inr one) found =
    subst (λ (o : Option Move). IfSome o (IsAdmissible kind tables)) (sym one.1.0) (record { beat = beat; held = held; moves = one.1.1 })

pub best_more : (kind : Kind) (tables : Tables) (n : ℕ) (beat : RegionBeat) (old new : Option Move) → slice_get tables.held n ≡ Some beat →
    Follows kind tables beat old new → AllLose kind tables beat new → IsBest kind tables n old → IsBest kind tables (n + 1) new
best_more kind tables n beat old new here follows lose before = record {
  found = found_more kind tables beat old new (at_contains tables.held n beat here) follows before.found;
  none = λ k one low at move moves. elim (below n k low) [
    | inl less ↦ loses_after kind tables beat one move old new (before.none k one less at move moves) follows
    | inr same ↦ lose move (subst (λ (b : RegionBeat). IsMoveOf kind tables b move) (some_same one beat (sym (subst (λ (m : ℕ). slice_get tables.held m ≡ Some one) same at) ∙ here)) moves)
  ];
}
  where
    loses_after : (kind : Kind) (tables : Tables) (beat one : RegionBeat) (move : Move) (old new : Option Move) → Loses move old → Follows kind tables beat old new → Loses move new
    loses_after kind tables beat one move old new loses follows = loses_on kind tables beat move old new loses follows

-- after all regions it is the first of all admissible moves
pub best_all : (kind : Kind) (tables : Tables) (n : ℕ) (best : Option Move) → length tables.held ≤ n → IsBest kind tables n best → (move : Move) → IsAdmissible kind tables move → Loses move best
best_all kind tables n best all whole move admissible =
    let at = contains_at tables.held admissible.beat admissible.held in
    whole.none at.0 admissible.beat (omega (arith, slice_get_within tables.held at.0 admissible.beat at.1, all)) at.1 move admissible.moves

pub proposes_none : (kind : Kind) (tables : Tables) (n : ℕ) → length tables.held ≤ n → IsBest kind tables n None → Proposes kind tables None
proposes_none kind tables n all whole = λ move admissible. best_all kind tables n None all whole move admissible

pub proposes_one : (kind : Kind) (tables : Tables) (n : ℕ) (best : Move) → length tables.held ≤ n → IsBest kind tables n (Some best) → Proposes kind tables (Some (proposal_of kind best))
proposes_one kind tables n best all whole = (best, (record { admissible = whole.found; first = λ other admissible. best_all kind tables n (Some best) all whole other admissible }, refl))

counted_by : (kind : Kind) (stores : List StoreEntry) (held : List RegionBeat) (n v : ℕ) (counts : List ℕ) (rec : StoreRec) (found : Option StoreEntry) → slice_get stores n ≡ found → Some rec ≡ option_map (λ (entry : StoreEntry). entry.store) found →
    v ≡ count_of kind rec.id held → counts ≡ map (λ (entry : StoreEntry). count_of kind entry.store.id held) (take n stores) →
    counts ++ v ∷ [] ≡ map (λ (entry : StoreEntry). count_of kind entry.store.id held) (take (n + 1) stores)
counted_by kind stores held n v counts rec None at here value old = absurd (cc)
counted_by kind stores held n v counts rec (Some entry) at here value old =
    let f : StoreEntry → ℕ = λ (one : StoreEntry). count_of kind one.store.id held in
    let same : rec ≡ entry.store = some_same rec entry.store here in
    let whole : take (n + 1) stores ≡ take n stores ++ entry ∷ [] =
    take_more stores n entry (slice_get_within stores n entry at) ∙ ap (λ (one : StoreEntry). take n stores ++ one ∷ []) (get_or_from_slice_get stores n entry entry at) in
    let last : v ≡ f entry = value ∙ ap (λ (one : StoreRec). count_of kind one.id held) same in
    rw (old, last) (sym (ap (map f) whole ∙ map-append f (take n stores) (entry ∷ [])))

pub counted_more : (kind : Kind) (stores : List StoreEntry) (held : List RegionBeat) (n v : ℕ) (counts : List ℕ) (rec : StoreRec) → Some rec ≡ option_map (λ (entry : StoreEntry). entry.store) (slice_get stores n) →
    v ≡ count_of kind rec.id held → counts ≡ map (λ (entry : StoreEntry). count_of kind entry.store.id held) (take n stores) →
    counts ++ v ∷ [] ≡ map (λ (entry : StoreEntry). count_of kind entry.store.id held) (take (n + 1) stores)
counted_more kind stores held n v counts rec here value old = counted_by kind stores held n v counts rec (slice_get stores n) refl here value old

-- a region that has an operator, or doesn't fit, has no moves
pub busy_lose : (kind : Kind) (tables : Tables) (beat : RegionBeat) (best : Option Move) → Contains tables.busy beat.region.id → AllLose kind tables beat best
busy_lose kind tables beat best busy = λ move moves. absurd (moves.idle (subst (λ (id : ℕ). Contains tables.busy id) (sym moves.region) busy))

pub misfit_lose : (kind : Kind) (tables : Tables) (beat : RegionBeat) (best : Option Move) → (FitsRules tables beat → ⊥) → AllLose kind tables beat best
misfit_lose kind tables beat best misfit = λ move moves. absurd (misfit moves.fits)
