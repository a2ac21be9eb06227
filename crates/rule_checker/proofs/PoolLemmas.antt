-- Who is in the pool of a class.
use Rattle.std.proofs.Common.{◌≡◌, ◌<◌, ℕ, zero, suc, List, [], ◌∷◌, length, get_or, arith, refl, sym, ◌∙◌, subst, ap, Some}
use Rattle.std.proofs.lemmas.Option.{slice_get-get_or, slice_get_within, get_or_from_slice_get}
use Rattle.std.specs.List.{slice_get, Contains}
use Rattle.pd_types.specs.declared.region.Peer.{Peer}
use Rattle.pd_types.specs.declared.region.RegionBeat.{RegionBeat}
use Rattle.store_table.specs.declared.entry.StoreEntry.{StoreEntry}
use Rattle.rule_checker.specs.declared.class.Class.{Class}
use Rattle.rule_checker.specs.declared.class.Class.TheVariants.{Promote, Transfer, AddVoter, AddLearner, Remove}
use Rattle.rule_checker.specs.Arrival.{Adds}
use Rattle.rule_checker.specs.Candidates.{new_on, new_peers, pool}

is_new : (stores : List StoreEntry) (k : ℕ) (d : Peer) → k < length (new_peers stores) → new_on (get_or (new_peers stores) k d).store ≡ get_or (new_peers stores) k d
is_new [] k d low = absurd (omega arith)
is_new (entry ∷ stores) zero d low = refl
is_new (entry ∷ stores) (suc k) d low = is_new stores k d (omega arith)

new_held : (stores : List StoreEntry) (peer : Peer) → Contains (new_peers stores) peer → new_on peer.store ≡ peer
new_held stores peer held = subst (λ (p : Peer). new_on p.store ≡ p) held.2 (is_new stores held.0 peer held.1)

pub pool_new : (class : Class) (beat : RegionBeat) (stores : List StoreEntry) (peer : Peer) → Adds class → Contains (pool class beat stores) peer → new_on peer.store ≡ peer
pool_new Promote beat stores peer adds held = absurd adds
pool_new Transfer beat stores peer adds held = absurd adds
pool_new AddVoter beat stores peer adds held = new_held stores peer held
pool_new AddLearner beat stores peer adds held = new_held stores peer held
pool_new Remove beat stores peer adds held = absurd adds

pub at_held : (peers : List Peer) (k : ℕ) (peer : Peer) → slice_get peers k ≡ Some peer → Contains peers peer
at_held peers k peer h = (k, slice_get_within peers k peer h, get_or_from_slice_get peers k peer peer h)

pub held_at : (peers : List Peer) (peer : Peer) → Contains peers peer → (k : ℕ) × (k < length peers) × (slice_get peers k ≡ Some peer)
held_at peers peer held = (held.0, held.1, slice_get-get_or peers held.0 peer held.1 ∙ ap (λ (p : Peer). Some p) held.2)

-- the new peers are all that a class is about which adds one
pub pool_all : (class : Class) (beat : RegionBeat) (stores : List StoreEntry) → Adds class → pool class beat stores ≡ new_peers stores
pool_all Promote beat stores adds = absurd adds
pool_all Transfer beat stores adds = absurd adds
pool_all AddVoter beat stores adds = refl
pool_all AddLearner beat stores adds = refl
pool_all Remove beat stores adds = absurd adds

pub some_entry : (one other : StoreEntry) → Some one ≡ Some other → one ≡ other
some_entry one other e = cc

-- the new peer on the store at a place
pub new_at : (stores : List StoreEntry) (k : ℕ) (entry : StoreEntry) → slice_get stores k ≡ Some entry → slice_get (new_peers stores) k ≡ Some (new_on entry.store.id)
new_at [] k entry h = absurd (cc)
new_at (one ∷ stores) zero entry h = ap (λ (e : StoreEntry). Some (new_on e.store.id)) (some_entry one entry h)
new_at (one ∷ stores) (suc k) entry h = new_at stores k entry h

pub long_new : (stores : List StoreEntry) → length (new_peers stores) ≡ length stores
long_new [] = refl
long_new (entry ∷ stores) = let rest : length (new_peers stores) ≡ length stores = long_new stores in omega arith

-- what a loop over the region's peers is at, and one over the stores
pub peer_there : (items peers : List Peer) (k : ℕ) (d : Peer) → items ≡ peers → k < length items → slice_get peers k ≡ Some (get_or items k d)
peer_there items peers k d same low = subst (λ (ps : List Peer). slice_get ps k ≡ Some (get_or items k d)) same (slice_get-get_or items k d low)

pub entry_there : (items stores : List StoreEntry) (k : ℕ) (entry : StoreEntry) → items ≡ stores → k < length items → entry ≡ get_or items k entry → slice_get stores k ≡ Some entry
entry_there items stores k entry same low is =
    subst (λ (es : List StoreEntry). slice_get es k ≡ Some entry) same (slice_get-get_or items k entry low ∙ ap (λ (e : StoreEntry). Some e) (sym is))

-- the new peer that a class is about at the place of a store
pub pool_at : (class : Class) (beat : RegionBeat) (stores : List StoreEntry) (k : ℕ) (entry : StoreEntry) → Adds class → slice_get stores k ≡ Some entry → slice_get (pool class beat stores) k ≡ Some (new_on entry.store.id)
pool_at class beat stores k entry adds at =
    subst (λ (peers : List Peer). slice_get peers k ≡ Some (new_on entry.store.id)) (sym (pool_all class beat stores adds)) (new_at stores k entry at)

pub pool_long : (class : Class) (beat : RegionBeat) (stores : List StoreEntry) → Adds class → length (pool class beat stores) ≡ length stores
pool_long class beat stores adds = ap (λ (peers : List Peer). length peers) (pool_all class beat stores adds) ∙ long_new stores
