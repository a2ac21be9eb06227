-- What a move that is done leaves on each store.
use Rattle.std.proofs.Common.{◌≡◌, ◌≢◌, ◌∙◌, sym, refl, ap, subst, ℕ, ◌+◌, ◌<◌, Bool, true, false, not, ◌&&◌, ◌||◌, cond, nat_eq, ◌==◌, arith, List, [], ◌∷◌, ◌++◌, map, count_by, Option, Some, None}
use Rattle.std.specs.List.{find, list_any}
use Rattle.std.proofs.lemmas.Bool.Decides.{nat_tests}
use Rattle.std.proofs.lemmas.Bool.{true≢false}
use Rattle.std.proofs.lemmas.List.Sums.{sum_by-append, sum_by-cons}
use Rattle.pd_types.proofs.Numbers.{differ, same_number}
use Rattle.pd_types.specs.BeatCheck.{fails, first_fault, has_id, has_store, shares_id}
use Rattle.pd_types.specs.declared.beat.BeatFault.TheVariants.{NoPeers, TooManyPeers, DoublePeer}
use Rattle.pd_types.specs.declared.proposal.Proposal.TheVariants as proposals
use Rattle.pd_types.specs.declared.region.Peer.{Peer}
use Rattle.pd_types.specs.declared.region.RegionBeat.{RegionBeat}
use Rattle.heartbeat.specs.Counts.{is_on, leads_on}
use Rattle.op_step.specs.Peers.{peer_on}
use Rattle.balance_sched.specs.declared.moves.Kind.{Kind}
use Rattle.balance_sched.specs.declared.moves.Kind.TheVariants.{Regions, Leaders}
use Rattle.balance_sched.specs.declared.moves.Move.{Move}
use Rattle.balance_sched.specs.Moved.{squares_of, EvensLeaders, EvensRegions, IsMoved}
use Rattle.balance_sched.specs.Moves.{done, is_source, may_take, on_target, proposal_of, IsMoveOf, Proposes}
use Rattle.balance_sched.specs.Tables.{Tables, count_of}
use Rattle.balance_sched.proofs.LawLemmas.{squares_fall}
use Rattle.balance_sched.proofs.OrderLemmas.{false_by}
use Rattle.balance_sched.proofs.PlaceLemmas.{some_same}

not_on : (b : Bool) → not b ≡ true → b ≡ false
not_on true h = absurd (true≢false (sym h))
not_on false h = refl

or_second : (a b : Bool) → b ≡ true → (a || b) ≡ true
or_second true b h = refl
or_second false b h = h

or_false : (a b : Bool) → a ≡ false → b ≡ false → (a || b) ≡ false
or_false a b h k = rw (h, k) refl

none_of : (a b : Bool) → (a || b) ≡ false → (a ≡ false) × (b ≡ false)
none_of true b h = absurd (true≢false h)
none_of false b h = (refl, h)

same_as : (a : ℕ) → nat_eq a a ≡ true
same_as a = grind (arith, nat_tests)

same_test : (a b : ℕ) (v : Bool) → (a == b) ≡ v → nat_eq a b ≡ v
same_test a b v h = grind (arith, nat_tests, h)

-- one that passes counts once
abbrev counts_for : Bool → ℕ
counts_for b = cond b 1 0

-- how many of a list pass, by one of them
counts_one : (p : RegionBeat → Bool) (before : List RegionBeat) (one : RegionBeat) (behind : List RegionBeat) → count_by p (before ++ one ∷ behind) ≡ count_by p before + (counts_for (p one) + count_by p behind)
counts_one p before one behind =
    sum_by-append (λ (x : RegionBeat). cond (p x) 1 0) before (one ∷ behind) ∙ ap (λ (n : ℕ). count_by p before + n) (sum_by-cons (λ (x : RegionBeat). cond (p x) 1 0) one behind)

one_less : (p : RegionBeat → Bool) (before behind : List RegionBeat) (one told : RegionBeat) → p one ≡ true → p told ≡ false → count_by p (before ++ told ∷ behind) + 1 ≡ count_by p (before ++ one ∷ behind)
one_less p before behind one told h k =
    let was = counts_one p before one behind in
    let now = counts_one p before told behind in
    let yes : counts_for (p one) ≡ 1 = ap counts_for h in
    let no : counts_for (p told) ≡ 0 = ap counts_for k in
    omega (arith, was, now, yes, no)

as_many : (p : RegionBeat → Bool) (before behind : List RegionBeat) (one told : RegionBeat) → p told ≡ p one → count_by p (before ++ told ∷ behind) ≡ count_by p (before ++ one ∷ behind)
as_many p before behind one told same =
    let was = counts_one p before one behind in
    let now = counts_one p before told behind in
    let alike : counts_for (p told) ≡ counts_for (p one) = ap counts_for same in
    omega (arith, was, now, alike)

-- a peer's move leaves none on the source
left_from : (move : Move) (peer : Peer) (b : Bool) → (peer.store == move.from) ≡ b → nat_eq move.to move.from ≡ false → nat_eq (on_target move peer).store move.from ≡ false
left_from move peer true e apart = rw e apart
left_from move peer false e apart = rw e (same_test peer.store move.from false e)

none_from : (move : Move) (peers : List Peer) → nat_eq move.to move.from ≡ false → has_store (map (on_target move) peers) move.from ≡ false
none_from move [] apart = refl
none_from move (peer ∷ peers) apart = or_false (nat_eq (on_target move peer).store move.from) (has_store (map (on_target move) peers) move.from) (left_from move peer (peer.store == move.from) refl apart) (none_from move peers apart)

-- and one on the target
came_to : (move : Move) (peer : Peer) (peers : List Peer) (b : Bool) → (peer.store == move.from) ≡ b → (has_store peers move.from ≡ true → has_store (map (on_target move) peers) move.to ≡ true) →
    (nat_eq peer.store move.from || has_store peers move.from) ≡ true → (nat_eq (on_target move peer).store move.to || has_store (map (on_target move) peers) move.to) ≡ true
came_to move peer peers true e rest h = rw (e, same_as move.to) refl
came_to move peer peers false e rest h =
    let other : nat_eq peer.store move.from ≡ false = same_test peer.store move.from false e in
    let behind : has_store peers move.from ≡ true = rw other at h in
    or_second (nat_eq (on_target move peer).store move.to) (has_store (map (on_target move) peers) move.to) (rest behind)

one_to : (move : Move) (peers : List Peer) → has_store peers move.from ≡ true → has_store (map (on_target move) peers) move.to ≡ true
one_to move [] h = absurd (true≢false (sym h))
one_to move (peer ∷ peers) h = came_to move peer peers (peer.store == move.from) refl (one_to move peers) h

-- each other store has a peer where it had one
kept_store : (move : Move) (peer : Peer) (store : ℕ) (b : Bool) → (peer.store == move.from) ≡ b → store ≢ move.from → store ≢ move.to → nat_eq (on_target move peer).store store ≡ nat_eq peer.store store
kept_store move peer store true e from to =
    let here : peer.store ≡ move.from = same_number peer.store move.from (same_test peer.store move.from true e) in
    let no : nat_eq move.to store ≡ false = differ move.to store (λ same. to (sym same)) in
    let neither : nat_eq peer.store store ≡ false = differ peer.store store (λ same. from (sym same ∙ here)) in
    rw (e, no, neither) refl
kept_store move peer store false e from to = rw e refl

kept_stores : (move : Move) (peers : List Peer) (store : ℕ) → store ≢ move.from → store ≢ move.to → has_store (map (on_target move) peers) store ≡ has_store peers store
kept_stores move [] store from to = refl
kept_stores move (peer ∷ peers) store from to =
    let first = kept_store move peer store (peer.store == move.from) refl from to in
    let rest = kept_stores move peers store from to in
    rw (first, rest) refl

-- the peer of this id is on this store
abbrev is_at : ℕ → ℕ → Peer → Bool
is_at id store = λ (peer : Peer). nat_eq peer.id id && nat_eq peer.store store

no_id : (peers : List Peer) (id store : ℕ) → has_id peers id ≡ false → list_any (is_at id store) peers ≡ false
no_id [] id store none = refl
no_id (peer ∷ peers) id store none =
    let both = none_of (nat_eq peer.id id) (has_id peers id) none in
    or_false (is_at id store peer) (list_any (is_at id store) peers) (rw both.0 refl) (no_id peers id store both.1)

here_only : (peer : Peer) (peers : List Peer) (id store : ℕ) → nat_eq peer.id id ≡ true → has_id peers peer.id ≡ false → (is_at id store peer || list_any (is_at id store) peers) ≡ true → peer.store ≡ store
here_only peer peers id store same alone h =
    let behind : list_any (is_at id store) peers ≡ false = no_id peers id store (subst (λ (n : ℕ). has_id peers n ≡ false) (same_number peer.id id same) alone) in
    same_number peer.store store (first (nat_eq peer.store store) (rw (same, behind) at h))
  where
    first : (b : Bool) → (b || false) ≡ true → b ≡ true
    first true k = refl
    first false k = k

-- where no two peers share an id, the one of an id is on one store
one_store : (peers : List Peer) (id one other : ℕ) → shares_id peers ≡ false → list_any (is_at id one) peers ≡ true → list_any (is_at id other) peers ≡ true → one ≡ other
one_store [] id one other alone h k = absurd (true≢false (sym h))
one_store (peer ∷ peers) id one other alone h k = by (nat_eq peer.id id) refl (one_store peers id one other both.1)
  where
    both : (has_id peers peer.id ≡ false) × (shares_id peers ≡ false)
    both = none_of (has_id peers peer.id) (shares_id peers) alone

    by : (b : Bool) → nat_eq peer.id id ≡ b → (list_any (is_at id one) peers ≡ true → list_any (is_at id other) peers ≡ true → one ≡ other) → one ≡ other
    by true e rest = sym (here_only peer peers id one e both.0 h) ∙ here_only peer peers id other e both.0 k
    by false e rest = rest (rw e at h) (rw e at k)

-- the peer that is found on a store is on it
found_on : (peers : List Peer) (store : ℕ) (found : Peer) → find (λ peer. peer.store == store) peers ≡ Some found → list_any (is_at found.id store) peers ≡ true
found_on [] store found h = absurd (cc h)
found_on (peer ∷ peers) store found h = by (peer.store == store) refl h (found_on peers store found)
  where
    by : (b : Bool) → (peer.store == store) ≡ b → cond b (Some peer) (find (λ peer. peer.store == store) peers) ≡ Some found → (find (λ peer. peer.store == store) peers ≡ Some found → list_any (is_at found.id store) peers ≡ true) → (is_at found.id store peer || list_any (is_at found.id store) peers) ≡ true
    by true e is rest =
        let same : peer ≡ found = some_same peer found is in
        let id : nat_eq peer.id found.id ≡ true = subst (λ (one : Peer). nat_eq peer.id one.id ≡ true) same (same_as peer.id) in
        let on : nat_eq peer.store store ≡ true = same_test peer.store store true e in
        rw (id, on) refl
    by false e is rest = or_second (is_at found.id store peer) (list_any (is_at found.id store) peers) (rest is)

not_first : {A : Type 0} (b : Bool) (x : A) (rest : Option A) → cond b (Some x) rest ≡ None → (b ≡ false) × (rest ≡ None)
not_first {A} true x rest h = absurd (cc h)
not_first {A} false x rest h = (refl, h)

-- of a heartbeat that passes its tests no two peers share an id
alone_by : (beat : RegionBeat) → first_fault beat ≡ None → shares_id beat.region.peers ≡ false
alone_by beat h = (not_first (fails beat DoublePeer) DoublePeer _ (not_first (fails beat TooManyPeers) TooManyPeers _ (not_first (fails beat NoPeers) NoPeers _ h).1).1).0

-- what moves is counted
counted : (kind : Kind) (store : ℕ) (held : List RegionBeat) → count_of kind store held ≡ count_by (is_source kind store) held
counted Regions store held = refl
counted Leaders store held = refl

-- what a leader's move knows of its target
record IsTaken (beat : RegionBeat) (store : ℕ) : Type 0 where
  peer : Peer
  found : peer_on store beat ≡ Some peer

taken_by : (tables : Tables) (beat : RegionBeat) (store : ℕ) (o : Option Peer) → peer_on store beat ≡ o → may_take tables beat o ≡ true → IsTaken beat store
taken_by tables beat store None e h = absurd (true≢false (sym h))
taken_by tables beat store (Some peer) e h = record { peer = peer; found = e }

-- a move goes from one store to another
pub goes_apart : (kind : Kind) (tables : Tables) (beat : RegionBeat) (move : Move) → IsMoveOf kind tables beat move → move.to ≢ move.from
goes_apart kind tables beat move moves same =
    let counts : count_of kind move.to tables.held ≡ count_of kind move.from tables.held = ap (λ (store : ℕ). count_of kind store tables.held) same in
    omega (arith, counts, moves.difference, moves.wide)

leads_by : (beat : RegionBeat) (move : Move) (peer : Peer) (store : ℕ) → peer_on move.to beat ≡ Some peer → leads_on store (done Leaders move beat) ≡ list_any (is_at peer.id store) beat.region.peers
leads_by beat move peer store found = rw found refl

-- the source has what moves no more
pub source_after : (kind : Kind) (tables : Tables) (beat : RegionBeat) (move : Move) → first_fault beat ≡ None → IsMoveOf kind tables beat move → is_source kind move.from (done kind move beat) ≡ false
source_after Regions tables beat move sound moves = none_from move beat.region.peers (differ move.to move.from (goes_apart Regions tables beat move moves))
source_after Leaders tables beat move sound moves =
    let taken = taken_by tables beat move.to (peer_on move.to beat) refl moves.target in
    let on = found_on beat.region.peers move.to taken.peer taken.found in
    leads_by beat move taken.peer move.from taken.found ∙ false_by (list_any (is_at taken.peer.id move.from) beat.region.peers) (λ h. goes_apart Leaders tables beat move moves (one_store beat.region.peers taken.peer.id move.to move.from (alone_by beat sound) on h))

-- the target has it now
pub target_after : (kind : Kind) (tables : Tables) (beat : RegionBeat) (move : Move) → IsMoveOf kind tables beat move → is_source kind move.to (done kind move beat) ≡ true
target_after Regions tables beat move moves = one_to move beat.region.peers moves.source
target_after Leaders tables beat move moves =
    let taken = taken_by tables beat move.to (peer_on move.to beat) refl moves.target in
    leads_by beat move taken.peer move.to taken.found ∙ found_on beat.region.peers move.to taken.peer taken.found

-- and had it not
pub target_before : (kind : Kind) (tables : Tables) (beat : RegionBeat) (move : Move) → first_fault beat ≡ None → IsMoveOf kind tables beat move → is_source kind move.to beat ≡ false
target_before Regions tables beat move sound moves = not_on (is_on move.to beat) moves.target
target_before Leaders tables beat move sound moves =
    false_by (leads_on move.to beat) (λ h. goes_apart Leaders tables beat move moves (one_store beat.region.peers beat.leader move.to move.from (alone_by beat sound) h moves.source))

-- each other store has it where it had it
pub other_after : (kind : Kind) (tables : Tables) (beat : RegionBeat) (move : Move) (store : ℕ) → first_fault beat ≡ None → IsMoveOf kind tables beat move → store ≢ move.from → store ≢ move.to →
    is_source kind store (done kind move beat) ≡ is_source kind store beat
other_after Regions tables beat move store sound moves from to = kept_stores move beat.region.peers store from to
other_after Leaders tables beat move store sound moves from to =
    let taken = taken_by tables beat move.to (peer_on move.to beat) refl moves.target in
    let on = found_on beat.region.peers move.to taken.peer taken.found in
    let alone = alone_by beat sound in
    let later : list_any (is_at taken.peer.id store) beat.region.peers ≡ false = false_by (list_any (is_at taken.peer.id store) beat.region.peers) (λ h. to (one_store beat.region.peers taken.peer.id store move.to alone h on)) in
    let sooner : leads_on store beat ≡ false = false_by (leads_on store beat) (λ h. from (one_store beat.region.peers beat.leader store move.from alone h moves.source)) in
    leads_by beat move taken.peer store taken.found ∙ later ∙ sym sooner

told_alike : (kind : Kind) (move : Move) (beat : RegionBeat) (old new : List RegionBeat) (moved : IsMoved kind move beat old new) (store : ℕ) → is_source kind store moved.told ≡ is_source kind store (done kind move beat)
told_alike Regions move beat old new moved store = moved.alike.peers store
told_alike Leaders move beat old new moved store = moved.alike.leader store

module _ (kind : Kind) (tables : Tables) (beat : RegionBeat) (move : Move) (new : List RegionBeat) (sound : first_fault beat ≡ None) (moves : IsMoveOf kind tables beat move) (moved : IsMoved kind move beat tables.held new) where
  was : (store : ℕ) → count_of kind store tables.held ≡ count_by (is_source kind store) (moved.before ++ beat ∷ moved.behind)
  was store = counted kind store tables.held ∙ ap (λ (held : List RegionBeat). count_by (is_source kind store) held) moved.whole

  is : (store : ℕ) → count_of kind store new ≡ count_by (is_source kind store) (moved.before ++ moved.told ∷ moved.behind)
  is store = counted kind store new ∙ ap (λ (held : List RegionBeat). count_by (is_source kind store) held) moved.left

  pub source_counts : count_of kind move.from new + 1 ≡ count_of kind move.from tables.held
  source_counts =
      let less = one_less (is_source kind move.from) moved.before moved.behind beat moved.told moves.source (told_alike kind move beat tables.held new moved move.from ∙ source_after kind tables beat move sound moves) in
      omega (arith, was move.from, is move.from, less)

  pub target_counts : count_of kind move.to new ≡ count_of kind move.to tables.held + 1
  target_counts =
      let more = one_less (is_source kind move.to) moved.before moved.behind moved.told beat (told_alike kind move beat tables.held new moved move.to ∙ target_after kind tables beat move moves) (target_before kind tables beat move sound moves) in
      omega (arith, was move.to, is move.to, more)

  pub other_counts : (store : ℕ) → store ≢ move.from → store ≢ move.to → count_of kind store new ≡ count_of kind store tables.held
  other_counts store from to =
      is store ∙ as_many (is_source kind store) moved.before moved.behind beat moved.told (told_alike kind move beat tables.held new moved store ∙ other_after kind tables beat move store sound moves from to) ∙ sym (was store)

  pub squares_after : squares_of kind move.from move.to new < squares_of kind move.from move.to tables.held
  squares_after =
      squares_fall (count_of kind move.from tables.held) (count_of kind move.to tables.held) (count_of kind move.from new) (count_of kind move.to new) move.difference moves.difference moves.wide source_counts target_counts

at_store : (id store : ℕ) (peers : List Peer) → list_any (is_at id store) peers ≡ true → has_store peers store ≡ true
at_store id store [] h = absurd (true≢false (sym h))
at_store id store (peer ∷ peers) h = by (nat_eq peer.id id) (nat_eq peer.store store) h (at_store id store peers)
  where
    by : (a b : Bool) → ((a && b) || list_any (is_at id store) peers) ≡ true → (list_any (is_at id store) peers ≡ true → has_store peers store ≡ true) → (b || has_store peers store) ≡ true
    by true true k rest = refl
    by false true k rest = refl
    by true false k rest = rest k
    by false false k rest = rest k

pub regions_by : (tables : Tables) (region from to : ℕ) → Proposes Regions tables (Some (proposals.MovePeer region from to)) → EvensRegions tables region from to
regions_by tables region from to proposed =
    let move : Move = proposed.0 in
    let same : proposals.MovePeer region from to ≡ proposals.MovePeer move.region move.from move.to = proposed.1.1 in
    let r : region ≡ move.region = cc same in
    let f : from ≡ move.from = cc same in
    let t : to ≡ move.to = cc same in
    let admissible = proposed.1.0.admissible in
    let moves = admissible.moves in
    record {
      beat = admissible.beat;
      held = admissible.held;
      id = sym moves.region ∙ sym r;
      source = rw f moves.source;
      target = rw t (not_on (is_on move.to admissible.beat) moves.target);
      counts = rw (f, t) (omega (arith, moves.difference, moves.wide));
    }

pub leaders_by : (tables : Tables) (region to : ℕ) → Proposes Leaders tables (Some (proposals.MoveLeader region to)) → EvensLeaders tables region to
leaders_by tables region to proposed =
    let move : Move = proposed.0 in
    let same : proposals.MoveLeader region to ≡ proposals.MoveLeader move.region move.to = proposed.1.1 in
    let r : region ≡ move.region = cc same in
    let t : to ≡ move.to = cc same in
    let admissible = proposed.1.0.admissible in
    let moves = admissible.moves in
    let taken = taken_by tables admissible.beat move.to (peer_on move.to admissible.beat) refl moves.target in
    record {
      beat = admissible.beat;
      from = move.from;
      held = admissible.held;
      id = sym moves.region ∙ sym r;
      source = moves.source;
      target = rw t (at_store taken.peer.id move.to admissible.beat.region.peers (found_on admissible.beat.region.peers move.to taken.peer taken.found));
      counts = rw t (omega (arith, moves.difference, moves.wide));
    }

no_drop : (kind : Kind) (move : Move) (region store : ℕ) → proposals.DropPeer region store ≡ proposal_of kind move → ⊥
no_drop Regions move region store same = cc same
no_drop Leaders move region store same = cc same

pub never_drops : (kind : Kind) (tables : Tables) (region store : ℕ) → Proposes kind tables (Some (proposals.DropPeer region store)) → ⊥
never_drops kind tables region store proposed = no_drop kind proposed.0 region store proposed.1.1

pub never_leads : (tables : Tables) (region to : ℕ) → Proposes Regions tables (Some (proposals.MoveLeader region to)) → ⊥
never_leads tables region to proposed = (let same : proposals.MoveLeader region to ≡ proposals.MovePeer proposed.0.region proposed.0.from proposed.0.to = proposed.1.1 in cc same)

pub never_moves : (tables : Tables) (region from to : ℕ) → Proposes Leaders tables (Some (proposals.MovePeer region from to)) → ⊥
never_moves tables region from to proposed = (let same : proposals.MovePeer region from to ≡ proposals.MoveLeader proposed.0.region proposed.0.to = proposed.1.1 in cc same)
