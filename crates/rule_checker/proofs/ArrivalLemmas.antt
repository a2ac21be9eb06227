-- What a new peer makes of the region's misfit number.
use Rattle.std.proofs.Common.{◌≡◌, ◌≢◌, ◌<◌, ℕ, ◌+◌, ◌-◌, zero, suc, Bool, true, false, List, [], ◌∷◌, ◌++◌, map, length, get_or, arith, refl, sym, ◌∙◌, subst, ap, ◌&&◌, ◌||◌, not, if◌then◌else◌, Option, Some, None, nat_lt, ◌==◌, length-append, inl, inr}
use Rattle.std.proofs.lemmas.Bool.{cases_eq, true≢false, false≢true, eq-eqb, ne_eqb}
use Rattle.std.proofs.lemmas.Bool.Decides.{nat_tests}
use Rattle.std.proofs.lemmas.List.{length-map, map-append}
use Rattle.std.proofs.lemmas.Option.{get_or_from_slice_get, slice_get-get_or, slice_get_within}
use Rattle.std.specs.List.{slice_get, list_any, Contains}
use Rattle.std.specs.Option.{option_map_or}
use Rattle.pd_types.specs.declared.region.Role.{Role}
use Rattle.pd_types.specs.declared.region.Role.TheVariants as roles
use Rattle.pd_types.specs.declared.region.Peer.{Peer}
use Rattle.pd_types.specs.declared.region.RegionBeat.{RegionBeat}
use Rattle.pd_types.specs.declared.rule.Rule.{Rule}
use Rattle.pd_types.specs.declared.step.Step.TheVariants as steps
use Rattle.pd_types.specs.declared.beat.TheConstants.{MAX_PEERS}
use Rattle.store_table.specs.declared.entry.StoreEntry.{StoreEntry}
use Rattle.store_table.specs.Entries.{AreRising, entry_at}
use Rattle.store_table.specs.Live.{live_test, usable_test}
use Rattle.op_step.specs.After.{promoted, peers_after}
use Rattle.op_step.specs.Peers.{has_id, has_store}
use Rattle.rule_fit.specs.Certificate.{IsMisfitNumber}
use Rattle.rule_fit.specs.Question.{AreRoomsIn, question}
use Rattle.rule_fit.specs.Search.{marked}
use Rattle.rule_fit.specs.Suits.{both_suit, counts_of, suits_in, suits_on}
use Rattle.rule_fit.proofs.EntryLemmas.{peer_by_entry}
use Rattle.rule_fit.proofs.LawLemmas.{one_number}
use Rattle.rule_fit.proofs.RoomLemmas.{Agree, lowered_by_room, room_lowers}
use Rattle.rule_checker.specs.declared.class.Class.{Class}
use Rattle.rule_checker.specs.declared.class.Class.TheVariants.{Promote, Transfer, AddVoter, AddLearner, Remove}
use Rattle.rule_checker.specs.declared.class.Ranked.{Ranked}
use Rattle.rule_checker.specs.Arrival.{Adds, arrived, takes_new}
use Rattle.rule_checker.specs.Candidates.{new_on, may_come, passes, pool}
use Rattle.rule_checker.specs.Measure.{HasNumber, Leaves, Lowers}
use Rattle.rule_checker.specs.Ranks.{score_of}
use Rattle.rule_checker.proofs.PoolLemmas.{pool_new, some_entry}

-- the peer, of whose store this is known, suits a marked rule
pub record FindsRoom (leader : ℕ) (entry : StoreEntry) (now : ℕ) (peer : Peer) (rules : List Rule) (rooms : List Bool) : Type 0 where
  pub place : ℕ
  pub rule : Rule
  pub at : slice_get rules place ≡ Some rule
  pub room : marked rooms place ≡ true
  pub suits : suits_on leader (Some entry) now peer rule ≡ true

-- of a rising list the entry at a place is that of its id
pub entry_of_place : (stores : List StoreEntry) (k : ℕ) (entry : StoreEntry) → AreRising stores → slice_get stores k ≡ Some entry → entry_at entry.store.id stores ≡ Some entry
entry_of_place [] k entry rising h = absurd (cc)
entry_of_place (one ∷ stores) zero entry rising h =
    rw (eq-eqb one.store.id entry.store.id (ap (λ (it : StoreEntry). it.store.id) (some_entry one entry h))) h
entry_of_place (one ∷ stores) (suc k) entry rising h =
    let low = slice_get_within stores k entry h in
    let less : one.store.id < entry.store.id = subst (λ (it : StoreEntry). one.store.id < it.store.id) (get_or_from_slice_get stores k entry entry h) (rising 0 (suc k) entry (omega arith) (omega arith)) in
    rw (ne_eqb one.store.id entry.store.id (λ e. omega arith)) (entry_of_place stores k entry (λ i j d before inside. rising (suc i) (suc j) d (omega arith) (omega arith)) h)

-- a store that isn't known gets no peer, and a known one by what is known of it
abbrev come_by : (one : Option StoreEntry) (beat : RegionBeat) (now store : ℕ) → Bool
come_by one beat now store = option_map_or (λ entry. live_test entry now) one false && option_map_or (λ entry. usable_test entry now) one false && not (has_store store beat) && nat_lt (length beat.region.peers) MAX_PEERS

come_none : (beat : RegionBeat) (stores : List StoreEntry) (now store : ℕ) → entry_at store stores ≡ None → may_come beat stores now store ≡ false
come_none beat stores now store e = ap (λ (one : Option StoreEntry). come_by one beat now store) e

come_one : (beat : RegionBeat) (stores : List StoreEntry) (now store : ℕ) (entry : StoreEntry) → entry_at store stores ≡ Some entry → may_come beat stores now store ≡ (live_test entry now && usable_test entry now && not (has_store store beat) && nat_lt (length beat.region.peers) MAX_PEERS)
come_one beat stores now store entry e = ap (λ (one : Option StoreEntry). come_by one beat now store) e

-- the entry of an id has that id
entry_id : (stores : List StoreEntry) (store : ℕ) (entry : StoreEntry) → entry_at store stores ≡ Some entry → entry.store.id ≡ store
entry_id [] store entry e = absurd (cc)
entry_id (one ∷ stores) store entry e =
    elim (cases_eq one.store.id store) [
      | inl same ↦
          let here : one ≡ entry = some_entry one entry (rw (eq-eqb one.store.id store same) at e) in
          ap (λ (it : StoreEntry). it.store.id) (sym here) ∙ same
      | inr other ↦ entry_id stores store entry (rw (ne_eqb one.store.id store other) at e)
    ]

come_at : (beat : RegionBeat) (stores : List StoreEntry) (now store : ℕ) (entry : StoreEntry) → entry_at store stores ≡ Some entry → may_come beat stores now store ≡ takes_new beat entry now
come_at beat stores now store entry e =
    come_one beat stores now store entry e ∙ ap (λ (id : ℕ). live_test entry now && usable_test entry now && not (has_store id beat) && nat_lt (length beat.region.peers) MAX_PEERS) (sym (entry_id stores store entry e))

-- the test of what is known, where it is known
abbrev pub takes_in : RegionBeat → ℕ → Option StoreEntry → Bool
takes_in beat now None = false
takes_in beat now (Some entry) = takes_new beat entry now

pub may_by_entry : (beat : RegionBeat) (stores : List StoreEntry) (now store : ℕ) → may_come beat stores now store ≡ takes_in beat now (entry_at store stores)
may_by_entry beat stores now store = by (entry_at store stores) refl
  where
    by : (one : Option StoreEntry) → entry_at store stores ≡ one → may_come beat stores now store ≡ takes_in beat now one
    by None e = come_none beat stores now store e
    by (Some entry) e = come_at beat stores now store entry e

pub come_known : (beat : RegionBeat) (stores : List StoreEntry) (now : ℕ) (entry : StoreEntry) → entry_at entry.store.id stores ≡ Some entry → may_come beat stores now entry.store.id ≡ takes_new beat entry now
come_known beat stores now entry e = come_at beat stores now entry.store.id entry e

-- no peer of the region is on a store that may get one
pub no_peer : (beat : RegionBeat) (stores : List StoreEntry) (now store : ℕ) → may_come beat stores now store ≡ true → has_store store beat ≡ false
no_peer beat stores now store h = grind (arith, nat_tests)

-- a peer of id 0 on a store
abbrev fresh : Role → ℕ → Peer
fresh role store = record { id = 0; store = store; role = role }

come_learner : (known on : Bool) (peers : List Peer) (peer : Peer) → known ≡ false → on ≡ false → (if (known || on) then peers else peers ++ peer ∷ []) ≡ peers ++ peer ∷ []
come_learner true on peers peer e f = absurd (true≢false e)
come_learner false true peers peer e f = absurd (true≢false f)
come_learner false false peers peer e f = refl

stay_away : (known on : Bool) (peers : List Peer) (peer : Peer) → known ≡ true → (if (known || on) then peers else peers ++ peer ∷ []) ≡ peers
stay_away true on peers peer e = refl
stay_away false on peers peer e = absurd (false≢true e)

not_there : (id store : ℕ) (peer : Peer) → (peer.store ≡ store → ⊥) → promoted id store peer ≡ peer
not_there id store peer other = grind (arith, nat_tests)

off_store : (store : ℕ) (peer : Peer) (peers : List Peer) → list_any (λ one. one.store == store) (peer ∷ peers) ≡ false → peer.store ≡ store → ⊥
off_store store peer peers h = λ e. grind (arith, nat_tests)

off_rest : (store : ℕ) (peer : Peer) (peers : List Peer) → list_any (λ one. one.store == store) (peer ∷ peers) ≡ false → list_any (λ one. one.store == store) peers ≡ false
off_rest store peer peers h = grind (arith, nat_tests)

none_promoted : (store : ℕ) (peers : List Peer) → list_any (λ one. one.store == store) peers ≡ false → map (promoted 0 store) peers ≡ peers
none_promoted store [] h = refl
none_promoted store (peer ∷ peers) h =
    ap (λ (p : Peer). p ∷ map (promoted 0 store) peers) (not_there 0 store peer (off_store store peer peers h)) ∙ ap (λ (ps : List Peer). peer ∷ ps) (none_promoted store peers (off_rest store peer peers h))

new_promoted : (store : ℕ) → promoted 0 store (fresh roles.Learner store) ≡ fresh roles.Voter store
new_promoted store = grind (arith, nat_tests)

-- both classes leave the region's peers and the new one
learners : (store : ℕ) (beat : RegionBeat) → has_id 0 beat ≡ false → has_store store beat ≡ false → peers_after (steps.AddLearner 0 store) beat.region.peers ≡ beat.region.peers ++ fresh roles.Learner store ∷ []
learners store beat free off = come_learner (list_any (λ peer. peer.id == 0) beat.region.peers) (list_any (λ peer. peer.store == store) beat.region.peers) beat.region.peers (fresh roles.Learner store) free off

voters : (store : ℕ) (beat : RegionBeat) → has_id 0 beat ≡ false → has_store store beat ≡ false → map (promoted 0 store) (peers_after (steps.AddLearner 0 store) beat.region.peers) ≡ beat.region.peers ++ fresh roles.Voter store ∷ []
voters store beat free off =
    ap (λ (ps : List Peer). map (promoted 0 store) ps) (learners store beat free off) ∙ map-append (promoted 0 store) beat.region.peers (fresh roles.Learner store ∷ []) ∙ ap (λ (ps : List Peer). ps ++ promoted 0 store (fresh roles.Learner store) ∷ []) (none_promoted store beat.region.peers off) ∙ ap (λ (p : Peer). beat.region.peers ++ p ∷ []) (new_promoted store)

-- where the region has a peer of id 0, both leave it as it is
no_learner : (store : ℕ) (beat : RegionBeat) → has_id 0 beat ≡ true → peers_after (steps.AddLearner 0 store) beat.region.peers ≡ beat.region.peers
no_learner store beat taken = stay_away (list_any (λ peer. peer.id == 0) beat.region.peers) (list_any (λ peer. peer.store == store) beat.region.peers) beat.region.peers (fresh roles.Learner store) taken

no_voter : (store : ℕ) (beat : RegionBeat) → has_id 0 beat ≡ true → has_store store beat ≡ false → map (promoted 0 store) (peers_after (steps.AddLearner 0 store) beat.region.peers) ≡ beat.region.peers
no_voter store beat taken off =
    ap (λ (ps : List Peer). map (promoted 0 store) ps) (no_learner store beat taken) ∙ none_promoted store beat.region.peers off

-- which of these peers suit which rules, and the number of a region with them
abbrev suits_with : ℕ → List Peer → List Rule → List StoreEntry → ℕ → ℕ → ℕ → Bool
suits_with leader peers rules stores now p r = both_suit leader stores now (slice_get peers p) (slice_get rules r)

abbrev NumberOf : ℕ → List Peer → List Rule → List StoreEntry → ℕ → ℕ → Type 0
NumberOf leader peers rules stores now number = IsMisfitNumber (suits_with leader peers rules stores now) (length peers) (counts_of rules) number

-- what the steps leave is the number of the region with the new peer
leaves_with : (class : Class) (beat : RegionBeat) (rules : List Rule) (stores : List StoreEntry) (now store number : ℕ) → Adds class → has_id 0 beat ≡ false → has_store store beat ≡ false → Leaves class beat rules stores now (new_on store) number → NumberOf beat.leader (beat.region.peers ++ arrived class store ∷ []) rules stores now number
leaves_with Promote beat rules stores now store number adds free off fact = absurd adds
leaves_with Transfer beat rules stores now store number adds free off fact = absurd adds
leaves_with AddVoter beat rules stores now store number adds free off fact =
    subst (λ (ps : List Peer). NumberOf beat.leader ps rules stores now number) (voters store beat free off) fact
leaves_with AddLearner beat rules stores now store number adds free off fact =
    subst (λ (ps : List Peer). NumberOf beat.leader ps rules stores now number) (learners store beat free off) fact
leaves_with Remove beat rules stores now store number adds free off fact = absurd adds

with_leaves : (class : Class) (beat : RegionBeat) (rules : List Rule) (stores : List StoreEntry) (now store number : ℕ) → Adds class → has_id 0 beat ≡ false → has_store store beat ≡ false → NumberOf beat.leader (beat.region.peers ++ arrived class store ∷ []) rules stores now number → Leaves class beat rules stores now (new_on store) number
with_leaves Promote beat rules stores now store number adds free off fact = absurd adds
with_leaves Transfer beat rules stores now store number adds free off fact = absurd adds
with_leaves AddVoter beat rules stores now store number adds free off fact =
    subst (λ (ps : List Peer). NumberOf beat.leader ps rules stores now number) (sym (voters store beat free off)) fact
with_leaves AddLearner beat rules stores now store number adds free off fact =
    subst (λ (ps : List Peer). NumberOf beat.leader ps rules stores now number) (sym (learners store beat free off)) fact
with_leaves Remove beat rules stores now store number adds free off fact = absurd adds

leaves_same : (class : Class) (beat : RegionBeat) (rules : List Rule) (stores : List StoreEntry) (now store number : ℕ) → Adds class → has_id 0 beat ≡ true → has_store store beat ≡ false → Leaves class beat rules stores now (new_on store) number → HasNumber beat rules stores now number
leaves_same Promote beat rules stores now store number adds taken off fact = absurd adds
leaves_same Transfer beat rules stores now store number adds taken off fact = absurd adds
leaves_same AddVoter beat rules stores now store number adds taken off fact =
    subst (λ (ps : List Peer). NumberOf beat.leader ps rules stores now number) (no_voter store beat taken off) fact
leaves_same AddLearner beat rules stores now store number adds taken off fact =
    subst (λ (ps : List Peer). NumberOf beat.leader ps rules stores now number) (no_learner store beat taken) fact
leaves_same Remove beat rules stores now store number adds taken off fact = absurd adds

-- the region's own peers suit what they suited
get_front : (xs : List Peer) (x : Peer) (p : ℕ) → p < length xs → slice_get (xs ++ x ∷ []) p ≡ slice_get xs p
get_front [] x p low = absurd (omega arith)
get_front (y ∷ xs) x zero low = refl
get_front (y ∷ xs) x (suc p) low = get_front xs x p (omega arith)

get_end : (xs : List Peer) (x : Peer) → slice_get (xs ++ x ∷ []) (length xs) ≡ Some x
get_end [] x = refl
get_end (y ∷ xs) x = get_end xs x

one_longer : (xs : List Peer) (x : Peer) → length (xs ++ x ∷ []) ≡ length xs + 1
one_longer xs x = let long = length-append xs (x ∷ []) in omega arith

agree : (beat : RegionBeat) (rules : List Rule) (stores : List StoreEntry) (now : ℕ) (x : Peer) → Agree (suits_in beat rules stores now) (suits_with beat.leader (beat.region.peers ++ x ∷ []) rules stores now) (length beat.region.peers)
agree beat rules stores now x p r low =
    ap (λ (one : Option Peer). both_suit beat.leader stores now one (slice_get rules r)) (get_front beat.region.peers x p low)

-- the new peer suits what is said by what is known of its store
end_suits : (beat : RegionBeat) (rules : List Rule) (stores : List StoreEntry) (now r : ℕ) (x : Peer) (rule : Rule) → slice_get rules r ≡ Some rule → suits_with beat.leader (beat.region.peers ++ x ∷ []) rules stores now (length beat.region.peers) r ≡ suits_on beat.leader (entry_at x.store stores) now x rule
end_suits beat rules stores now r x rule at =
    ap (λ (one : Option Peer). both_suit beat.leader stores now one (slice_get rules r)) (get_end beat.region.peers x) ∙ ap (λ (one : Option Rule). both_suit beat.leader stores now (Some x) one) at ∙ peer_by_entry beat.leader stores now x rule

rule_there : (leader : ℕ) (stores : List StoreEntry) (now : ℕ) (x : Peer) (one : Option Rule) → both_suit leader stores now (Some x) one ≡ true → (rule : Rule) × (one ≡ Some rule)
rule_there leader stores now x None e = absurd (false≢true e)
rule_there leader stores now x (Some rule) e = (rule, refl)

-- one that suits a rule with room lowers the number by one
pub new_lowers : (class : Class) (beat : RegionBeat) (rules : List Rule) (stores : List StoreEntry) (now from : ℕ) (entry : StoreEntry) (rooms : List Bool) → Adds class → has_id 0 beat ≡ false → has_store entry.store.id beat ≡ false → entry_at entry.store.id stores ≡ Some entry → HasNumber beat rules stores now from → AreRoomsIn (question beat rules stores now) rooms → FindsRoom beat.leader entry now (arrived class entry.store.id) rules rooms → Leaves class beat rules stores now (new_on entry.store.id) (from - 1) × (0 < from)
new_lowers class beat rules stores now from entry rooms adds free off known number are finds =
    let x : Peer = arrived class entry.store.id in
    let many : length (counts_of rules) ≡ length rules = length-map rules (λ (rule : Rule). rule.count) in
    let low = slice_get_within rules finds.place finds.rule finds.at in
    let inside : finds.place < length (counts_of rules) = omega arith in
    let room = (are.right finds.place inside).0 finds.room in
    let suited = end_suits beat rules stores now finds.place x finds.rule finds.at ∙ ap (λ (one : Option StoreEntry). suits_on beat.leader one now x finds.rule) known ∙ finds.suits in
    let lower = room_lowers (suits_in beat rules stores now) (suits_with beat.leader (beat.region.peers ++ x ∷ []) rules stores now) (length beat.region.peers) (counts_of rules) finds.place from (agree beat rules stores now x) number room suited in (
      with_leaves class beat rules stores now entry.store.id (from - 1) adds free off
          (subst (λ (n : ℕ). IsMisfitNumber (suits_with beat.leader (beat.region.peers ++ x ∷ []) rules stores now) n (counts_of rules) (from - 1)) (sym (one_longer beat.region.peers x)) lower.0),
      lower.1,
    )

-- and one that lowers it suits such a rule
pub lower_finds : (class : Class) (beat : RegionBeat) (rules : List Rule) (stores : List StoreEntry) (now from to : ℕ) (entry : StoreEntry) (rooms : List Bool) → Adds class → has_id 0 beat ≡ false → has_store entry.store.id beat ≡ false → entry_at entry.store.id stores ≡ Some entry → HasNumber beat rules stores now from → AreRoomsIn (question beat rules stores now) rooms → Leaves class beat rules stores now (new_on entry.store.id) to → to < from → FindsRoom beat.leader entry now (arrived class entry.store.id) rules rooms
lower_finds class beat rules stores now from to entry rooms adds free off known number are leaves lower =
    let x : Peer = arrived class entry.store.id in
    let after = subst (λ (n : ℕ). IsMisfitNumber (suits_with beat.leader (beat.region.peers ++ x ∷ []) rules stores now) n (counts_of rules) to) (one_longer beat.region.peers x) (leaves_with class beat rules stores now entry.store.id to adds free off leaves) in
    let found = lowered_by_room (suits_in beat rules stores now) (suits_with beat.leader (beat.region.peers ++ x ∷ []) rules stores now) (length beat.region.peers) (counts_of rules) from to (agree beat rules stores now x) number after lower in
    let behind = ap (λ (one : Option Peer). both_suit beat.leader stores now one (slice_get rules found.0)) (get_end beat.region.peers x) in
    let there = rule_there beat.leader stores now x (slice_get rules found.0) (sym behind ∙ found.2) in
    record {
      place = found.0;
      rule = there.0;
      at = there.1;
      room = (are.right found.0 found.1.known).1 found.1;
      suits = ap (λ (one : Option StoreEntry). suits_on beat.leader one now x there.0) (sym known) ∙ sym (end_suits beat rules stores now found.0 x there.0 there.1) ∙ found.2;
    }

-- and a rule has room for it
lower_room : (class : Class) (beat : RegionBeat) (rules : List Rule) (stores : List StoreEntry) (now from to store : ℕ) (rooms : List Bool) → Adds class → has_id 0 beat ≡ false → has_store store beat ≡ false → HasNumber beat rules stores now from → AreRoomsIn (question beat rules stores now) rooms → Leaves class beat rules stores now (new_on store) to → to < from → (r : ℕ) × (marked rooms r ≡ true)
lower_room class beat rules stores now from to store rooms adds free off number are leaves lower =
    let x : Peer = arrived class store in
    let after = subst (λ (n : ℕ). IsMisfitNumber (suits_with beat.leader (beat.region.peers ++ x ∷ []) rules stores now) n (counts_of rules) to) (one_longer beat.region.peers x) (leaves_with class beat rules stores now store to adds free off leaves) in
    let found = lowered_by_room (suits_in beat rules stores now) (suits_with beat.leader (beat.region.peers ++ x ∷ []) rules stores now) (length beat.region.peers) (counts_of rules) from to (agree beat rules stores now x) number after lower in
    (found.0, (are.right found.0 found.1.known).1 found.1)

no_mark : (rooms : List Bool) (r : ℕ) → list_any (λ room. room) rooms ≡ false → marked rooms r ≡ true → ⊥
no_mark [] r none mark = false≢true mark
no_mark (true ∷ rooms) r none mark = true≢false none
no_mark (false ∷ rooms) zero none mark = false≢true mark
no_mark (false ∷ rooms) (suc r) none mark = no_mark rooms r none mark

-- what holds at each place below one, and at it
pub more_places : (P : ℕ → Type 0) (n : ℕ) → ((k : ℕ) → k < n → P k) → P n → (k : ℕ) → k < n + 1 → P k
more_places P n below here k low =
    elim (cases_eq k n) [
      | inl same ↦ subst P (sym same) here
      | inr other ↦ below k (omega arith)
    ]

pub some_rule : (one other : Rule) → Some one ≡ Some other → one ≡ other
some_rule one other e = cc

pub rule_at : (items rules : List Rule) (k : ℕ) (rule : Rule) → items ≡ rules → k < length items → rule ≡ get_or items k rule → slice_get rules k ≡ Some rule
rule_at items rules k rule same low is =
    subst (λ (rs : List Rule). slice_get rs k ≡ Some rule) same (slice_get-get_or items k rule low ∙ ap (λ (r : Rule). Some r) (sym is))

-- such a class asks of a peer that its store may get one
pub may_by : (class : Class) (beat : RegionBeat) (rules : List Rule) (stores : List StoreEntry) (now : ℕ) (peer : Peer) → Adds class → passes class beat rules stores now peer ≡ true → may_come beat stores now peer.store ≡ true
may_by Promote beat rules stores now peer adds h = absurd adds
may_by Transfer beat rules stores now peer adds h = absurd adds
may_by AddVoter beat rules stores now peer adds h = h
may_by AddLearner beat rules stores now peer adds h = h
may_by Remove beat rules stores now peer adds h = absurd adds

pub by_may : (class : Class) (beat : RegionBeat) (rules : List Rule) (stores : List StoreEntry) (now : ℕ) (peer : Peer) → Adds class → may_come beat stores now peer.store ≡ true → passes class beat rules stores now peer ≡ true
by_may Promote beat rules stores now peer adds h = absurd adds
by_may Transfer beat rules stores now peer adds h = absurd adds
by_may AddVoter beat rules stores now peer adds h = h
by_may AddLearner beat rules stores now peer adds h = h
by_may Remove beat rules stores now peer adds h = absurd adds

-- where no rule has room, no new peer lowers the number
pub no_rooms : (class : Class) (beat : RegionBeat) (rules : List Rule) (stores : List StoreEntry) (now from : ℕ) (rooms : List Bool) (one : Ranked) → Adds class → has_id 0 beat ≡ false → HasNumber beat rules stores now from → AreRoomsIn (question beat rules stores now) rooms → list_any (λ room. room) rooms ≡ false → Lowers class beat rules stores now from one → ⊥
no_rooms class beat rules stores now from rooms one adds free number are none lowers =
    let new = pool_new class beat stores one.peer adds lowers.candidate.held in
    let off = no_peer beat stores now one.peer.store (may_by class beat rules stores now one.peer adds lowers.candidate.passes) in
    let leaves = subst (λ (p : Peer). Leaves class beat rules stores now p one.to) (sym new) lowers.leaves in
    let found = lower_room class beat rules stores now from one.to one.peer.store rooms adds free off number are leaves lowers.lower in
    no_mark rooms found.0 none found.1

-- where the region has a peer of id 0, no new one lowers the number
pub none_comes : (class : Class) (beat : RegionBeat) (rules : List Rule) (stores : List StoreEntry) (now from : ℕ) (one : Ranked) → Adds class → has_id 0 beat ≡ true → HasNumber beat rules stores now from → Lowers class beat rules stores now from one → ⊥
none_comes class beat rules stores now from one adds taken number lowers =
    let new = pool_new class beat stores one.peer adds lowers.candidate.held in
    let off = no_peer beat stores now one.peer.store (may_by class beat rules stores now one.peer adds lowers.candidate.passes) in
    let leaves = subst (λ (p : Peer). Leaves class beat rules stores now p one.to) (sym new) lowers.leaves in
    let same = one_number (suits_in beat rules stores now) (length beat.region.peers) (counts_of rules) one.to from (leaves_same class beat rules stores now one.peer.store one.to adds taken off leaves) number in
    let lower = lowers.lower in omega arith

-- a new peer that lowers the number comes to a store that may get one, and finds room
pub lower_takes : (class : Class) (beat : RegionBeat) (rules : List Rule) (stores : List StoreEntry) (now from : ℕ) (entry : StoreEntry) (one : Ranked) → Adds class → entry_at entry.store.id stores ≡ Some entry → one.peer ≡ new_on entry.store.id → Lowers class beat rules stores now from one → takes_new beat entry now ≡ true
lower_takes class beat rules stores now from entry one adds known same lowers =
    sym (come_known beat stores now entry known) ∙ subst (λ (p : Peer). may_come beat stores now p.store ≡ true) same (may_by class beat rules stores now one.peer adds lowers.candidate.passes)

pub lower_room_found : (class : Class) (beat : RegionBeat) (rules : List Rule) (stores : List StoreEntry) (now from : ℕ) (entry : StoreEntry) (rooms : List Bool) (one : Ranked) → Adds class → has_id 0 beat ≡ false → entry_at entry.store.id stores ≡ Some entry → HasNumber beat rules stores now from → AreRoomsIn (question beat rules stores now) rooms → one.peer ≡ new_on entry.store.id → Lowers class beat rules stores now from one → FindsRoom beat.leader entry now (arrived class entry.store.id) rules rooms
lower_room_found class beat rules stores now from entry rooms one adds free known number are same lowers =
    let takes = lower_takes class beat rules stores now from entry one adds known same lowers in
    let off = no_peer beat stores now entry.store.id (come_known beat stores now entry known ∙ takes) in
    lower_finds class beat rules stores now from one.to entry rooms adds free off known number are (subst (λ (p : Peer). Leaves class beat rules stores now p one.to) same lowers.leaves) lowers.lower

-- and one that comes there and finds room lowers it by one
pub room_found_lowers : (class : Class) (beat : RegionBeat) (rules : List Rule) (stores : List StoreEntry) (now from : ℕ) (entry : StoreEntry) (rooms : List Bool) → Adds class → has_id 0 beat ≡ false → entry_at entry.store.id stores ≡ Some entry → HasNumber beat rules stores now from → AreRoomsIn (question beat rules stores now) rooms → takes_new beat entry now ≡ true → FindsRoom beat.leader entry now (arrived class entry.store.id) rules rooms → Leaves class beat rules stores now (new_on entry.store.id) (from - 1) × (0 < from)
room_found_lowers class beat rules stores now from entry rooms adds free known number are takes finds =
    let off = no_peer beat stores now entry.store.id (come_known beat stores now entry known ∙ takes) in
    new_lowers class beat rules stores now from entry rooms adds free off known number are finds

pub weighed : (class : Class) (beat : RegionBeat) (rules : List Rule) (stores : List StoreEntry) (now from : ℕ) (entry : StoreEntry) (rooms : List Bool) (peer : Peer) (score : ℕ) → rules ≢ [] → Adds class → has_id 0 beat ≡ false → entry_at entry.store.id stores ≡ Some entry → Contains (pool class beat stores) (new_on entry.store.id) → HasNumber beat rules stores now from → AreRoomsIn (question beat rules stores now) rooms → takes_new beat entry now ≡ true → FindsRoom beat.leader entry now (arrived class entry.store.id) rules rooms → peer ≡ new_on entry.store.id → score ≡ score_of class beat rules stores peer → Lowers class beat rules stores now from (record { peer = peer; to = from - 1; score = score })
weighed class beat rules stores now from entry rooms peer score ruled adds free known held number are takes finds same scored =
    let lower = room_found_lowers class beat rules stores now from entry rooms adds free known number are takes finds in
    let some = lower.1 in
    record {
      candidate = record {
        ruled = ruled;
        held = subst (λ (p : Peer). Contains (pool class beat stores) p) (sym same) held;
        passes = subst (λ (p : Peer). passes class beat rules stores now p ≡ true) (sym same)
            (by_may class beat rules stores now (new_on entry.store.id) adds (come_known beat stores now entry known ∙ takes));
      };
      leaves = subst (λ (p : Peer). Leaves class beat rules stores now p (from - 1)) (sym same) lower.0;
      lower = omega arith;
      score = scored;
    }
