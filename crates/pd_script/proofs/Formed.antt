-- What a line asks has its form, and the driver that it asks is 1 or more.
use Rattle.std.proofs.Common.{◌≡◌, ◌⊎◌, inl, inr, ◌<◌, ◌^◌, ℕ, List, [], ◌∷◌, length, take, drop, ◌≤◌, Bool, true, false, not, cond, nat_le, nat_lt, All, Option, Some, None, refl, sym, subst, arith}
use Rattle.std.specs.Prelude.{Result, Ok, Err, codes}
use Rattle.std.specs.List.{AllByRecursion}
use Rattle.std.specs.Str.{bytes_eq}
use Rattle.std.proofs.lemmas.Bool.Decides.{nat_tests}
use Rattle.std.proofs.lemmas.List.Elements.{All-from_recursion, All-nil}
use Rattle.pd_lines.specs.Labels.{AreLabels, labels_of}
use Rattle.pd_lines.specs.Numeral.{number_of}
use Rattle.pd_lines.specs.Plain.{is_plain}
use Rattle.pd_lines.proofs.Listing.{labels_read, no_labels}
use Rattle.pd_types.specs.declared.region.DownPeer.{DownPeer}
use Rattle.pd_types.specs.declared.region.Epoch.{Epoch}
use Rattle.pd_types.specs.declared.region.Peer.{Peer}
use Rattle.pd_types.specs.declared.region.RegionBeat.{RegionBeat}
use Rattle.pd_types.specs.declared.region.Role.{Role}
use Rattle.pd_types.specs.declared.region.Role.TheVariants.{Voter, Learner}
use Rattle.pd_types.specs.declared.request.Request.TheVariants.{Hello, Alive, Beat, Rule, Unrule, Check, Patrol, Schedule, Ctl}
use Rattle.pd_types.specs.declared.store.Label.{Label}
use Rattle.pd_script.specs.Asks.{asked_of}
use Rattle.pd_script.specs.BeatLines.{beat_of, epoch_of, region_of, reported, troubled_of}
use Rattle.pd_script.specs.StoreLines.{alive_of, greeted, head_of, hello_of, labels_or}
use Rattle.pd_script.specs.CtlLines.{ctl_by, schedule_of}
use Rattle.pd_script.specs.CheckLines.{check_of, patrol_of}
use Rattle.pd_script.specs.Formed.{IsAsked, IsDown, IsId, IsPeer, IsReport, IsSpoken}
use Rattle.pd_script.specs.Forms.{Item, address_form, before_colon, down_of, downs_from, downs_of, ids_from, in_front, is_colon, items_of, key_form, peer_of, peers_from, peers_of, pending_of, role_of, spelled_or, unless_colon}
use Rattle.pd_lines.specs.Words.{and_then}
use Rattle.pd_script.specs.Places.{read_place}
use Rattle.pd_script.specs.RuleLines.{is_name, json_form, name_form, rule_by, unrule_of}
use Rattle.pd_script.specs.Words.{behind_word, trimmed, words}
use Rattle.pd_script.specs.declared.ask.Asked.{Asked}
use Rattle.pd_script.specs.declared.ask.Head.{Head}
use Rattle.pd_script.specs.declared.beats.Troubled.{Troubled}
use Rattle.pd_script.specs.declared.place.Place.TheVariants.{Driver, Id, Moment, Seconds, Version, Workers}
use Rattle.pd_script.specs.declared.refusal.Reason.{Reason}
use Rattle.pd_script.specs.declared.refusal.Reason.TheVariants.{BadWord, ExtraWord, MissingWord}
use Rattle.pd_script.specs.declared.request_verb.RequestVerb.{RequestVerb}
use Rattle.pd_script.specs.declared.request_verb.RequestVerb.TheVariants.{Hello as ToHello, Alive as ToAlive, Beat as ToBeat, Rule as ToRule, Unrule as ToUnrule, Check as ToCheck, Patrol as ToPatrol, Schedule as ToSchedule, Ctl as ToCtl}
use Rattle.pd_script.proofs.Results.{InPlace, in_place, no_fine, same_ok, then_read}

-- what a test lets through
when_ok : {A : Type 0} (b : Bool) (x y : A) (reason : Reason) → cond {A = Result A Reason} b (Ok x) (Err reason) ≡ Ok y → (b ≡ true) × (x ≡ y)
when_ok true x y reason is = (refl, same_ok x y is)
when_ok false x y reason is = no_fine reason y is

unless_ok : {A : Type 0} (b : Bool) (r : Result A Reason) (y : A) (reason : Reason) → cond {A = Result A Reason} b (Err reason) r ≡ Ok y → r ≡ Ok y
unless_ok true r y reason is = no_fine reason y is
unless_ok false r y reason is = is

not_false : (b : Bool) → not b ≡ true → b ≡ false
not_false true is = cc
not_false false is = refl

-- ids
place_id : (n : ℕ) → InPlace Id n → IsId n
place_id n range = record { some = omega (arith, range.low); low = omega (arith, range.high) }

read_id : (word : List ℕ) (n : ℕ) → read_place Id word ≡ Ok n → IsId n
read_id word n is = place_id n (in_place Id (number_of word) n is)

read_version : (word : List ℕ) (n : ℕ) → read_place Version word ≡ Ok n → n < 2 ^ 63
read_version word n is = omega (arith, (in_place Version (number_of word) n is).high)

read_seconds : (word : List ℕ) (n : ℕ) → read_place Seconds word ≡ Ok n → n < 2 ^ 32
read_seconds word n is = omega (arith, (in_place Seconds (number_of word) n is).high)

colon_id : (item : Item) (n : ℕ) → before_colon Id item ≡ Ok n → IsId n
colon_id item n is =
    let m = then_read (read_place Id item.text) _ n is in
    subst IsId (when_ok (is_colon item.behind) m.0 n BadWord m.2).1 (read_id item.text m.0 m.1)

-- lists
front_all : {A : Type 0} (P : A → Type 0) (a : A) (r : Result (List A) Reason) (l : List A) → P a → ((rest : List A) → r ≡ Ok rest → AllByRecursion P rest) → in_front a r ≡ Ok l → AllByRecursion P l
front_all P a (Err reason) l one rest is = no_fine reason l is
front_all {A} P a (Ok r) l one rest is = subst (λ (x : List A). AllByRecursion P x) (same_ok (a ∷ r) l is) (one, rest r refl)

behind_ok : {A : Type 0} (behind : Option ℕ) (r : Result (List A) Reason) (l : List A) → unless_colon behind r ≡ Ok l → r ≡ Ok l
behind_ok behind r l is = unless_ok (is_colon behind) r l BadWord is

ids_ok : (items : List Item) (l : List ℕ) → ids_from items ≡ Ok l → AllByRecursion IsId l
ids_ok [] l is = subst (λ (x : List ℕ). AllByRecursion IsId x) (same_ok [] l is) tt
ids_ok (id ∷ items) l is =
    let n = then_read (read_place Id id.text) _ l is in
    front_all IsId n.0 (unless_colon id.behind (ids_from items)) l (read_id id.text n.0 n.1) (λ rest same. ids_ok items rest (behind_ok id.behind (ids_from items) rest same)) n.2

down_ok : (peer seconds : Item) (down : DownPeer) → down_of peer seconds ≡ Ok down → IsDown down
down_ok peer seconds down is =
    let p = then_read (before_colon Id peer) _ down is in
    let s = then_read (read_place Seconds seconds.text) _ down p.2 in
    subst IsDown (same_ok (record { peer = p.0; seconds = s.0 }) down s.2) (record { peer = colon_id peer p.0 p.1; seconds = read_seconds seconds.text s.0 s.1 })

downs_ok : (items : List Item) (l : List DownPeer) → downs_from items ≡ Ok l → AllByRecursion IsDown l
downs_ok [] l is = subst (λ (x : List DownPeer). AllByRecursion IsDown x) (same_ok [] l is) tt
downs_ok (peer ∷ []) l is = let p = then_read (before_colon Id peer) _ l is in no_fine BadWord l p.2
downs_ok (peer ∷ seconds ∷ items) l is =
    let d = then_read (down_of peer seconds) _ l is in
    front_all IsDown d.0 (unless_colon seconds.behind (downs_from items)) l (down_ok peer seconds d.0 d.1) (λ rest same. downs_ok items rest (behind_ok seconds.behind (downs_from items) rest same)) d.2

role_cases : (a b : Bool) (role : Role) → cond {A = Result Role Reason} a (Ok Voter) (cond b (Ok Learner) (Err BadWord)) ≡ Ok role → (role ≡ Voter) ⊎ (role ≡ Learner)
role_cases true b role is = inl (sym (same_ok Voter role is))
role_cases false true role is = inr (sym (same_ok Learner role is))
role_cases false false role is = no_fine BadWord role is

peer_ok : (id store role : Item) (peer : Peer) → peer_of id store role ≡ Ok peer → IsPeer peer
peer_ok id store role peer is =
    let i = then_read (before_colon Id id) _ peer is in
    let s = then_read (before_colon Id store) _ peer i.2 in
    let r = then_read (role_of role.text) _ peer s.2 in
    subst IsPeer (same_ok (record { id = i.0; store = s.0; role = r.0 }) peer r.2)
    (record { id = colon_id id i.0 i.1; store = colon_id store s.0 s.1; role = role_cases (bytes_eq role.text (codes "v")) (bytes_eq role.text (codes "l")) r.0 r.1 })

peers_ok : (items : List Item) (l : List Peer) → peers_from items ≡ Ok l → AllByRecursion IsPeer l
peers_ok [] l is = subst (λ (x : List Peer). AllByRecursion IsPeer x) (same_ok [] l is) tt
peers_ok (id ∷ []) l is = let i = then_read (before_colon Id id) _ l is in no_fine BadWord l i.2
peers_ok (id ∷ store ∷ []) l is =
    let i = then_read (before_colon Id id) _ l is in
    let s = then_read (before_colon Id store) _ l i.2 in
    no_fine BadWord l s.2
peers_ok (id ∷ store ∷ role ∷ items) l is =
    let p = then_read (peer_of id store role) _ l is in
    front_all IsPeer p.0 (unless_colon role.behind (peers_from items)) l (peer_ok id store role p.0 p.1) (λ rest same. peers_ok items rest (behind_ok role.behind (peers_from items) rest same)) p.2

-- the words that list them
none_or : (b : Bool) (items : List Item) (l : List Peer) → cond {A = Result (List Peer) Reason} b (Ok []) (peers_from items) ≡ Ok l → AllByRecursion IsPeer l
none_or true items l is = subst (λ (x : List Peer). AllByRecursion IsPeer x) (same_ok [] l is) tt
none_or false items l is = peers_ok items l is

peers_word : (word : List ℕ) (l : List Peer) → peers_of word ≡ Ok l → All IsPeer l
peers_word word l is = All-from_recursion IsPeer l (none_or (bytes_eq word (codes "-")) (items_of word) l is)

tagged : {A : Type 0} (b : Bool) (r : Result A Reason) (y : A) (reason : Reason) → cond {A = Result A Reason} b r (Err reason) ≡ Ok y → r ≡ Ok y
tagged true r y reason is = is
tagged false r y reason is = no_fine reason y is

downs_word : (word : List ℕ) (l : List DownPeer) → downs_of word ≡ Ok l → All IsDown l
downs_word word l is = All-from_recursion IsDown l (downs_ok (items_of (drop 5 word)) l (tagged (bytes_eq (take 5 word) (codes "down=")) (downs_from (items_of (drop 5 word))) l BadWord is))

pending_word : (word : List ℕ) (l : List ℕ) → pending_of word ≡ Ok l → All IsId l
pending_word word l is = All-from_recursion IsId l (ids_ok (items_of (drop 8 word)) l (tagged (bytes_eq (take 8 word) (codes "pending=")) (ids_from (items_of (drop 8 word))) l BadWord is))

-- labels
labels_ok : (word : List ℕ) (o : Option (List Label)) (l : List Label) → ((m : List Label) → o ≡ Some m → AreLabels m) → spelled_or o ≡ Ok l → AreLabels l
labels_ok word None l formed is = no_fine BadWord l is
labels_ok word (Some m) l formed is = subst AreLabels (same_ok m l is) (formed m refl)

address_ok : (b : Bool) (word x : List ℕ) → spelled_or (cond {A = Option (List ℕ)} b (Some word) None) ≡ Ok x → (b ≡ true) × (word ≡ x)
address_ok true word x is = (refl, same_ok word x is)
address_ok false word x is = no_fine BadWord x is

labels_word : (word : List ℕ) (l : List Label) → labels_or word ≡ Ok l → AreLabels l
labels_word [] l is = subst AreLabels (same_ok [] l is) no_labels
labels_word (b ∷ bs) l is = labels_ok (b ∷ bs) (labels_of (b ∷ bs)) l (λ m same. (labels_read (b ∷ bs) m same).0) is

-- a store, the driver that it speaks to, and a moment
record IsHead (h : Head) : Type 0 where
  spoken : IsSpoken h.store h.moment
  pos : 0 < h.driver

head_ok : (store driver moment : List ℕ) (h : Head) → head_of store driver moment ≡ Ok h → IsHead h
head_ok store driver moment h is =
    let s = then_read (read_place Id store) _ h is in
    let d = then_read (read_place Driver driver) _ h s.2 in
    let m = then_read (read_place Moment moment) _ h d.2 in
    let driver_in = in_place Driver (number_of driver) d.0 d.1 in
    let moment_in = in_place Moment (number_of moment) m.0 m.1 in
    subst IsHead (same_ok (record { store = s.0; driver = d.0; moment = m.0 }) h m.2)
    (record { spoken = record { id = read_id store s.0 s.1; low = omega (arith, moment_in.high) }; pos = omega (arith, driver_in.low) })

-- what was read of such a line
pub record IsFine (a : Asked) : Type 0 where
  pub pos : 0 < a.driver
  pub asked : IsAsked a.request

greeted_ok : (store driver moment address labels : List ℕ) (a : Asked) → greeted (head_of store driver moment) address labels ≡ Ok a → IsFine a
greeted_ok store driver moment address labels a is =
    let h = then_read (head_of store driver moment) _ a is in
    let b = then_read (address_form address) _ a h.2 in
    let l = then_read (labels_or labels) _ a b.2 in
    let head = head_ok store driver moment h.0 h.1 in
    let plain = address_ok (is_plain 64 address) address b.0 b.1 in
    subst IsFine (same_ok (record { driver = h.0.driver; request = Hello h.0.store h.0.moment b.0 l.0 }) a l.2)
    (record { pos = head.pos; asked = (head.spoken, subst (λ (x : List ℕ). is_plain 64 x ≡ true) plain.1 plain.0, labels_word labels l.0 l.1) })

hello_ok : (ws : List (List ℕ)) (a : Asked) → hello_of ws ≡ Ok a → IsFine a
hello_ok [] a is = no_fine MissingWord a is
hello_ok (s ∷ []) a is = no_fine MissingWord a is
hello_ok (s ∷ d ∷ []) a is = no_fine MissingWord a is
hello_ok (s ∷ d ∷ m ∷ []) a is = no_fine MissingWord a is
hello_ok (s ∷ d ∷ m ∷ x ∷ []) a is = greeted_ok s d m x [] a is
hello_ok (s ∷ d ∷ m ∷ x ∷ l ∷ []) a is = greeted_ok s d m x l a is
hello_ok (s ∷ d ∷ m ∷ x ∷ l ∷ more ∷ rest) a is = no_fine ExtraWord a is

alive_ok : (ws : List (List ℕ)) (a : Asked) → alive_of ws ≡ Ok a → IsFine a
alive_ok [] a is = no_fine MissingWord a is
alive_ok (s ∷ []) a is = no_fine MissingWord a is
alive_ok (s ∷ d ∷ []) a is = no_fine MissingWord a is
alive_ok (s ∷ d ∷ m ∷ []) a is =
    let h = then_read (head_of s d m) _ a is in
    let head = head_ok s d m h.0 h.1 in
    subst IsFine (same_ok (record { driver = h.0.driver; request = Alive h.0.store h.0.moment }) a h.2) (record { pos = head.pos; asked = head.spoken })
alive_ok (s ∷ d ∷ m ∷ more ∷ rest) a is = no_fine ExtraWord a is

-- both numbers of an epoch
epoch_ok : (conf_ver version : List ℕ) (epoch : Epoch) → epoch_of conf_ver version ≡ Ok epoch → (epoch.conf_ver < 2 ^ 63) × (epoch.version < 2 ^ 63)
epoch_ok conf_ver version epoch is =
    let c = then_read (read_place Version conf_ver) _ epoch is in
    let v = then_read (read_place Version version) _ epoch c.2 in
    subst (λ (x : Epoch). (x.conf_ver < 2 ^ 63) × (x.version < 2 ^ 63)) (same_ok (record { conf_ver = c.0; version = v.0 }) epoch v.2) (read_version conf_ver c.0 c.1, read_version version v.0 v.1)

-- a region without the peers that are down or pending
region_ok : (id start end conf_ver version leader peers : List ℕ) (beat : RegionBeat) → region_of id start end conf_ver version leader peers ≡ Ok beat → IsReport beat
region_ok id start end conf_ver version leader peers beat is =
    let r = then_read (read_place Id id) _ beat is in
    let s = then_read (key_form start) _ beat r.2 in
    let e = then_read (key_form end) _ beat s.2 in
    let epoch = then_read (epoch_of conf_ver version) _ beat e.2 in
    let l = then_read (read_place Id leader) _ beat epoch.2 in
    let p = then_read (peers_of peers) _ beat l.2 in
    let low = epoch_ok conf_ver version epoch.0 epoch.1 in
    subst IsReport (same_ok (record { region = record { id = r.0; start = s.0; end = e.0; epoch = epoch.0; peers = p.0 }; leader = l.0; down = []; pending = [] }) beat p.2)
    (record {
      region = read_id id r.0 r.1;
      conf_ver = low.0;
      version = low.1;
      leader = read_id leader l.0 l.1;
      peers = peers_word peers p.0 p.1;
      down = All-nil IsDown;
      pending = All-nil IsId;
    })

-- the peers that are down or pending
record AreTroubled (t : Troubled) : Type 0 where
  down : All IsDown t.down
  pending : All IsId t.pending

either_ok : (b : Bool) (word : List ℕ) (t : Troubled) → cond {A = Result Troubled Reason} b (and_then (pending_of word) (λ p. Ok (record { down = []; pending = p }))) (and_then (downs_of word) (λ d. Ok (record { down = d; pending = [] }))) ≡ Ok t → AreTroubled t
either_ok true word t is =
    let p = then_read (pending_of word) _ t is in
    subst AreTroubled (same_ok (record { down = []; pending = p.0 }) t p.2) (record { down = All-nil IsDown; pending = pending_word word p.0 p.1 })
either_ok false word t is =
    let d = then_read (downs_of word) _ t is in
    subst AreTroubled (same_ok (record { down = d.0; pending = [] }) t d.2) (record { down = downs_word word d.0 d.1; pending = All-nil IsId })

troubled_ok : (ws : List (List ℕ)) (t : Troubled) → troubled_of ws ≡ Ok t → AreTroubled t
troubled_ok [] t is = subst AreTroubled (same_ok (record { down = []; pending = [] }) t is) (record { down = All-nil IsDown; pending = All-nil IsId })
troubled_ok (word ∷ []) t is = either_ok (bytes_eq (take 8 word) (codes "pending=")) word t is
troubled_ok (down ∷ pending ∷ rest) t is =
    let d = then_read (downs_of down) _ t is in
    let p = then_read (pending_of pending) _ t d.2 in
    subst AreTroubled (same_ok (record { down = d.0; pending = p.0 }) t p.2) (record { down = downs_word down d.0 d.1; pending = pending_word pending p.0 p.1 })

reported_ok : (store driver moment : List ℕ) (beat : Result RegionBeat Reason) (troubled : Result Troubled Reason) (a : Asked) → ((b : RegionBeat) → beat ≡ Ok b → IsReport b) → ((t : Troubled) → troubled ≡ Ok t → AreTroubled t) → reported (head_of store driver moment) beat troubled ≡ Ok a → IsFine a
reported_ok store driver moment beat troubled a report others is =
    let h = then_read (head_of store driver moment) _ a is in
    let b = then_read beat _ a h.2 in
    let t = then_read troubled _ a b.2 in
    let head = head_ok store driver moment h.0 h.1 in
    let r = report b.0 b.1 in
    let o = others t.0 t.1 in
    subst IsFine (same_ok (record { driver = h.0.driver; request = Beat h.0.store h.0.moment (record b.0 { down = t.0.down; pending = t.0.pending }) }) a t.2)
    (record { pos = head.pos; asked = (head.spoken, record { region = r.region; conf_ver = r.conf_ver; version = r.version; leader = r.leader; peers = r.peers; down = o.down; pending = o.pending }) })

beat_ok : (ws : List (List ℕ)) (a : Asked) → beat_of ws ≡ Ok a → IsFine a
beat_ok [] a is = no_fine MissingWord a is
beat_ok (s ∷ []) a is = no_fine MissingWord a is
beat_ok (s ∷ d ∷ []) a is = no_fine MissingWord a is
beat_ok (s ∷ d ∷ m ∷ []) a is = no_fine MissingWord a is
beat_ok (s ∷ d ∷ m ∷ r ∷ []) a is = no_fine MissingWord a is
beat_ok (s ∷ d ∷ m ∷ r ∷ b ∷ []) a is = no_fine MissingWord a is
beat_ok (s ∷ d ∷ m ∷ r ∷ b ∷ e ∷ []) a is = no_fine MissingWord a is
beat_ok (s ∷ d ∷ m ∷ r ∷ b ∷ e ∷ c ∷ []) a is = no_fine MissingWord a is
beat_ok (s ∷ d ∷ m ∷ r ∷ b ∷ e ∷ c ∷ v ∷ []) a is = no_fine MissingWord a is
beat_ok (s ∷ d ∷ m ∷ r ∷ b ∷ e ∷ c ∷ v ∷ l ∷ []) a is = no_fine MissingWord a is
beat_ok (s ∷ d ∷ m ∷ r ∷ b ∷ e ∷ c ∷ v ∷ l ∷ p ∷ more) a is =
    reported_ok s d m (region_of r b e c v l p) (troubled_of more) a (λ beat same. region_ok r b e c v l p beat same) (λ t same. troubled_ok more t same)
    (unless_ok (nat_lt 2 (length more)) (reported (head_of s d m) (region_of r b e c v l p) (troubled_of more)) a ExtraWord is)

-- the lines of rules
read_driver : (word : List ℕ) (n : ℕ) → read_place Driver word ≡ Ok n → 0 < n
read_driver word n is = omega (arith, (in_place Driver (number_of word) n is).low)

read_moment : (word : List ℕ) (n : ℕ) → read_place Moment word ≡ Ok n → n < 2 ^ 46
read_moment word n is = omega (arith, (in_place Moment (number_of word) n is).high)

json_low : (text json : List ℕ) → json_form text ≡ Ok json → length json ≤ 4096
json_low text json is =
    let o = when_ok (nat_le (length text) 4096) text json BadWord is in
    subst (λ (x : List ℕ). length x ≤ 4096) o.1 (grind (arith, nat_tests, o.0))

name_ok : (word name : List ℕ) → name_form word ≡ Ok name → is_name name ≡ true
name_ok word name is = let o = when_ok (is_name word) word name BadWord is in subst (λ (x : List ℕ). is_name x ≡ true) o.1 o.0

rule_ok : (ws : List (List ℕ)) (json : List ℕ) (a : Asked) → rule_by ws json ≡ Ok a → IsFine a
rule_ok [] json a is = no_fine MissingWord a is
rule_ok (d ∷ []) json a is = no_fine MissingWord a is
rule_ok (d ∷ m ∷ []) json a is = no_fine MissingWord a is
rule_ok (driver ∷ moment ∷ first ∷ more) json a is =
    let d = then_read (read_place Driver driver) _ a is in
    let m = then_read (read_place Moment moment) _ a d.2 in
    let j = then_read (json_form json) _ a m.2 in
    subst IsFine (same_ok (record { driver = d.0; request = Rule m.0 j.0 }) a j.2) (record { pos = read_driver driver d.0 d.1; asked = (read_moment moment m.0 m.1, json_low json j.0 j.1) })

unrule_ok : (ws : List (List ℕ)) (a : Asked) → unrule_of ws ≡ Ok a → IsFine a
unrule_ok [] a is = no_fine MissingWord a is
unrule_ok (d ∷ []) a is = no_fine MissingWord a is
unrule_ok (d ∷ m ∷ []) a is = no_fine MissingWord a is
unrule_ok (d ∷ m ∷ g ∷ []) a is = no_fine MissingWord a is
unrule_ok (driver ∷ moment ∷ group ∷ id ∷ []) a is =
    let d = then_read (read_place Driver driver) _ a is in
    let m = then_read (read_place Moment moment) _ a d.2 in
    let g = then_read (name_form group) _ a m.2 in
    let i = then_read (name_form id) _ a g.2 in
    subst IsFine (same_ok (record { driver = d.0; request = Unrule m.0 g.0 i.0 }) a i.2)
    (record { pos = read_driver driver d.0 d.1; asked = (read_moment moment m.0 m.1, name_ok group g.0 g.1, name_ok id i.0 i.1) })
unrule_ok (d ∷ m ∷ g ∷ i ∷ more ∷ rest) a is = no_fine ExtraWord a is

check_ok : (ws : List (List ℕ)) (a : Asked) → check_of ws ≡ Ok a → IsFine a
check_ok [] a is = no_fine MissingWord a is
check_ok (d ∷ []) a is = no_fine MissingWord a is
check_ok (d ∷ m ∷ []) a is = no_fine MissingWord a is
check_ok (driver ∷ moment ∷ region ∷ []) a is =
    let d = then_read (read_place Driver driver) _ a is in
    let m = then_read (read_place Moment moment) _ a d.2 in
    let r = then_read (read_place Id region) _ a m.2 in
    subst IsFine (same_ok (record { driver = d.0; request = Check m.0 r.0 }) a r.2) (record { pos = read_driver driver d.0 d.1; asked = (read_moment moment m.0 m.1, read_id region r.0 r.1) })
check_ok (d ∷ m ∷ r ∷ more ∷ rest) a is = no_fine ExtraWord a is

patrol_ok : (ws : List (List ℕ)) (a : Asked) → patrol_of ws ≡ Ok a → IsFine a
patrol_ok [] a is = no_fine MissingWord a is
patrol_ok (d ∷ []) a is = no_fine MissingWord a is
patrol_ok (d ∷ m ∷ []) a is = no_fine MissingWord a is
patrol_ok (driver ∷ moment ∷ workers ∷ []) a is =
    let d = then_read (read_place Driver driver) _ a is in
    let m = then_read (read_place Moment moment) _ a d.2 in
    let w = then_read (read_place Workers workers) _ a m.2 in
    let range = in_place Workers (number_of workers) w.0 w.1 in
    subst IsFine (same_ok (record { driver = d.0; request = Patrol m.0 w.0 }) a w.2) (record { pos = read_driver driver d.0 d.1; asked = (read_moment moment m.0 m.1, omega (arith, range.low), range.high) })
patrol_ok (d ∷ m ∷ w ∷ more ∷ rest) a is = no_fine ExtraWord a is

schedule_ok : (ws : List (List ℕ)) (a : Asked) → schedule_of ws ≡ Ok a → IsFine a
schedule_ok [] a is = no_fine MissingWord a is
schedule_ok (d ∷ []) a is = no_fine MissingWord a is
schedule_ok (driver ∷ moment ∷ []) a is =
    let d = then_read (read_place Driver driver) _ a is in
    let m = then_read (read_place Moment moment) _ a d.2 in
    subst IsFine (same_ok (record { driver = d.0; request = Schedule m.0 }) a m.2) (record { pos = read_driver driver d.0 d.1; asked = read_moment moment m.0 m.1 })
schedule_ok (d ∷ m ∷ more ∷ rest) a is = no_fine ExtraWord a is

ctl_ok : (ws : List (List ℕ)) (command : List ℕ) (a : Asked) → ctl_by ws command ≡ Ok a → IsFine a
ctl_ok [] command a is = no_fine MissingWord a is
ctl_ok (d ∷ []) command a is = no_fine MissingWord a is
ctl_ok (d ∷ m ∷ []) command a is = no_fine MissingWord a is
ctl_ok (driver ∷ moment ∷ first ∷ more) command a is =
    let d = then_read (read_place Driver driver) _ a is in
    let m = then_read (read_place Moment moment) _ a d.2 in
    subst IsFine (same_ok (record { driver = d.0; request = Ctl m.0 command }) a m.2) (record { pos = read_driver driver d.0 d.1; asked = read_moment moment m.0 m.1 })

pub asked_ok : (verb : RequestVerb) (rest : List ℕ) (a : Asked) → asked_of verb rest ≡ Ok a → IsFine a
asked_ok ToHello rest a is = hello_ok (words rest) a is
asked_ok ToAlive rest a is = alive_ok (words rest) a is
asked_ok ToBeat rest a is = beat_ok (words rest) a is
asked_ok ToRule rest a is = rule_ok (words rest) (trimmed (behind_word (behind_word rest))) a is
asked_ok ToUnrule rest a is = unrule_ok (words rest) a is
asked_ok ToCheck rest a is = check_ok (words rest) a is
asked_ok ToPatrol rest a is = patrol_ok (words rest) a is
asked_ok ToSchedule rest a is = schedule_ok (words rest) a is
asked_ok ToCtl rest a is = ctl_ok (words rest) (trimmed (behind_word (behind_word rest))) a is
