-- The words that aren't numbers: addresses, labels, keys, and lists of peers (own choice).
use Rattle.std.specs.Prelude.{ℕ, List, [], ◌∷◌, ◌++◌, codes, take, drop, Bool, false, nat_eq, ◌||◌, Option, Some, None, Result, Ok, Err, if◌then◌else◌}
use Rattle.std.specs.Str.{bytes_eq}
use Rattle.pd_types.specs.declared.region.DownPeer.{DownPeer}
use Rattle.pd_types.specs.declared.region.Peer.{Peer}
use Rattle.pd_types.specs.declared.region.Role.{Role}
use Rattle.pd_types.specs.declared.region.Role.TheVariants.{Voter, Learner}
use Rattle.pd_types.specs.declared.store.Label.{Label}
use Rattle.pd_lines.specs.Keys.{key_of}
use Rattle.pd_lines.specs.Labels.{labels_of}
use Rattle.pd_lines.specs.Plain.{address_of}
use Rattle.pd_lines.specs.Words.{and_then}
use Rattle.pd_script.specs.Places.{read_place}
use Rattle.pd_script.specs.declared.place.Place.{Place}
use Rattle.pd_script.specs.declared.place.Place.TheVariants.{Id, Seconds}
use Rattle.pd_script.specs.declared.refusal.Reason.{Reason}
use Rattle.pd_script.specs.declared.refusal.Reason.TheVariants.{BadWord}

-- what a word spells, where it is in the form of its place
abbrev pub spelled_or : {A : Type 0} → Option A → Result A Reason
spelled_or (Some value) = Ok value
spelled_or None = Err BadWord

-- an address: 1 to 64 plain characters
abbrev pub address_form : List ℕ → Result (List ℕ) Reason
address_form word = spelled_or (address_of word)

-- one to four labels joined by commas, no key twice
abbrev pub labels_form : List ℕ → Result (List Label) Reason
labels_form word = spelled_or (labels_of word)

-- a start or an end: `-` for the empty key, or hexadecimal digits
abbrev pub key_form : List ℕ → Result (List ℕ) Reason
key_form word = spelled_or (key_of word)

-- what stands between two separators, and the separator behind it, `:` or `,`, none at the end
pub record Item : Type 0 where
  pub text : List ℕ
  pub behind : Option ℕ

-- `:` or `,`
abbrev pub is_separator : ℕ → Bool
is_separator b = nat_eq b 58 || nat_eq b 44

-- the items of a word; this one so far
abbrev pub items_from : List ℕ → List ℕ → List Item
items_from item [] = record { text = item; behind = None } ∷ []
items_from item (b ∷ bs) = if is_separator b then record { text = item; behind = Some b } ∷ items_from [] bs else items_from (item ++ b ∷ []) bs

-- the items of a word
abbrev pub items_of : List ℕ → List Item
items_of word = items_from [] word

-- the separator is `:`
abbrev pub is_colon : Option ℕ → Bool
is_colon None = false
is_colon (Some b) = nat_eq b 58

-- a number with `:` behind it
abbrev pub before_colon : Place → Item → Result ℕ Reason
before_colon place item = and_then (read_place place item.text) (λ n. if is_colon item.behind then Ok n else Err BadWord)

-- the items behind one: none at the end of the word
abbrev pub items_behind : Option ℕ → List ℕ → List Item
items_behind None rest = []
items_behind (Some b) rest = items_of rest

-- a list goes on behind `,` or ends; behind its elements there is no `:`
abbrev pub unless_colon : {A : Type 0} → Option ℕ → Result (List A) Reason → Result (List A) Reason
unless_colon behind rest = if is_colon behind then Err BadWord else rest

-- an element in front of the rest
abbrev pub in_front : {A : Type 0} → A → Result (List A) Reason → Result (List A) Reason
in_front a (Ok rest) = Ok (a ∷ rest)
in_front a (Err reason) = Err reason

-- `v` or `l`
abbrev pub role_of : List ℕ → Result Role Reason
role_of word = if bytes_eq word (codes "v") then Ok Voter else if bytes_eq word (codes "l") then Ok Learner else Err BadWord

-- `id:store:role`
abbrev pub peer_of : Item → Item → Item → Result Peer Reason
peer_of id store role = and_then (before_colon Id id) (λ i. and_then (before_colon Id store) (λ s. and_then (role_of role.text) (λ r. Ok (record { id = i; store = s; role = r }))))

-- peers joined by commas, from left to right; a peer that ends early has no `:` or no role
abbrev pub peers_from : List Item → Result (List Peer) Reason
peers_from [] = Ok []
peers_from (id ∷ []) = and_then (before_colon Id id) (λ i. Err BadWord)
peers_from (id ∷ store ∷ []) = and_then (before_colon Id id) (λ i. and_then (before_colon Id store) (λ s. Err BadWord))
peers_from (id ∷ store ∷ role ∷ items) = and_then (peer_of id store role) (λ peer. in_front peer (unless_colon role.behind (peers_from items)))

-- the peers of a region; `-` is the empty list
abbrev pub peers_of : List ℕ → Result (List Peer) Reason
peers_of word = if bytes_eq word (codes "-") then Ok [] else peers_from (items_of word)

-- `peer:seconds`
abbrev pub down_of : Item → Item → Result DownPeer Reason
down_of peer seconds = and_then (before_colon Id peer) (λ p. and_then (read_place Seconds seconds.text) (λ s. Ok (record { peer = p; seconds = s })))

-- down peers joined by commas
abbrev pub downs_from : List Item → Result (List DownPeer) Reason
downs_from [] = Ok []
downs_from (peer ∷ []) = and_then (before_colon Id peer) (λ p. Err BadWord)
downs_from (peer ∷ seconds ∷ items) = and_then (down_of peer seconds) (λ down. in_front down (unless_colon seconds.behind (downs_from items)))

-- peer ids joined by commas
abbrev pub ids_from : List Item → Result (List ℕ) Reason
ids_from [] = Ok []
ids_from (id ∷ items) = and_then (read_place Id id.text) (λ n. in_front n (unless_colon id.behind (ids_from items)))

-- `down=peer:seconds,..`
abbrev pub downs_of : List ℕ → Result (List DownPeer) Reason
downs_of word = if bytes_eq (take 5 word) (codes "down=") then downs_from (items_of (drop 5 word)) else Err BadWord

-- `pending=peer,..`
abbrev pub pending_of : List ℕ → Result (List ℕ) Reason
pending_of word = if bytes_eq (take 8 word) (codes "pending=") then ids_from (items_of (drop 8 word)) else Err BadWord
