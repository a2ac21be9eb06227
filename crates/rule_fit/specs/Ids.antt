-- Peers by their ids.
use Rattle.std.specs.Prelude.{◌≡◌, ◌≢◌, ℕ, Bool, true, false, not, ◌&&◌, List, [], ◌∷◌, Option, Some, None, slice_get}
use Rattle.pd_types.specs.BeatCheck.{has_id}
use Rattle.pd_types.specs.declared.region.Peer.{Peer}
use Rattle.rule_fit.specs.Chosen.{listed}

-- there is a peer, and its id is in the list
abbrev pub id_listed : List ℕ → Option Peer → Bool
id_listed ids None = false
id_listed ids (Some peer) = listed ids peer.id

-- the id of the peer at p is in the list
abbrev pub chosen_by : List ℕ → List Peer → ℕ → Bool
chosen_by ids peers p = id_listed ids (slice_get peers p)

-- no two peers have one id
abbrev pub AreApart : List Peer → Type 0
AreApart peers = (i j : ℕ) (a b : Peer) → i ≢ j → slice_get peers i ≡ Some a → slice_get peers j ≡ Some b → a.id ≢ b.id

-- the test of `AreApart`: no peer has the id of one behind it
abbrev pub apart_test : List Peer → Bool
apart_test [] = true
apart_test (peer ∷ peers) = not (has_id peers peer.id) && apart_test peers
