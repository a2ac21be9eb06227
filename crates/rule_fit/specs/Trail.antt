-- The steps of a search, each led to by an earlier one.
use Rattle.std.specs.Prelude.{ℕ, Bool, true, ◌≡◌, ◌≢◌, ◌<◌, ◌≤◌, List, length, get_or, Option, Some, None}
use Rattle.rule_fit.specs.declared.search.Reached.{Reached}
use Rattle.rule_fit.specs.declared.search.Link.{Link}

-- the peer of the step at a place, and how the search came there
abbrev pub peer_at : List Reached → ℕ → ℕ
peer_at queue i = (get_or queue i (record { peer = 0; from = None })).peer

-- the step before, none where its peer has no rule
abbrev pub from_at : List Reached → ℕ → Option Link
from_at queue i = (get_or queue i (record { peer = 0; from = None })).from

-- each of the first n steps has a peer of its own, that has no rule or has one that the peer of an earlier step suits
pub record IsTrail (suits : ℕ → ℕ → Bool) (peers : ℕ) (given : List (Option ℕ)) (queue : List Reached) (n : ℕ) : Type 0 where
  pub short : n ≤ length queue
  pub inside : (i : ℕ) → i < n → peer_at queue i < peers
  pub start : (i : ℕ) → i < n → from_at queue i ≡ None → get_or given (peer_at queue i) None ≡ None
  pub back : (i : ℕ) (link : Link) → i < n → from_at queue i ≡ Some link → link.place < i
  pub leaves : (i : ℕ) (link : Link) → i < n → from_at queue i ≡ Some link → get_or given (peer_at queue i) None ≡ Some link.rule
  pub suited : (i : ℕ) (link : Link) → i < n → from_at queue i ≡ Some link → suits (peer_at queue link.place) link.rule ≡ true
  pub apart : (i j : ℕ) → i < j → j < n → peer_at queue i ≢ peer_at queue j
