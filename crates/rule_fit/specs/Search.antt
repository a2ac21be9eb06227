-- A search from the peers without a rule: its steps, and the marks of the peers that it reached.
use Rattle.std.specs.Prelude.{ℕ, Bool, true, false, ◌≡◌, ◌<◌, ◌≤◌, ◌+◌, List, length, get_or, Option, Some, None, count_by}
use Rattle.rule_fit.specs.declared.search.Reached.{Reached}
use Rattle.rule_fit.specs.declared.search.Found.{Found}
use Rattle.rule_fit.specs.declared.search.Found.TheVariants.{Path, Closed}
use Rattle.rule_fit.specs.Assignment.{held}
use Rattle.rule_fit.specs.Trail.{IsTrail, peer_at}

-- the peer is marked
abbrev pub marked : List Bool → ℕ → Bool
marked reached p = get_or reached p false

-- the steps are a trail of exactly the marked peers, and those without a rule are marked, of the first n peers
pub record IsSearch (suits : ℕ → ℕ → Bool) (given : List (Option ℕ)) (queue : List Reached) (reached : List Bool) (n : ℕ) : Type 0 where
  pub trail : IsTrail suits (length given) given queue (length queue)
  pub size : length reached ≡ n
  pub many : length queue ≡ count_by (λ b. b) reached
  pub starts : (p : ℕ) → p < n → get_or given p None ≡ None → marked reached p ≡ true
  pub kept : (i : ℕ) → i < length queue → marked reached (peer_at queue i) ≡ true
  pub met : (p : ℕ) → marked reached p ≡ true → (i : ℕ) × (i < length queue) × (peer_at queue i ≡ p)

-- steps and marks are only added
pub record Extends (queue : List Reached) (reached : List Bool) (after : List Reached) (marks : List Bool) : Type 0 where
  pub longer : length queue ≤ length after
  pub steps : (i : ℕ) → i < length queue → peer_at after i ≡ peer_at queue i
  pub still : (p : ℕ) → marked reached p ≡ true → marked marks p ≡ true

-- no path leaves the marked peers: those without a rule are marked, each rule that a marked peer suits is full, and its peers are marked
pub record IsClosed (suits : ℕ → ℕ → Bool) (peers : ℕ) (counts : List ℕ) (given : List (Option ℕ)) (reached : List Bool) : Type 0 where
  pub size : length reached ≡ peers
  pub starts : (p : ℕ) → p < peers → get_or given p None ≡ None → marked reached p ≡ true
  pub full : (p r : ℕ) → r < length counts → marked reached p ≡ true → suits p r ≡ true → get_or counts r 0 ≤ held given r
  pub holders : (p q r : ℕ) → marked reached p ≡ true → suits p r ≡ true → get_or given q None ≡ Some r → marked reached q ≡ true

-- the trail ends at a peer that suits a rule with room
pub record IsPath (suits : ℕ → ℕ → Bool) (counts : List ℕ) (given : List (Option ℕ)) (queue : List Reached) (last rule : ℕ) : Type 0 where
  pub trail : IsTrail suits (length given) given queue (last + 1)
  pub known : rule < length counts
  pub suited : suits (peer_at queue last) rule ≡ true
  pub room : held given rule < get_or counts rule 0

-- what a search found is a path, or a closed set of peers
abbrev pub Finds : (ℕ → ℕ → Bool) → List ℕ → List (Option ℕ) → Found → Type 0
Finds suits counts given (Path queue last rule) = IsPath suits counts given queue.items last rule
Finds suits counts given (Closed reached) = IsClosed suits (length given) counts given reached.items
