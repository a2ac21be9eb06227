-- What shows that a region doesn't fit its rules, and how far it is from a fit (own choice).
use Rattle.std.specs.Prelude.{ℕ, Bool, ◌≡◌, ◌≢◌, ◌<◌, ◌+◌, ◌-◌, List, length, sum, Option, IsTrue}
use Rattle.std.specs.List.{list_all}
use Rattle.pd_types.specs.BeatCheck.{has_id}
use Rattle.pd_types.specs.declared.region.Peer.{Peer}
use Rattle.rule_fit.specs.declared.answer.Certificate.{Certificate}
use Rattle.rule_fit.specs.declared.answer.Certificate.TheVariants.{Totals, Peers}
use Rattle.rule_fit.specs.Assignment.{IsGreatest, placed}
use Rattle.rule_fit.specs.Chosen.{wanted, capacity, size_of}
use Rattle.rule_fit.specs.Ids.{chosen_by}

-- the ids are of peers, whose suitable rules have a smaller sum of counts than those peers are many
pub record Lacks (suits : ℕ → ℕ → Bool) (peers : List Peer) (counts : List ℕ) (ids : List ℕ) : Type 0 where
  pub inside : IsTrue (list_all (has_id peers) ids)
  pub lacks : capacity counts (wanted suits (length peers) (chosen_by ids peers)) < size_of (length peers) (chosen_by ids peers)

-- these are the sum of the counts and the number of peers, and they differ
pub record Differ (peers : ℕ) (counts : List ℕ) (total many : ℕ) : Type 0 where
  pub of_counts : total ≡ sum counts
  pub of_peers : many ≡ peers
  pub unequal : total ≢ many

-- the certificate holds of the peers and of the counts of the rules
abbrev pub Certifies : (ℕ → ℕ → Bool) → List Peer → List ℕ → Certificate → Type 0
Certifies suits peers counts (Totals total many) = Differ (length peers) counts total many
Certifies suits peers counts (Peers ids) = Lacks suits peers counts ids

-- what is missing of the counts and of the peers in an assignment that gives the most peers a rule
pub record IsMisfitNumber (suits : ℕ → ℕ → Bool) (peers : ℕ) (counts : List ℕ) (number : ℕ) : Type 0 where
  pub given : List (Option ℕ)
  pub greatest : IsGreatest suits peers counts given
  pub missing : number ≡ (sum counts - placed given) + (peers - placed given)
