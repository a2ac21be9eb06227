use Rattle.std.proofs.Common.{◌≡◌, ◌∙◌, ℕ, Bool, List, Vec, length, ap, map, subst, IfOk}
use Rattle.std.specs.Global.{Global}
use Rattle.pd_types.specs.declared.region.Peer.{Peer}
use Rattle.rule_fit.specs.Assignment.{IsAssignment, IsGreatest}
use Rattle.rule_fit.specs.Search.{IsClosed}
use Rattle.rule_fit.specs.Table.{suits}
use Rattle.rule_fit.specs.Suits.{suits_in, counts_of, peer_suits}
use Rattle.rule_fit.proofs.Regions.{table_suits, table_length, carry}
use Rattle.rule_fit.proofs.table.matching.Goals as goal

-- a fact of the call, said of the region
of_region : (c : goal.After-drop-table-2) (P : (ℕ → ℕ → Bool) → ℕ → List ℕ → Type 0) → P (suits c.deref.result.now) (length c.deref.result.now) c.deref-2.result.now → P (suits_in c.args.beat.now c.args.rules.now c.args.stores.now c.args.now) (length c.args.beat.now.region.peers) (counts_of c.args.rules.now)
of_region c P =
    let rows = subst (λ (peers : List Peer). map (λ row. row.items) c.in_ok-table.table.items ≡ map (λ peer. map (peer_suits c.args.beat.now.leader c.args.stores.now c.args.now peer) c.args.rules.now) peers) c.as_slice-peers.ensures.value c.in_ok-table.ensures in
    carry P _ _ _ _ _ _
    (ap (λ (t : List (Vec Bool Global)). suits t) c.deref.ensures.value ∙ table_suits c.args.beat.now c.args.rules.now c.args.stores.now c.args.now c.in_ok-table.table.items rows)
    (ap (λ (t : List (Vec Bool Global)). length t) c.deref.ensures.value ∙ table_length c.args.beat.now.leader c.args.stores.now c.args.now c.args.rules.now c.in_ok-table.table.items c.args.beat.now.region.peers rows)
    (c.deref-2.ensures.value ∙ c.in_ok-counts.ensures)

pub returns-clause-assigned : goal.returns-clause-assigned
returns-clause-assigned c = of_region c (λ s n xs. IfOk c.greatest.result (λ g. IsAssignment s n xs g.given.items)) c.greatest.ensures.assigned

pub returns-clause-greatest : goal.returns-clause-greatest
returns-clause-greatest c = of_region c (λ s n xs. IfOk c.greatest.result (λ g. IsGreatest s n xs g.given.items)) c.greatest.ensures.greatest

pub returns-clause-closed : goal.returns-clause-closed
returns-clause-closed c = of_region c (λ s n xs. IfOk c.greatest.result (λ g. IsClosed s n xs g.given.items g.reached.items)) c.greatest.ensures.closed
