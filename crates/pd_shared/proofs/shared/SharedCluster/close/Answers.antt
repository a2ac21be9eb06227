use Rattle.std.proofs.Common.{◌≡◌, length, map, ap, sym, subst, arith}
use Rattle.std.specs.Prelude.{All, Contains}
use Rattle.std.proofs.lemmas.List.{length-map}
use Rattle.pd_turn.specs.Turns.{IsFree, IsMadeBy, IsToldBy}
use Rattle.pd_state.specs.Clusters.{ClusterValue}
use Rattle.pd_shared.specs.Kept.{tale_of}
use Rattle.pd_state.specs.declared.entry.Entry.{Entry}
use Rattle.pd_shared.specs.Shares.{IsInJournal, SharedValue, actors_of, ticket_by}
use Rattle.pd_shared.proofs.Sharing.{are_free, if_ok, in_journal, of_callers, some_share}
use Rattle.pd_shared.proofs.shared.SharedCluster.close.Goals as goal

pub end-locked-requires-clause-some : goal.end-locked-requires-clause-some
end-locked-requires-clause-some g c =
    omega (
      arith,
      ap length c.in_ok-tickets.ensures.value,
      length-map c.args.shares.items ticket_by,
      some_share c.args.self c.args.shares.items c.requires.shares (omega (arith, c.self.invariant, ap (λ s. length s.turn.numbers) c.self.view_is)),
    )

pub end-locked-requires-clause-turn : goal.end-locked-requires-clause-turn
end-locked-requires-clause-turn g c =
    subst (All (IsFree c.self.inside.turn)) (sym c.in_ok-tickets.ensures.value)
    (subst (λ t. All (IsFree t) (map ticket_by c.args.shares.items)) (sym (ap (λ s. s.turn) c.self.view_is)) (are_free c.args.self c.args.shares.items c.requires.shares.of))

pub returns-clause-lists : goal.returns-clause-lists
returns-clause-lists g c =
    let entries = c.end-locked.result.cluster.entries in
    let shares = c.args.shares.items in
    let told = subst (All (IsToldBy (tale_of entries))) c.in_ok-tickets.ensures.value c.end-locked.ensures.lists in
    let made = subst (λ (s : SharedValue). IsMadeBy s.turn.numbers (tale_of entries)) c.self.view_is c.end-locked.ensures.made in
    if_ok c.close.result (λ closed. closed.cluster ≡ c.end-locked.result.cluster) (λ closed. All (IsInJournal closed.cluster.entries) shares)
    (λ closed is. subst (λ (v : ClusterValue). All (IsInJournal v.entries) shares) (sym is) (in_journal c.args.self entries shares c.requires.shares c.in_ok-tickets.ensures.own told made))
    c.close.ensures.cluster

pub returns-clause-callers : goal.returns-clause-callers
returns-clause-callers g c =
    let entries = c.end-locked.result.cluster.entries in
    let shares = c.args.shares.items in
    let told = subst (All (IsToldBy (tale_of entries))) c.in_ok-tickets.ensures.value c.end-locked.ensures.lists in
    let made = subst (λ (s : SharedValue). IsMadeBy s.turn.numbers (tale_of entries)) c.self.view_is c.end-locked.ensures.made in
    if_ok c.close.result (λ closed. closed.cluster ≡ c.end-locked.result.cluster) (λ closed. All (λ (e : Entry). Contains (actors_of c.args.self) e.actor) closed.cluster.entries)
    (λ closed is. subst (λ (v : ClusterValue). All (λ (e : Entry). Contains (actors_of c.args.self) e.actor) v.entries) (sym is) (of_callers c.args.self entries shares c.requires.shares c.in_ok-tickets.ensures.own told made))
    c.close.ensures.cluster
