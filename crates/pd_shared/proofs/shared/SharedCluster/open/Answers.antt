use Rattle.std.proofs.Common.{map, ap, ◌∙◌, sym, subst}
use Rattle.std.specs.Prelude.{All}
use Rattle.pd_shared.specs.Shares.{IsOpen, actor_of, new_share, share_by, shared_of}
use Rattle.pd_shared.proofs.Sharing.{are_open, new_shares}
use Rattle.pd_shared.proofs.shared.SharedCluster.open.Goals as goal

pub shares_of-requires : goal.shares_of-requires
shares_of-requires g c = record {
  tickets = subst (All (IsOpen c.args.driver)) (sym c.in_ok-turn.ensures.ok.1) (are_open c.in_ok-turn.turn c.args.driver c.in_ok-numbers.numbers);
}

pub returns-clause-shares : goal.returns-clause-shares
returns-clause-shares g c =
    let turn = c.in_ok-turn.turn in
    c.in_ok-shares.ensures.value ∙ ap (map (share_by c.args.driver)) c.in_ok-turn.ensures.ok.1 ∙ new_shares turn c.args.driver c.in_ok-numbers.numbers
    ∙ ap (λ l. map (new_share (shared_of turn c.args.driver)) (map (actor_of c.args.driver) l)) (sym c.in_ok-turn.ensures.ok.0)
