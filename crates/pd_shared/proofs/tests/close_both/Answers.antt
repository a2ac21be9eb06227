use Rattle.std.proofs.Common.{◌∷◌, ◌++◌, [], List, ap, ◌∙◌, sym, subst}
use Rattle.pd_shared.specs.Shares.{AreSharesOf, ShareValue}
use Rattle.pd_shared.proofs.Two.{two_shares}
use Rattle.pd_shared.proofs.tests.close_both.Goals as goal

pub close-requires : goal.close-requires
close-requires g c =
    let both = c.in_ok-push-2.ensures.items ∙ ap (λ (l : List ShareValue). l ++ c.args.driver ∷ []) (c.in_ok-push.ensures.items ∙ ap (λ (l : List ShareValue). l ++ c.args.store ∷ []) c.new-shares.ensures.items) in
    record { shares = subst (AreSharesOf c.args.cluster) (sym both) (two_shares c.args.cluster c.args.driver c.args.store c.requires.numbers c.requires.driver c.requires.store) }
