use Rattle.std.proofs.Common.{List, map, ap, sym, ◌∙◌}
use Rattle.std.specs.Borrow.{Bor}
use Rattle.pd_types.specs.declared.store.Label.{Label}
use Rattle.rule_fit.specs.Isolation.{score_among}
use Rattle.rule_fit.specs.Suits.{labels_of}
use Rattle.rule_checker.specs.Ranks.{locations_by}
use Rattle.rule_checker.proofs.ScoreLemmas.{score_by_labels}
use Rattle.rule_checker.proofs.tie.score_beside.Goals as goal

pub returns : goal.returns
returns c =
    let on = c.args.on in
    let own = labels_of c.args.store on.stores.now in
    let others = ap (λ (all : List (Bor (List Label))). map (λ labels. labels.now) all) c.deref.ensures.value ∙ c.in_ok-others.ensures.value in
    c.score_by_rules.ensures
    ∙ ap (λ (labels : List Label). score_among labels (map (λ other. other.now) c.deref.result.now) (locations_by on.rules.now labels)) c.labels_of.ensures.value
    ∙ ap (λ (all : List (List Label)). score_among own all (locations_by on.rules.now own)) others
    ∙ sym (score_by_labels on.rules.now on.stores.now c.args.store c.args.others.now)
