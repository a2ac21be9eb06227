use Rattle.std.proofs.Common.{◌∷◌, ◌++◌, [], ◌+◌, ap, ◌∙◌, sym}
use Rattle.tso_client.proofs.Slipping.{one_more}
use Rattle.tso_client.proofs.post.numbers.Goals as goal

pub loop-index-preserved : goal.loop-index-preserved
loop-index-preserved c = c.in_ok-push.ensures.ok ∙ ap (λ l. l ++ (c.loop-index.index + 1) ∷ []) c.loop-index.invariant ∙ sym (one_more c.loop-index.index)
