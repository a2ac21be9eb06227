use Rattle.pd_cluster.proofs.Serving.{on_value, one_served}
use Rattle.pd_cluster.proofs.benched.serve_over.Goals as goal

pub returns-clause-ok : goal.returns-clause-ok
returns-clause-ok g c = on_value c.serve.result _ _ (λ reply s. one_served c.args.clusters.now.items c.args.driver c.index_mut.result.now c.serve.new.self c.args.meta.now c.serve.new.door _ _ c.asker-actor.result c.args.number c.args.request reply
    c.index_mut.ensures.value c.asker-actor.ensures.value s) c.serve.ensures.ok
