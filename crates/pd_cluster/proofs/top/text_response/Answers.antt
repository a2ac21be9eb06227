use Rattle.pd_script.specs.declared.script.Mode.TheVariants.{Replay as ByLine, Run as OnThreads}
use Rattle.pd_cluster.proofs.Headline.{short_heeded}
use Rattle.pd_cluster.proofs.Serving.{on_both}
use Rattle.pd_cluster.proofs.top.text_response.Goals as goal

pub returns-in-Replay-clause-heeded : goal.returns-in-Replay-clause-heeded
returns-in-Replay-clause-heeded g c = rw (c.in-Replay.is) (on_both c.script_response.result _ _ (short_heeded _ ByLine c.args.text.now c.requires) c.script_response.ensures.heeded)

pub returns-in-Run-clause-heeded : goal.returns-in-Run-clause-heeded
returns-in-Run-clause-heeded g c = rw (c.in-Run.is) (on_both c.threads_response.result _ _ (short_heeded _ OnThreads c.args.text.now c.requires) c.threads_response.ensures.heeded)
