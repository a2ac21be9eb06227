use Rattle.pd_cluster.proofs.Reaching.{answer_more}
use Rattle.pd_cluster.proofs.replay.append.Goals as goal

pub returns-clause-text : goal.returns-clause-text
returns-clause-text g c = λ ends goes. answer_more _ _ c.args.line _ _ c.in_ok-write_answer.ensures.text (c.in_ok-said.ensures.said ends goes)
