use Rattle.std.proofs.Common.{refl}
use Rattle.pd_cluster.proofs.Benching.{goes_same}
use Rattle.pd_cluster.proofs.replay.serve_besides.Goals as goal

pub returns-in-None-clause-after : goal.returns-in-None-clause-after
returns-in-None-clause-after g c = λ ends goes. rw (c.in-None.is) refl

pub returns-in-None-clause-benches : goal.returns-in-None-clause-benches
returns-in-None-clause-benches g c = goes_same _

pub returns-in_ok-serve_with-in-Some-clause-after : goal.returns-in_ok-serve_with-in-Some-clause-after
returns-in_ok-serve_with-in-Some-clause-after g c = λ ends goes. rw (c.in-Some.is) (c.in_ok-serve_with-in-Some.ensures.after ends goes)
