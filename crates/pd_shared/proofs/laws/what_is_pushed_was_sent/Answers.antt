use Rattle.std.proofs.Common.{refl}
use Rattle.pd_shared.proofs.Pushing.{pushed_first, pushed_sent}
use Rattle.pd_shared.proofs.laws.what_is_pushed_was_sent.Goals as goal

pub returns-clause-sent : goal.returns-clause-sent
returns-clause-sent c = λ sends pushed. pushed_sent 0 sends pushed

pub returns-clause-first : goal.returns-clause-first
returns-clause-first c = λ sends pushed. pushed_first 0 64 sends pushed refl
