use Rattle.std.specs.FinMap as map
use Rattle.store_limit.proofs.LimitLemmas.{begins-full, others-changed, others-known}
use Rattle.store_limit.proofs.laws.a_store_begins_with_fifteen_peers.Goals as goal
use Rattle.store_limit.specs.Level.{charged, rated}

pub returns-clause-begins : goal.returns-clause-begins
returns-clause-begins c = begins-full

pub returns-clause-charged : goal.returns-clause-charged
returns-clause-charged c limits store other now kind away = others-changed (map.get limits store) (λ level. charged level now) limits store other kind away

pub returns-clause-rated : goal.returns-clause-rated
returns-clause-rated c limits store other rate now kind away = others-changed (map.get limits store) (λ level. rated level rate now) limits store other kind away

pub returns-clause-others : goal.returns-clause-others
returns-clause-others c limits store other now away = others-known (map.get limits store) limits store other now away
