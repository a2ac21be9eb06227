use Rattle.meta_store.proofs.Prefixes.{begins, only}
use Rattle.meta_store.proofs.laws.a_prefix_stands_first.Goals as goal

pub returns : goal.returns
returns c = record { begins = begins; only = only }
