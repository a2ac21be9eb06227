use Rattle.meta_store.proofs.Kept.{all_known}
use Rattle.meta_store.proofs.known.who_hears_all_knows_each_revision.Goals as goal

pub returns : goal.returns
returns c = record { all = all_known }
