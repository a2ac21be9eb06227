use Rattle.std.proofs.Common.{refl}
use Rattle.meta_store.proofs.Firsts.{lead_full, lead_free, write_full, write_free}
use Rattle.meta_store.proofs.laws.the_limits.Goals as goal

pub returns : goal.returns
returns c = record { keys = (refl, refl); known = λ cell keys. refl; leads = λ fence counter term from. (lead_full fence counter term from, lead_free fence counter term from); writes = λ fence counter found term from. (write_full fence counter found term from, write_free fence counter found term from) }
