use Rattle.std.proofs.Common.{refl}
use Rattle.meta_store.proofs.Seating.{all_said, other_heard, own_heard}
use Rattle.meta_store.proofs.laws.a_driver_hears_of_its_own_calls.Goals as goal

pub returns : goal.returns
returns c = record { all = all_said; nothing = λ driver. refl; own = own_heard; other = other_heard }
